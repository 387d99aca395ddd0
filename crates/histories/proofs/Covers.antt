-- Sheets that stand in for sheets: a counterparty whose record keeps the stand-in of each sheet gets the same replies on both.
use Rattle.std.proofs.Common.{◌≡◌, ℕ, ◌<◌, true, List, [], ◌∷◌, map, Some, None, Option, refl, ap, ◌∙◌}
use Rattle.std.specs.Prelude.{option_map}
use Rattle.std.proofs.lemmas.List.{map_push}
use Rattle.sheets.specs.declared.SheetSet.{SheetSet}
use Rattle.sheets.specs.Sets.{mem}
use Rattle.censors.specs.declared.question.Question.{Question}
use Rattle.censors.specs.Laws.{Few, Laws}
use Rattle.censors.specs.Questions.{value_in}
use Rattle.censors.specs.Replay.{record_after, final, Settles}
use Rattle.censors.proofs.Replays.{hides}
use Rattle.histories.specs.Calls.{Text, House, Call, Outcome, at}
use Rattle.histories.proofs.Lookups.{On}
use Rattle.histories.proofs.Replaying.{entries, final-more}
use Rattle.histories.proofs.Bare.{Bare, bare_entered, as_question, bare_next, bare_run, log_on, left_on, pending_on, fill}
use Rattle.histories.proofs.Moves.{Moved, stays, comes, asks, enters, moved}
use Rattle.histories.proofs.Notes.{news}

-- w s, which stands in for s, is left in the record where s is the true sheet
pub record Covers (h : House) (w : ℕ → ℕ) (b : Bare) : Type 0 where
  pub few : Few b.secrets
  pub good : h.good b.start b.secrets ≡ true
  pub inside : (s : ℕ) → mem (left_on h s b) (w s) ≡ true

left_entered : (h : House) (s : ℕ) (b : Bare) (t : Text) → left_on h s (bare_entered t b) ≡ record_after h.decided h.after b.secrets (left_on h s b) (as_question h t) s
left_entered h s b t =
    ap (λ (qs : List Question). final h.decided h.after b.secrets b.start qs s) (map_push (as_question h) b.past t)
    ∙ final-more h.decided h.after b.secrets b.start (map (as_question h) b.past) (as_question h t) s

module _ (h : House) (laws : Laws h.good h.decided h.after) (w : ℕ → ℕ) (small : (s : ℕ) → w s < 256) where
  settles : (s : ℕ) {b : Bare} → Covers h w b → Settles h.good h.decided h.after b.secrets b.start (map (as_question h) b.past) s
  settles s {b} k = (hides laws).settles b.start b.secrets k.few k.good (map (as_question h) b.past) s

  left-alike : (s : ℕ) {b : Bare} → Covers h w b → left_on h (w s) b ≡ left_on h s b
  left-alike s k = (settles s k).record_alike (w s) (small s) (k.inside s)

  log-alike : (s : ℕ) {b : Bare} → Covers h w b → log_on h (w s) b ≡ log_on h s b
  log-alike s {b} k = ap (entries (map (as_question h) b.past)) ((settles s k).replies_alike (w s) (small s) (k.inside s))

  pub news-alike : (c s t : ℕ) (b : Option Bare) → On (Covers h w) b → news c (option_map (fill h (w s)) b) (option_map (fill h (w t)) b) ≡ news c (option_map (fill h s) b) (option_map (fill h t) b)
  news-alike c s t None k = refl
  news-alike c s t (Some b) k = rw (log-alike s k, log-alike t k)

  module _ (b : Bare) (t : Text) (k : Covers h w (bare_entered t b)) where
    after-entry : (s : ℕ) → mem (record_after h.decided h.after b.secrets (left_on h s b) (as_question h t) s) (w s) ≡ true
    after-entry s = rw (left_entered h s b t) at (k.inside s)

    -- what holds with one more question held before it
    covers-before : Covers h w b
    covers-before = record {
      few = k.few;
      good = k.good;
      inside = λ s. laws.part (left_on h s b) b.secrets k.few (as_question h t) (value_in (as_question h t) s) (w s) (small s) (after-entry s);
    }

    pub reply-alike : (s : ℕ) → (pending_on h (w s) b t).decision.reply ≡ (pending_on h s b t).decision.reply
    reply-alike s =
        ap (λ (r : SheetSet). (h.decided r b.secrets (as_question h t) (value_in (as_question h t) (w s))).reply) (left-alike s covers-before)
        ∙ laws.same (left_on h s b) b.secrets k.few (as_question h t) (value_in (as_question h t) s) (w s) (small s) (after-entry s)

  pub move-covers : {c : ℕ} {x : Call} {o : Outcome} {b b' : Option Bare} → Moved h c x o b b' → On (Covers h w) b' → On (Covers h w) b
  move-covers (stays m) k = k
  move-covers (comes new brings m) k = tt
  move-covers (asks none room reads m) k = record { few = k.few; good = k.good; inside = k.inside }
  move-covers (enters {b} {t} out m) k = covers-before b t k

  pub run-covers : (bs : List Bare) (xs : List Call) (c : ℕ) → On (Covers h w) (at (bare_run h bs xs) c) → On (Covers h w) (at bs c)
  run-covers bs [] c k = k
  run-covers bs (x ∷ xs) c k = move-covers (moved h bs c 0 x) (run-covers (bare_next h bs x) xs c k)
