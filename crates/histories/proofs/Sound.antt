-- What holds in every history: of each counterparty, and of the texts that it entered.
use Rattle.std.proofs.Common.{◌≡◌, ℕ, ◌≤◌, true, List, [], ◌∷◌, ◌++◌, length, Some, None, Option, sym, ap, ◌∙◌, subst, append_assoc, append-nil, arith}
use Rattle.std.proofs.lemmas.Option.{slice_get-map}
use Rattle.std.proofs.lemmas.List.{length_push}
use Rattle.censors.specs.Laws.{Few, PartOf}
use Rattle.histories.specs.Calls.{Text, House, Party, State, Call, Outcome, at, lawful_sheets, outcome, next, run}
use Rattle.histories.specs.Promise.{Each, list_of, accepted, entered_now, entered_texts}
use Rattle.histories.proofs.Lookups.{On, option_map_found, each_append, each_front}
use Rattle.histories.proofs.Bare.{Bare, Reads, bare_next, bare_run, sheet_run, fill, full, sheet_next}
use Rattle.histories.proofs.Filled.{run-full, next-full}
use Rattle.histories.proofs.Moves.{Moved, stays, comes, asks, enters, moved}

-- ---- each counterparty

-- the texts that were judged
abbrev texts : Bare → List Text
texts b = b.past ++ list_of b.out

module _ (h : House) where
  pub record Sound (b : Bare) : Type 0 where
    pub few : Few b.secrets
    pub good : h.good b.start b.secrets ≡ true
    pub lawful : PartOf b.start (lawful_sheets h)
    pub reads : Each (Reads h) (texts b)
    pub room : length (texts b) ≤ 64

  move-sound : {c : ℕ} {x : Call} {o : Outcome} {b b' : Option Bare} → Moved h c x o b b' → On Sound b → On Sound b'
  move-sound (stays k) a = a
  move-sound (comes new brings k) a = record { few = new.few; good = new.good; lawful = new.lawful; reads = tt; room = omega arith }
  move-sound (asks {b} {t} none room reads k) a = record {
    few = a.few;
    good = a.good;
    lawful = a.lawful;
    reads = each_append (Reads h) b.past (t ∷ []) (each_front (Reads h) b.past (list_of b.out) a.reads) (reads, tt);
    room = omega (arith, length_push b.past t);
  }
  move-sound (enters {b} {t} out k) a =
      let same : texts b ≡ (b.past ++ t ∷ []) ++ [] = ap (λ (o : Option Text). b.past ++ list_of o) out ∙ sym (append-nil (b.past ++ t ∷ [])) in
      record {
        few = a.few;
        good = a.good;
        lawful = a.lawful;
        reads = subst (Each (Reads h)) same a.reads;
        room = subst (λ (l : List Text). length l ≤ 64) same a.room;
      }

  pub run_sound : (bs : List Bare) (xs : List Call) (c : ℕ) → On Sound (at bs c) → On Sound (at (bare_run h bs xs) c)
  run_sound bs [] c a = a
  run_sound bs (x ∷ xs) c a = run_sound (bare_next h bs x) xs c (move-sound (moved h bs c 0 x) a)

  -- a counterparty of a box that was opened on the sheet s, by what it asked
  pub record Behind (s : ℕ) (calls : List Call) (c : ℕ) (p : Party) : Type 0 where
    pub bare : Bare
    pub is : at (bare_run h [] calls) c ≡ Some bare
    pub fills : fill h (sheet_run h s [] calls) bare ≡ p
    pub sound : Sound bare

  pub behind : (s : ℕ) (calls : List Call) (c : ℕ) (p : Party) → at (run h (full h s []) calls).parties c ≡ Some p → Behind s calls c p
  behind s calls c p e =
      let there = rw (run-full h s [] calls) at e in
      let found = option_map_found (fill h (sheet_run h s [] calls)) (at (bare_run h [] calls) c) (sym (slice_get-map (fill h (sheet_run h s [] calls)) (bare_run h [] calls) c) ∙ there) in
      record { bare = found.0; is = found.1; fills = found.2; sound = subst (On Sound) found.1 (run_sound [] calls c tt) }

-- ---- the texts that the calls and their outcomes tell of

abbrev pub past_of : Option Bare → List Text
past_of None = []
past_of (Some b) = b.past

-- the text accepted last is the one that the slip is out for, if one is
abbrev Keeps : Option Text → Option Bare → Type 0
Keeps last b = On (λ a. On (λ t. last ≡ Some t) a.out) b

module _ {h : House} {c : ℕ} {x : Call} {o : Outcome} (last : Option Text) where
  move-past : {b b' : Option Bare} → Moved h c x o b b' → Keeps last b → past_of b ++ entered_now c last x o ≡ past_of b'
  move-past {b} (stays k) a = rw (k last).0 (append-nil (past_of b))
  move-past (comes new brings k) a = (k last).0
  move-past (asks {b} none room reads k) a = rw (k last).0 (append-nil b.past)
  move-past (enters {b} {t} out k) a =
      let kept : last ≡ Some t = subst (On (λ t. last ≡ Some t)) out a in
      ap (λ (l : List Text). b.past ++ l) ((k last).0 ∙ ap list_of kept)

  move-last : {b b' : Option Bare} → Moved h c x o b b' → Keeps last b → Keeps (accepted c last x o) b'
  move-last (stays k) a = rw (k last).1 a
  move-last (comes new brings k) a = tt
  move-last (asks none room reads k) a = (k last).1
  move-last (enters out k) a = tt

pub entered_texts_are : (h : House) (c s : ℕ) (bs : List Bare) (xs : List Call) (last : Option Text) → Keeps last (at bs c)
    → past_of (at bs c) ++ entered_texts h c last (full h s bs) xs ≡ past_of (at (bare_run h bs xs) c)
entered_texts_are h c s bs [] last a = append-nil (past_of (at bs c))
entered_texts_are h c s bs (x ∷ xs) last a =
    let o : Outcome = outcome h (full h s bs) x in
    let m = moved h bs c s x in
    sym (append_assoc (past_of (at bs c)) (entered_now c last x o) (entered_texts h c (accepted c last x o) (next h (full h s bs) x) xs))
    ∙ ap (λ (l : List Text). l ++ entered_texts h c (accepted c last x o) (next h (full h s bs) x) xs) (move-past last m a)
    ∙ ap (λ (st : State). past_of (at (bare_next h bs x) c) ++ entered_texts h c (accepted c last x o) st xs) (next-full h s bs x)
    ∙ entered_texts_are h c (sheet_next h s bs x) (bare_next h bs x) xs (accepted c last x o) (move-last last m a)
