-- Under every censor that keeps the laws, a box keeps its promise.
-- What was asked is what no sheet can touch of a box (Bare), and a sheet makes of it all else that the box holds (Filled). So a second
-- box that was asked the same differs only by its sheet. For the secrets it runs beside the first on a stand-in for each sheet (Covers, Unseen);
-- for the replies it is opened on the present sheet, and asked all over again (Fresh).
use Rattle.std.proofs.Common.{◌≡◌, ℕ, ◌<◌, Bool, true, false, List, [], ◌++◌, map, get_or, Some, None, Ok, sym, refl, ap, ◌∙◌, subst, arith, length-append}
use Rattle.std.specs.Prelude.{option_map}
use Rattle.std.proofs.lemmas.Option.{slice_get-map}
use Rattle.sheets.specs.declared.SheetSet.{SheetSet}
use Rattle.sheets.specs.Sets.{mem}
use Rattle.censors.specs.declared.question.Decision.{Decision}
use Rattle.censors.specs.declared.question.Question.{Question}
use Rattle.censors.specs.declared.question.Reply.{Reply}
use Rattle.censors.specs.declared.question.Value.{Value}
use Rattle.censors.specs.Laws.{Few, no_sheet, LeftOut, Laws}
use Rattle.censors.specs.Replay.{Settles}
use Rattle.censors.proofs.Replays.{hides}
use Rattle.histories.specs.Calls.{House, Party, State, Call, at, opening, run}
use Rattle.histories.specs.Promise.{list_of, Another, enrolments, entered_texts, asking, numbered, Fresh, Current, Promise, AllSecretsKept, AllUpToDate, AllEnrolled}
use Rattle.histories.proofs.Lookups.{On, each_front}
use Rattle.histories.proofs.Bare.{Bare, as_question, Reads, bare_run, sheet_run, left_on, fill, full}
use Rattle.histories.proofs.Filled.{run-full}
use Rattle.histories.proofs.Proper.{Proper, opens-proper, proper-opens, lawful-proper, run-proper}
use Rattle.histories.proofs.Sound.{Sound, behind, past_of, entered_texts_are}
use Rattle.histories.proofs.Joined.{behind as behind_enrolment, was-enrolled}
use Rattle.histories.proofs.Covers.{Covers}
use Rattle.histories.proofs.Unseen.{other_calls, others-blank, other-sheets, shows_alike}
use Rattle.histories.proofs.Fresh.{goes-append, with_texts, asking-goes, reset, enrolments-take}
use Rattle.histories.proofs.Order.{ordered}

-- every record that is good for the secrets xs has a sheet outside x
abbrev pub Escapes : House → List SheetSet → SheetSet → Type 0
Escapes h xs x = Few xs → (r : SheetSet) → h.good r xs ≡ true → LeftOut r x

-- no such set x is given away
abbrev pub Unseen : House → State → List Call → Type 0
Unseen h st calls = (c : ℕ) (p : Party) → at (run h st calls).parties c ≡ Some p → (x : SheetSet) → Escapes h p.secrets x → Another h st calls c p.start x

module _ (h : House) (s : ℕ) (calls : List Call) (c : ℕ) where
  -- the stand-in of a sheet u is a sheet outside x that is left in the record if all of c's questions are put where u is the true sheet
  another : Laws h.good h.decided h.after → (b : Bare) → at (bare_run h [] calls) c ≡ Some b → Sound h b → (x : SheetSet)
      → Escapes h b.secrets x → Another h (full h s []) calls c b.start x
  another laws b is sound x escapes =
      let ends : (u : ℕ) → Settles h.good h.decided h.after b.secrets b.start (map (as_question h) b.past) u =
      (hides laws).settles b.start b.secrets sound.few sound.good (map (as_question h) b.past) in
      let left : (u : ℕ) → LeftOut (left_on h u b) x = λ u. escapes sound.few (left_on h u b) (ends u).good_end in
      let w : ℕ → ℕ = λ u. (left u).sheet in
      let small : (u : ℕ) → w u < 256 = λ u. (left u).small in
      let known : (u : ℕ) → mem b.start (w u) ≡ true = λ u. (ends u).part (w u) (small u) (left u).inside in
      let proper : (u : ℕ) → Proper h (w u) = λ u. lawful-proper h (w u) (small u) (sound.lawful (w u) (small u) (known u)) in
      let covers : Covers h w b = record { few = sound.few; good = sound.good; inside = λ u. (left u).inside } in
      record {
        sheet = w s;
        opened = full h (w s) [];
        opens = proper-opens h (proper s);
        others = other_calls h w s [] calls;
        same_calls = others-blank h w s [] calls;
        same_shown = shows_alike h w proper laws small c s [] calls (subst (On (Covers h w)) (sym is) covers);
        untrue = other-sheets h w proper (λ u. (mem b.start u ≡ true) × (mem x u ≡ false)) (λ u. (known u, (left u).outside)) s [] calls;
      }

  -- a box opened alike on the sheet u has of c what u makes of what c asked
  fresh : (m u : ℕ) → Proper h u → (b : Bare) → at (bare_run h [] calls) c ≡ Some b → Sound h b
      → Fresh (numbered h m) u (enrolments h (full h s []) calls ++ asking m c 0 b.past) c (fill h u b)
  fresh m u proper b is sound =
      let new : House = numbered h m in
      let bs : List Bare = bare_run h [] calls in
      let asks = asking-goes new u c b b.past (map reset bs) [] 0 (slice_get-map reset bs c ∙ ap (option_map reset) is) refl
      (omega (arith, sound.room, length-append b.past (list_of b.out))) (each_front (Reads h) b.past (list_of b.out) sound.reads) in
      let goes = goes-append new (enrolments h (full h s []) calls) (enrolments-take h m u s [] calls) asks.goes in
      record {
        opened = full new u [];
        opens = proper-opens new (record { below = proper.below; keeps = proper.keeps });
        carried = goes.carried;
        party = fill new u (with_texts b b.past);
        there = ap (λ (st : State). at st.parties c) goes.leaves ∙ slice_get-map (fill new u) asks.leaves c ∙ ap (option_map (fill new u)) asks.there;
        same_log = refl;
        same_record = refl;
      }

module _ (h : House) (s : ℕ) (st : State) (e : opening h s ≡ Ok st) (calls : List Call) where
  pub unseen : Laws h.good h.decided h.after → Unseen h st calls
  unseen laws =
      subst (λ (st : State). Unseen h st calls) (opens-proper h s st e).1
      (λ c p there x. let a = behind h s calls c p there in
      subst (λ (p : Party). Escapes h p.secrets x → Another h (full h s []) calls c p.start x) a.fills (another h s calls c laws a.bare a.is a.sound x))

  pub current : Current h st calls
  current =
      let o = opens-proper h s st e in
      subst (λ (st : State). Current h st calls) o.1
      (λ c p there m. let a = behind h s calls c p there in
      let u : ℕ = sheet_run h s [] calls in
      let texts : entered_texts h c None (full h s []) calls ≡ a.bare.past = entered_texts_are h c s [] calls None tt ∙ ap past_of a.is in
      rw (run-full h s [] calls, texts)
      (subst (Fresh (numbered h m) u (enrolments h (full h s []) calls ++ asking m c 0 a.bare.past) c) a.fills
      (fresh h s calls c m u (run-proper h s [] calls o.0) a.bare a.is a.sound)))

  -- ---- the same of each counterparty that an enrolment made

  -- by the law `leaves` every good record has a sheet outside each secret
  pub secrets_kept : Laws h.good h.decided h.after → AllSecretsKept h st calls
  secrets_kept laws =
      subst (λ (st : State). AllSecretsKept h st calls) (opens-proper h s st e).1
      (λ i prior list c call. let a = behind_enrolment h prior list s calls i c call in
      let xs : List SheetSet = a.bare.secrets in
      record {
        start = a.bare.start;
        starts = a.began.starts;
        secrets = xs;
        says = a.began.says;
        another = λ k l. another h s calls c laws a.bare a.is a.sound (get_or xs k no_sheet) (λ few r g. laws.leaves r xs few g k l);
      })

  pub up_to_date : AllUpToDate h st calls
  up_to_date =
      let o = opens-proper h s st e in
      subst (λ (st : State). AllUpToDate h st calls) o.1
      (λ i prior list c call. let a = behind_enrolment h prior list s calls i c call in
      let u : ℕ = sheet_run h s [] calls in
      let texts : entered_texts h c None (full h s []) calls ≡ a.bare.past = entered_texts_are h c s [] calls None tt ∙ ap past_of a.is in
      record {
        order = ordered h prior list c s [] [] calls i refl call;
        party = fill h u a.bare;
        there = a.there;
        same = λ m. rw (run-full h s [] calls, texts) (fresh h s calls c m u (run-proper h s [] calls o.0) a.bare a.is a.sound);
      })

  pub all-enrolled : AllEnrolled h st calls
  all-enrolled = subst (λ (st : State). AllEnrolled h st calls) (opens-proper h s st e).1 (λ c p there. was-enrolled h c s calls p there)

-- by the law `leaves` each secret is such a set
pub promised : {good : SheetSet → List SheetSet → Bool} {decided : SheetSet → List SheetSet → Question → Value → Decision}
    {after : SheetSet → List SheetSet → Question → Reply → SheetSet} → Laws good decided after → Promise good decided after
promised {good} {decided} {after} laws number names rules s st e calls =
    let h : House = record { good = good; decided = decided; after = after; number = number; names = names; rules = rules } in (
      (λ c p there k l. unseen h s st e calls laws c p there (get_or p.secrets k no_sheet) (λ few r g. laws.leaves r p.secrets few g k l)),
      current h s st e calls,
    )
