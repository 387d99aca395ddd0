-- What happens to a box is a history of the calls as they are defined; so the promise of those is the promise of the box.
use Rattle.std.proofs.Common.{◌≡◌, ℕ, Bool, List, [], ◌∷◌, None, Ok, refl, ap, ◌∙◌, subst, ap₂}
use Rattle.sheets.specs.declared.SheetSet.{SheetSet}
use Rattle.censors.specs.declared.question.Decision.{Decision}
use Rattle.censors.specs.declared.question.Question.{Question}
use Rattle.censors.specs.declared.question.Reply.{Reply}
use Rattle.censors.specs.declared.question.Value.{Value}
use Rattle.censors.specs.Laws.{Laws}
use Rattle.histories.specs.Calls.{Text, House, Party, State, Slip, Call, Judge, Read, Enter, Outcome, Judged, Shown, run, outcomes}
use Rattle.histories.proofs.Promised.{secrets_kept, up_to_date, all-enrolled}
use Rattle.querybox.specs.declared.query_box.QueryBox.{QueryBox}
use Rattle.sentences.specs.Lists.{sets_of}
use Rattle.querybox.specs.Entries.{parties_of}
use Rattle.querybox.specs.Promise.{Happened, Promise}
use Rattle.histories.specs.Calls.{first_untrue}
use Rattle.querybox.specs.States.{state_of, house_of, Step}
use Rattle.querybox.proofs.Openings.{opens-on}
use Rattle.querybox.proofs.Taken.{house-kept}

module _ {C : Type 0} (good : C → SheetSet → List SheetSet → Bool) (decided : C → SheetSet → List SheetSet → Question → Value → Decision)
    (after : C → SheetSet → List SheetSet → Question → Reply → SheetSet) where
  abbrev house : QueryBox C → House
  house = house_of good decided after

  as-defined : (xs : List Call) (os : List Outcome) (b b' : QueryBox C) → Happened good decided after b xs os b'
      → (os ≡ outcomes (house b) (state_of b) xs) × (state_of b' ≡ run (house b) (state_of b) xs) × (house b' ≡ house b)
  as-defined [] [] b b' same = (refl, ap state_of same, ap house same)
  as-defined [] (o ∷ os) b b' none = absurd none
  as-defined (x ∷ xs) [] b b' none = absurd none
  as-defined (x ∷ xs) (o ∷ os) b b' (mid, step, rest) =
      let later = as-defined xs os mid b' rest in
      let kept = house-kept good decided after step in (
        ap₂ (λ (a : Outcome) (later : List Outcome). a ∷ later) step.answers (later.0 ∙ ap₂ (λ (h : House) (st : State). outcomes h st xs) kept step.leaves),
        later.1 ∙ ap₂ (λ (h : House) (st : State). run h st xs) kept step.leaves,
        later.2 ∙ kept,
      )

  -- a box with no counterparty yet, whose sheet keeps the house rules
  pub promise-kept : (b : QueryBox C) → [] ≡ parties_of b.inner → None ≡ first_untrue (sets_of b.rules) b.sheet
      → Laws (good b.censor) (decided b.censor) (after b.censor) → Promise good decided after b
  promise-kept b none rules laws calls answers b' happened =
      let does = as-defined calls answers b b' happened in
      let opened = opens-on (house b) b.sheet b.small rules ∙ ap (λ (ps : List Party). Ok (record { sheet = b.sheet; parties = ps })) none in
      record {
        answered = does.0;
        holds = does.1;
        house = does.2;
        hidden = secrets_kept (house b) b.sheet (state_of b) opened calls laws;
        current = up_to_date (house b) b.sheet (state_of b) opened calls;
        enrolled = all-enrolled (house b) b.sheet (state_of b) opened calls;
      }

  -- reading a slip is a call that leaves the box alone
  pub read_step : (b : QueryBox C) (sl : Slip) → Step good decided after b (Read sl) (Shown sl) b
  read_step b sl = record { answers = refl; leaves = refl; censor = refl; number = refl; names = refl; rules = refl; unmoved = tt }

  -- a question is judged, its slip read and entered
  pub asked-happened : {b b' b'' : QueryBox C} {c : ℕ} {t : Text} {sl same : Slip} {o : Outcome} → Step good decided after b (Judge c t) (Judged sl) b' → same ≡ sl
      → Step good decided after b' (Enter same) o b'' → Happened good decided after b (Judge c t ∷ Read sl ∷ Enter sl ∷ []) (Judged sl ∷ Shown sl ∷ o ∷ []) b''
  asked-happened {b' = b'} {b'' = b''} {sl = sl} {o = o} judged alike entered =
      (b', judged, (b', read_step b' sl, (b'', subst (λ (x : Slip). Step good decided after b' (Enter x) o b'') alike entered, refl)))
