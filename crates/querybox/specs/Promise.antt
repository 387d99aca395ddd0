-- What has happened to a box since it was opened, and what is promised of it.
use Rattle.std.specs.Prelude.{◌≡◌, Bool, List, [], ◌∷◌}
use Rattle.sheets.specs.declared.SheetSet.{SheetSet}
use Rattle.censors.specs.declared.question.Decision.{Decision}
use Rattle.censors.specs.declared.question.Question.{Question}
use Rattle.censors.specs.declared.question.Reply.{Reply}
use Rattle.censors.specs.declared.question.Value.{Value}
use Rattle.histories.specs.Calls.{Call, Outcome, run, outcomes}
use Rattle.histories.specs.Promise.{AllSecretsKept, AllUpToDate, AllEnrolled}
use Rattle.querybox.specs.declared.query_box.QueryBox.{QueryBox}
use Rattle.querybox.specs.States.{state_of, house_of, Step}

-- The calls were made to the box b, each on what the one before left, and answered so; the box is then b'.
abbrev pub Happened : {C : Type 0} → (C → SheetSet → List SheetSet → Bool) → (C → SheetSet → List SheetSet → Question → Value → Decision)
    → (C → SheetSet → List SheetSet → Question → Reply → SheetSet) → QueryBox C → List Call → List Outcome → QueryBox C → Type 0
Happened good decided after b [] [] b' = b' ≡ b
Happened good decided after b [] (o ∷ os) b' = ⊥
Happened good decided after b (x ∷ xs) [] b' = ⊥
Happened {C} good decided after b (x ∷ xs) (o ∷ os) b' = (mid : QueryBox C) × Step good decided after b x o mid × Happened good decided after mid xs os b'

-- What is promised of a box to which these calls have happened: its answers and what it holds are the defined ones, it is what it was opened with, no secret is given away, no reply is out of date, and nobody is there who was not enrolled.
pub record Kept {C : Type 0} (good : C → SheetSet → List SheetSet → Bool) (decided : C → SheetSet → List SheetSet → Question → Value → Decision)
    (after : C → SheetSet → List SheetSet → Question → Reply → SheetSet) (b : QueryBox C) (calls : List Call) (answers : List Outcome) (b' : QueryBox C) : Type 0 where
  pub answered : answers ≡ outcomes (house_of good decided after b) (state_of b) calls
  pub holds : state_of b' ≡ run (house_of good decided after b) (state_of b) calls
  pub house : house_of good decided after b' ≡ house_of good decided after b
  pub hidden : AllSecretsKept (house_of good decided after b) (state_of b) calls
  pub current : AllUpToDate (house_of good decided after b) (state_of b) calls
  pub enrolled : AllEnrolled (house_of good decided after b) (state_of b) calls

-- The promise of the box b, from now on: over every history.
abbrev pub Promise : {C : Type 0} → (C → SheetSet → List SheetSet → Bool) → (C → SheetSet → List SheetSet → Question → Value → Decision)
    → (C → SheetSet → List SheetSet → Question → Reply → SheetSet) → QueryBox C → Type 0
Promise {C} good decided after b =
    (calls : List Call) (answers : List Outcome) (b' : QueryBox C) → Happened good decided after b calls answers b' → Kept good decided after b calls answers b'
