-- What a box holds, as the calls are defined over it.
use Rattle.std.specs.Prelude.{◌≡◌, Bool, List, Some, None, Ok, Err, Option, Result}
use Rattle.sheets.specs.declared.SheetSet.{SheetSet}
use Rattle.sentences.specs.Lists.{sets_of}
use Rattle.sentences.specs.Naming.{words}
use Rattle.censors.specs.declared.question.Decision.{Decision}
use Rattle.censors.specs.declared.question.Question.{Question}
use Rattle.censors.specs.declared.question.Reply.{Reply}
use Rattle.censors.specs.declared.question.Value.{Value}
use Rattle.histories.specs.declared.data.BoxFault.{BoxFault}
use Rattle.histories.specs.declared.refusals.BoxRefusal.{BoxRefusal}
use Rattle.histories.specs.Calls as calls
use Rattle.histories.specs.Refusals.{refusal_of}
use Rattle.querybox.specs.declared.query_box.QueryBox.{QueryBox}
use Rattle.querybox.specs.declared.slip.Slip.{Slip}
use Rattle.querybox.specs.Entries.{parties_of}
use Rattle.querybox.specs.Slips.{slip_of}

abbrev pub state_of : {C : Type 0} → QueryBox C → calls.State
state_of b = record { sheet = b.sheet; parties = parties_of b.inner }

-- what a box was opened with, under the functions of its censor
abbrev pub house_of : {C : Type 0} → (C → SheetSet → List SheetSet → Bool) → (C → SheetSet → List SheetSet → Question → Value → Decision)
    → (C → SheetSet → List SheetSet → Question → Reply → SheetSet) → QueryBox C → calls.House
house_of good decided after b =
    record { good = good b.censor; decided = decided b.censor; after = after b.censor; number = b.number; names = words b.names; rules = sets_of b.rules }

-- a refusal leaves what there was
abbrev pub Unmoved : {B : Type 0} → Option BoxRefusal → B → B → Type 0
Unmoved (Some x) b b' = b' ≡ b
Unmoved None b b' = Unit

-- A call x of the box b, answered with o, after which the box is b': the answer and what the box then holds are the defined ones, what it was opened with stays, and a refusal leaves all as it was.
pub record Step {C : Type 0} (good : C → SheetSet → List SheetSet → Bool) (decided : C → SheetSet → List SheetSet → Question → Value → Decision)
    (after : C → SheetSet → List SheetSet → Question → Reply → SheetSet) (b : QueryBox C) (x : calls.Call) (o : calls.Outcome) (b' : QueryBox C) : Type 0 where
  pub answers : o ≡ calls.outcome (house_of good decided after b) (state_of b) x
  pub leaves : state_of b' ≡ calls.next (house_of good decided after b) (state_of b) x
  pub censor : b'.censor ≡ b.censor
  pub number : b'.number ≡ b.number
  pub names : b'.names ≡ b.names
  pub rules : b'.rules ≡ b.rules
  pub unmoved : Unmoved (refusal_of o) b b'

-- what judge hands out
abbrev pub judged_as : Result Slip BoxFault → calls.Outcome
judged_as (Ok s) = calls.Judged (slip_of s)
judged_as (Err f) = calls.Refused f

-- what enter hands out
abbrev pub entered_as : Result Reply Slip → calls.Outcome
entered_as (Ok a) = calls.Replied a
entered_as (Err s) = calls.Unmatched (slip_of s)
