-- What a desk answers and keeps, by what its box answers.
use Rattle.std.specs.Prelude.{◌≡◌, Bool, true, false, List, Some, None, Ok, Err, Option, Result, slice_set}
use Rattle.sheets.specs.declared.SheetSet.{SheetSet}
use Rattle.censors.specs.declared.question.Decision.{Decision}
use Rattle.censors.specs.declared.question.Question.{Question}
use Rattle.censors.specs.declared.question.Reply.{Reply}
use Rattle.censors.specs.declared.question.Value.{Value}
use Rattle.histories.specs.declared.data.BoxFault.{BoxFault}
use Rattle.histories.specs.declared.refusals.BoxRefusal.{BoxRefusal}
use Rattle.histories.specs.declared.refusals.SlipFace.{SlipFace}
use Rattle.histories.specs.Calls as calls
use Rattle.histories.specs.Refusals.{face_of, slip_refusal}
use Rattle.querybox.specs.declared.query_box.QueryBox.{QueryBox}
use Rattle.querybox.specs.declared.slip.Slip.{Slip}
use Rattle.querybox.specs.Slips.{slip_of}
use Rattle.querybox.specs.States.{state_of, house_of, Step}

-- what is told of a judgement
abbrev pub face_given : calls.Outcome → Option (Result SlipFace BoxFault)
face_given (calls.Refused f) = Some (Err f)
face_given (calls.Enrolled n) = None
face_given (calls.Judged sl) = Some (Ok (face_of sl))
face_given (calls.Shown sl) = None
face_given (calls.Replied a) = None
face_given (calls.Unmatched sl) = None
face_given (calls.Amended ns) = None

abbrev pub stored : calls.Slip → Slip
stored sl = record { number = sl.number; counterparty = sl.party; place = sl.place }

-- the slips that are kept after a judgement
abbrev pub with_judged : List (Option Slip) → calls.Outcome → List (Option Slip)
with_judged xs (calls.Refused f) = xs
with_judged xs (calls.Enrolled n) = xs
with_judged xs (calls.Judged sl) = slice_set xs sl.party (Some (stored sl))
with_judged xs (calls.Shown sl) = xs
with_judged xs (calls.Replied a) = xs
with_judged xs (calls.Unmatched sl) = xs
with_judged xs (calls.Amended ns) = xs

-- what is written on a slip, if one is kept
abbrev pub face_kept : Option Slip → Option SlipFace
face_kept None = None
face_kept (Some s) = Some (face_of (slip_of s))

-- what is told of an entry
abbrev pub entry_given : calls.Outcome → Option (Result Reply BoxRefusal)
entry_given (calls.Refused f) = None
entry_given (calls.Enrolled n) = None
entry_given (calls.Judged sl) = None
entry_given (calls.Shown sl) = None
entry_given (calls.Replied a) = Some (Ok a)
entry_given (calls.Unmatched sl) = Some (Err (slip_refusal (face_of sl)))
entry_given (calls.Amended ns) = None

-- a reply, if one is given
abbrev pub replied : Option Reply → Option (Result Reply BoxRefusal)
replied None = None
replied (Some a) = Some (Ok a)

-- the slip was taken
abbrev pub is_taken : Option (Result Reply BoxRefusal) → Bool
is_taken None = false
is_taken (Some (Ok a)) = true
is_taken (Some (Err f)) = false

-- entering a slip, if there is one
module _ (h : calls.House) (st : calls.State) where
  abbrev pub entry_of : Option Slip → Option (Result Reply BoxRefusal)
  entry_of None = None
  entry_of (Some s) = entry_given (calls.outcome h st (calls.Enter (slip_of s)))

-- The slip, if there is one, was entered in the box b, which is then b'.
abbrev pub Entered : {C : Type 0} → (C → SheetSet → List SheetSet → Bool) → (C → SheetSet → List SheetSet → Question → Value → Decision)
    → (C → SheetSet → List SheetSet → Question → Reply → SheetSet) → QueryBox C → Option Slip → QueryBox C → Type 0
Entered good decided after b None b' = b' ≡ b
Entered good decided after b (Some s) b' = Step good decided after b (calls.Enter (slip_of s)) (calls.outcome (house_of good decided after b) (state_of b) (calls.Enter (slip_of s))) b'
