-- What has happened to a box that was asked a question: the question was judged, its slip read and entered, or it was refused.
use Rattle.std.specs.Prelude.{◌≡◌, ℕ, Bool, List, [], ◌∷◌, Ok, Err, Result}
use Rattle.sheets.specs.declared.SheetSet.{SheetSet}
use Rattle.censors.specs.declared.question.Decision.{Decision}
use Rattle.censors.specs.declared.question.Question.{Question}
use Rattle.censors.specs.declared.question.Reply.{Reply}
use Rattle.censors.specs.declared.question.Value.{Value}
use Rattle.histories.specs.declared.data.BoxFault.{BoxFault}
use Rattle.histories.specs.Calls.{Text, Slip, Judge, Read, Enter, Refused, Judged, Shown, Replied as ReplyGiven}
use Rattle.querybox.specs.declared.query_box.QueryBox.{QueryBox}
use Rattle.querybox.specs.Promise.{Happened}
use Rattle.client.specs.declared.asking.Replied.{Replied}

abbrev pub Asked : {C : Type 0} → (C → SheetSet → List SheetSet → Bool) → (C → SheetSet → List SheetSet → Question → Value → Decision)
    → (C → SheetSet → List SheetSet → Question → Reply → SheetSet) → QueryBox C → ℕ → Text → Result Replied BoxFault → QueryBox C → Type 0
Asked good decided after b c t (Ok x) b' =
    (sl : Slip) × (sl.place ≡ x.place) × Happened good decided after b (Judge c t ∷ Read sl ∷ Enter sl ∷ []) (Judged sl ∷ Shown sl ∷ ReplyGiven x.reply ∷ []) b'
Asked good decided after b c t (Err f) b' = Happened good decided after b (Judge c t ∷ []) (Refused f ∷ []) b'
