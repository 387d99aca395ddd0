-- What enrol is handed and hands out.
use Rattle.std.specs.Prelude.{ℕ, List, Some, None, Ok, Err, Option, Result}
use Rattle.std.specs.Borrow.{Bor}
use Rattle.histories.specs.declared.data.BoxFault.{BoxFault}
use Rattle.histories.specs.Calls.{Text, Outcome, Refused, Enrolled}

-- the text of a prior, if there is one
abbrev pub prior_text : Option (Bor (List ℕ)) → Option Text
prior_text (Some t) = Some t.now
prior_text None = None

abbrev pub enrolled_as : Result ℕ BoxFault → Outcome
enrolled_as (Ok n) = Enrolled n
enrolled_as (Err f) = Refused f
