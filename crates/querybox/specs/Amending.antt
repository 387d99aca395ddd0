-- What amend hands out.
use Rattle.std.specs.Prelude.{ℕ, List, take, Ok, Err, Result}
use Rattle.histories.specs.declared.data.BoxFault.{BoxFault}
use Rattle.histories.specs.declared.data.Note.{Note}
use Rattle.histories.specs.Calls.{Outcome, Refused, Amended}

-- the number that is returned, with the list that the notes were written into
abbrev pub amended_as : Result ℕ BoxFault → List Note → Outcome
amended_as (Ok n) ns = Amended (take n ns)
amended_as (Err f) ns = Refused f

-- how many notes stand in that list
abbrev pub written : Result ℕ BoxFault → ℕ
written (Ok n) = n
written (Err f) = 0
