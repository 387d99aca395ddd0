use Rattle.std.proofs.Common.{◌≡◌, None}
use Rattle.sentences.specs.Search.{first}
use Rattle.histories.specs.Calls.{bad_change}
use Rattle.querybox.proofs.changes.first_bad_change.Given as goal

abbrev pub invariant-loop-index : goal.invariant-loop-index
invariant-loop-index l = first (bad_change l.facts l.changes) l.index ≡ None
