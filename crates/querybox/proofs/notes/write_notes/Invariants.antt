use Rattle.std.proofs.Common.{◌+◌, ◌≤◌, length, take}
use Rattle.histories.specs.Calls.{changed}
use Rattle.querybox.specs.Notes.{Written}
use Rattle.querybox.proofs.notes.write_notes.Given as goal

abbrev pub invariant-loop-place : goal.invariant-loop-place
invariant-loop-place l =
    (goal.iterator-loop-place).can_next l.place-iterator × (goal.iterator-loop-place).is_finite l.place-iterator
    × Written l.initial.out l.from (changed l.counterparty 0 (take (length l.yielded) l.old) (take (length l.yielded) l.new)) l.end l.out
    × (l.end ≤ l.from + length l.yielded)
