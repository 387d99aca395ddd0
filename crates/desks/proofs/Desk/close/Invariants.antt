use Rattle.std.proofs.Common.{vec_items, vec_len}
use Rattle.querybox.specs.States.{state_of}
use Rattle.desks.specs.Slots.{AllOut}
use Rattle.desks.proofs.Desk.close.Given as goal

abbrev pub invariant-loop-kept : goal.invariant-loop-kept
invariant-loop-kept g l = AllOut l.query_box.number (state_of l.query_box).parties (vec_items l.places)

abbrev pub decreases-loop-kept : goal.decreases-loop-kept
decreases-loop-kept g l = vec_len l.places
