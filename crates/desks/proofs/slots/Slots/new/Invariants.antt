use Rattle.std.proofs.Common.{◌≡◌, ◌≤◌, None, replicate, vec_items}
use Rattle.desks.proofs.slots.Slots.new.Given as goal

abbrev pub invariant-loop : goal.invariant-loop
invariant-loop l = (vec_items l.places ≡ replicate l.counter None) × (8 ≤ l.places.cap)
