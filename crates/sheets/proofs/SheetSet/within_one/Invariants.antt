use Rattle.std.proofs.Common.{◌≡◌, ℕ, ◌<◌, false, [], get_or}
use Rattle.sheets.specs.Sets.{within}
use Rattle.sheets.proofs.SheetSet.within_one.Given as goal

-- none of the sets that were passed contains this one; the default of `get_or` is never read
abbrev pub invariant-loop-set : goal.invariant-loop-set
invariant-loop-set l = (k : ℕ) → k < l.set-index → within l.self (get_or l.sets k (record { words = [] })) ≡ false
