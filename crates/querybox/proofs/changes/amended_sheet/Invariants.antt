use Rattle.std.proofs.Common.{◌≡◌, ℕ, ◌^◌, ◌<◌, take}
use Rattle.sheets.specs.Sets.{bit}
use Rattle.histories.specs.Calls.{new_value}
use Rattle.querybox.proofs.changes.amended_sheet.Given as goal

abbrev pub invariant-loop-change : goal.invariant-loop-change
invariant-loop-change l = (l.amended < 2 ^ 16) × ((k : ℕ) → k < 16 → bit l.amended k ≡ new_value (take l.change-index l.changes) k (bit l.sheet k))
