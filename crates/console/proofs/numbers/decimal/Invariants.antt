use Rattle.std.proofs.Common.{◌≡◌, ◌≤◌, take}
use Rattle.console.specs.Decimal.{value_of}
use Rattle.console.proofs.numbers.decimal.Given as goal

abbrev pub invariant-loop-byte : goal.invariant-loop-byte
invariant-loop-byte l = (l.number ≡ value_of (take l.byte-index l.digits)) × (l.number ≤ l.most)
