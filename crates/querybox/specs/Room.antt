-- The place that what is pending will take in a log.
use Rattle.std.specs.Prelude.{ℕ, Some, None, Option}
use Rattle.histories.specs.declared.data.Pending.{Pending}

abbrev pub reserved : Option Pending → ℕ
reserved None = 0
reserved (Some e) = 1
