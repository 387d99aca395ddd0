-- What is in use of a fixed array.
use Rattle.std.specs.Prelude.{ℕ, List, take}
use Rattle.tables.specs.declared.filled.Filled.{Filled}

abbrev pub entries : {T : Type 0} {N : ℕ} → Filled T N → List T
entries x = take x.len x.items
