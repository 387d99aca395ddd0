-- A table with one entry replaced.
use Rattle.std.specs.Prelude.{ℕ, slice_set}
use Rattle.tables.specs.declared.Table.{Table}

abbrev pub put : {T : Type 0} → Table T → ℕ → T → Table T
put t p x = record { items = slice_set t.items p x }
