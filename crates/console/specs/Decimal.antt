-- What digits say.
use Rattle.std.specs.Prelude.{ℕ, ◌+◌, ◌-◌, ◌*◌, List, fold}

-- the number with one more digit behind, which is given by its byte
abbrev pub with_digit : ℕ → ℕ → ℕ
with_digit n byte = 10 * n + (byte - 48)

abbrev pub value_of : List ℕ → ℕ
value_of bytes = fold with_digit 0 bytes
