-- The first index that passes a test.
use Rattle.std.specs.Prelude.{ℕ, zero, suc, Bool, true, false, Some, None, Option}

-- an index found earlier, or else n where it passes
abbrev pub or_here : Option ℕ → Bool → ℕ → Option ℕ
or_here (Some i) passes n = Some i
or_here None true n = Some n
or_here None false n = None

-- the least index below n that passes the test
unfoldable pub first : (ℕ → Bool) → ℕ → Option ℕ
first f zero = None
first f (suc n) = or_here (first f n) (f n) n
