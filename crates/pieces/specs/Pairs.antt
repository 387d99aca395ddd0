-- What the 16 bits of a pair can say.
use Rattle.std.specs.Prelude.{ℕ, ◌+◌, Bool, true, ◌&&◌, List, [], ◌∷◌, length, nat_lt}

-- a piece of n bytes that begins at this offset can have a pair
abbrev pub fits : ℕ → ℕ → Bool
fits offset n = nat_lt offset 65536 && nat_lt n 65536

-- each of the texts can have a pair, where they stand one after the other from this offset on
abbrev pub all_fit : ℕ → List (List ℕ) → Bool
all_fit offset [] = true
all_fit offset (x ∷ xs) = fits offset (length x) && all_fit (offset + length x) xs
