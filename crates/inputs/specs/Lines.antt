-- The lines of a text.
use Rattle.std.specs.Prelude.{ℕ, ◌-◌, cond, List, length, take, drop, [], ◌∷◌, nat_eq}
use Rattle.std.specs.Cmp.Lexicographic.{pointwise}

-- the line without a carriage return at its end
abbrev pub without_return : List ℕ → List ℕ
without_return xs = cond (pointwise nat_eq (drop (length xs - 1) xs) (13 ∷ [])) (take (length xs - 1) xs) xs
