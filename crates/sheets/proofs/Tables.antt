-- A table of sets, row by row.
use Rattle.std.proofs.Common.{◌≡◌, ℕ, ◌<◌, Bool, List, [], map, get_or, ap, zero-add}
use Rattle.std.specs.List.{range_with_len}
use Rattle.std.proofs.lemmas.List.FromFn.{get_or-map-range_with_len}
use Rattle.sheets.specs.Sets.{set_of}

-- Row i of the table of n rows by f is the set of the sheets of which f i holds. A table of the code is this one: antt
-- computes the words of each row and compares them.
pub row_is : (f : ℕ → ℕ → Bool) (n i : ℕ) → i < n → record { words = get_or (map (λ k. (set_of (f k)).words) (range_with_len 0 n)) i [] } ≡ set_of (f i)
row_is f n i h = ap (λ (ws : List ℕ). record { words = ws }) (get_or-map-range_with_len (λ k. (set_of (f k)).words) 0 n i i [] h (zero-add i))
