-- Sets of sheets, by their members. A sheet is a number below 256; its binary digit k says whether fact k is true in it.
use Rattle.std.specs.Prelude.{◌≡◌, ℕ, zero, suc, ◌+◌, ◌/◌, ◌%◌, ◌^◌, ◌<◌, Bool, true, false, cond, not, ◌&&◌, ◌||◌, List, [], ◌∷◌, ◌==◌, slice_index}
use Rattle.sheets.specs.declared.SheetSet.{SheetSet}

-- whether the binary digit k of w is set
unfoldable pub bit : ℕ → ℕ → Bool
bit w k = w / 2 ^ k % 2 == 1

-- whether the sheet s is in the set
unfoldable pub mem : SheetSet → ℕ → Bool
mem x s = bit (slice_index x.words (s / 64)) (s % 64)

-- the number whose binary digit k, for each k below n, is set where f holds of k
unfoldable pub digits : (ℕ → Bool) → ℕ → ℕ
digits f zero = 0
digits f (suc n) = digits f n + cond (f n) (2 ^ n) 0

-- the set of the sheets of which f holds
unfoldable pub set_of : (ℕ → Bool) → SheetSet
set_of f = record {
  words = digits f 64 ∷ digits (λ k. f (64 + k)) 64 ∷ digits (λ k. f (128 + k)) 64 ∷ digits (λ k. f (192 + k)) 64 ∷ [];
}

-- the sheets in both sets, in either, in the first alone, and in none of the one
unfoldable pub meet : SheetSet → SheetSet → SheetSet
meet a b = set_of (λ s. mem a s && mem b s)

unfoldable pub union : SheetSet → SheetSet → SheetSet
union a b = set_of (λ s. mem a s || mem b s)

unfoldable pub minus : SheetSet → SheetSet → SheetSet
minus a b = set_of (λ s. mem a s && not (mem b s))

unfoldable pub outside : SheetSet → SheetSet
outside a = set_of (λ s. not (mem a s))

-- how many numbers below n pass the test
unfoldable pub count : (ℕ → Bool) → ℕ → ℕ
count f zero = 0
count f (suc n) = count f n + cond (f n) 1 0

-- whether each number below n passes the test
unfoldable pub every : (ℕ → Bool) → ℕ → Bool
every f zero = true
every f (suc n) = every f n && f n

-- whether one of the list passes the test
unfoldable pub any : {A : Type 0} → (A → Bool) → List A → Bool
any f [] = false
any f (x ∷ xs) = f x || any f xs

-- whether each sheet of a is in b, tested sheet by sheet
unfoldable pub within : SheetSet → SheetSet → Bool
within a b = every (λ s. not (mem a s) || mem b s) 256

-- whether a single one of the sets contains a
unfoldable pub within_one : SheetSet → List SheetSet → Bool
within_one a xs = any (within a) xs

-- whether the sets together contain a
unfoldable pub within_union : SheetSet → List SheetSet → Bool
within_union a xs = every (λ s. not (mem a s) || any (λ x. mem x s) xs) 256

abbrev pub SameMembers : SheetSet → SheetSet → Type 0
SameMembers a b = (s : ℕ) → s < 256 → mem a s ≡ mem b s
