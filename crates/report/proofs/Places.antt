-- The first place of anything but a blank, by what stands before it and at it.
use Rattle.std.proofs.Common.{◌≡◌, ℕ, ◌<◌, ◌≤◌, List, length, get_or, not, nat_eq, sym, arith}
use Rattle.std.proofs.lemmas.Bool.Decides.{nat_tests}
use Rattle.std.proofs.lemmas.List.Sums.{position_or_len_is}
use Rattle.std.specs.List.{position_or_len}

pub first_other : (xs : List ℕ) (i : ℕ) → i ≤ length xs → ((k : ℕ) → k < i → get_or xs k 0 ≡ 32) → (i < length xs → get_or xs i 0 ≡ 32 → ⊥) → i ≡ position_or_len (λ x. not (nat_eq x 32)) xs
first_other xs i within before stops =
    sym (position_or_len_is (λ x. not (nat_eq x 32)) xs i 0 within (λ k lt. let same = before k lt in grind (arith, nat_tests)) (λ lt. let other = stops lt in grind (arith, nat_tests)))
