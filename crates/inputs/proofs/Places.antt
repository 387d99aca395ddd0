-- The first place of a byte, by what stands before it and at it.
use Rattle.std.proofs.Common.{◌≡◌, ℕ, ◌<◌, ◌≤◌, List, length, get_or, nat_eq, sym, arith}
use Rattle.std.proofs.lemmas.Bool.Decides.{nat_tests}
use Rattle.std.proofs.lemmas.List.Sums.{position_or_len_is}
use Rattle.std.specs.List.{position_or_len}

module _ (b : ℕ) (xs : List ℕ) (i : ℕ) (within : i ≤ length xs) where
  pub first_place : ((k : ℕ) → k < i → get_or xs k 0 ≡ b → ⊥) → (i < length xs → get_or xs i 0 ≡ b) → i ≡ position_or_len (λ x. nat_eq x b) xs
  first_place before found =
      sym (position_or_len_is (λ x. nat_eq x b) xs i 0 within (λ k lt. let other = before k lt in grind (arith, nat_tests)) (λ lt. let same = found lt in grind (arith, nat_tests)))
