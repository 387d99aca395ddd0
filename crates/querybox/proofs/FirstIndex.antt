-- The first index that passes a test, as `position` and `find` give it.
use Rattle.std.proofs.Common.{◌≡◌, ℕ, zero, suc, ◌<◌, Bool, true, false, List, length, get_or, Some, None, Option, sym, ap, ◌∙◌, add-one, arith}
use Rattle.std.specs.List.{AllWithin, HoldsAt}
use Rattle.std.specs.Option.{MatchOption}
use Rattle.sentences.specs.Search.{first}
use Rattle.sentences.proofs.Searches.{first_none, first_more, first_found}

none_below : (f : ℕ → Bool) (n : ℕ) → ((k : ℕ) → k < n → f k ≡ false) → first f n ≡ None
none_below f zero e = first_none f
none_below f (suc n) e = ap (first f) (sym (add-one n)) ∙ first_more f n (none_below f n (λ k l. e k (omega arith))) (e n (omega arith))

pub position_first : {A : Type 0} (p : A → Bool) (d : A) (xs : List A) (r : Option ℕ)
    → MatchOption r (AllWithin (λ x. p x ≡ false) xs 0 (length xs)) (λ i. (i < length xs) × HoldsAt (λ x. p x ≡ true) xs i × AllWithin (λ x. p x ≡ false) xs 0 i)
    → r ≡ first (λ i. p (get_or xs i d)) (length xs)
position_first p d xs None all = sym (none_below (λ i. p (get_or xs i d)) (length xs) (λ k l. all k d (omega arith) l))
position_first p d xs (Some i) w =
    let f = λ (i : ℕ). p (get_or xs i d) in
    sym (first_found f (length xs) i (none_below f i (λ k l. w.2 k d (omega arith) l)) (w.1 d) w.0)
