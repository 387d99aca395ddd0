-- The numbers that pass a test, as a filter of a range.
use Rattle.std.proofs.Common.{◌≡◌, ℕ, zero, suc, Bool, cond, List, [], ◌∷◌, ◌++◌, map, filter, sym, refl, ap, ◌∙◌, add-one, zero-add}
use Rattle.std.specs.List.{range_with_len}
use Rattle.std.proofs.lemmas.List.{map-id}
use Rattle.std.proofs.lemmas.List.FromFn.{filter_of_map_range_with_len_more}
use Rattle.sheets.specs.Passing.{passing}

passing-map : (f : ℕ → Bool) (n : ℕ) → filter f (map (λ k. k) (range_with_len 0 n)) ≡ passing f n
unfolding passing
passing-map f zero = refl
passing-map f (suc n) =
    ap (λ k. filter f (map (λ k. k) (range_with_len 0 k))) (sym (add-one n))
    ∙ filter_of_map_range_with_len_more f (λ k. k) 0 n n (zero-add n)
    ∙ ap (λ (xs : List ℕ). xs ++ cond (f n) (n ∷ []) []) (passing-map f n)

pub passing-filter : (f : ℕ → Bool) (n : ℕ) → filter f (range_with_len 0 n) ≡ passing f n
passing-filter f n = ap (filter f) (sym (map-id (range_with_len 0 n))) ∙ passing-map f n
