-- The first index that passes a test, as a loop finds it.
use Rattle.std.proofs.Common.{◌≡◌, ℕ, zero, suc, ◌+◌, ◌<◌, Bool, true, false, not, cond, List, length, get_or, position, Some, None, Option, sym, refl, ap, ◌∙◌, ap₂, ⊎_elim, not-suc-le-zero, add-one, arith}
use Rattle.std.specs.List.{position_or_len}
use Rattle.std.proofs.lemmas.Bool.{cases_eq, cases_lt, lt-ltb, le-ltb}
use Rattle.std.proofs.lemmas.List.Sums.{prefix_len_passes, prefix_len_stops}
use Rattle.sentences.specs.Search.{or_here, first}

pub first_none : (f : ℕ → Bool) → first f 0 ≡ None
unfolding first
first_none f = refl

module _ (f : ℕ → Bool) where
  pub first_step : (i : ℕ) → first f i ≡ None → first f (i + 1) ≡ or_here None (f i) i
  unfolding first
  first_step i e = ap (first f) (add-one i) ∙ ap (λ (o : Option ℕ). or_here o (f i) i) e

  pub first_more : (i : ℕ) → first f i ≡ None → f i ≡ false → first f (i + 1) ≡ None
  first_more i e h = first_step i e ∙ ap (λ (b : Bool). or_here None b i) h

  pub first_found : (n i : ℕ) → first f i ≡ None → f i ≡ true → i < n → first f n ≡ Some i
  unfolding first
  first_found zero i e h l = absurd (not-suc-le-zero l)
  first_found (suc n) i e h l =
      ⊎_elim (λ p. ap (λ (k : ℕ). or_here (first f k) (f k) k) (sym p) ∙ ap₂ (λ (o : Option ℕ) (b : Bool). or_here o b i) e h)
      (λ p. ap (λ (o : Option ℕ). or_here o (f n) n) (first_found n i e h (omega arith)))
      (cases_eq i n)

  -- where none is found, none passes
  earlier-none : (o : Option ℕ) (b : Bool) (n : ℕ) → or_here o b n ≡ None → (o ≡ None) × (b ≡ false)
  earlier-none (Some i) b n e = let z : ◌≡◌ {A = ℕ} 0 1 = cc in absurd (omega arith)
  earlier-none None true n e = let z : ◌≡◌ {A = ℕ} 0 1 = cc in absurd (omega arith)
  earlier-none None false n e = (refl, refl)

  pub none-at : (n : ℕ) → first f n ≡ None → (k : ℕ) → k < n → f k ≡ false
  unfolding first
  none-at zero e k l = absurd (not-suc-le-zero l)
  none-at (suc n) e k l =
      let both = earlier-none (first f n) (f n) n e in
      ⊎_elim (λ p. ap f p ∙ both.1) (λ p. none-at n both.0 k (omega arith)) (cases_eq k n)

  -- none is found where none passes
  pub first-none : (n : ℕ) → ((k : ℕ) → k < n → f k ≡ false) → first f n ≡ None
  unfolding first
  first-none zero h = refl
  first-none (suc n) h = ap₂ (λ (o : Option ℕ) (b : Bool). or_here o b n) (first-none n (λ k l. h k (omega arith))) (h n (omega arith))

not-false : (b : Bool) → not b ≡ false → b ≡ true
not-false b e = grind arith

not-true : (b : Bool) → not b ≡ true → b ≡ false
not-true b e = grind arith

-- the first index in a list whose entry passes is its position
pub first-position : {X : Type 0} (p : X → Bool) (xs : List X) (d : X) → first (λ i. p (get_or xs i d)) (length xs) ≡ position p xs
first-position p xs d =
    let n = position_or_len p xs in
    let before : (k : ℕ) → k < n → p (get_or xs k d) ≡ false = λ k l. not-true _ (prefix_len_passes (λ x. not (p x)) xs k d l) in
    ⊎_elim
    (λ l.
    first_found (λ i. p (get_or xs i d)) (length xs) n (first-none _ n before) (not-false _ (prefix_len_stops (λ x. not (p x)) xs d l)) l
    ∙ sym (ap (λ (b : Bool). cond b (Some n) None) (lt-ltb n (length xs) l)))
    (λ l.
    first-none (λ i. p (get_or xs i d)) (length xs) (λ k h. before k (omega arith))
    ∙ sym (ap (λ (b : Bool). cond b (Some n) None) (le-ltb n (length xs) l)))
    (cases_lt n (length xs))
