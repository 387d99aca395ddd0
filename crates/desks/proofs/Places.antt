-- Slips at their places, after one place was written.
use Rattle.std.proofs.Common.{◌≡◌, ℕ, zero, suc, ◌<◌, ◌⊎◌, List, [], ◌∷◌, length, set, Some, Option, refl, ap, ◌∙◌, inl, inr, ⊎_elim, arith}
use Rattle.std.proofs.lemmas.List.{length-set}
use Rattle.std.proofs.lemmas.Option.{none-some}
use Rattle.querybox.specs.declared.slip.Slip.{Slip}
use Rattle.desks.specs.Slots.{slip_at}

-- a slip that stands at d after v was put at c is v, or stood there before
pub placed : (xs : List (Option Slip)) (c d : ℕ) (v : Option Slip) (s : Slip) → slip_at (set xs c v) d ≡ Some s
    → ((d ≡ c) × (v ≡ Some s)) ⊎ ((d ≡ c → ⊥) × (slip_at xs d ≡ Some s))
placed [] c d v s e = absurd (none-some _ e)
placed (x ∷ xs) zero zero v s e = inl (refl, e)
placed (x ∷ xs) zero (suc d) v s e = inr ((λ z. omega arith), e)
placed (x ∷ xs) (suc c) zero v s e = inr ((λ z. omega arith), e)
placed (x ∷ xs) (suc c) (suc d) v s e =
    ⊎_elim (λ w. inl (ap suc w.0, w.1)) (λ w. inr ((λ z. w.0 (omega arith)), w.1)) (placed xs c d v s e)

-- writing at a place leaves as many places
pub still_eight : (xs : List (Option Slip)) (c : ℕ) (v : Option Slip) {ys : List (Option Slip)} → ys ≡ set xs c v → length xs ≡ 8 → length ys ≡ 8
still_eight xs c v is eight = ap length is ∙ length-set xs c v ∙ eight

pub within : (xs : List (Option Slip)) (c : ℕ) {s : Slip} → slip_at xs c ≡ Some s → c < length xs
within [] c e = absurd (none-some _ e)
within (x ∷ xs) zero e = omega arith
within (x ∷ xs) (suc c) e = let l = within xs c e in omega arith
