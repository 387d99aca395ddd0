-- The lowest counterparty whose slip is out, by the entries of its table.
use Rattle.std.proofs.Common.{◌≡◌, ℕ, zero, suc, ◌+◌, ◌<◌, ◌≤◌, Bool, true, false, cond, List, [], ◌∷◌, map, length, get_or, take, Some, None, Option, sym, refl, ap, ◌∙◌, le_of_suc-le-suc, not-suc-le-zero, arith}
use Rattle.std.specs.Option.{MatchOption}
use Rattle.histories.specs.Calls.{is_some, slip_out}
use Rattle.querybox.specs.declared.party.Party.{Party}
use Rattle.querybox.specs.Parties.{party_of, blank}

-- whether the slip of the entry at a place is out
abbrev pub out : List Party → ℕ → Bool
out xs k = is_some (get_or xs k blank).pending

pub none_out : (c n : ℕ) (xs : List Party) → ((k : ℕ) → k < n → out xs k ≡ false) → slip_out c (map party_of (take n xs)) ≡ None
none_out c zero xs e = refl
none_out c (suc n) [] e = refl
none_out c (suc n) (x ∷ xs) e =
    ap (λ (t : Bool). cond t (Some c) (slip_out (c + 1) (map party_of (take n xs)))) (e 0 (omega arith))
    ∙ none_out (c + 1) n xs (λ k l. e (suc k) (omega arith))

pub first_out : (c n p : ℕ) (xs : List Party) → ((k : ℕ) → k < p → out xs k ≡ false) → out xs p ≡ true → p < n → n ≤ length xs
    → slip_out c (map party_of (take n xs)) ≡ Some (c + p)
first_out c zero p xs e h l m = absurd (not-suc-le-zero l)
first_out c (suc n) p [] e h l m = absurd (not-suc-le-zero m)
first_out c (suc n) zero (x ∷ xs) e h l m =
    ap (λ (t : Bool). cond t (Some c) (slip_out (c + 1) (map party_of (take n xs)))) h ∙ ap Some (omega arith)
first_out c (suc n) (suc p) (x ∷ xs) e h l m =
    ap (λ (t : Bool). cond t (Some c) (slip_out (c + 1) (map party_of (take n xs)))) (e 0 (omega arith))
    ∙ first_out (c + 1) n p xs (λ k l. e (suc k) (omega arith)) h (omega arith) (le_of_suc-le-suc m)
    ∙ ap Some (omega arith)

-- the number that is found among those below n
pub found_out : (n : ℕ) (xs : List Party) (r : Option ℕ) → n ≤ length xs
    → MatchOption r ((k : ℕ) → 0 ≤ k → k < n → out xs k ≡ false) (λ i. (0 ≤ i) × (i < n) × (out xs i ≡ true) × ((k : ℕ) → 0 ≤ k → k < i → out xs k ≡ false))
    → r ≡ slip_out 0 (map party_of (take n xs))
found_out n xs None l all = sym (none_out 0 n xs (λ k m. all k (omega arith) m))
found_out n xs (Some i) l w = ap Some (omega arith) ∙ sym (first_out 0 n i xs (λ k m. w.3 k (omega arith) m) w.2 w.1 l)
