-- The facts that a list of changes names, and their values.
use Rattle.std.proofs.Common.{◌≡◌, ℕ, zero, suc, ◌≤◌, Bool, eqb, ◌||◌, false, List, length, get_or, take, sym, refl, ap, ◌∙◌, add-one, arith}
use Rattle.std.proofs.lemmas.List.Folds.{list_any_more}
use Rattle.std.specs.List.{list_any}
use Rattle.histories.specs.declared.data.Change.{Change}
use Rattle.histories.specs.Calls.{listed_before}

-- the fact at a place, and its value
abbrev pub fact_at : List Change → ℕ → ℕ
fact_at cs i = (get_or cs i (record { fact = 0; value = false })).fact

abbrev pub value_at : List Change → ℕ → Bool
value_at cs i = (get_or cs i (record { fact = 0; value = false })).value

-- a fact that one of the first n changes names
pub listed_any : (f : ℕ) (cs : List Change) (n : ℕ) → n ≤ length cs → list_any (λ c. eqb f c.fact) (take n cs) ≡ listed_before f cs n
listed_any f cs zero l = refl
listed_any f cs (suc n) l =
    ap (λ k. list_any (λ c. eqb f c.fact) (take k cs)) (sym (add-one n))
    ∙ list_any_more (λ c. eqb f c.fact) cs n (record { fact = 0; value = false }) (omega arith)
    ∙ ap (λ b. b || eqb f (fact_at cs n)) (listed_any f cs n (omega arith))
