-- The sheet after an amendment, by its binary digits.
use Rattle.std.proofs.Common.{◌≡◌, ℕ, zero, suc, ◌+◌, ◌-◌, ◌^◌, ◌<◌, ◌≤◌, Bool, true, false, cond, eqb, leb, List, [], ◌∷◌, ◌++◌, length, get_or, take, None, sym, refl, ap, ◌∙◌, subst, add-one, arith}
use Rattle.std.proofs.lemmas.List.{take_more}
use Rattle.std.proofs.lemmas.Bool.{ne_eqb, eqb-true, leb-false, or_parts}
use Rattle.sheets.specs.Sets.{bit}
use Rattle.sentences.specs.Search.{first}
use Rattle.sentences.proofs.Searches.{none-at}
use Rattle.histories.specs.declared.data.Change.{Change}
use Rattle.histories.specs.Calls.{listed_before, bad_change, new_value, new_sheet}
use Rattle.querybox.proofs.ListedFacts.{fact_at, value_at}
use Rattle.sheets.proofs.Digits.{bit_above, digits_front}

-- where no change is bad, each is of one of the facts
pub fact_below : (n : ℕ) (cs : List Change) → first (bad_change n cs) (length cs) ≡ None → (i : ℕ) → i < length cs → fact_at cs i < n
unfolding bad_change
fact_below n cs e i l = leb-false n (fact_at cs i) (or_parts (leb n (fact_at cs i)) (listed_before (fact_at cs i) cs i) (none-at (bad_change n cs) (length cs) e i l)).0

-- and names none that was listed before
unlisted_at : (n : ℕ) (cs : List Change) → first (bad_change n cs) (length cs) ≡ None → (i : ℕ) → i < length cs → listed_before (fact_at cs i) cs i ≡ false
unfolding bad_change
unlisted_at n cs e i l = (or_parts (leb n (fact_at cs i)) (listed_before (fact_at cs i) cs i) (none-at (bad_change n cs) (length cs) e i l)).1

new_value_push : (cs : List Change) (c : Change) (k : ℕ) (old : Bool) → new_value (cs ++ c ∷ []) k old ≡ new_value cs k (cond (eqb k c.fact) c.value old)
new_value_push [] c k old = refl
new_value_push (x ∷ cs) c k old = ap (λ b. cond (eqb k x.fact) x.value b) (new_value_push cs c k old)

-- one of the first i changes more, after the others
first_values : (cs : List Change) (i k : ℕ) (old : Bool) → i < length cs
    → new_value (take (i + 1) cs) k old ≡ new_value (take i cs) k (cond (eqb k (fact_at cs i)) (value_at cs i) old)
first_values cs i k old l =
    let c : Change = record { fact = 0; value = false } in
    ap (λ xs. new_value xs k old) (take_more cs i c l) ∙ new_value_push (take i cs) (get_or cs i c) k old

-- a fact that none of the first i changes names keeps its value
new_value_unlisted : (cs : List Change) (k i : ℕ) (old : Bool) → i ≤ length cs → listed_before k cs i ≡ false → new_value (take i cs) k old ≡ old
new_value_unlisted cs k zero old l e = refl
new_value_unlisted cs k (suc i) old l e =
    let both = or_parts (listed_before k cs i) (eqb k (fact_at cs i)) e in
    ap (λ n. new_value (take n cs) k old) (sym (add-one i)) ∙ first_values cs i k old (omega arith)
    ∙ ap (λ b. new_value (take i cs) k (cond b (value_at cs i) old)) both.1
    ∙ new_value_unlisted cs k i old (omega arith) both.0

-- no fact is listed twice, so the last change may as well come first
pub new_value_more : (n : ℕ) (cs : List Change) (i k : ℕ) (old : Bool) → first (bad_change n cs) (length cs) ≡ None → i < length cs
    → new_value (take (i + 1) cs) k old ≡ cond (eqb k (fact_at cs i)) (value_at cs i) (new_value (take i cs) k old)
new_value_more n cs i k old e l = first_values cs i k old l ∙ here (eqb k (fact_at cs i)) refl
  where
    here : (b : Bool) → eqb k (fact_at cs i) ≡ b → new_value (take i cs) k (cond b (value_at cs i) old) ≡ cond b (value_at cs i) (new_value (take i cs) k old)
    here true t =
        let same : k ≡ fact_at cs i = eqb-true k (fact_at cs i) t in
        new_value_unlisted cs k i (value_at cs i) (omega arith) (subst (λ f. listed_before f cs i ≡ false) (sym same) (unlisted_at n cs e i l))
    here false t = refl

new_value_above : (n : ℕ) (cs : List Change) (k : ℕ) (old : Bool) → ((i : ℕ) → i < length cs → fact_at cs i < n) → n ≤ k → new_value cs k old ≡ old
new_value_above n [] k old e l = refl
new_value_above n (c ∷ cs) k old e l =
    let here : c.fact < n = e 0 (omega arith) in
    ap (λ (t : Bool). cond t c.value (new_value cs k old)) (ne_eqb k c.fact (λ p. omega arith))
    ∙ new_value_above n cs k old (λ i m. e (suc i) (omega arith)) l

-- the sheet of w digits that has the new values
pub new_sheet_is : (w n s r : ℕ) (cs : List Change) → n ≤ w → s < 2 ^ n → r < 2 ^ w → first (bad_change n cs) (length cs) ≡ None
    → ((k : ℕ) → k < w → bit r k ≡ new_value cs k (bit s k)) → r ≡ new_sheet n s cs
unfolding new_sheet
new_sheet_is w n s r cs m h b e v =
    let whole : w ≡ n + (w - n) = omega arith in
    digits_front n (w - n) r (λ k. new_value cs k (bit s k)) (subst (λ (x : ℕ). r < 2 ^ x) whole b)
    (λ k l. v k (omega arith)) (λ k l. new_value_above n cs k (bit s k) (fact_below n cs e) l ∙ bit_above n s k h l)
