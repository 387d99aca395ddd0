-- Any sheet can be had by an amendment of all the facts.
use Rattle.std.proofs.Common.{◌≡◌, ℕ, zero, suc, ◌+◌, ◌^◌, ◌<◌, ◌≤◌, Bool, false, List, map, length, get_or, None, sym, refl, ap, ◌∙◌, ⊎_elim, le_refl, add-one, arith}
use Rattle.std.proofs.lemmas.List.FromFn.{length-map-range_with_len, get_or-map-range_with_len}
use Rattle.std.proofs.lemmas.Bool.{eq-eqb, ne_eqb, lt-leb, cases_eq}
use Rattle.std.specs.List.{range_with_len}
use Rattle.sheets.specs.Sets.{bit}
use Rattle.sheets.proofs.Digits.{digits_ext, digits_below, digits-bit}
use Rattle.sentences.specs.Search.{first}
use Rattle.sentences.proofs.Searches.{first_none, first_more}
use Rattle.histories.specs.declared.data.Change.{Change}
use Rattle.histories.specs.Calls.{listed_before, bad_change, new_value, new_sheet}

pub new_sheet_below : (n s : ℕ) (cs : List Change) → new_sheet n s cs < 2 ^ n
unfolding new_sheet
new_sheet_below n s cs = digits_below (λ k. new_value cs k (bit s k)) n

-- ---- all n facts with the values that they have in t

abbrev valued : ℕ → ℕ → Change
valued t k = record { fact = k; value = bit t k }

abbrev pub all_facts : ℕ → ℕ → List Change
all_facts n t = map (valued t) (range_with_len 0 n)

new_value_is : (t a n k : ℕ) (old : Bool) → a ≤ k → k < a + n → new_value (map (valued t) (range_with_len a n)) k old ≡ bit t k
new_value_is t a zero k old l m = absurd (omega arith)
new_value_is t a (suc n) k old l m =
    ⊎_elim (λ e. rw (eq-eqb k a e) (ap (bit t) (sym e))) (λ ne. rw (ne_eqb k a ne) (new_value_is t (a + 1) n k old (omega arith) (omega arith))) (cases_eq k a)

pub new_sheet_all : (n s t : ℕ) → t < 2 ^ n → new_sheet n s (all_facts n t) ≡ t
unfolding new_sheet
new_sheet_all n s t l =
    digits_ext (λ k. new_value (all_facts n t) k (bit s k)) (bit t) n (λ k m. new_value_is t 0 n k (bit s k) (omega arith) (omega arith))
    ∙ digits-bit n t l

module _ (n t : ℕ) where
  fact-at : (i : ℕ) → i < n → (get_or (all_facts n t) i (record { fact = 0; value = false })).fact ≡ i
  fact-at i l = ap (λ (c : Change). c.fact) (get_or-map-range_with_len (valued t) 0 n i i (record { fact = 0; value = false }) l (omega arith))

  not-before : (f i : ℕ) → i ≤ f → i ≤ n → listed_before f (all_facts n t) i ≡ false
  not-before f zero l m = refl
  not-before f (suc i) l m = rw (fact-at i m, not-before f i (omega arith) (omega arith), ne_eqb f i (λ e. omega arith))

  no-bad : (i : ℕ) → i < n → bad_change n (all_facts n t) i ≡ false
  unfolding bad_change
  no-bad i l = rw (fact-at i l, lt-leb n i l, not-before i i (omega arith) (omega arith))

-- none is found where none passes
pub none_passes : (f : ℕ → Bool) (n : ℕ) → ((k : ℕ) → k < n → f k ≡ false) → first f n ≡ None
none_passes f zero e = first_none f
none_passes f (suc n) e = ap (first f) (sym (add-one n)) ∙ first_more f n (none_passes f n (λ k l. e k (omega arith))) (e n (le_refl (suc n)))

pub no_bad_change : (n t : ℕ) → first (bad_change n (all_facts n t)) (length (all_facts n t)) ≡ None
no_bad_change n t = ap (first (bad_change n (all_facts n t))) (length-map-range_with_len (valued t) 0 n) ∙ none_passes (bad_change n (all_facts n t)) n (no-bad n t)
