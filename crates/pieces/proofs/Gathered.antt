-- The pieces of texts that are added one after the other, and whether each of them has a pair.
use Rattle.std.proofs.Common.{◌≡◌, ℕ, ◌+◌, ◌-◌, ◌^◌, Bool, true, false, ◌&&◌, List, [], ◌∷◌, ◌++◌, length, min, nat_eq, if◌then◌else◌, refl, sym, ap, ◌∙◌, inl, inr, arith, length-append}
use Rattle.std.proofs.Math.Bool.{and_assoc}
use Rattle.std.specs.List.{concat}
use native.Mathlib.Numerals.{unary_clauses}
use Rattle.std.proofs.lemmas.Bool.{cases_eq}
use Rattle.std.proofs.lemmas.Bool.Decides.{nat_tests}
use Rattle.std.proofs.lemmas.List.Folds.{concat-append}
use Rattle.std.proofs.lemmas.List.{append-nil}
use Rattle.sentences.specs.declared.cuts.Cut.{Cut}
use Rattle.pieces.specs.Held.{Holds}
use Rattle.pieces.specs.Pairs.{fits, all_fit}
use Rattle.pieces.proofs.Held.{holds_more}

-- what is gathered from these texts
pub record Gathered (block : List ℕ) (cuts : List Cut) (left_out : ℕ) (texts : List (List ℕ)) : Type 0 where
  pub whole : nat_eq left_out 0 ≡ all_fit 0 texts
  pub joined : left_out ≡ 0 → block ≡ concat texts
  pub held : left_out ≡ 0 → Holds block cuts texts

and_true : (b : Bool) → (b && true) ≡ b
and_true true = refl
and_true false = refl

all_fit_push : (o : ℕ) (xs : List (List ℕ)) (x : List ℕ) → all_fit o (xs ++ x ∷ []) ≡ (all_fit o xs && fits (o + length (concat xs)) (length x))
all_fit_push o [] x = simp unary_clauses (and_true (fits o (length x)))
all_fit_push o (y ∷ ys) x =
    let more : all_fit (o + length y) (ys ++ x ∷ []) ≡ (all_fit (o + length y) ys && fits (o + length y + length (concat ys)) (length x)) = all_fit_push (o + length y) ys x in
    let here : o + length (y ++ concat ys) ≡ o + length y + length (concat ys) = omega (arith, length-append y (concat ys)) in
    ap (λ b. fits o (length y) && b) more
    ∙ sym (and_assoc (fits o (length y)) (all_fit (o + length y) ys) _)
    ∙ ap (λ n. (fits o (length y) && all_fit (o + length y) ys) && fits n (length x)) (sym here)

concat_push : (xs : List (List ℕ)) (x : List ℕ) → concat (xs ++ x ∷ []) ≡ concat xs ++ x
concat_push xs x = concat-append xs (x ∷ []) ∙ ap (λ ys. concat xs ++ ys) (append-nil x)

module _ (block : List ℕ) (cuts : List Cut) (n : ℕ) (texts : List (List ℕ)) (w : List ℕ) (h : Gathered block cuts n texts) where
  fit_of_texts : n ≡ 0 → all_fit 0 (texts ++ w ∷ []) ≡ fits (length block) (length w)
  fit_of_texts none =
      let all : all_fit 0 texts ≡ true = sym h.whole ∙ ap (λ k. nat_eq k 0) none in
      let at : length block ≡ 0 + length (concat texts) = omega (arith, ap length (h.joined none)) in
      all_fit_push 0 texts w ∙ ap (λ b. b && fits (0 + length (concat texts)) (length w)) all ∙ ap (λ k. fits k (length w)) (sym at)

  unfit_texts : nat_eq n 0 ≡ false → all_fit 0 (texts ++ w ∷ []) ≡ false
  unfit_texts some = all_fit_push 0 texts w ∙ ap (λ b. b && fits (0 + length (concat texts)) (length w)) (sym h.whole ∙ some)

  -- a text that has a pair
  gathered_fit : fits (length block) (length w) ≡ true → Gathered (block ++ w) (cuts ++ record { offset = length block; len = length w } ∷ []) n (texts ++ w ∷ [])
  gathered_fit fit = record {
    whole = elim (cases_eq n 0) [
      | inl none ↦ rw none (sym (fit_of_texts none ∙ fit))
      | inr some ↦ let no : nat_eq n 0 ≡ false = grind (arith, nat_tests) in no ∙ sym (unfit_texts no)
    ];
    joined = λ e. ap (λ b. b ++ w) (h.joined e) ∙ sym (concat_push texts w);
    held = λ e. holds_more block cuts texts w _ _ _ _ _ (h.held e) refl refl refl refl refl;
  }

  -- a text that has none
  gathered_unfit : fits (length block) (length w) ≡ false → Gathered (block ++ []) (cuts ++ []) (min (n + 1) (2 ^ 64 - 1)) (texts ++ w ∷ [])
  gathered_unfit unfit = record {
    whole =
        let no : nat_eq (min (n + 1) (2 ^ 64 - 1)) 0 ≡ false = grind (arith, nat_tests) in
        no ∙ elim (cases_eq n 0) [
          | inl none ↦ sym (fit_of_texts none ∙ unfit)
          | inr some ↦ let other : nat_eq n 0 ≡ false = grind (arith, nat_tests) in sym (unfit_texts other)
        ];
    joined = λ e. absurd (omega arith);
    held = λ e. absurd (omega arith);
  }

  gathered_either : (b : Bool) → fits (length block) (length w) ≡ b → Gathered (block ++ (if b then w else [])) (cuts ++ (if b then (record { offset = length block; len = length w } ∷ []) else [])) (if b then n else min (n + 1) (2 ^ 64 - 1)) (texts ++ w ∷ [])
  gathered_either true e = gathered_fit e
  gathered_either false e = gathered_unfit e

  -- what is gathered once one more text is added
  pub gathered_more : Gathered (block ++ (if fits (length block) (length w) then w else [])) (cuts ++ (if fits (length block) (length w) then (record { offset = length block; len = length w } ∷ []) else [])) (if fits (length block) (length w) then n else min (n + 1) (2 ^ 64 - 1)) (texts ++ w ∷ [])
  gathered_more = gathered_either (fits (length block) (length w)) refl
