-- The sheets that keep house rules.
use Rattle.std.proofs.Common.{◌≡◌, ℕ, ◌^◌, Bool, true, false, ◌&&◌, ltb, List, [], ◌∷◌, ◌++◌, fold, length, sym, refl, ap, ◌∙◌, append_assoc}
use Rattle.std.proofs.lemmas.List.{append-nil}
use Rattle.sheets.specs.declared.SheetSet.{SheetSet}
use Rattle.sheets.specs.Sets.{mem, meet, set_of}
use Rattle.sheets.proofs.Laws.{mem-set_of, set_of_ext}
use Rattle.histories.specs.Calls.{House, all_have, lawful_sheets}
use Rattle.histories.specs.Calls.{keeping}

and-all : (b : Bool) → (b && true) ≡ b
and-all true = refl
and-all false = refl

and_assoc : (a b c : Bool) → (a && (b && c)) ≡ ((a && b) && c)
and_assoc true b c = refl
and_assoc false b c = refl

have_push : (xs : List SheetSet) (x : SheetSet) (s : ℕ) → all_have (xs ++ (x ∷ [])) s ≡ (all_have xs s && mem x s)
have_push [] x s = and-all (mem x s)
have_push (y ∷ xs) x s = ap (λ (b : Bool). mem y s && b) (have_push xs x s) ∙ and_assoc (mem y s) (all_have xs s) (mem x s)

keeping_push : (n : ℕ) (xs : List SheetSet) (x : SheetSet) → meet (keeping n xs) x ≡ keeping n (xs ++ (x ∷ []))
unfolding meet
keeping_push n xs x =
    set_of_ext _ _ (λ s h.
    ap (λ (b : Bool). b && mem x s) (mem-set_of (λ t. ltb t (2 ^ n) && all_have xs t) s h)
    ∙ sym (and_assoc (ltb s (2 ^ n)) (all_have xs s) (mem x s))
    ∙ ap (λ (b : Bool). ltb s (2 ^ n) && b) (sym (have_push xs x s)))

keeping_fold : (n : ℕ) (ys xs : List SheetSet) → fold meet (keeping n ys) xs ≡ keeping n (ys ++ xs)
keeping_fold n ys [] = ap (keeping n) (sym (append-nil ys))
keeping_fold n ys (x ∷ xs) = ap (λ (z : SheetSet). fold meet z xs) (keeping_push n ys x) ∙ keeping_fold n (ys ++ (x ∷ [])) xs ∙ ap (keeping n) (append_assoc ys (x ∷ []) xs)

-- the rules met one after the other with the sheets of a box
pub keeping_met : (n : ℕ) (xs : List SheetSet) → fold meet (set_of (λ s. ltb s (2 ^ n))) xs ≡ keeping n xs
keeping_met n xs = ap (λ (z : SheetSet). fold meet z xs) (set_of_ext _ _ (λ s h. sym (and-all (ltb s (2 ^ n))))) ∙ keeping_fold n [] xs

pub keeping_lawful : (h : House) → keeping (length h.names) h.rules ≡ lawful_sheets h
unfolding lawful_sheets
keeping_lawful h = refl
