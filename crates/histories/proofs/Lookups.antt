-- What is found, or not: elements by their place, what may be absent, and what may be refused.
use Rattle.std.proofs.Common.{◌≡◌, ℕ, zero, suc, Bool, true, false, cond, eqb, ◌⊎◌, List, [], ◌∷◌, ◌++◌, map, length, Some, None, Ok, Err, Option, Result, refl, ap, ◌∙◌, inl, inr, ⊎_elim, arith}
use Rattle.std.specs.Prelude.{is_some, option_map}
use Rattle.std.proofs.lemmas.Bool.{both_ways, cases_eq, eq-eqb, ne_eqb}
use Rattle.sheets.specs.declared.SheetSet.{SheetSet}
use Rattle.sentences.specs.declared.faults.ListFault.{ListFault}
use Rattle.histories.specs.declared.data.BoxFault.{BoxFault}
use Rattle.histories.specs.Calls.{at, change, and_then, check, check_index, as_list}
use Rattle.histories.specs.Promise.{Each}

-- ---- what may be absent

-- P of what is there, if anything is
abbrev pub On : {A : Type 0} → (A → Type 0) → Option A → Type 0
On P None = Unit {0}
On P (Some a) = P a

-- it is there, and P of it
abbrev pub Has : {A : Type 0} → (A → Type 0) → Option A → Type 0
Has P None = ⊥
Has P (Some a) = P a

pub has_found : {A : Type 0} (P : A → Type 0) (o : Option A) → Has P o → (a : A) × (o ≡ Some a) × P a
has_found P None k = absurd k
has_found P (Some a) k = (a, refl, k)

pub is_none : {A : Type 0} (o : Option A) → is_some o ≡ false → o ≡ None
is_none None e = refl
is_none (Some a) e = absurd (both_ways true e refl)

pub is_some-option_map : {A B : Type 0} (f : A → B) (o : Option A) → is_some (option_map f o) ≡ is_some o
is_some-option_map f None = refl
is_some-option_map f (Some a) = refl

pub option_map_found : {A B : Type 0} (f : A → B) (o : Option A) {b : B} → option_map f o ≡ Some b → (a : A) × (o ≡ Some a) × (f a ≡ b)
option_map_found f None e = let z : ◌≡◌ {A = ℕ} 0 1 = cc in absurd (omega arith)
option_map_found f (Some a) e = (a, refl, cc)

pub cond-option_map : {A B : Type 0} (f : A → B) (t : Bool) (o : Option A) → cond t (option_map f o) None ≡ option_map f (cond t o None)
cond-option_map f true o = refl
cond-option_map f false o = refl

-- ---- elements by their place

pub at-change : {A : Type 0} (f : A → A) (xs : List A) (c : ℕ) (x : A) → at xs c ≡ Some x → at (change f xs c) c ≡ Some (f x)
at-change f [] c x e = cc
at-change f (y ∷ xs) zero x e = let same : y ≡ x = cc in ap (λ (z : _). Some (f z)) same
at-change f (y ∷ xs) (suc c) x e = at-change f xs c x e

pub at_change_other : {A : Type 0} (f : A → A) (xs : List A) (d c : ℕ) → (c ≡ d → ⊥) → at (change f xs d) c ≡ at xs c
at_change_other f [] d c ne = refl
at_change_other f (x ∷ xs) zero zero ne = absurd (ne refl)
at_change_other f (x ∷ xs) zero (suc c) ne = refl
at_change_other f (x ∷ xs) (suc d) zero ne = refl
at_change_other f (x ∷ xs) (suc d) (suc c) ne = at_change_other f xs d c (λ e. ne (ap suc e))

-- a change at d leaves c alone, or c is d
pub at-changed : {A : Type 0} (f : A → A) (xs : List A) (d c : ℕ) (x : A) → at xs d ≡ Some x
    → ((eqb c d ≡ true) × (at xs c ≡ Some x) × (at (change f xs d) c ≡ Some (f x))) ⊎ ((eqb c d ≡ false) × (at (change f xs d) c ≡ at xs c))
at-changed f xs d c x e =
    ⊎_elim (λ same. inl (eq-eqb c d same, ap (at xs) same ∙ e, ap (at (change f xs d)) same ∙ at-change f xs d x e))
    (λ ne. inr (ne_eqb c d ne, at_change_other f xs d c ne)) (cases_eq c d)

pub at_push : {A : Type 0} (xs : List A) (x : A) (c : ℕ) → (at (xs ++ x ∷ []) c ≡ at xs c) ⊎ ((at xs c ≡ None) × (at (xs ++ x ∷ []) c ≡ Some x) × (length xs ≡ c))
at_push [] x zero = inr (refl, refl, refl)
at_push [] x (suc c) = inl refl
at_push (y ∷ xs) x zero = inl refl
at_push (y ∷ xs) x (suc c) = ⊎_elim (λ e. inl e) (λ e. inr (e.0, e.1, ap suc e.2)) (at_push xs x c)

pub at_past : {A : Type 0} (xs : List A) (y : A) (ys : List A) → at (xs ++ y ∷ ys) (length xs) ≡ Some y
at_past [] y ys = refl
at_past (x ∷ xs) y ys = at_past xs y ys

pub map-change : {A B : Type 0} (g : A → B) (f : A → A) (f' : B → B) (xs : List A) (c : ℕ) → ((x : A) → at xs c ≡ Some x → f' (g x) ≡ g (f x))
    → change f' (map g xs) c ≡ map g (change f xs c)
map-change g f f' [] c h = refl
map-change g f f' (x ∷ xs) zero h = ap (λ (y : _). y ∷ map g xs) (h x refl)
map-change g f f' (x ∷ xs) (suc c) h = ap (λ (l : List _). g x ∷ l) (map-change g f f' xs c h)

pub each_append : {A : Type 0} (P : A → Type 0) (xs ys : List A) → Each P xs → Each P ys → Each P (xs ++ ys)
each_append P [] ys a b = b
each_append P (x ∷ xs) ys a b = (a.0, each_append P xs ys a.1 b)

pub each_front : {A : Type 0} (P : A → Type 0) (xs ys : List A) → Each P (xs ++ ys) → Each P xs
each_front P [] ys a = tt
each_front P (x ∷ xs) ys a = (a.0, each_front P xs ys a.1)

-- ---- what may be refused

-- what was found, or else a
abbrev pub ok_or : {A : Type 0} → A → Result A BoxFault → A
ok_or a (Ok b) = b
ok_or a (Err f) = a

pub never_ok : {A E : Type 0} {a : A} {f : E} → ◌≡◌ {A = Result A E} (Err f) (Ok a) → ⊥
never_ok e = let z : ◌≡◌ {A = ℕ} 0 1 = cc in omega arith

module _ {A : Type 0} {a : A} where
  pub check-ok : (b : Bool) (f : BoxFault) (r : Result A BoxFault) → check b f r ≡ Ok a → (b ≡ false) × (r ≡ Ok a)
  check-ok true f r e = absurd (never_ok e)
  check-ok false f r e = (refl, e)

  pub check-index-ok : (o : Option ℕ) (f : ℕ → BoxFault) (r : Result A BoxFault) → check_index o f r ≡ Ok a → (o ≡ None) × (r ≡ Ok a)
  check-index-ok (Some i) f r e = absurd (never_ok e)
  check-index-ok None f r e = (refl, e)

  pub and-then-ok : {B : Type 0} (r : Result B BoxFault) (go : B → Result A BoxFault) → and_then r go ≡ Ok a → (b : B) × (r ≡ Ok b) × (go b ≡ Ok a)
  and-then-ok (Ok b) go e = (b, refl, e)
  and-then-ok (Err f) go e = absurd (never_ok e)

pub as_list_ok : (f : ListFault → BoxFault) (r : Result (List SheetSet) ListFault) {xs : List SheetSet} → as_list f r ≡ Ok xs → r ≡ Ok xs
as_list_ok f (Ok ys) e = let same : ys ≡ _ = cc in ap Ok same
as_list_ok f (Err g) e = absurd (never_ok e)
