-- What the table holds: two with the same number and the same entries are the same, and so is what a loan of either leaves.
use Rattle.std.proofs.Common.{◌≡◌, ℕ, ◌<◌, ◌≤◌, Bool, cond, ltb, List, [], ◌∷◌, length, get_or, Some, None, Option, sym, refl, ap, ◌∙◌, subst, arith}
use Rattle.std.proofs.lemmas.Bool.{lt-ltb}
use Rattle.std.specs.Option.{IsSome}
use Rattle.std.specs.Coded.{le_prop, Coded-set, coded_ℕ}
use mathlib.Core.HLevel.{is_prop→PathP}
use mathlib.Core.Option as names
use base.Fml.{GName}
use borrow.Follows.Closed.{read_of}
use Rattle.querybox.specs.declared.inner.Inner.{Inner}

pub same_inner : {T : Type 0} (x y : Inner T) → x.count ≡ y.count → x.parties ≡ y.parties → x ≡ y
same_inner x y e p = λ i. record {
  count = e i;
  parties = p i;
  few = is_prop→PathP (λ j. e j ≤ 8) (λ j. le_prop) x.few y.few i;
  eight = is_prop→PathP (λ j. length (p j).items ≡ 8) (λ j. Coded-set coded_ℕ _ _) x.eight y.eight i;
}

pub read_same : {D E : Type 0} (n : names.Option GName) (F G : E → D) (v w : D) → ((y : E) → F y ≡ G y) → v ≡ w → read_of n F v ≡ read_of n G w
read_same n F G v w e k = λ i. read_of n (λ y. e y i) (k i)

-- an entry below the eighth is there
pub some_entry : {T : Type 0} (xs : List T) (p : ℕ) (r : Option T) → length xs ≡ 8 → p < 8 → ((d : T) → r ≡ cond (ltb p 8) (Some (get_or xs p d)) None) → IsSome r
some_entry [] p r l b e = absurd (omega arith)
some_entry (x ∷ xs) p r l b e =
    let is : r ≡ Some (get_or (x ∷ xs) p x) = e x ∙ ap (λ (t : Bool). cond t (Some (get_or (x ∷ xs) p x)) None) (lt-ltb p 8 b) in
    subst IsSome (sym is) refl
