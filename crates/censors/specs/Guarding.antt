-- The two start tests keep the first two laws, and so the three censors keep all six.
use Rattle.std.specs.Prelude.{◌≡◌, Bool, true, false, not, ◌&&◌, List, slice_index_or, refl}
use Rattle.std.proofs.Common.{ap, subst}
use Rattle.std.proofs.lemmas.Bool.{not-true, not_from_true, and_left, and_right}
use Rattle.sheets.specs.declared.SheetSet.{SheetSet}
use Rattle.sheets.specs.Sets.{mem, within_one, within_union}
use Rattle.sheets.proofs.Laws.{any_false, within_not, within_one_fails, within_one_not, within_union_fails, within_union_not}
use Rattle.censors.specs.declared.question.Question.{Question}
use Rattle.censors.specs.declared.question.Value.{Value}
use Rattle.censors.specs.declared.question.Value.TheVariants.{Yes, No}
use Rattle.censors.specs.Builtin.{good_singly, good_jointly}
use Rattle.censors.specs.Laws.{no_sheet}
use Rattle.censors.specs.Questions.{value_in, with_value}
use Rattle.censors.specs.Parts.{with-own}
use Rattle.censors.specs.TableRules.{Guards}

pub singly : Guards good_singly
singly = record {
  enough = λ r xs few s h m out. ap not (within_one_not r xs no_sheet (λ k l. within_not r (slice_index_or xs k no_sheet) s h m (any_false (λ x. mem x s) xs no_sheet out k l)));
  leaves = λ r xs few g k l.
      let out = within_one_fails r xs no_sheet (not-true (within_one r xs) g) k l in
      record { sheet = out.0; small = out.1; inside = out.2; outside = out.3 };
}

pub jointly : Guards good_jointly
jointly = record {
  enough = λ r xs few s h m out. ap not (within_union_not r xs s h m out);
  leaves = λ r xs few g k l.
      let out = within_union_fails r xs (not-true (within_union r xs) g) in
      record { sheet = out.0; small = out.1; inside = out.2; outside = any_false (λ x. mem x out.0) xs no_sheet out.3 k l };
}

-- a sheet of a good record outside all secrets keeps one of the two values harmless
by_value : (a b : Bool) (v : Value) → (v ≡ Yes → a ≡ true) → (v ≡ No → b ≡ true) → (not a && not b) ≡ false
by_value a b Yes f g = and_left (not a) (not b) (not_from_true a (f refl))
by_value a b No f g = and_right (not a) (not b) (not_from_true b (g refl))

pub spared : (r : SheetSet) (xs : List SheetSet) (q : Question) → good_jointly r xs ≡ true
    → (not (good_jointly (with_value r q Yes) xs) && not (good_jointly (with_value r q No) xs)) ≡ false
spared r xs q g =
    let out = within_union_fails r xs (not-true (within_union r xs) g) in
    let stays : (v : Value) → value_in q out.0 ≡ v → good_jointly (with_value r q v) xs ≡ true =
    λ v e. ap not (within_union_not (with_value r q v) xs out.0 out.1 (subst (λ (w : Value). mem (with_value r q w) out.0 ≡ true) e (with-own r q out.0 out.1 out.2)) out.3) in
    by_value (good_jointly (with_value r q Yes) xs) (good_jointly (with_value r q No) xs) (value_in q out.0) (stays Yes) (stays No)
