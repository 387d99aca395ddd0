-- The sheets of a record with a value, by their members.
use Rattle.std.specs.Prelude.{◌≡◌, ℕ, ◌<◌, Bool, true, false, cond, not, ◌&&◌, refl}
use Rattle.std.proofs.Common.{sym, ap₂, ◌∙◌}
use Rattle.std.proofs.Math.Path.{ap}
use Rattle.sheets.specs.declared.SheetSet.{SheetSet}
use Rattle.sheets.specs.Sets.{mem, meet, minus}
use Rattle.sheets.proofs.Laws.{mem-set_of, set_of_ext}
use Rattle.std.proofs.lemmas.Bool.{and_parts}
use Rattle.censors.specs.declared.question.Question.{Question}
use Rattle.censors.specs.declared.question.Value.{Value}
use Rattle.censors.specs.declared.question.Value.TheVariants.{Yes, No}
use Rattle.censors.specs.Questions.{value_in, same_value, with_value}
use Rattle.censors.specs.Laws.{PartOf}

is_yes : (b : Bool) → same_value (cond b Yes No) Yes ≡ b
is_yes true = refl
is_yes false = refl

is_no : (b : Bool) → same_value (cond b Yes No) No ≡ not b
is_no true = refl
is_no false = refl

module _ (r : SheetSet) (q : Question) where
  pub with-yes : meet r q.yes ≡ with_value r q Yes
  unfolding meet with_value value_in
  with-yes = set_of_ext _ _ (λ s h. ap (λ (b : Bool). mem r s && b) (sym (is_yes (mem q.yes s))))

  pub with-no : minus r q.yes ≡ with_value r q No
  unfolding minus with_value value_in
  with-no = set_of_ext _ _ (λ s h. ap (λ (b : Bool). mem r s && b) (sym (is_no (mem q.yes s))))

  pub mem-with : (v : Value) (s : ℕ) → s < 256 → mem (with_value r q v) s ≡ (mem r s && same_value (value_in q s) v)
  unfolding with_value
  mem-with v s h = mem-set_of _ s h

same_value_is : (v w : Value) → same_value v w ≡ true → v ≡ w
same_value_is Yes Yes e = refl
same_value_is Yes No e = cc
same_value_is No Yes e = cc
same_value_is No No e = refl

value_same : (v : Value) → same_value v v ≡ true
value_same Yes = refl
value_same No = refl

module _ (r : SheetSet) (q : Question) where
  -- a sheet of the record is among those with the value that the question has there
  pub with-own : (s : ℕ) → s < 256 → mem r s ≡ true → mem (with_value r q (value_in q s)) s ≡ true
  with-own s h e = mem-with r q (value_in q s) s h ∙ ap₂ (λ (a b : Bool). a && b) e (value_same (value_in q s))

  -- a sheet with the value is in the record, and has the value
  pub with_part : (v : Value) → PartOf (with_value r q v) r
  with_part v s h e = (and_parts _ _ (sym (mem-with r q v s h) ∙ e)).0

  pub with-has : (v : Value) (s : ℕ) → s < 256 → mem (with_value r q v) s ≡ true → value_in q s ≡ v
  with-has v s h e = same_value_is _ _ (and_parts _ _ (sym (mem-with r q v s h) ∙ e)).1
