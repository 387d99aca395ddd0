-- What every censor owes: the six laws, and nothing more.
use Rattle.std.specs.Prelude.{◌≡◌, ℕ, ◌<◌, ◌≤◌, Bool, true, false, List, length, slice_index_or}
use Rattle.sheets.specs.declared.SheetSet.{SheetSet}
use Rattle.sheets.specs.Sets.{mem, any, set_of, SameMembers}
use Rattle.censors.specs.declared.question.Decision.{Decision}
use Rattle.censors.specs.declared.question.Question.{Question}
use Rattle.censors.specs.declared.question.Reply.{Reply}
use Rattle.censors.specs.declared.question.Reply.TheVariants.{Said}
use Rattle.censors.specs.declared.question.Value.{Value}
use Rattle.censors.specs.Questions.{value_in, with_value}

-- a censor is told one to eight secrets, each as the set of the sheets in which it is true
pub record Few (xs : List SheetSet) : Type 0 where
  pub some : 1 ≤ length xs
  pub most : length xs ≤ 8

abbrev pub no_sheet : SheetSet
no_sheet = set_of (λ s. false)

-- some sheet of the record r is not in x
pub record LeftOut (r x : SheetSet) : Type 0 where
  pub sheet : ℕ
  pub small : sheet < 256
  pub inside : mem r sheet ≡ true
  pub outside : mem x sheet ≡ false

-- the record a is a part of the record b
abbrev pub PartOf : SheetSet → SheetSet → Type 0
PartOf a b = (s : ℕ) → s < 256 → mem a s ≡ true → mem b s ≡ true

-- the start test, the decision and the entry: three functions of what a censor is told
pub record Laws (good : SheetSet → List SheetSet → Bool) (decided : SheetSet → List SheetSet → Question → Value → Decision)
    (after : SheetSet → List SheetSet → Question → Reply → SheetSet) : Type 0 where
  -- a record with a sheet outside all secrets is good
  pub enough : (r : SheetSet) (xs : List SheetSet) → Few xs → (s : ℕ) → s < 256 → mem r s ≡ true → any (λ x. mem x s) xs ≡ false → good r xs ≡ true
  -- of a good record each secret leaves out some sheet
  pub leaves : (r : SheetSet) (xs : List SheetSet) → Few xs → good r xs ≡ true → (k : ℕ) → k < length xs → LeftOut r (slice_index_or xs k no_sheet)
  -- the record after a reply is a part of the record before
  pub part : (r : SheetSet) (xs : List SheetSet) → Few xs → (q : Question) (v : Value) → PartOf (after r xs q (decided r xs q v).reply) r
  -- a good record stays good, for either value
  pub stays : (r : SheetSet) (xs : List SheetSet) → Few xs → good r xs ≡ true → (q : Question) (v : Value) → good (after r xs q (decided r xs q v).reply) xs ≡ true
  -- every sheet of the new record, had it been the true one, would have brought the same reply
  pub same : (r : SheetSet) (xs : List SheetSet) → Few xs → (q : Question) (v : Value) (s : ℕ) → s < 256
      → mem (after r xs q (decided r xs q v).reply) s ≡ true → (decided r xs q (value_in q s)).reply ≡ (decided r xs q v).reply
  -- where the record would stay good under every value, the value is said, and the new record has the sheets with that value
  pub plain : (r : SheetSet) (xs : List SheetSet) → Few xs → (q : Question) → ((w : Value) → good (with_value r q w) xs ≡ true) → (v : Value)
      → ((decided r xs q v).reply ≡ Said v) × SameMembers (after r xs q (decided r xs q v).reply) (with_value r q v)
