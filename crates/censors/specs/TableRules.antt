-- A table that passes one computed test keeps the rules, and a table that keeps the rules makes a lawful censor.
use Rattle.std.specs.Prelude.{◌≡◌, ℕ, ◌<◌, Bool, true, false, not, ◌&&◌, ◌||◌, List, length, slice_index_or, refl}
use Rattle.std.proofs.Common.{sym, ap, ap₂, ◌∙◌}
use Rattle.std.proofs.lemmas.Bool.{and_parts, not-true, not-false, false≢true}
use Rattle.sheets.specs.declared.SheetSet.{SheetSet}
use Rattle.sheets.specs.Sets.{mem, any}
use Rattle.censors.specs.declared.question.Question.{Question}
use Rattle.censors.specs.declared.question.Reply.{Reply}
use Rattle.censors.specs.declared.question.Reply.TheVariants.{Said, Mum}
use Rattle.censors.specs.declared.question.Value.{Value}
use Rattle.censors.specs.declared.question.Value.TheVariants.{Yes, No}
use Rattle.censors.specs.declared.table.Harm.{Harm}
use Rattle.censors.specs.Laws.{Few, no_sheet, LeftOut, PartOf, Laws}
use Rattle.censors.specs.Questions.{value_in, same_value, with_value}
use Rattle.censors.specs.Tables.{Table, harmful, entry, refusing, speaking, Rules, Candid, harm_of, decided_by, entered}
use Rattle.censors.specs.Parts.{with_part, with-has}

abbrev every_value : (Value → Bool) → Bool
every_value f = f Yes && f No

abbrev every_bool : (Bool → Bool) → Bool
every_bool f = f false && f true

abbrev every_harm : (Harm → Bool) → Bool
every_harm f = every_bool (λ y. every_bool (λ n. f (record { yes = y; no = n })))

value_at : (f : Value → Bool) → every_value f ≡ true → (v : Value) → f v ≡ true
value_at f e Yes = (and_parts (f Yes) (f No) e).0
value_at f e No = (and_parts (f Yes) (f No) e).1

bool_at : (f : Bool → Bool) → every_bool f ≡ true → (b : Bool) → f b ≡ true
bool_at f e false = (and_parts (f false) (f true) e).0
bool_at f e true = (and_parts (f false) (f true) e).1

harm_at : (f : Harm → Bool) → every_harm f ≡ true → (h : Harm) → f h ≡ true
harm_at f e h = bool_at (λ n. f (record { yes = h.yes; no = n })) (bool_at (λ y. every_bool (λ n. f (record { yes = y; no = n }))) e h.yes) h.no

abbrev says : Reply → Value → Bool
says (Said w) v = same_value w v
says Mum v = false

abbrev is_mum : Reply → Bool
is_mum (Said w) = false
is_mum Mum = true

-- the test of one entry: a value that is said is harmless and is what it brings itself, mum stands beside mum alone, and where nothing would harm the value is said
abbrev fine : Table → Harm → Value → Reply → Bool
fine t h v (Said w) = not (harmful h w) && (says (entry t h w) w && (harmful h Yes || (harmful h No || same_value w v)))
fine t h v Mum = every_value (λ w. is_mum (entry t h w)) && (harmful h Yes || harmful h No)

abbrev passes : Table → Bool
passes t = every_harm (λ h. every_value (λ v. fine t h v (entry t h v)))

said : (a : Reply) (w : Value) → says a w ≡ true → a ≡ Said w
said (Said Yes) Yes e = refl
said (Said Yes) No e = absurd (false≢true e)
said (Said No) Yes e = absurd (false≢true e)
said (Said No) No e = refl
said Mum w e = absurd (false≢true e)

mum : (a : Reply) → is_mum a ≡ true → a ≡ Mum
mum (Said w) e = absurd (false≢true e)
mum Mum e = refl

-- where neither value would harm, the entry is the value
plain_entry : (t : Table) (h : Harm) (v : Value) (a : Reply) → harmful h Yes ≡ false → harmful h No ≡ false → fine t h v a ≡ true → a ≡ Said v
plain_entry t h v (Said w) y n e =
    let last = (and_parts (says (entry t h w) w) _ (and_parts (not (harmful h w)) _ e).1).1 in
    said (Said w) v (sym (ap₂ (λ (a b : Bool). a || (b || same_value w v)) y n) ∙ last)
plain_entry t h v Mum y n e =
    let last = (and_parts (every_value (λ w. is_mum (entry t h w))) _ e).1 in
    absurd (false≢true (sym (ap₂ (λ (a b : Bool). a || b) y n) ∙ last))

module _ (t : Table) (p : passes t ≡ true) where
  -- the test at one entry
  at : (h : Harm) (v : Value) (a : Reply) → entry t h v ≡ a → fine t h v a ≡ true
  at h v a e =
      sym (ap (fine t h v) e)
      ∙ value_at (λ v. fine t h v (entry t h v)) (harm_at (λ h. every_value (λ v. fine t h v (entry t h v))) p h) v

  pub rules : Rules t
  rules = record {
    harmless = λ h v w e. not-true (harmful h w) (and_parts (not (harmful h w)) _ (at h v (Said w) e)).0;
    value = λ h v f. plain_entry t h v (entry t h v) (f Yes) (f No) (at h v (entry t h v) refl);
    all_mum = λ h v w e. mum (entry t h w) (value_at (λ w. is_mum (entry t h w)) (and_parts (every_value (λ w. is_mum (entry t h w))) _ (at h v Mum e)).0 w);
    brings = λ h v w e. said (entry t h w) w (and_parts (says (entry t h w) w) _ (and_parts (not (harmful h w)) _ (at h v (Said w) e)).1).0;
  }

-- the two tables pass
pub refusing_rules : Rules refusing
unfolding entry
refusing_rules = rules refusing refl

pub speaking_rules : Rules speaking
unfolding entry
speaking_rules = rules speaking refl

or_else : (a b : Bool) → a ≡ false → (a || b) ≡ true → b ≡ true
or_else a b e f = sym (ap (λ (x : Bool). x || b) e) ∙ f

-- a harmless value is said as it is
pub speaking_candid : Candid speaking
unfolding entry
speaking_candid h v e =
    said (entry speaking h v) v
    (or_else (harmful h v) _ e (value_at (λ v. harmful h v || says (entry speaking h v) v) (harm_at (λ h. every_value (λ v. harmful h v || says (entry speaking h v) v)) refl h) v))

-- what a start test has to keep: the first two laws
pub record Guards (good : SheetSet → List SheetSet → Bool) : Type 0 where
  pub enough : (r : SheetSet) (xs : List SheetSet) → Few xs → (s : ℕ) → s < 256 → mem r s ≡ true → any (λ x. mem x s) xs ≡ false → good r xs ≡ true
  pub leaves : (r : SheetSet) (xs : List SheetSet) → Few xs → good r xs ≡ true → (k : ℕ) → k < length xs → LeftOut r (slice_index_or xs k no_sheet)

module _ (good : SheetSet → List SheetSet → Bool) where
  harm_is : (r : SheetSet) (xs : List SheetSet) (q : Question) (v : Value) → harmful (harm_of good r xs q) v ≡ not (good (with_value r q v) xs)
  harm_is r xs q Yes = refl
  harm_is r xs q No = refl

  -- the record after an entry, by the entry
  entered-part : (r : SheetSet) (q : Question) (a : Reply) → PartOf (entered r q a) r
  entered-part r q (Said w) = with_part r q w
  entered-part r q Mum = λ s h e. e

  module _ (t : Table) (k : Rules t) (r : SheetSet) (xs : List SheetSet) (q : Question) (v : Value) where
    entered_good : (a : Reply) → entry t (harm_of good r xs q) v ≡ a → good r xs ≡ true → good (entered r q a) xs ≡ true
    entered_good (Said w) e g = not-false _ (sym (harm_is r xs q w) ∙ k.harmless (harm_of good r xs q) v w e)
    entered_good Mum e g = g

    entered_same : (a : Reply) → entry t (harm_of good r xs q) v ≡ a → (s : ℕ) → s < 256 → mem (entered r q a) s ≡ true
        → entry t (harm_of good r xs q) (value_in q s) ≡ a
    entered_same (Said w) e s h m = ap (entry t (harm_of good r xs q)) (with-has r q w s h m) ∙ k.brings (harm_of good r xs q) v w e
    entered_same Mum e s h m = k.all_mum (harm_of good r xs q) v (value_in q s) e

    entered-plain : ((w : Value) → good (with_value r q w) xs ≡ true) → entry t (harm_of good r xs q) v ≡ Said v
    entered-plain f = k.value (harm_of good r xs q) v (λ w. harm_is r xs q w ∙ ap not (f w))

  -- a table that keeps the rules, with such a start test, keeps the six laws
  pub lawful : Guards good → (t : Table) → Rules t → Laws good (decided_by good t) (λ r xs q a. entered r q a)
  lawful g t k = record {
    enough = g.enough;
    leaves = g.leaves;
    part = λ r xs few q v. entered-part r q (entry t (harm_of good r xs q) v);
    stays = λ r xs few ok q v. entered_good t k r xs q v (entry t (harm_of good r xs q) v) refl ok;
    same = λ r xs few q v. entered_same t k r xs q v (entry t (harm_of good r xs q) v) refl;
    plain = λ r xs few q f v. (entered-plain t k r xs q v f, λ s h. ap (λ (a : Reply). mem (entered r q a) s) (entered-plain t k r xs q v f));
  }
