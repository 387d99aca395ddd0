-- Decision tables: a reply for each row, which says whether yes and whether no would harm, and each value.
use Rattle.std.specs.Prelude.{◌≡◌, ℕ, ◌+◌, Bool, false, cond, not, List, [], ◌∷◌, slice_index_or}
use Rattle.sheets.specs.declared.SheetSet.{SheetSet}
use Rattle.censors.specs.declared.question.Decision.{Decision}
use Rattle.censors.specs.declared.question.Question.{Question}
use Rattle.censors.specs.declared.question.Reply.{Reply}
use Rattle.censors.specs.declared.question.Reply.TheVariants.{Said, Mum}
use Rattle.censors.specs.declared.question.Value.{Value}
use Rattle.censors.specs.declared.question.Value.TheVariants.{Yes, No}
use Rattle.censors.specs.declared.table.Harm.{Harm}
use Rattle.censors.specs.Questions.{with_value}

abbrev pub Table : Type 0
Table = List (List Reply)

abbrev pub harmful : Harm → Value → Bool
harmful h Yes = h.yes
harmful h No = h.no

-- a row's place: 1 where yes would harm, and 2 where no would
abbrev pub row_of : Harm → ℕ
row_of h = cond h.yes 1 0 + cond h.no 2 0

abbrev pub column_of : Value → ℕ
column_of Yes = 0
column_of No = 1

abbrev pub no_reply : Reply
no_reply = Said Yes

unfoldable pub entry : Table → Harm → Value → Reply
entry t h v = slice_index_or (slice_index_or t (row_of h) []) (column_of v) no_reply

-- the value where neither reply would harm, and mum elsewhere, whatever the value
abbrev pub refusing : Table
refusing = (Said Yes ∷ Said No ∷ []) ∷ (Mum ∷ Mum ∷ []) ∷ (Mum ∷ Mum ∷ []) ∷ (Mum ∷ Mum ∷ []) ∷ []

-- the value where neither reply would harm, the harmless one where one would, and mum where both would
abbrev pub speaking : Table
speaking = (Said Yes ∷ Said No ∷ []) ∷ (Said No ∷ Said No ∷ []) ∷ (Said Yes ∷ Said Yes ∷ []) ∷ (Mum ∷ Mum ∷ []) ∷ []

-- what a table has to keep
pub record Rules (t : Table) : Type 0 where
  -- no reply is harmful in its row
  pub harmless : (h : Harm) (v w : Value) → entry t h v ≡ Said w → harmful h w ≡ false
  -- where neither reply would harm, the value is said
  pub value : (h : Harm) (v : Value) → ((w : Value) → harmful h w ≡ false) → entry t h v ≡ Said v
  -- a row that has mum is all mum
  pub all_mum : (h : Harm) (v w : Value) → entry t h v ≡ Mum → entry t h w ≡ Mum
  -- a value that is said in a row is what that value itself brings there
  pub brings : (h : Harm) (v w : Value) → entry t h v ≡ Said w → entry t h w ≡ Said w

-- and, of a table that tells no less than it may: a harmless value is said as it is
abbrev pub Candid : Table → Type 0
Candid t = (h : Harm) (v : Value) → harmful h v ≡ false → entry t h v ≡ Said v

module _ (good : SheetSet → List SheetSet → Bool) where
  -- which values would leave a record that is not good
  abbrev pub harm_of : SheetSet → List SheetSet → Question → Harm
  harm_of r xs q = record { yes = not (good (with_value r q Yes) xs); no = not (good (with_value r q No) xs) }

  abbrev pub decided_by : Table → SheetSet → List SheetSet → Question → Value → Decision
  decided_by t r xs q v = record { reply = entry t (harm_of r xs q) v }

-- after a value the sheets with that value are left, and mum leaves the record as it was
abbrev pub entered : SheetSet → Question → Reply → SheetSet
entered r q (Said v) = with_value r q v
entered r q Mum = r
