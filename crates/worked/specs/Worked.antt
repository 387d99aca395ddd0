-- Worked examples, with the names full, late and sold: a small table, each row of which follows from the rules.
use Rattle.std.specs.Prelude.{◌≡◌, ℕ, zero, suc, Bool, false, ◌||◌, List, [], ◌∷◌, Some, None, Ok, Err, codes, Option, Result, ◌==◌}
use Rattle.std.specs.Borrow.{Bor}
use Rattle.sheets.specs.declared.SheetSet.{SheetSet}
use Rattle.sheets.specs.Sets.{set_of}
use Rattle.sentences.specs.declared.faults.SentenceFault.{SentenceFault}
use Rattle.sentences.specs.declared.reading.Meaning.{Meaning}
use Rattle.sentences.specs.Faults.{sentence_refusal}
use Rattle.sentences.specs.Names.{Word}
use Rattle.sentences.specs.Reading.{Means, Refused, place_of}

abbrev pub names : List Word
names = codes "full" ∷ codes "late" ∷ codes "sold" ∷ []

pub data Row : Type 0 where
  -- the text is a sentence, true in these sheets
  true_in : List ℕ → List ℕ → Row
  -- the text is refused under this number, with this place
  refused : List ℕ → ℕ → ℕ → Row

abbrev pub listed : List ℕ → ℕ → Bool
listed [] k = false
listed (x ∷ xs) k = k == x || listed xs k

-- the set of the sheets listed
abbrev pub sheets : List ℕ → SheetSet
sheets xs = set_of (listed xs)

-- the row follows from the rules
abbrev pub Holds : Row → Type 0
Holds (true_in text xs) = (m : Meaning) × Means names text m × (m.sheets ≡ sheets xs)
Holds (refused text n p) = Refused names text n p

abbrev pub text : Row → List ℕ
text (true_in t xs) = t
text (refused t n p) = t

-- what is read of a text, as a row has it
pub data Seen : Type 0 where
  set : SheetSet → Seen
  fault : ℕ → ℕ → Seen

abbrev pub seen : Result Meaning SentenceFault → Seen
seen (Ok m) = set m.sheets
seen (Err f) = fault (sentence_refusal f).number (place_of (sentence_refusal f).returned)

abbrev pub expected : Row → Seen
expected (true_in t xs) = set (sheets xs)
expected (refused t n p) = fault n p

abbrev pub AllHold : List Row → Type 0
AllHold [] = Unit {0}
AllHold (r ∷ rs) = Holds r × AllHold rs

abbrev pub rows : List Row
rows =
    true_in (codes "full & late") (3 ∷ 7 ∷ [])
    ∷ true_in (codes "full | late & sold") (1 ∷ 3 ∷ 5 ∷ 6 ∷ 7 ∷ [])
    ∷ true_in (codes "!full & late") (2 ∷ 6 ∷ [])
    ∷ refused (codes "") 4 0
    ∷ refused (codes "(full") 4 5
    ∷ []

-- the row with an index, if there is one
abbrev pub row_at : List Row → ℕ → Option Row
row_at [] i = None
row_at (r ∷ rs) zero = Some r
row_at (r ∷ rs) (suc i) = row_at rs i

abbrev pub seen_at : Option (Result Meaning SentenceFault) → Option Seen
seen_at (Some x) = Some (seen x)
seen_at None = None

abbrev pub expected_at : Option Row → Option Seen
expected_at (Some r) = Some (expected r)
expected_at None = None

abbrev pub text_at : Option Row → Option (List ℕ)
text_at (Some r) = Some (text r)
text_at None = None

-- the bytes that a reference points to, if there is one
abbrev pub bytes : Option (Bor (List ℕ)) → Option (List ℕ)
bytes (Some t) = Some t.now
bytes None = None
