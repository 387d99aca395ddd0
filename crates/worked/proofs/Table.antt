-- One computed test over the whole table, and what it says of each row.
use Rattle.std.proofs.Common.{◌≡◌, ℕ, zero, suc, List, [], ◌∷◌, map, Some, None, Ok, Err, Result, refl, ap, ◌∙◌, subst, arith}
use Rattle.sheets.specs.Sets.{bit, mem, digits, set_of, meet, union, outside}
use Rattle.sentences.specs.declared.faults.SentenceFault.{SentenceFault}
use Rattle.sentences.specs.declared.reading.Meaning.{Meaning}
use Rattle.sentences.specs.Faults.{sentence_refusal}
use Rattle.sentences.specs.Machine.{parse, tokens_in, reading}
use Rattle.sentences.specs.Names.{fact_of}
use Rattle.sentences.specs.Reading.{Answers, Refused, place_of}
use Rattle.sentences.specs.Scanning.{scan, scan_at}
use Rattle.sentences.specs.Search.{first}
use Rattle.sentences.specs.Tokens.{class_of}
use Rattle.sentences.proofs.Exact.{answered}
use Rattle.worked.specs.Worked.{names, Row, true_in, refused, Holds, text, seen, expected, row_at, text_at, expected_at, AllHold, rows}

-- the test: every row, read by the machine
tested : map (λ r. seen (reading names (text r))) rows ≡ map expected rows
unfolding reading parse tokens_in scan scan_at first fact_of class_of set_of digits mem bit meet union outside
tested = refl

-- from what is read of a text to what the rules say of it
holds_at : (r : Row) (x : Result Meaning SentenceFault) → Answers names (text r) x → seen x ≡ expected r → Holds r
holds_at (true_in t xs) (Ok m) a e = (m, a, cc)
holds_at (true_in t xs) (Err f) a e = let z : ◌≡◌ {A = ℕ} 0 1 = cc in absurd (omega arith)
holds_at (refused t n p) (Ok m) a e = let z : ◌≡◌ {A = ℕ} 0 1 = cc in absurd (omega arith)
holds_at (refused t n p) (Err f) a e =
    let number : (sentence_refusal f).number ≡ n = cc in
    let place : place_of (sentence_refusal f).returned ≡ p = cc in
    subst (λ (k : ℕ). Refused names t k p) number (subst (λ (k : ℕ). Refused names t (sentence_refusal f).number k) place a)

pub row_holds : (r : Row) → seen (reading names (text r)) ≡ expected r → Holds r
row_holds r = holds_at r (reading names (text r)) (answered names (text r) (omega arith))

all_hold : (rs : List Row) → map (λ r. seen (reading names (text r))) rs ≡ map expected rs → AllHold rs
all_hold [] e = tt
all_hold (r ∷ rs) e = (row_holds r (cc), all_hold rs (cc))

pub worked : AllHold rows
worked = all_hold rows tested

-- the text of a row is read as the row says
read_at : (rs : List Row) → map (λ r. seen (reading names (text r))) rs ≡ map expected rs → (i : ℕ) (t : List ℕ)
    → Some t ≡ text_at (row_at rs i) → Some (seen (reading names t)) ≡ expected_at (row_at rs i)
read_at [] e i t h = let z : ◌≡◌ {A = ℕ} 0 1 = cc in absurd (omega arith)
read_at (r ∷ rs) e zero t h =
    let same : t ≡ text r = cc in
    let here : seen (reading names (text r)) ≡ expected r = cc in
    ap Some (ap (λ (u : List ℕ). seen (reading names u)) same ∙ here)
read_at (r ∷ rs) e (suc i) t h = read_at rs (cc) i t h

pub row_read : (i : ℕ) (t : List ℕ) → Some t ≡ text_at (row_at rows i) → Some (seen (reading names t)) ≡ expected_at (row_at rows i)
row_read = read_at rows tested

pub no_row : (rs : List Row) (i : ℕ) → None ≡ text_at (row_at rs i) → None ≡ expected_at (row_at rs i)
no_row [] i h = refl
no_row (r ∷ rs) zero h = let z : ◌≡◌ {A = ℕ} 0 1 = cc in absurd (omega arith)
no_row (r ∷ rs) (suc i) h = no_row rs i h
