-- What a text means and why one is refused, by the grammar alone.
use Rattle.std.specs.Prelude.{◌≡◌, ℕ, ◌^◌, ◌<◌, ◌≤◌, ◌&&◌, List, ◌∷◌, ◌++◌, length, Some, None, Ok, Err, Result, nat_lt}
use Rattle.sheets.specs.Sets.{set_of}
use Rattle.sentences.specs.declared.faults.SentenceFault.{SentenceFault}
use Rattle.sentences.specs.declared.faults.Returned.{Returned}
use Rattle.sentences.specs.declared.faults.Returned.TheVariants.{Place, Index, Kind}
use Rattle.sentences.specs.declared.reading.Meaning.{Meaning}
use Rattle.sentences.specs.Faults.{sentence_refusal}
use Rattle.sentences.specs.Grammar.{Sentence, sentence_true}
use Rattle.sentences.specs.Names.{Word, fact_of}
use Rattle.sentences.specs.Tokens.{Tok, sign, word, Lexed, Strays, Ended, Tokens}

-- the text is a sentence over the names, and m is what it means: the sheets of a box with these names in which it is true, and how many tokens it has
pub record Means (ns : List Word) (s : List ℕ) (m : Meaning) : Type 0 where
  pub short : length s ≤ 256
  pub tokens : List Tok
  pub upto : ℕ
  pub places : Tokens s 0 tokens upto
  pub ended : Ended s upto
  pub derives : Sentence ns tokens
  pub sheets : m.sheets ≡ set_of (λ k. nat_lt k (2 ^ length ns) && sentence_true derives k)
  pub count : m.tokens ≡ length tokens

-- a word has to be a name
abbrev pub Known : List Word → Tok → Type 0
Known ns (sign g) = Unit {0}
Known ns (word w) = (i : ℕ) × (fact_of ns w ≡ Some i)

-- after the tokens ts, which end before `upto`, the test with this number fails at this place: the next byte, the next token's name, whether some sentence begins with the tokens up to the next, or whether the tokens are a sentence where the text ends
pub data Failing (ns : List Word) (s : List ℕ) (ts : List Tok) (upto : ℕ) : ℕ → ℕ → Type 0 where
  byte : {p : ℕ} → Strays s upto p → Failing ns s ts upto 2 p
  name : {w : Word} {p q : ℕ} → Lexed s upto (word w) p q → fact_of ns w ≡ None → Failing ns s ts upto 3 p
  fit : {t : Tok} {p q : ℕ} → Lexed s upto t p q → Known ns t → ((rest : List Tok) → Sentence ns (ts ++ t ∷ rest) → ⊥) → Failing ns s ts upto 4 p
  end : Ended s upto → (Sentence ns ts → ⊥) → Failing ns s ts upto 4 (length s)

-- the text is refused under this number with this place: it is too long, or it is the first test that fails, since some sentence begins with the tokens before
pub data Refused (ns : List Word) (s : List ℕ) : ℕ → ℕ → Type 0 where
  long : 256 < length s → Refused ns s 1 256
  stops : {n p : ℕ} → length s ≤ 256 → (ts : List Tok) (upto : ℕ) → Tokens s 0 ts upto → (rest : List Tok) → Sentence ns (ts ++ rest) → Failing ns s ts upto n p → Refused ns s n p

-- the place that a refusal returns
abbrev pub place_of : Returned → ℕ
place_of (Place p) = p
place_of (Index i) = i
place_of (Kind k) = 0

-- the answer that the grammar gives
abbrev pub Answers : List Word → List ℕ → Result Meaning SentenceFault → Type 0
Answers ns s (Ok m) = Means ns s m
Answers ns s (Err f) = Refused ns s (sentence_refusal f).number (place_of (sentence_refusal f).returned)

-- r is the answer that the grammar gives, and no other is
pub record Exactly (ns : List Word) (s : List ℕ) (r : Result Meaning SentenceFault) : Type 0 where
  pub answers : Answers ns s r
  pub only : (x : Result Meaning SentenceFault) → Answers ns s x → x ≡ r
