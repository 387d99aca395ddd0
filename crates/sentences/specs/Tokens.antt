-- Tokens, and how each is spelled in a text. A text is its list of bytes; places count from 0.
use Rattle.std.specs.Prelude.{◌≡◌, ℕ, ◌+◌, ◌<◌, ◌≤◌, Bool, cond, ◌&&◌, ◌||◌, List, [], ◌∷◌, length, ◌==◌, ◌≢◌, nat_le, slice_index, slice_range}
use Rattle.sentences.specs.declared.tokens.Sign.{Sign}
use Rattle.sentences.specs.declared.tokens.Sign.TheVariants.{Not, And, Or, Open, Close}
use Rattle.sentences.specs.declared.tokens.Class.{Class}
use Rattle.sentences.specs.declared.tokens.Class.TheVariants as class

pub data Tok : Type 0 where
  sign : Sign → Tok
  word : List ℕ → Tok

-- a small letter or a digit
abbrev pub word_byte : ℕ → Bool
word_byte b = (nat_le 97 b && nat_le b 122) || (nat_le 48 b && nat_le b 57)

-- what a byte can be in a text
unfoldable pub class_of : ℕ → Class
class_of b =
    cond (word_byte b) class.Letter
    (cond (b == 32) class.Blank
    (cond (b == 33) (class.Sign Not)
    (cond (b == 38) (class.Sign And)
    (cond (b == 124) (class.Sign Or)
    (cond (b == 40) (class.Sign Open)
    (cond (b == 41) (class.Sign Close)
    class.Other))))))

-- each byte of s from i up to j is of the class
abbrev pub Run : Class → List ℕ → ℕ → ℕ → Type 0
Run c s i j = (k : ℕ) → i ≤ k → k < j → class_of (slice_index s k) ≡ c

abbrev pub Blanks : List ℕ → ℕ → ℕ → Type 0
Blanks = Run class.Blank

abbrev pub Letters : List ℕ → ℕ → ℕ → Type 0
Letters = Run class.Letter

-- the bytes of s from i up to j spell the token: a sign is one byte, a word is a longest run of letters
pub data Spelled (s : List ℕ) (i j : ℕ) : Tok → Type 0 where
  spells_sign : {g : Sign} → i < length s → class_of (slice_index s i) ≡ class.Sign g → j ≡ i + 1 → Spelled s i j (sign g)
  spells_word : i < j → j ≤ length s → Letters s i j → (j < length s → class_of (slice_index s j) ≢ class.Letter) → Spelled s i j (word (slice_range s i j))

-- from `at` on, blanks passed over, the next token of s is t, which stands from `start` up to `after`
pub record Lexed (s : List ℕ) (at : ℕ) (t : Tok) (start after : ℕ) : Type 0 where
  pub from : at ≤ start
  pub blanks : Blanks s at start
  pub spelled : Spelled s start after t

-- from `at` on, blanks passed over, s has at p a byte that belongs to no token
pub record Strays (s : List ℕ) (at p : ℕ) : Type 0 where
  pub from : at ≤ p
  pub within : p < length s
  pub blanks : Blanks s at p
  pub other : class_of (slice_index s p) ≡ class.Other

-- from `at` on s has nothing but blanks
pub record Ended (s : List ℕ) (at : ℕ) : Type 0 where
  pub within : at ≤ length s
  pub blanks : Blanks s at (length s)

-- the tokens of s from i up to j
pub data Tokens (s : List ℕ) : ℕ → List Tok → ℕ → Type 0 where
  stop : {i : ℕ} → Tokens s i [] i
  step : {i a j k : ℕ} {t : Tok} {ts : List Tok} → Lexed s i t a j → Tokens s j ts k → Tokens s i (t ∷ ts) k
