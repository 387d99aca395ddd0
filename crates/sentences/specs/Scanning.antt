-- The tokens of a text by a function: each byte is put in front of what the bytes after it give.
use Rattle.std.specs.Prelude.{◌≡◌, ℕ, ◌+◌, ◌<◌, ◌≤◌, Bool, true, false, List, [], ◌∷◌, length, drop, Some, None, Ok, Err, Option, Result}
use Rattle.sentences.specs.declared.tokens.Class.{Class}
use Rattle.sentences.specs.declared.tokens.Class.TheVariants.{Blank, Letter, Sign, Other}
use Rattle.sentences.specs.declared.tokens.Token.{Token}
use Rattle.sentences.specs.declared.tokens.Token.TheVariants as variant
use Rattle.sentences.specs.declared.tokens.Found.{Found}
use Rattle.sentences.specs.declared.faults.SentenceFault.{SentenceFault}
use Rattle.sentences.specs.declared.faults.SentenceFault.TheVariants.{Stray}
use Rattle.sentences.specs.Tokens.{Tok, sign, word, class_of}

-- what stands in a text from left to right: tokens, each with its start and the place after it, and then the end or a stray byte
pub data Scan : Type 0 where
  end : ℕ → Scan
  stray : ℕ → Scan
  token : Tok → ℕ → ℕ → Scan → Scan

abbrev pub is_letter : Class → Bool
is_letter Blank = false
is_letter Letter = true
is_letter (Sign g) = false
is_letter Other = false

-- whether the bytes begin with a letter
abbrev pub lettered : List ℕ → Bool
lettered [] = false
lettered (b ∷ bs) = is_letter (class_of b)

-- the letter b at p in front of a word that begins at once
abbrev pub longer : ℕ → ℕ → Scan → Scan
longer b p (end q) = end q
longer b p (stray q) = stray q
longer b p (token (sign g) a z rest) = token (sign g) a z rest
longer b p (token (word w) a z rest) = token (word (b ∷ w)) p z rest

-- the byte b at p, of the class, in front of what stands after it, which begins with a letter or does not
abbrev pub put : Class → Bool → ℕ → ℕ → Scan → Scan
put Blank more b p rest = rest
put Letter true b p rest = longer b p rest
put Letter false b p rest = token (word (b ∷ [])) p (p + 1) rest
put (Sign g) more b p rest = token (sign g) p (p + 1) rest
put Other more b p rest = stray p

unfoldable pub scan : ℕ → List ℕ → Scan
scan p [] = end p
scan p (b ∷ bs) = put (class_of b) (lettered bs) b p (scan (p + 1) bs)

-- what stands in s from p on
unfoldable pub scan_at : List ℕ → ℕ → Scan
scan_at s p = scan p (drop p s)

abbrev pub tok_of : Token → Tok
tok_of (variant.Sign g) = sign g
tok_of (variant.Word w) = word w.now

-- from `at` on the next token of s is t, and s goes on after it
pub record Goes (s : List ℕ) (at : ℕ) (t : Tok) (start after : ℕ) : Type 0 where
  pub scans : scan_at s at ≡ token t start after (scan_at s after)
  pub moves : at < after
  pub within : after ≤ length s

-- what stands next in s from `at` on: nothing, a byte that belongs to no token, or a token
abbrev pub NextIs : List ℕ → ℕ → Result (Option (Found Token)) SentenceFault → Type 0
NextIs s at (Ok None) = scan_at s at ≡ end (length s)
NextIs s at (Ok (Some x)) = Goes s at (tok_of x.what) x.start x.after
NextIs s at (Err f) = (p : ℕ) × (f ≡ Stray p) × (scan_at s at ≡ stray p)
