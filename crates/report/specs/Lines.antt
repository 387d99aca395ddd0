-- The lines of an input file, and what each is taken apart into.
use Rattle.std.specs.Prelude.{◌≡◌, ◌≢◌, ℕ, Bool, true, false, ◌||◌, not, List, length, drop, codes, nat_eq, nat_lt, slice_index}
use Rattle.std.specs.List.{position_or_len, before_first, slice_split, filter}
use Rattle.report.specs.declared.input.Label.{Label}
use Rattle.report.specs.declared.input.Line.{Line}
use Rattle.report.specs.declared.input.Line.TheVariants.{Nothing, Names, Sentence, UnknownLabel}
use Rattle.report.specs.Labels.{label_name}

-- a line that says nothing: an empty one, or a comment, which begins with '#'
abbrev pub is_silent : List ℕ → Bool
is_silent xs = nat_eq (length xs) 0 || nat_eq (slice_index xs 0) 35

-- the word in front of the first blank
abbrev pub label_word : List ℕ → List ℕ
label_word xs = before_first (λ b. nat_eq b 32) xs

-- the text without the blanks in front
abbrev pub from_first_word : List ℕ → List ℕ
from_first_word xs = drop (position_or_len (λ b. not (nat_eq b 32)) xs) xs

-- what stands behind the label and the blanks after it
abbrev pub after_label : List ℕ → List ℕ
after_label xs = from_first_word (drop (position_or_len (λ b. nat_eq b 32) xs) xs)

-- what a label and the text behind it are taken for
abbrev pub Labelled : List ℕ → List ℕ → Line → Type 0
Labelled word rest Nothing = ⊥
Labelled word rest (Names text) = (word ≡ codes "names") × (text.now ≡ rest)
Labelled word rest (Sentence label text) = (word ≡ label_name label) × (text.now ≡ rest)
Labelled word rest (UnknownLabel unknown) = (unknown.now ≡ word) × (word ≢ codes "names") × ((label : Label) → word ≢ label_name label)

-- what a line is taken for
abbrev pub Reads : Bool → List ℕ → Line → Type 0
Reads true xs line = line ≡ Nothing
Reads false xs line = Labelled (label_word xs) (after_label xs) line

-- the words of a text: its parts between the blanks, but for the empty ones
abbrev pub words_of : List ℕ → List (List ℕ)
words_of xs = filter (λ word. nat_lt 0 (length word)) (slice_split (λ b. nat_eq b 32) xs)
