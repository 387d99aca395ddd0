-- Names: how each is spelled, which fact a word names, and which lists of names are accepted.
use Rattle.std.specs.Prelude.{ℕ, Bool, true, false, not, ◌&&◌, ◌||◌, List, [], map, length, take, Some, None, Option, nat_le, slice_index, slice_index_or}
use Rattle.std.specs.Str.{bytes_eq}
use Rattle.std.specs.List.{list_all}
use Rattle.tables.specs.Entries.{entries}
use Rattle.sentences.specs.declared.name.Name.{Name}
use Rattle.sentences.specs.Search.{first}
use Rattle.sentences.specs.Tokens.{word_byte}

-- a word is its bytes
abbrev pub Word : Type 0
Word = List ℕ

abbrev pub spelling : Name → Word
spelling x = entries x.letters

abbrev pub words_of : List Name → List Word
words_of = map spelling

-- the index of the name that is the word
unfoldable pub fact_of : List Word → Word → Option ℕ
fact_of ns w = first (λ i. bytes_eq (slice_index_or ns i []) w) (length ns)

-- each byte is a small letter or a digit
abbrev pub word_bytes : Word → Bool
word_bytes = list_all word_byte

-- 1 to 12 small letters and digits, a letter first
unfoldable pub is_name : Word → Bool
is_name w = nat_le 1 (length w) && nat_le (length w) 12 && nat_le 97 (slice_index w 0) && word_bytes w

abbrev pub is_found : Option ℕ → Bool
is_found (Some i) = true
is_found None = false

-- a word that is no name, or is among those before
unfoldable pub unfit : List Word → Word → Bool
unfit before w = not (is_name w) || is_found (fact_of before w)

-- the first name that is bad where it stands
unfoldable pub first_bad_name : List Word → Option ℕ
first_bad_name ws = first (λ i. unfit (take i ws) (slice_index_or ws i [])) (length ws)
