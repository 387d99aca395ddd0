-- The words of a list of names.
use Rattle.std.proofs.Common.{◌≡◌, ℕ, ◌+◌, ◌≤◌, Bool, not, cond, ltb, List, [], ◌∷◌, length, position, Some, None, refl, ap, ap₂, ◌∙◌, arith}
use Rattle.std.specs.List.{position_or_len}
use Rattle.std.specs.Str.{bytes_eq}
use Rattle.std.proofs.lemmas.List.{length-map, length-take}
use Rattle.tables.specs.Entries.{entries}
use Rattle.sentences.specs.declared.name.Name.{Name}
use Rattle.sentences.specs.declared.names.Names.{Names}
use Rattle.sentences.specs.Names.{Word, spelling, words_of, fact_of}
use Rattle.sentences.specs.Naming.{words}
use Rattle.sentences.proofs.Searches.{first-position}

-- the words are as many as the names
pub words-length : (xs : List Name) → length (words_of xs) ≡ length xs
words-length xs = length-map xs spelling

-- a box has at most eight names
pub words-few : (x : Names) → length (words x) ≤ 8
words-few x = omega (arith, words-length (entries x.names), length-take x.names.len x.names.items, x.names.within)

-- how many words from the front on fail a test
before-map : (p : Word → Bool) (xs : List Name) → position_or_len p (words_of xs) ≡ position_or_len (λ x. p (spelling x)) xs
before-map p [] = refl
before-map p (x ∷ xs) = ap (λ (n : ℕ). cond (not (p (spelling x))) (1 + n) 0) (before-map p xs)

-- the index of a word among the words of names is the position of the name
pub fact-position : (xs : List Name) (w : Word) → fact_of (words_of xs) w ≡ position (λ x. bytes_eq (spelling x) w) xs
unfolding fact_of
fact-position xs w =
    first-position (λ u. bytes_eq u w) (words_of xs) []
    ∙ ap₂ (λ (n m : ℕ). cond (ltb n m) (Some n) None) (before-map (λ u. bytes_eq u w) xs) (words-length xs)
