-- The grammar, as derivations from tokens, and in which sheets a derivation is true.
use Rattle.std.specs.Prelude.{◌≡◌, ℕ, Bool, not, ◌&&◌, ◌||◌, List, [], ◌∷◌, ◌++◌, Some}
use Rattle.sheets.specs.Sets.{bit}
use Rattle.sentences.specs.declared.tokens.Sign.TheVariants.{Not, And, Or, Open, Close}
use Rattle.sentences.specs.Names.{Word, fact_of}
use Rattle.sentences.specs.Tokens.{Tok, sign, word}

mutual
  -- a sentence is clauses joined by `|`
  pub data Sentence (ns : List Word) : List Tok → Type 0 where
    clause : {ts : List Tok} → Clause ns ts → Sentence ns ts
    either : {a b : List Tok} → Sentence ns a → Clause ns b → Sentence ns (a ++ sign Or ∷ b)

  -- a clause is parts joined by `&`
  pub data Clause (ns : List Word) : List Tok → Type 0 where
    part : {ts : List Tok} → Part ns ts → Clause ns ts
    both : {a b : List Tok} → Clause ns a → Part ns b → Clause ns (a ++ sign And ∷ b)

  -- a part is a name, `!` and a part, or a sentence between brackets
  pub data Part (ns : List Word) : List Tok → Type 0 where
    name : {w : Word} {i : ℕ} → fact_of ns w ≡ Some i → Part ns (word w ∷ [])
    negation : {a : List Tok} → Part ns a → Part ns (sign Not ∷ a)
    group : {a : List Tok} → Sentence ns a → Part ns (sign Open ∷ (a ++ sign Close ∷ []))

-- whether it is true in the sheet s: the name with index i is true where the binary digit i of s is set
abbrev mutual
  pub sentence_true : {ns : List Word} {ts : List Tok} → Sentence ns ts → ℕ → Bool
  sentence_true (clause c) s = clause_true c s
  sentence_true (either a b) s = sentence_true a s || clause_true b s

  pub clause_true : {ns : List Word} {ts : List Tok} → Clause ns ts → ℕ → Bool
  clause_true (part p) s = part_true p s
  clause_true (both a b) s = clause_true a s && part_true b s

  pub part_true : {ns : List Word} {ts : List Tok} → Part ns ts → ℕ → Bool
  part_true (name {i = i} e) s = bit s i
  part_true (negation p) s = not (part_true p s)
  part_true (group a) s = sentence_true a s
