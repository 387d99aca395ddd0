-- Reading by a function: a machine takes the tokens from the left, joins the sets of what has been read, and stops where no sentence goes on.
use Rattle.std.specs.Prelude.{ℕ, zero, suc, ◌+◌, ◌^◌, cond, ltb, List, [], ◌∷◌, length, Some, None, Ok, Err, Option, Result, nat_lt}
use Rattle.sheets.specs.declared.SheetSet.{SheetSet}
use Rattle.sheets.specs.Sets.{bit, set_of, meet, union, outside}
use Rattle.sentences.specs.declared.faults.SentenceFault.{SentenceFault}
use Rattle.sentences.specs.declared.faults.SentenceFault.TheVariants.{TooLong, Stray, Unknown, Misfit}
use Rattle.sentences.specs.declared.tokens.Sign.TheVariants.{Not, And, Or, Open, Close}
use Rattle.sentences.specs.declared.symbols.Symbol.{Symbol}
use Rattle.sentences.specs.declared.symbols.Symbol.TheVariants.{Sign, Fact}
use Rattle.sentences.specs.declared.reading.Meaning.{Meaning}
use Rattle.sentences.specs.Names.{Word, fact_of}
use Rattle.sentences.specs.Tokens.{Tok, sign, word}
use Rattle.sentences.specs.Scanning.{Scan, end, stray, token, scan_at}

-- a token after the test of its name
abbrev pub fact_symbol : Option ℕ → Option Symbol
fact_symbol (Some i) = Some (Fact i)
fact_symbol None = None

abbrev pub symbol_of : List Word → Tok → Option Symbol
symbol_of ns (sign g) = Some (Sign g)
symbol_of ns (word w) = fact_symbol (fact_of ns w)

-- what waits for a part, in one pair of brackets: the clauses before its clause, the parts before it in its clause, and how many `!` stand before it
pub data Frame : Type 0 where
  frame : Option SheetSet → Option SheetSet → ℕ → Frame

-- a part is to come, or one has just ended: the clauses before, and the clause so far; outside, the frames of the brackets that are open
pub data State : Type 0 where
  want : Frame → List Frame → State
  got : Option SheetSet → SheetSet → List Frame → State

abbrev pub fresh : Frame
fresh = frame None None 0

abbrev pub or_with : Option SheetSet → SheetSet → SheetSet
or_with None x = x
or_with (Some a) x = union a x

abbrev pub and_with : Option SheetSet → SheetSet → SheetSet
and_with None x = x
and_with (Some a) x = meet a x

abbrev pub negated : ℕ → SheetSet → SheetSet
negated zero x = x
negated (suc n) x = negated n (outside x)

-- a part with the set x has ended
abbrev pub ended : Frame → List Frame → SheetSet → State
ended (frame o a n) fs x = got o (and_with a (negated n x)) fs

abbrev pub close : SheetSet → List Frame → Option State
close x [] = None
close x (f ∷ fs) = Some (ended f fs x)

abbrev pub on : State → Symbol → Option State
on (want f fs) (Fact i) = Some (ended f fs (set_of (λ s. bit s i)))
on (want (frame o a n) fs) (Sign Not) = Some (want (frame o a (suc n)) fs)
on (want f fs) (Sign Open) = Some (want fresh (f ∷ fs))
on (want f fs) (Sign And) = None
on (want f fs) (Sign Or) = None
on (want f fs) (Sign Close) = None
on (got o x fs) (Fact i) = None
on (got o x fs) (Sign Not) = None
on (got o x fs) (Sign Open) = None
on (got o x fs) (Sign And) = Some (want (frame o (Some x) 0) fs)
on (got o x fs) (Sign Or) = Some (want (frame (Some (or_with o x)) None 0) fs)
on (got o x fs) (Sign Close) = close (or_with o x) fs

-- at the text's end, which is the place p
abbrev pub finish : ℕ → State → Result SheetSet SentenceFault
finish p (want f fs) = Err (Misfit p)
finish p (got o x []) = Ok (or_with o x)
finish p (got o x (f ∷ fs)) = Err (Misfit p)

-- go on where the token at p has a name, and where it fits
abbrev pub if_named : {R : Type 0} → ℕ → Option Symbol → (Symbol → Result R SentenceFault) → Result R SentenceFault
if_named p None go = Err (Unknown p)
if_named p (Some x) go = go x

abbrev pub if_fits : {R : Type 0} → ℕ → Option State → (State → Result R SentenceFault) → Result R SentenceFault
if_fits p None go = Err (Misfit p)
if_fits p (Some st) go = go st

unfoldable pub parse : List Word → State → Scan → Result SheetSet SentenceFault
parse ns st (end p) = finish p st
parse ns st (stray p) = Err (Stray p)
parse ns st (token t p q rest) = if_named p (symbol_of ns t) (λ x. if_fits p (on st x) (λ st'. parse ns st' rest))

unfoldable pub tokens_in : Scan → ℕ
tokens_in (end p) = 0
tokens_in (stray p) = 0
tokens_in (token t p q rest) = 1 + tokens_in rest

-- the sheets of a box with these names in which a sentence is true, where x is its set among 256 sheets
abbrev pub meaning : List Word → ℕ → Result SheetSet SentenceFault → Result Meaning SentenceFault
meaning ns n (Ok x) = Ok (record { sheets = meet (set_of (λ s. ltb s (2 ^ length ns))) x; tokens = n })
meaning ns n (Err f) = Err f

unfoldable pub reading : List Word → List ℕ → Result Meaning SentenceFault
reading ns s = cond (nat_lt 256 (length s)) (Err TooLong) (meaning ns (tokens_in (scan_at s 0)) (parse ns (want fresh []) (scan_at s 0)))
