-- What each reader promises of the machine: from where it began, the machine comes to where it ended.
use Rattle.std.specs.Prelude.{◌≡◌, ℕ, ◌+◌, ◌≤◌, List, length, Some, None, Ok, Err, Option, Result, ◌≢◌}
use Rattle.sheets.specs.declared.SheetSet.{SheetSet}
use Rattle.sentences.specs.declared.faults.SentenceFault.{SentenceFault}
use Rattle.sentences.specs.declared.tokens.Sign.{Sign}
use Rattle.sentences.specs.declared.tokens.Sign.TheVariants.{And, Or}
use Rattle.sentences.specs.declared.symbols.Symbol.{Symbol}
use Rattle.sentences.specs.declared.tokens.Found.{Found}
use Rattle.sentences.specs.declared.reading.Progress.{Progress}
use Rattle.sentences.specs.Names.{Word}
use Rattle.sentences.specs.Tokens.{Tok, sign}
use Rattle.sentences.specs.Scanning.{Scan, end, token, scan_at, Goes}
use Rattle.sentences.specs.Machine.{symbol_of, Frame, frame, State, want, got, fresh, or_with, and_with, negated, parse, tokens_in}

-- from `at` on the next token of s is the symbol k
pub record Symbolic (ns : List Word) (s : List ℕ) (at : ℕ) (k : Symbol) (start after : ℕ) : Type 0 where
  pub tok : Tok
  pub goes : Goes s at tok start after
  pub named : symbol_of ns tok ≡ Some k

abbrev pub NextSymbol : List Word → List ℕ → ℕ → Result (Option (Found Symbol)) SentenceFault → Type 0
NextSymbol ns s at (Ok None) = scan_at s at ≡ end (length s)
NextSymbol ns s at (Ok (Some x)) = Symbolic ns s at x.what x.start x.after
NextSymbol ns s at (Err f) = (st : State) → parse ns st (scan_at s at) ≡ Err f

-- the tokens of s from `at` up to `after` are n
pub record Stretch (s : List ℕ) (at n after : ℕ) : Type 0 where
  pub within : after ≤ length s
  pub counted : tokens_in (scan_at s at) ≡ n + tokens_in (scan_at s after)
  pub few : n + at ≤ after
  pub some : 1 ≤ n

-- the next token from p on is not the sign
abbrev pub Lacks : List ℕ → ℕ → Sign → Type 0
Lacks s p g = (a z : ℕ) (rest : Scan) → scan_at s p ≢ token (sign g) a z rest

pub record PartRead (ns : List Word) (s : List ℕ) (at : ℕ) (x : SheetSet) (n after : ℕ) : Type 0 where
  pub stretch : Stretch s at n after
  pub comes : (o a : Option SheetSet) (nots : ℕ) (fs : List Frame)
      → parse ns (want (frame o a nots) fs) (scan_at s at) ≡ parse ns (got o (and_with a (negated nots x)) fs) (scan_at s after)

pub record ClauseSoFar (ns : List Word) (s : List ℕ) (at : ℕ) (x : SheetSet) (n after : ℕ) : Type 0 where
  pub stretch : Stretch s at n after
  pub comes : (o : Option SheetSet) (fs : List Frame) → parse ns (want (frame o None 0) fs) (scan_at s at) ≡ parse ns (got o x fs) (scan_at s after)

pub record SentenceSoFar (ns : List Word) (s : List ℕ) (at : ℕ) (x : SheetSet) (n after : ℕ) : Type 0 where
  pub stretch : Stretch s at n after
  pub before : Option SheetSet
  pub last : SheetSet
  pub sum : or_with before last ≡ x
  pub comes : (fs : List Frame) → parse ns (want fresh fs) (scan_at s at) ≡ parse ns (got before last fs) (scan_at s after)
  pub no_and : Lacks s after And

pub record ClauseRead (ns : List Word) (s : List ℕ) (at : ℕ) (x : SheetSet) (n after : ℕ) : Type 0 where
  pub whole : ClauseSoFar ns s at x n after
  pub no_and : Lacks s after And

pub record SentenceRead (ns : List Word) (s : List ℕ) (at : ℕ) (x : SheetSet) (n after : ℕ) : Type 0 where
  pub whole : SentenceSoFar ns s at x n after
  pub no_or : Lacks s after Or

abbrev pub PartIs : List Word → List ℕ → ℕ → Result Progress SentenceFault → Type 0
PartIs ns s at (Ok r) = PartRead ns s at r.sheets r.tokens r.after
PartIs ns s at (Err f) = (g : Frame) (fs : List Frame) → parse ns (want g fs) (scan_at s at) ≡ Err f

abbrev pub ClauseIs : List Word → List ℕ → ℕ → Result Progress SentenceFault → Type 0
ClauseIs ns s at (Ok r) = ClauseRead ns s at r.sheets r.tokens r.after
ClauseIs ns s at (Err f) = (o : Option SheetSet) (fs : List Frame) → parse ns (want (frame o None 0) fs) (scan_at s at) ≡ Err f

abbrev pub SentenceIs : List Word → List ℕ → ℕ → Result Progress SentenceFault → Type 0
SentenceIs ns s at (Ok r) = SentenceRead ns s at r.sheets r.tokens r.after
SentenceIs ns s at (Err f) = (fs : List Frame) → parse ns (want fresh fs) (scan_at s at) ≡ Err f
