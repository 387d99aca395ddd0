-- The machine over lists of tokens: a derivation drives it from its first token to its last, and to the set of what is derived.
use Rattle.std.proofs.Common.{◌≡◌, ℕ, suc, List, [], ◌∷◌, ◌++◌, Some, None, Option, sym, refl, ap, ◌∙◌, subst}
use Rattle.sheets.specs.declared.SheetSet.{SheetSet}
use Rattle.sheets.specs.Sets.{set_of, union}
use Rattle.sheets.proofs.Laws.{meet-set_of, union-set_of, outside-set_of}
use Rattle.sentences.specs.declared.tokens.Sign.{Sign}
use Rattle.sentences.specs.declared.tokens.Sign.TheVariants.{Not, And, Open, Close}
use Rattle.sentences.specs.declared.symbols.Symbol.{Symbol}
use Rattle.sentences.specs.declared.symbols.Symbol.TheVariants as symbol
use Rattle.sentences.specs.Names.{Word}
use Rattle.sentences.specs.Tokens.{Tok, sign}
use Rattle.sentences.specs.Grammar.{Sentence, clause, either, Clause, part, both, Part, name, negation, group, sentence_true, clause_true, part_true}
use Rattle.sentences.specs.Machine.{fact_symbol, symbol_of, Frame, frame, State, want, got, fresh, or_with, and_with, negated, on}

-- in the state st the machine takes the token t, and comes to the state m
pub record Step (ns : List Word) (st : State) (t : Tok) (m : State) : Type 0 where
  pub symbol : Symbol
  pub named : symbol_of ns t ≡ Some symbol
  pub fits : on st symbol ≡ Some m

-- the tokens bring the machine from one state to another
pub data Runs (ns : List Word) : State → List Tok → State → Type 0 where
  here : {st : State} → Runs ns st [] st
  there : {st m u : State} {t : Tok} {ts : List Tok} → Step ns st t m → Runs ns m ts u → Runs ns st (t ∷ ts) u

-- the state before the first token
abbrev pub begin : State
begin = want fresh []

module _ {ns : List Word} where
  -- one list of tokens after another
  pub then : {st m u : State} {a b : List Tok} → Runs ns st a m → Runs ns m b u → Runs ns st (a ++ b) u
  then here r = r
  then (there k q) r = there k (then q r)

  -- the state between two lists of tokens
  pub between : (a b : List Tok) {st u : State} → Runs ns st (a ++ b) u → (m : State) × Runs ns st a m × Runs ns m b u
  between [] b {st} r = (st, here, r)
  between (t ∷ a) b (there k r) = let x = between a b r in (x.0, there k x.1, x.2)

  -- the first token's step
  pub first_step : {st u : State} {t : Tok} {ts : List Tok} → Runs ns st (t ∷ ts) u → (m : State) × Step ns st t m
  first_step (there {m = m} k r) = (m, k)

  -- a token brings the machine to one state alone
  same_step : {st m u : State} {t : Tok} → Step ns st t m → Step ns st t u → m ≡ u
  same_step {st} j k = let e : j.symbol ≡ k.symbol = cc in cc (ap (on st) e)

  -- and so does a list of them
  pub same-state : {st m u : State} {ts : List Tok} → Runs ns st ts m → Runs ns st ts u → m ≡ u
  same-state here here = refl
  same-state {u = u} (there {ts = ts} j q) (there k r) = same-state q (subst (λ (st : State). Runs ns st ts u) (sym (same_step j k)) r)

-- inside whatever brackets, the tokens of a sentence bring the machine to its last clause, and to the set of the sentence
pub record Summed {ns : List Word} {ts : List Tok} (d : Sentence ns ts) : Type 0 where
  pub before : Option SheetSet
  pub last : SheetSet
  pub sum : or_with before last ≡ set_of (sentence_true d)
  pub runs : (fs : List Frame) → Runs ns (want fresh fs) ts (got before last fs)

module _ {ns : List Word} where
  -- a sign that fits is one step
  by_sign : {st m u : State} {g : Sign} {ts : List Tok} → on st (symbol.Sign g) ≡ Some m → Runs ns m ts u → Runs ns st (sign g ∷ ts) u
  by_sign {g = g} e r = there (record { symbol = symbol.Sign g; named = refl; fits = e }) r

  mutual
    -- a derivation drives the machine to the set of the sheets in which it is true
    pub sentence-runs : {ts : List Tok} (d : Sentence ns ts) → Summed d
    sentence-runs (clause c) = record { before = None; last = set_of (clause_true c); sum = refl; runs = clause-runs c None }
    sentence-runs (either d c) =
        let m = sentence-runs d in
        record {
          before = Some (or_with m.before m.last);
          last = set_of (clause_true c);
          sum = ap (λ (x : SheetSet). union x (set_of (clause_true c))) m.sum ∙ union-set_of (sentence_true d) (clause_true c);
          runs = λ fs. then (m.runs fs) (by_sign refl (clause-runs c (Some (or_with m.before m.last)) fs));
        }

    clause-runs : {ts : List Tok} (d : Clause ns ts) (o : Option SheetSet) (fs : List Frame) → Runs ns (want (frame o None 0) fs) ts (got o (set_of (clause_true d)) fs)
    clause-runs (part p) o fs = part-runs p o None 0 fs
    clause-runs (both {a} {b} c p) o fs =
        subst (λ (x : SheetSet). Runs ns (want (frame o None 0) fs) (a ++ sign And ∷ b) (got o x fs)) (meet-set_of (clause_true c) (part_true p))
        (then (clause-runs c o fs) (by_sign refl (part-runs p o (Some (set_of (clause_true c))) 0 fs)))

    part-runs : {ts : List Tok} (d : Part ns ts) (o a : Option SheetSet) (n : ℕ) (fs : List Frame)
        → Runs ns (want (frame o a n) fs) ts (got o (and_with a (negated n (set_of (part_true d)))) fs)
    part-runs (name {i = i} e) o a n fs = there (record { symbol = symbol.Fact i; named = ap fact_symbol e; fits = refl }) here
    part-runs (negation {a = ts} p) o a n fs =
        subst (λ (x : SheetSet). Runs ns (want (frame o a n) fs) (sign Not ∷ ts) (got o (and_with a (negated n x)) fs)) (outside-set_of (part_true p))
        (by_sign refl (part-runs p o a (suc n) fs))
    part-runs (group {a = ts} d) o a n fs =
        let m = sentence-runs d in
        subst (λ (x : SheetSet). Runs ns (want (frame o a n) fs) (sign Open ∷ (ts ++ sign Close ∷ [])) (got o (and_with a (negated n x)) fs)) m.sum
        (by_sign refl (then (m.runs (frame o a n ∷ fs)) (by_sign refl here)))
