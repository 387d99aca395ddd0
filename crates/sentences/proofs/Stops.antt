-- Where the machine does not take a token no sentence goes on, and where it refuses a text's end the tokens are no sentence.
use Rattle.std.proofs.Common.{◌≡◌, ℕ, List, [], ◌∷◌, ◌++◌, Some, None, Err, Option, sym, refl, ap, ◌∙◌, ap₂, arith}
use Rattle.sentences.specs.declared.faults.SentenceFault.TheVariants.{Misfit}
use Rattle.sentences.specs.declared.symbols.Symbol.{Symbol}
use Rattle.sentences.specs.declared.symbols.Symbol.TheVariants as symbol
use Rattle.sentences.specs.Names.{Word, fact_of}
use Rattle.sentences.specs.Tokens.{Tok, sign, word}
use Rattle.sentences.specs.Grammar.{Sentence}
use Rattle.sentences.specs.Machine.{fact_symbol, symbol_of, State, want, got, on, finish}
use Rattle.sentences.specs.Reading.{Known}
use Rattle.sentences.proofs.Runs.{Step, Runs, begin, between, first_step, same-state, sentence-runs}
use Rattle.sentences.proofs.Begins.{derived}

-- what the machine in a state does with a token
pub data Taken (ns : List Word) (st : State) : Tok → Type 0 where
  unknown : {w : Word} → fact_of ns w ≡ None → Taken ns st (word w)
  misfit : {t : Tok} {x : Symbol} → Known ns t → symbol_of ns t ≡ Some x → on st x ≡ None → Taken ns st t
  moves : {t : Tok} {m : State} → Step ns st t m → Taken ns st t

-- at the end of a text the tokens are a sentence, or they are none and the machine refuses them
pub data Ending (ns : List Word) (st : State) (ts : List Tok) : Type 0 where
  whole : Sentence ns ts → Ending ns st ts
  broken : (Sentence ns ts → ⊥) → ((p : ℕ) → finish p st ≡ Err (Misfit p)) → Ending ns st ts

module _ (ns : List Word) (st : State) where
  -- a token with the symbol x
  fits-or-not : (t : Tok) (x : Symbol) (o : Option State) → Known ns t → symbol_of ns t ≡ Some x → on st x ≡ o → Taken ns st t
  fits-or-not t x None k e f = misfit k e f
  fits-or-not t x (Some m) k e f = moves (record { symbol = x; named = e; fits = f })

  -- a word
  named-or-not : (w : Word) (o : Option ℕ) → fact_of ns w ≡ o → Taken ns st (word w)
  named-or-not w None e = unknown e
  named-or-not w (Some i) e = fits-or-not (word w) (symbol.Fact i) (on st (symbol.Fact i)) (i, e) (ap fact_symbol e) refl

  -- any token
  pub taken : (t : Tok) → Taken ns st t
  taken (sign g) = fits-or-not (sign g) (symbol.Sign g) (on st (symbol.Sign g)) tt refl refl
  taken (word w) = named-or-not w (fact_of ns w) refl

module _ {ns : List Word} {ts : List Tok} {st : State} (r : Runs ns begin ts st) where
  -- a token that does not fit begins the rest of no sentence
  pub no-rest : (t : Tok) {x : Symbol} → symbol_of ns t ≡ Some x → on st x ≡ None → (rest : List Tok) → Sentence ns (ts ++ t ∷ rest) → ⊥
  no-rest t {x} e f rest d =
      let b = between ts (t ∷ rest) ((sentence-runs d).runs []) in
      let k = (first_step b.2).1 in
      let same : st ≡ b.0 = same-state r b.1 in
      let symbols : x ≡ k.symbol = cc in
      let clash : None ≡ Some (first_step b.2).0 = sym f ∙ ap₂ on same symbols ∙ k.fits in
      let z : ◌≡◌ {A = ℕ} 0 1 = cc in
      omega arith

  -- tokens after which the machine refuses the text's end are no sentence
  no-sentence : ((p : ℕ) → finish p st ≡ Err (Misfit p)) → Sentence ns ts → ⊥
  no-sentence f d =
      let e = ap (finish 0) (same-state r ((sentence-runs d).runs [])) in
      let g = f 0 in
      let z : ◌≡◌ {A = ℕ} 0 1 = cc in
      omega arith

-- by the state that the tokens reach
pub ending : {ns : List Word} {ts : List Tok} (st : State) → Runs ns begin ts st → Ending ns st ts
ending (want f fs) r = broken (no-sentence r (λ p. refl)) (λ p. refl)
ending {ns} (got o x []) r = whole (derived ns r)
ending (got o x (f ∷ fs)) r = broken (no-sentence r (λ p. refl)) (λ p. refl)
