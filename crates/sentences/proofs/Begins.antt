-- The tokens that bring the machine to a state begin some sentence, and are one where a clause has ended outside all brackets.
use Rattle.std.proofs.Common.{◌≡◌, ℕ, ◌≤◌, List, [], ◌∷◌, ◌++◌, length, get_or, Some, None, Option, sym, refl, subst, append_assoc, append-nil}
use Rattle.std.specs.Str.{bytes_eq}
use Rattle.std.proofs.lemmas.Slice.Eq.{bytes_eq-Decides}
use Rattle.sheets.specs.declared.SheetSet.{SheetSet}
use Rattle.sentences.specs.declared.tokens.Sign.{Sign}
use Rattle.sentences.specs.declared.tokens.Sign.TheVariants.{Not, And, Or, Open, Close}
use Rattle.sentences.specs.declared.symbols.Symbol.{Symbol}
use Rattle.sentences.specs.declared.symbols.Symbol.TheVariants as symbol
use Rattle.sentences.specs.Names.{Word, fact_of}
use Rattle.sentences.specs.Tokens.{Tok, sign, word}
use Rattle.sentences.specs.Grammar.{Sentence, clause, either, part, both, Part, name, negation, group}
use Rattle.sentences.specs.Machine.{fact_symbol, symbol_of, Frame, frame, State, want, got, on}
use Rattle.sentences.proofs.Searches.{first_none, first_found}
use Rattle.sentences.proofs.Runs.{Step, Runs, here, there, begin}

-- tokens of which something holds, an open bracket, and a sentence
data Opened (ns : List Word) (Before : List Tok → Type 0) : List Tok → Type 0 where
  opened : {a b : List Tok} → Before a → Sentence ns b → Opened ns Before (a ++ sign Open ∷ b)

module _ (ns : List Word) where
  -- with the tokens a clause has ended, inside as many brackets as there are frames: outside each a part is to come
  abbrev Done : List Frame → List Tok → Type 0
  Done [] ts = Sentence ns ts
  Done (f ∷ fs) ts = Opened ns (λ a. (p : List Tok) → Part ns p → Done fs (a ++ p)) ts

  -- after the tokens a part is to come
  abbrev Awaits : List Frame → List Tok → Type 0
  Awaits fs ts = (p : List Tok) → Part ns p → Done fs (ts ++ p)

  -- what a state says of the tokens that brought the machine to it
  abbrev Holds : State → List Tok → Type 0
  Holds (want f fs) ts = Awaits fs ts
  Holds (got o x fs) ts = Done fs ts

  -- the same of the state after a symbol, if it fits
  abbrev HoldsNext : Option State → List Tok → Type 0
  HoldsNext None ts = Unit {0}
  HoldsNext (Some st) ts = Holds st ts

  -- the same of the state after a token, if it has a symbol that fits
  abbrev HoldsBy : State → Option Symbol → List Tok → Type 0
  HoldsBy st None ts = Unit {0}
  HoldsBy st (Some x) ts = HoldsNext (on st x) ts

  -- some sentence begins with the tokens
  abbrev pub Begins : List Tok → Type 0
  Begins ts = (rest : List Tok) × Sentence ns (ts ++ rest)

  -- ---- each token keeps what the state says

  -- `&` and a part go on with the last clause of a sentence
  and-part : {a p : List Tok} → Sentence ns a → Part ns p → Sentence ns (a ++ sign And ∷ p)
  and-part (clause c) d = clause (both c d)
  and-part {p = p} (either {a} {b} s c) d = subst (Sentence ns) (sym (append_assoc a (sign Or ∷ b) (sign And ∷ p))) (either s (both c d))

  -- the sentence inside the last open bracket grows
  grow : (fs : List Frame) (ts u : List Tok) → ((b : List Tok) → Sentence ns b → Sentence ns (b ++ u)) → Done fs ts → Done fs (ts ++ u)
  grow [] ts u k d = k ts d
  grow (f ∷ fs) ts u k (opened {a} {b} h d) = subst (Done (f ∷ fs)) (sym (append_assoc a (sign Open ∷ b) u)) (opened h (k b d))

  -- a closing bracket ends a part outside it
  shut : (f : Frame) (fs : List Frame) {ts : List Tok} → Done (f ∷ fs) ts → Done fs (ts ++ sign Close ∷ [])
  shut f fs (opened {a} {b} h d) = subst (Done fs) (sym (append_assoc a (sign Open ∷ b) (sign Close ∷ []))) (h (sign Open ∷ (b ++ sign Close ∷ [])) (group d))

  -- after one more token a part is to come
  one_on : (fs : List Frame) (ts : List Tok) (t : Tok) → ((p : List Tok) → Part ns p → Done fs (ts ++ t ∷ p)) → Awaits fs (ts ++ t ∷ [])
  one_on fs ts t k p d = subst (Done fs) (sym (append_assoc ts (t ∷ []) p)) (k p d)

  -- by the sign
  sign-holds : (st : State) (g : Sign) (ts : List Tok) → Holds st ts → HoldsNext (on st (symbol.Sign g)) (ts ++ sign g ∷ [])
  sign-holds (want (frame o a n) fs) Not ts h = one_on fs ts (sign Not) (λ p d. h (sign Not ∷ p) (negation d))
  sign-holds (want (frame o a n) fs) Open ts h = one_on (frame o a n ∷ fs) ts (sign Open) (λ p d. opened h (clause (part d)))
  sign-holds (want f fs) And ts h = tt
  sign-holds (want f fs) Or ts h = tt
  sign-holds (want f fs) Close ts h = tt
  sign-holds (got o x fs) Not ts h = tt
  sign-holds (got o x fs) Open ts h = tt
  sign-holds (got o x fs) And ts h = one_on fs ts (sign And) (λ p d. grow fs ts (sign And ∷ p) (λ b s. and-part s d) h)
  sign-holds (got o x fs) Or ts h = one_on fs ts (sign Or) (λ p d. grow fs ts (sign Or ∷ p) (λ b s. either s (part d)) h)
  sign-holds (got o x []) Close ts h = tt
  sign-holds (got o x (frame p a n ∷ fs)) Close ts h = shut (frame p a n) fs h

  -- by what the word names
  name-holds : (st : State) (w : Word) (r : Option ℕ) (ts : List Tok) → fact_of ns w ≡ r → Holds st ts → HoldsBy st (fact_symbol r) (ts ++ word w ∷ [])
  name-holds st w None ts e h = tt
  name-holds (want (frame o a n) fs) w (Some i) ts e h = h (word w ∷ []) (name e)
  name-holds (got o x fs) w (Some i) ts e h = tt

  -- by the token
  token-holds : (st : State) (t : Tok) (ts : List Tok) → Holds st ts → HoldsBy st (symbol_of ns t) (ts ++ t ∷ [])
  token-holds st (sign g) ts h = sign-holds st g ts h
  token-holds st (word w) ts h = name-holds st w (fact_of ns w) ts refl h

  -- a step keeps what the state says
  step-holds : {st m : State} {t : Tok} (ts : List Tok) → Step ns st t m → Holds st ts → Holds m (ts ++ t ∷ [])
  step-holds {st} {m} {t} ts k h =
      subst (λ (o : Option State). HoldsNext o (ts ++ t ∷ [])) k.fits
      (subst (λ (o : Option Symbol). HoldsBy st o (ts ++ t ∷ [])) k.named (token-holds st t ts h))

  -- and so do many
  runs_hold : (ts : List Tok) {us : List Tok} {st m : State} → Runs ns st us m → Holds st ts → Holds m (ts ++ us)
  runs_hold ts {m = m} here h = subst (Holds m) (sym (append-nil ts)) h
  runs_hold ts {m = m} (there {t = t} {ts = us} k r) h = subst (Holds m) (append_assoc ts (t ∷ []) us) (runs_hold (ts ++ t ∷ []) r (step-holds ts k h))

  -- ---- the tokens before a state are a sentence or begin one

  -- what each state that is reached says
  reached : {ts : List Tok} {st : State} → Runs ns begin ts st → Holds st ts
  reached r = runs_hold [] r (λ p d. clause (part d))

  -- outside all brackets the tokens with which a clause has ended are a sentence
  pub derived : {ts : List Tok} {o : Option SheetSet} {x : SheetSet} → Runs ns begin ts (got o x []) → Sentence ns ts
  derived r = reached r

  -- a sentence that begins with one more token
  pub goes_on : (ts : List Tok) (t : Tok) → Begins (ts ++ t ∷ []) → (rest : List Tok) × Sentence ns (ts ++ t ∷ rest)
  goes_on ts t b = (b.0, subst (Sentence ns) (append_assoc ts (t ∷ []) b.0) b.1)

  -- where a clause has ended, closing brackets end the sentence
  closed : (fs : List Frame) (ts : List Tok) → Done fs ts → Begins ts
  closed [] ts d = ([], subst (Sentence ns) (sym (append-nil ts)) d)
  closed (f ∷ fs) ts d = let x = goes_on ts (sign Close) (closed fs (ts ++ sign Close ∷ []) (shut f fs d)) in (sign Close ∷ x.0, x.1)

  module _ (some : 1 ≤ length ns) where
    -- the first name is a name
    first-name : fact_of ns (get_or ns 0 []) ≡ Some 0
    unfolding fact_of
    first-name =
        let w = get_or ns 0 [] in
        let found = λ (i : ℕ). bytes_eq (get_or ns i []) w in
        first_found found (length ns) 0 (first_none found) ((bytes_eq-Decides w w).1 refl) some

    -- where a part is to come, the first name is one
    completed : (st : State) (ts : List Tok) → Holds st ts → Begins ts
    completed (want f fs) ts h =
        let w = word (get_or ns 0 []) in
        let x = goes_on ts w (closed fs (ts ++ w ∷ []) (h (w ∷ []) (name first-name))) in
        (w ∷ x.0, x.1)
    completed (got o x fs) ts h = closed fs ts h

    -- the tokens that bring the machine to any state begin a sentence
    pub begins : {ts : List Tok} {st : State} → Runs ns begin ts st → Begins ts
    begins {ts} {st} r = completed st ts (reached r)
