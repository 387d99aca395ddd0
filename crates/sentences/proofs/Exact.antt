-- The reading of a text is the answer that the grammar gives, and the only one.
use Rattle.std.proofs.Common.{◌≡◌, ℕ, zero, suc, ◌+◌, ◌-◌, ◌^◌, ◌<◌, ◌≤◌, cond, ◌&&◌, eqb, ltb, List, [], ◌∷◌, ◌++◌, length, Some, Ok, Err, Result, sym, refl, ap, ◌∙◌, subst, ap₂, ⊎_elim, arith}
use Rattle.std.proofs.lemmas.Bool.{cases_lt}
use Rattle.sheets.specs.declared.SheetSet.{SheetSet}
use Rattle.sheets.specs.Sets.{set_of}
use Rattle.sheets.proofs.Laws.{meet-set_of}
use Rattle.sentences.specs.declared.faults.SentenceFault.{SentenceFault}
use Rattle.sentences.specs.declared.faults.SentenceFault.TheVariants.{TooLong, Stray, Unknown, Misfit}
use Rattle.sentences.specs.declared.symbols.Symbol.{Symbol}
use Rattle.sentences.specs.declared.reading.Meaning.{Meaning}
use Rattle.sentences.specs.Faults.{sentence_refusal}
use Rattle.sentences.specs.Names.{Word}
use Rattle.sentences.specs.Tokens.{Tok, Lexed, Ended, Tokens, stop, step}
use Rattle.sentences.specs.Scanning.{scan_at}
use Rattle.sentences.specs.Grammar.{Sentence, sentence_true}
use Rattle.sentences.specs.Machine.{fact_symbol, symbol_of, State, parse, tokens_in, meaning, reading}
use Rattle.sentences.specs.Reads.{Symbolic}
use Rattle.sentences.specs.Reading.{Means, Known, Failing, byte, name, fit, end, Refused, long, stops, place_of, Answers}
use Rattle.sentences.proofs.Moves.{parse-end, parse-stray, parse-unknown, moves-to, misfits, reads-long, reads-parse, reads-fails}
use Rattle.sentences.proofs.Lexes.{Ahead, ends, strays, lexes, tokens_more, lexed-goes, strays-scan, ended-scan, ahead}
use Rattle.sentences.proofs.Runs.{Step, Runs, here, there, begin, then, between, sentence-runs}
use Rattle.sentences.proofs.Begins.{goes_on, begins}
use Rattle.sentences.proofs.Stops.{Taken, unknown, misfit, moves, Ending, whole, broken, taken, no-rest, ending}

-- the fault with this number and place
abbrev fault_of : ℕ → ℕ → SentenceFault
fault_of n p = cond (eqb n 1) TooLong (cond (eqb n 2) (Stray p) (cond (eqb n 3) (Unknown p) (Misfit p)))

-- each fault is the one with its number and place
same_fault : (f : SentenceFault) → fault_of (sentence_refusal f).number (place_of (sentence_refusal f).returned) ≡ f
same_fault TooLong = refl
same_fault (Stray p) = refl
same_fault (Unknown p) = refl
same_fault (Misfit p) = refl

module _ {ns : List Word} {s : List ℕ} where
  -- a token with its symbol
  symbolic : {at a z : ℕ} {t : Tok} {x : Symbol} → Lexed s at t a z → symbol_of ns t ≡ Some x → Symbolic ns s at x a z
  symbolic {t = t} l e = record { tok = t; goes = lexed-goes s l; named = e }

  -- the machine goes over the tokens of a text as over a list of them
  follows : {i j : ℕ} {ts : List Tok} {st m : State} → Tokens s i ts j → Runs ns st ts m → parse ns st (scan_at s i) ≡ parse ns m (scan_at s j)
  follows stop here = refl
  follows {st = st} (step l p) (there {m = m} k r) = moves-to ns s st m (symbolic l k.named) k.fits ∙ follows p r

-- the scan counts the tokens
counted : {s : List ℕ} {i j : ℕ} {ts : List Tok} → Tokens s i ts j → tokens_in (scan_at s i) ≡ length ts + tokens_in (scan_at s j)
unfolding tokens_in
counted stop = omega arith
counted {s} (step l p) = omega (arith, ap tokens_in (lexed-goes s l).scans, counted p)

module _ (ns : List Word) (s : List ℕ) (some : 1 ≤ length ns) where
  -- ---- the only answer

  module _ {ts : List Tok} {upto : ℕ} {st : State} (r : Runs ns begin ts st) where
    -- a token that begins the rest of no sentence does not fit
    misfit-fault : {t : Tok} {a z : ℕ} → Lexed s upto t a z → Known ns t → ((rest : List Tok) → Sentence ns (ts ++ t ∷ rest) → ⊥) → Taken ns st t
        → parse ns st (scan_at s upto) ≡ Err (Misfit a)
    misfit-fault l k none (unknown e) = let f = k.1 in let z : ◌≡◌ {A = ℕ} 0 1 = cc in absurd (omega arith)
    misfit-fault l k none (misfit _ e f) = misfits ns s st (symbolic l e) f
    misfit-fault {t} l k none (moves m) = let d = goes_on ns ts t (begins ns some (then r (there m here))) in absurd (none d.0 d.1)

    -- tokens that are no sentence do not bring the machine to an end
    end-fault : Ended s upto → (Sentence ns ts → ⊥) → Ending ns st ts → parse ns st (scan_at s upto) ≡ Err (Misfit (length s))
    end-fault x none (whole d) = absurd (none d)
    end-fault x none (broken _ f) = parse-end ns s upto st (ended-scan s x) ∙ f (length s)

    -- where a test fails the machine answers with its fault
    fault : {n p : ℕ} → Failing ns s ts upto n p → parse ns st (scan_at s upto) ≡ Err (fault_of n p)
    fault (byte x) = parse-stray ns s upto st (strays-scan s x)
    fault (name l e) = parse-unknown ns s st (lexed-goes s l) (ap fact_symbol e)
    fault (fit {t} l k none) = misfit-fault l k none (taken ns st t)
    fault (end x none) = end-fault x none (ending st r)

  -- a text that the grammar refuses
  refused : {n p : ℕ} → Refused ns s n p → reading ns s ≡ Err (fault_of n p)
  refused (long h) = reads-long ns s h
  refused (stops h ts upto places rest d x) = let b = between ts rest ((sentence-runs d).runs []) in reads-fails ns s h (follows places b.1 ∙ fault b.1 x)

  -- a text that is a sentence
  meant : {m : Meaning} → Means ns s m → reading ns s ≡ Ok m
  unfolding tokens_in
  meant w =
      let d = sentence-runs w.derives in
      let last = ended-scan s w.ended in
      let all : tokens_in (scan_at s 0) ≡ length w.tokens = omega (arith, counted w.places, ap tokens_in last) in
      let set : parse ns begin (scan_at s 0) ≡ Ok (set_of (sentence_true w.derives)) = follows w.places (d.runs []) ∙ parse-end ns s w.upto _ last ∙ ap Ok d.sum in
      reads-parse ns s w.short ∙ ap₂ (meaning ns) all set
      ∙ ap₂ (λ (x : SheetSet) (n : ℕ). Ok (record { sheets = x; tokens = n }))
      (meet-set_of (λ k. ltb k (2 ^ length ns)) (sentence_true w.derives) ∙ sym w.sheets) (sym w.count)

  -- an answer that the grammar gives is the reading
  pub only : (r : Result Meaning SentenceFault) → Answers ns s r → r ≡ reading ns s
  only (Ok m) w = sym (meant w)
  only (Err f) x = sym (refused x ∙ ap Err (same_fault f))

  -- ---- there is an answer

  -- some answer that the grammar gives
  abbrev Answer : Type 0
  Answer = (r : Result Meaning SentenceFault) × Answers ns s r

  module _ (short : length s ≤ 256) where
    module _ {ts : List Tok} {at : ℕ} {st : State} (places : Tokens s 0 ts at) (r : Runs ns begin ts st) where
      -- a test that fails after tokens that the machine takes is the first
      stopped : {n p : ℕ} → Failing ns s ts at n p → Refused ns s n p
      stopped x = let b = begins ns some r in stops short ts at places b.0 b.1 x

      -- the answer where the text ends
      at-end : Ended s at → Ending ns st ts → Answer
      at-end x (whole d) = (
        Ok (record { sheets = set_of (λ k. ltb k (2 ^ length ns) && sentence_true d k); tokens = length ts }),
        record { short = short; tokens = ts; upto = at; places = places; ended = x; derives = d; sheets = refl; count = refl },
      )
      at-end x (broken none f) = (Err (Misfit (length s)), stopped (end x none))

      -- the answer at a token, unless the machine takes it and goes on
      at-token : {t : Tok} {a z : ℕ} → Lexed s at t a z → Taken ns st t → ((m : State) → Step ns st t m → Answer) → Answer
      at-token {a = a} l (unknown e) go = (Err (Unknown a), stopped (name l e))
      at-token {t} {a} l (misfit k e f) go = (Err (Misfit a), stopped (fit l k (no-rest r t e f)))
      at-token l (moves {m = m} k) go = go m k

      -- the answer by what stands next
      at_place : Ahead s at → ((t : Tok) (a z : ℕ) (m : State) → Lexed s at t a z → Step ns st t m → Answer) → Answer
      at_place (ends x) go = at-end x (ending st r)
      at_place (strays {p} x) go = (Err (Stray p), stopped (byte x))
      at_place (lexes {t} {a} {z} l) go = at-token l (taken ns st t) (λ m k. go t a z m l k)

    -- the answer from a place on, where fewer than n bytes are left
    walk : (n at : ℕ) (ts : List Tok) (st : State) → at ≤ length s → length s < at + n → Tokens s 0 ts at → Runs ns begin ts st → Answer
    walk zero at ts st w h places r = absurd (omega arith)
    walk (suc n) at ts st w h places r =
        at_place places r (ahead s (length s - at) at (omega arith))
        (λ t a z m l k. let g = lexed-goes s l in
        walk n z (ts ++ t ∷ []) m g.within (omega (arith, g.moves)) (tokens_more places l) (then r (there k here)))

  -- the answer from the first place on, unless the text is too long
  some-answer : Answer
  some-answer =
      ⊎_elim (λ h. (Err TooLong, long h)) (λ h. walk h (length s + 1) 0 [] begin (omega arith) (omega arith) stop here) (cases_lt 256 (length s))

  -- the reading is the answer that the grammar gives
  pub answered : Answers ns s (reading ns s)
  answered = subst (Answers ns s) (only some-answer.0 some-answer.1) some-answer.1
