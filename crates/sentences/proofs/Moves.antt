-- How the machine moves over a text, and how readings grow.
use Rattle.std.proofs.Common.{◌≡◌, ℕ, suc, ◌+◌, ◌^◌, ◌<◌, ◌≤◌, Bool, cond, ltb, List, [], ◌∷◌, length, Some, None, Ok, Err, Option, refl, ap, ◌∙◌, subst, ap₂, arith}
use Rattle.std.proofs.lemmas.Bool.{lt-ltb, le-ltb}
use Rattle.sheets.specs.declared.SheetSet.{SheetSet}
use Rattle.sheets.specs.Sets.{bit, set_of, meet, union, outside}
use Rattle.sentences.specs.declared.faults.SentenceFault.{SentenceFault}
use Rattle.sentences.specs.declared.faults.SentenceFault.TheVariants.{TooLong, Stray, Unknown, Misfit}
use Rattle.sentences.specs.declared.symbols.Symbol.{Symbol}
use Rattle.sentences.specs.declared.symbols.Symbol.TheVariants.{Sign, Fact}
use Rattle.sentences.specs.declared.tokens.Found.{Found}
use Rattle.sentences.specs.declared.cursor.Cursor.{Cursor}
use Rattle.sentences.specs.declared.names.Names.{Names}
use Rattle.sentences.specs.declared.tokens.Sign.{Sign as SignT}
use Rattle.sentences.specs.declared.tokens.Sign.TheVariants.{Not, And, Or, Open, Close}
use Rattle.sentences.specs.Cursors.{SameText}
use Rattle.sentences.specs.Naming.{words}
use Rattle.sentences.specs.Names.{Word, fact_of}
use Rattle.sentences.specs.Tokens.{Tok, sign, word}
use Rattle.sentences.specs.Scanning.{end, stray, token, scan_at, Goes}
use Rattle.sentences.specs.Machine.{symbol_of, Frame, frame, State, want, got, fresh, or_with, and_with, negated, fact_symbol, on, finish, if_named, if_fits, parse, tokens_in, meaning, reading}
use Rattle.sentences.specs.Reads.{Symbolic, NextSymbol, Stretch, Lacks, PartRead, ClauseSoFar, ClauseRead, SentenceSoFar, SentenceRead}

-- a token that stands for a sign is that sign
no_sign : (o : Option ℕ) (g : SignT) → fact_symbol o ≡ Some (Sign g) → ⊥
no_sign None g e = let z : ◌≡◌ {A = ℕ} 0 1 = cc in omega arith
no_sign (Some i) g e = let z : ◌≡◌ {A = ℕ} 0 1 = cc in omega arith

sign_symbol : (ns : List Word) (t : Tok) (g : SignT) → symbol_of ns t ≡ Some (Sign g) → t ≡ sign g
sign_symbol ns (sign h) g e = cc
sign_symbol ns (word w) g e = absurd (no_sign (fact_of ns w) g e)

-- after a part nothing fits but `&`, `|` and a closing bracket
stuck : (k : Symbol) (o : Option SheetSet) (x : SheetSet) (fs : List Frame) → (k ≡ Sign And → ⊥) → (k ≡ Sign Or → ⊥) → (k ≡ Sign Close → on (got o x fs) (Sign Close) ≡ None)
    → on (got o x fs) k ≡ None
stuck (Fact i) o x fs a b c = refl
stuck (Sign Not) o x fs a b c = refl
stuck (Sign And) o x fs a b c = absurd (a refl)
stuck (Sign Or) o x fs a b c = absurd (b refl)
stuck (Sign Open) o x fs a b c = refl
stuck (Sign Close) o x fs a b c = c refl

-- what holds of a place in a text, in the words of another place of the same text
pub here_too : (P : List Word → List ℕ → ℕ → Type 0) {c d : Cursor} {p : ℕ} → SameText c d → d.at ≡ p → P (words d.names.now) d.text.now d.at → P (words c.names.now) c.text.now p
here_too P {c} {d} o e x =
    subst (λ (n : ℕ). P (words c.names.now) c.text.now n) e
    (subst (λ (s : List ℕ). P (words c.names.now) s d.at) o.text (subst (λ (n : Names). P (words n) d.text.now d.at) o.names x))

module _ (ns : List Word) (s : List ℕ) where
  pub parse-end : (at : ℕ) (st : State) → scan_at s at ≡ end (length s) → parse ns st (scan_at s at) ≡ finish (length s) st
  unfolding parse
  parse-end at st e = ap (parse ns st) e

  pub parse-stray : (at : ℕ) (st : State) {p : ℕ} → scan_at s at ≡ stray p → parse ns st (scan_at s at) ≡ Err (Stray p)
  unfolding parse
  parse-stray at st e = ap (parse ns st) e

  pub parse-unknown : {at : ℕ} (st : State) {t : Tok} {p q : ℕ} → Goes s at t p q → symbol_of ns t ≡ None → parse ns st (scan_at s at) ≡ Err (Unknown p)
  unfolding parse
  parse-unknown st {p = p} {q = q} g e =
      ap (parse ns st) g.scans ∙ ap (λ (o : Option Symbol). if_named p o (λ x. if_fits p (on st x) (λ st'. parse ns st' (scan_at s q)))) e

  -- what was found, by the case that a reader looks at
  pub found : (at : ℕ) {o : Option (Found Symbol)} {x : Found Symbol} → NextSymbol ns s at (Ok o) → o ≡ Some x → Symbolic ns s at x.what x.start x.after
  found at m e = subst (λ (o : Option (Found Symbol)). NextSymbol ns s at (Ok o)) e m

  pub none_found : (at : ℕ) {o : Option (Found Symbol)} → NextSymbol ns s at (Ok o) → o ≡ None → scan_at s at ≡ end (length s)
  none_found at m e = subst (λ (o : Option (Found Symbol)). NextSymbol ns s at (Ok o)) e m

  -- a symbol brings the next state, or fits nowhere
  moves : {at : ℕ} {x : Symbol} {b z : ℕ} (st : State) (o : Option State) → Symbolic ns s at x b z → on st x ≡ o
      → parse ns st (scan_at s at) ≡ if_fits b o (λ st'. parse ns st' (scan_at s z))
  unfolding parse
  moves {x = x} {b = b} {z = z} st o m f =
      ap (parse ns st) m.goes.scans
      ∙ ap (λ (y : Option Symbol). if_named b y (λ u. if_fits b (on st u) (λ st'. parse ns st' (scan_at s z)))) m.named
      ∙ ap (λ (n : Option State). if_fits b n (λ st'. parse ns st' (scan_at s z))) f

  pub moves-to : {at : ℕ} {x : Symbol} {b z : ℕ} (st st' : State) → Symbolic ns s at x b z → on st x ≡ Some st' → parse ns st (scan_at s at) ≡ parse ns st' (scan_at s z)
  moves-to st st' = moves st (Some st')

  pub misfits : {at : ℕ} {x : Symbol} {b z : ℕ} (st : State) → Symbolic ns s at x b z → on st x ≡ None → parse ns st (scan_at s at) ≡ Err (Misfit b)
  misfits st = moves st None

  lacking : {p : ℕ} {y : Symbol} {c d : ℕ} {g : SignT} → Symbolic ns s p y c d → Lacks s p g → y ≡ Sign g → ⊥
  lacking {c = c} {d = d} {g = g} m k e =
      let t = sign_symbol ns m.tok g (m.named ∙ ap Some e) in
      k c d (scan_at s d) (m.goes.scans ∙ ap (λ (u : Tok). token u c d (scan_at s d)) t)

  -- ---- stretches of tokens

  one : {at p q : ℕ} {t : Tok} → Goes s at t p q → Stretch s at 1 q
  unfolding tokens_in
  one g = record { within = g.within; counted = ap tokens_in g.scans; few = omega (arith, g.moves); some = omega arith }

  join : {a b c m n : ℕ} → Stretch s a m b → Stretch s b n c → Stretch s a (m + n) c
  join {a} {b} {c} {m} {n} x y = record {
    within = y.within;
    counted = omega (arith, x.counted, y.counted);
    few = omega (arith, x.few, y.few);
    some = omega (arith, x.some);
  }

  -- ---- parts

  pub part_end : (at : ℕ) → scan_at s at ≡ end (length s) → (g : Frame) (fs : List Frame) → parse ns (want g fs) (scan_at s at) ≡ Err (Misfit (length s))
  part_end at e g fs = parse-end at (want g fs) e

  pub part-fact : {at : ℕ} {x : Symbol} {b z : ℕ} {i : ℕ} → Symbolic ns s at x b z → x ≡ Fact i → PartRead ns s at (set_of (λ k. bit k i)) 1 z
  part-fact m e = record { stretch = one m.goes; comes = λ o a n fs. moves-to (want (frame o a n) fs) _ m (ap (on (want (frame o a n) fs)) e) }

  pub part-not : {at : ℕ} {x : Symbol} {b z : ℕ} {v : SheetSet} {t l : ℕ} → Symbolic ns s at x b z → x ≡ Sign Not → PartRead ns s z v t l
      → PartRead ns s at (outside v) (1 + t) l
  part-not m e r = record {
    stretch = join (one m.goes) r.stretch;
    comes = λ o a n fs. moves-to (want (frame o a n) fs) _ m (ap (on (want (frame o a n) fs)) e) ∙ r.comes o a (suc n) fs;
  }

  pub part-not-fails : {at : ℕ} {x : Symbol} {b z : ℕ} {f : SentenceFault} → Symbolic ns s at x b z → x ≡ Sign Not
      → ((g : Frame) (fs : List Frame) → parse ns (want g fs) (scan_at s z) ≡ Err f) → (g : Frame) (fs : List Frame) → parse ns (want g fs) (scan_at s at) ≡ Err f
  part-not-fails m e k (frame o a n) fs = moves-to (want (frame o a n) fs) _ m (ap (on (want (frame o a n) fs)) e) ∙ k (frame o a (suc n)) fs

  pub part-misfit : {at : ℕ} {x : Symbol} {b z : ℕ} → Symbolic ns s at x b z → ((g : Frame) (fs : List Frame) → on (want g fs) x ≡ None)
      → (g : Frame) (fs : List Frame) → parse ns (want g fs) (scan_at s at) ≡ Err (Misfit b)
  part-misfit m k g fs = misfits (want g fs) m (k g fs)

  -- ---- brackets: x opens, and r is the sentence inside

  opens : {at : ℕ} {x : Symbol} {b z : ℕ} → Symbolic ns s at x b z → x ≡ Sign Open → (g : Frame) (fs : List Frame)
      → parse ns (want g fs) (scan_at s at) ≡ parse ns (want fresh (g ∷ fs)) (scan_at s z)
  opens m e (frame o a n) fs = moves-to (want (frame o a n) fs) _ m (ap (on (want (frame o a n) fs)) e)

  pub group-fails : {at : ℕ} {x : Symbol} {b z : ℕ} {f : SentenceFault} → Symbolic ns s at x b z → x ≡ Sign Open
      → ((fs : List Frame) → parse ns (want fresh fs) (scan_at s z) ≡ Err f) → (g : Frame) (fs : List Frame) → parse ns (want g fs) (scan_at s at) ≡ Err f
  group-fails m e k g fs = opens m e g fs ∙ k (g ∷ fs)

  module _ {at : ℕ} {x : Symbol} {b z : ℕ} {v : SheetSet} {t l : ℕ} (m : Symbolic ns s at x b z) (e : x ≡ Sign Open) (inside : SentenceRead ns s z v t l) where
    -- the machine where the sentence inside has ended
    abbrev inner : Frame → List Frame → State
    inner g fs = got inside.whole.before inside.whole.last (g ∷ fs)

    inner-comes : (g : Frame) (fs : List Frame) → parse ns (want g fs) (scan_at s at) ≡ parse ns (inner g fs) (scan_at s l)
    inner-comes g fs = opens m e g fs ∙ inside.whole.comes (g ∷ fs)

    pub group-then : {f : SentenceFault} → ((st : State) → parse ns st (scan_at s l) ≡ Err f) → (g : Frame) (fs : List Frame) → parse ns (want g fs) (scan_at s at) ≡ Err f
    group-then k g fs = inner-comes g fs ∙ k (inner g fs)

    pub group-end : scan_at s l ≡ end (length s) → (g : Frame) (fs : List Frame) → parse ns (want g fs) (scan_at s at) ≡ Err (Misfit (length s))
    group-end k g fs = inner-comes g fs ∙ parse-end l (inner g fs) k

    pub group-misfit : {y : Symbol} {c d : ℕ} → Symbolic ns s l y c d → (y ≡ Sign Close → ⊥) → (g : Frame) (fs : List Frame) → parse ns (want g fs) (scan_at s at) ≡ Err (Misfit c)
    group-misfit {y} k f g fs =
        inner-comes g fs
        ∙ misfits (inner g fs) k (stuck y _ _ (g ∷ fs) (lacking k inside.whole.no_and) (lacking k inside.no_or) (λ h. absurd (f h)))

    pub group-closes : {y : Symbol} {c d : ℕ} → Symbolic ns s l y c d → y ≡ Sign Close
        → PartRead ns s at v (1 + t + 1) d
    group-closes {d = d} k f = record {
      stretch = join (join (one m.goes) inside.whole.stretch) (one k.goes);
      comes = λ o a n fs.
          inner-comes (frame o a n) fs ∙ moves-to (inner (frame o a n) fs) _ k (ap (on (inner (frame o a n) fs)) f)
          ∙ ap (λ (v : SheetSet). parse ns (got o (and_with a (negated n v)) fs) (scan_at s d)) inside.whole.sum;
    }

  -- ---- clauses and sentences that go on

  pub clause-fails : {at n p : ℕ} {x : SheetSet} {y : Symbol} {c d : ℕ} {f : SentenceFault} → ClauseSoFar ns s at x n p → Symbolic ns s p y c d → y ≡ Sign And
      → ((g : Frame) (fs : List Frame) → parse ns (want g fs) (scan_at s d) ≡ Err f)
      → (o : Option SheetSet) (fs : List Frame) → parse ns (want (frame o None 0) fs) (scan_at s at) ≡ Err f
  clause-fails {x = x} w m e k o fs = w.comes o fs ∙ moves-to (got o x fs) _ m (ap (on (got o x fs)) e) ∙ k (frame o (Some x) 0) fs

  pub clause-more : {at n p : ℕ} {x : SheetSet} {y : Symbol} {c d : ℕ} {v : SheetSet} {t l : ℕ} → ClauseSoFar ns s at x n p → Symbolic ns s p y c d → y ≡ Sign And
      → PartRead ns s d v t l → ClauseSoFar ns s at (meet x v) (n + 1 + t) l
  clause-more {x = x} w m e r = record {
    stretch = join (join w.stretch (one m.goes)) r.stretch;
    comes = λ o fs. w.comes o fs ∙ moves-to (got o x fs) _ m (ap (on (got o x fs)) e) ∙ r.comes o (Some x) 0 fs;
  }

  pub sentence-fails : {at n p : ℕ} {x : SheetSet} {y : Symbol} {c d : ℕ} {f : SentenceFault} → SentenceSoFar ns s at x n p → Symbolic ns s p y c d → y ≡ Sign Or
      → ((o : Option SheetSet) (fs : List Frame) → parse ns (want (frame o None 0) fs) (scan_at s d) ≡ Err f)
      → (fs : List Frame) → parse ns (want fresh fs) (scan_at s at) ≡ Err f
  sentence-fails w m e k fs =
      w.comes fs ∙ moves-to (got w.before w.last fs) _ m (ap (on (got w.before w.last fs)) e) ∙ k (Some (or_with w.before w.last)) fs

  pub sentence-more : {at n p : ℕ} {x : SheetSet} {y : Symbol} {c d : ℕ} {v : SheetSet} {t l : ℕ} → SentenceSoFar ns s at x n p → Symbolic ns s p y c d → y ≡ Sign Or
      → ClauseRead ns s d v t l → SentenceSoFar ns s at (union x v) (n + 1 + t) l
  sentence-more {v = v} w m e k = record {
    stretch = join (join w.stretch (one m.goes)) k.whole.stretch;
    before = Some (or_with w.before w.last);
    last = v;
    sum = ap (λ (x : SheetSet). union x v) w.sum;
    comes = λ fs.
        w.comes fs ∙ moves-to (got w.before w.last fs) _ m (ap (on (got w.before w.last fs)) e)
        ∙ k.whole.comes (Some (or_with w.before w.last)) fs;
    no_and = k.no_and;
  }

  -- ---- whole texts

  pub reads-long : 256 < length s → reading ns s ≡ Err TooLong
  unfolding reading
  reads-long h = ap (λ (b : Bool). cond b (Err TooLong) (meaning ns (tokens_in (scan_at s 0)) (parse ns (want fresh []) (scan_at s 0)))) (lt-ltb 256 (length s) h)

  pub reads-parse : length s ≤ 256 → reading ns s ≡ meaning ns (tokens_in (scan_at s 0)) (parse ns (want fresh []) (scan_at s 0))
  unfolding reading
  reads-parse h = ap (λ (b : Bool). cond b (Err TooLong) (meaning ns (tokens_in (scan_at s 0)) (parse ns (want fresh []) (scan_at s 0)))) (le-ltb 256 (length s) h)

  pub reads-fails : {f : SentenceFault} → length s ≤ 256 → parse ns (want fresh []) (scan_at s 0) ≡ Err f → reading ns s ≡ Err f
  reads-fails h e = reads-parse h ∙ ap (meaning ns (tokens_in (scan_at s 0))) e

  module _ {v : SheetSet} {t l : ℕ} (h : length s ≤ 256) (w : SentenceRead ns s 0 v t l) where
    pub reads_then : {f : SentenceFault} → ((st : State) → parse ns st (scan_at s l) ≡ Err f) → reading ns s ≡ Err f
    reads_then k = reads-fails h (w.whole.comes [] ∙ k _)

    pub reads-misfit : {y : Symbol} {c d : ℕ} → Symbolic ns s l y c d → reading ns s ≡ Err (Misfit c)
    reads-misfit {y} m =
        reads-fails h (w.whole.comes [] ∙ misfits _ m (stuck y _ _ [] (lacking m w.whole.no_and) (lacking m w.no_or) (λ _. refl)))

    pub reads_whole : scan_at s l ≡ end (length s)
        → reading ns s ≡ Ok (record { sheets = meet (set_of (λ k. ltb k (2 ^ length ns))) v; tokens = t })
    unfolding tokens_in
    reads_whole e =
        let all : tokens_in (scan_at s 0) ≡ t = omega (arith, w.whole.stretch.counted, ap tokens_in e) in
        let set : parse ns (want fresh []) (scan_at s 0) ≡ Ok v = w.whole.comes [] ∙ parse-end l _ e ∙ ap Ok w.whole.sum in
        reads-parse h ∙ ap₂ (meaning ns) all set

-- what was found from another place of the same text on
pub found_there : {c d : Cursor} {p : ℕ} → SameText c d → d.at ≡ p → {o : Option (Found Symbol)} {x : Found Symbol} → NextSymbol (words d.names.now) d.text.now d.at (Ok o) → o ≡ Some x
    → Symbolic (words c.names.now) c.text.now p x.what x.start x.after
found_there {d = d} o e {x = x} m h = here_too (λ ns s at. Symbolic ns s at x.what x.start x.after) o e (found _ _ d.at m h)

pub none_there : {c d : Cursor} {p : ℕ} → SameText c d → d.at ≡ p → {o : Option (Found Symbol)} → NextSymbol (words d.names.now) d.text.now d.at (Ok o) → o ≡ None
    → scan_at c.text.now p ≡ end (length c.text.now)
none_there {d = d} o e m h = here_too (λ ns s at. scan_at s at ≡ end (length s)) o e (none_found (words d.names.now) d.text.now d.at m h)
