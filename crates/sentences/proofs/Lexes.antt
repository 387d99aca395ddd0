-- The tokens of a text by their spelling are those that the scan gives, and the text ends, strays or has a token at each place.
use Rattle.std.proofs.Common.{◌≡◌, ℕ, zero, suc, ◌+◌, ◌-◌, ◌<◌, ◌≤◌, ◌⊎◌, List, [], ◌∷◌, ◌++◌, length, get_or, sym, refl, ap, ◌∙◌, subst, inl, inr, ⊎_elim, true≢false, arith}
use Rattle.sentences.specs.declared.tokens.Class.{Class}
use Rattle.sentences.specs.declared.tokens.Class.TheVariants as class
use Rattle.sentences.specs.Tokens.{Tok, sign, class_of, Run, Blanks, Letters, Spelled, spells_sign, spells_word, Lexed, Strays, Ended, Tokens, stop, step}
use Rattle.sentences.specs.Scanning.{is_letter, end, stray, scan_at, Goes}
use Rattle.sentences.proofs.Scans.{scan-end, scan-blank, scan-sign, scan-stray, scan-word, run_more}

-- what stands in a text from a place on
pub data Ahead (s : List ℕ) (at : ℕ) : Type 0 where
  ends : Ended s at → Ahead s at
  strays : {p : ℕ} → Strays s at p → Ahead s at
  lexes : {t : Tok} {a z : ℕ} → Lexed s at t a z → Ahead s at

-- where a longest run of letters ends, which may be where it begins
record WordEnd (s : List ℕ) (i : ℕ) : Type 0 where
  to : ℕ
  from : i ≤ to
  within : to ≤ length s
  letters : Letters s i to
  stops : to < length s → class_of (get_or s to 0) ≡ class.Letter → ⊥

-- a class is that of letters, or it is not
letter_or_not : (c : Class) → (c ≡ class.Letter) ⊎ (c ≡ class.Letter → ⊥)
letter_or_not class.Blank = inr (λ e. true≢false (ap is_letter (sym e)))
letter_or_not class.Letter = inl refl
letter_or_not (class.Sign g) = inr (λ e. true≢false (ap is_letter (sym e)))
letter_or_not class.Other = inr (λ e. true≢false (ap is_letter (sym e)))

-- one more token after others
pub tokens_more : {s : List ℕ} {i j a z : ℕ} {ts : List Tok} {t : Tok} → Tokens s i ts j → Lexed s j t a z → Tokens s i (ts ++ t ∷ []) z
tokens_more stop l = step l stop
tokens_more (step m p) l = step m (tokens_more p l)

module _ (s : List ℕ) where
  -- ---- the scan gives each token by its spelling

  -- n blanks are passed over
  over : (n i j : ℕ) → j ≡ i + n → j ≤ length s → Blanks s i j → scan_at s i ≡ scan_at s j
  over zero i j e w b = let same : i ≡ j = omega arith in ap (scan_at s) same
  over (suc n) i j e w b = scan-blank s i (omega arith) (b i (omega arith) (omega arith)) ∙ over n (i + 1) j (omega arith) w (λ k l. b k (omega arith))

  -- blanks are passed over
  past : (i j : ℕ) → i ≤ j → j ≤ length s → Blanks s i j → scan_at s i ≡ scan_at s j
  past i j h = over (j - i) i j (omega arith)

  -- a token that stands at once
  spelled-goes : {i j : ℕ} {t : Tok} → Spelled s i j t → Goes s i t i j
  spelled-goes {i} {j} (spells_sign {g = g} h c e) =
      subst (Goes s i (sign g) i) (sym e) (record { scans = scan-sign s i g h c; moves = omega arith; within = omega arith })
  spelled-goes {i} {j} (spells_word h w run stops) = record { scans = scan-word s i j h w run stops; moves = h; within = w }

  -- a token after blanks
  pub lexed-goes : {at a z : ℕ} {t : Tok} → Lexed s at t a z → Goes s at t a z
  lexed-goes {at} {a} {z} l =
      let g = spelled-goes l.spelled in
      record { scans = past at a l.from (omega (arith, g.moves, g.within)) l.blanks ∙ g.scans; moves = omega (arith, l.from, g.moves); within = g.within }

  -- a stray byte after blanks
  pub strays-scan : {at p : ℕ} → Strays s at p → scan_at s at ≡ stray p
  strays-scan {at} {p} x = past at p x.from (omega (arith, x.within)) x.blanks ∙ scan-stray s p x.within x.other

  -- nothing but blanks
  pub ended-scan : {at : ℕ} → Ended s at → scan_at s at ≡ end (length s)
  ended-scan {at} x = past at (length s) x.within (omega arith) x.blanks ∙ scan-end s (length s) (omega arith)

  -- ---- at each place the text ends, strays or has a token

  -- a run of no bytes
  empty-run : {c : Class} (i : ℕ) → Run c s i i
  empty-run i k h l = absurd (omega arith)

  no-letters : (i : ℕ) → i ≤ length s → (i < length s → class_of (get_or s i 0) ≡ class.Letter → ⊥) → WordEnd s i
  no-letters i w stops = record { to = i; from = omega arith; within = w; letters = empty-run i; stops = stops }

  -- the longest run of letters from i on, where n bytes are left
  word_end : (n i : ℕ) → i + n ≡ length s → WordEnd s i
  word_end zero i e = no-letters i (omega arith) (λ h. absurd (omega arith))
  word_end (suc n) i e =
      ⊎_elim
      (λ c. let w = word_end n (i + 1) (omega arith) in
      record { to = w.to; from = omega (arith, w.from); within = w.within; letters = run_more s i w.to c w.letters; stops = w.stops })
      (λ c. no-letters i (omega arith) (λ h. c))
      (letter_or_not (class_of (get_or s i 0)))

  -- a blank in front
  after-blank : (i : ℕ) → class_of (get_or s i 0) ≡ class.Blank → Ahead s (i + 1) → Ahead s i
  after-blank i c (ends x) = ends (record { within = omega (arith, x.within); blanks = run_more s i (length s) c x.blanks })
  after-blank i c (strays {p} x) = strays (record { from = omega (arith, x.from); within = x.within; blanks = run_more s i p c x.blanks; other = x.other })
  after-blank i c (lexes {a = a} x) = lexes (record { from = omega (arith, x.from); blanks = run_more s i a c x.blanks; spelled = x.spelled })

  -- no blank in front
  at_once : {i j : ℕ} {t : Tok} → Spelled s i j t → Ahead s i
  at_once {i} x = lexes (record { from = omega arith; blanks = empty-run i; spelled = x })

  -- by the class of the byte at i, after which n bytes are left
  by_byte : (n i : ℕ) (c : Class) → i + suc n ≡ length s → class_of (get_or s i 0) ≡ c → Ahead s (i + 1) → Ahead s i
  by_byte n i class.Blank e c x = after-blank i c x
  by_byte n i class.Letter e c x =
      let w = word_end n (i + 1) (omega arith) in
      at_once (spells_word (omega (arith, w.from)) w.within (run_more s i w.to c w.letters) w.stops)
  by_byte n i (class.Sign g) e c x = at_once (spells_sign (omega arith) c refl)
  by_byte n i class.Other e c x = strays (record { from = omega arith; within = omega arith; blanks = empty-run i; other = c })

  -- what stands from i on, where n bytes are left
  pub ahead : (n i : ℕ) → i + n ≡ length s → Ahead s i
  ahead zero i e = ends (record { within = omega arith; blanks = λ k h l. absurd (omega arith) })
  ahead (suc n) i e = by_byte n i (class_of (get_or s i 0)) e refl (ahead n (i + 1) (omega arith))
