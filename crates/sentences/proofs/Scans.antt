-- What stands in a text from a place on, by the byte at that place.
use Rattle.std.proofs.Common.{◌≡◌, ℕ, zero, suc, ◌+◌, ◌-◌, ◌<◌, ◌≤◌, Bool, true, false, List, ◌∷◌, length, get_or, take, drop, true≢false, sym, refl, ap, ◌∙◌, subst, ap₂, ⊎_elim, arith, rules}
use Rattle.std.specs.List.{prefix_len}
use Rattle.std.proofs.lemmas.Bool.{cases_eq, cases_lt}
use Rattle.std.proofs.lemmas.List.{take_all, drop_more, at_drop_more, at_drop_all, get_or-drop, length-drop}
use Rattle.std.proofs.lemmas.List.Sums.{prefix_len-le-length, prefix_len_passes, prefix_len_stops}
use Rattle.sentences.specs.declared.tokens.Sign.{Sign}
use Rattle.sentences.specs.declared.tokens.Class.{Class}
use Rattle.sentences.specs.declared.tokens.Class.TheVariants as class
use Rattle.sentences.specs.Tokens.{Tok, sign, word, word_byte, class_of, Run, Letters}
use Rattle.sentences.specs.Scanning.{end, stray, token, is_letter, lettered, longer, put, scan, scan_at, Goes}

no_letter : (c : Class) → (c ≡ class.Letter → ⊥) → is_letter c ≡ false
no_letter class.Blank f = refl
no_letter class.Letter f = absurd (f refl)
no_letter (class.Sign g) f = refl
no_letter class.Other f = refl

-- a byte is a letter where the test of letters passes
letter_word : (b : ℕ) → word_byte b ≡ true → class_of b ≡ class.Letter
unfolding class_of
letter_word b e = search rules

word_letter : (b : ℕ) → class_of b ≡ class.Letter → word_byte b ≡ true
unfolding class_of
word_letter b e = grind (arith)

module _ (s : List ℕ) where
  -- the rest of a text, as a slice
  pub rest-is : (at : ℕ) → take (length s - at) (drop at s) ≡ drop at s
  rest-is at = take_all (length s - at) (drop at s) (omega (arith, length-drop at s))

  pub rest-at : (at k : ℕ) → get_or (take (length s - at) (drop at s)) k 0 ≡ get_or s (at + k) 0
  rest-at at k = ap (λ (xs : List ℕ). get_or xs k 0) (rest-is at) ∙ get_or-drop at s k 0

  pub scan-end : (p : ℕ) → length s ≤ p → scan_at s p ≡ end p
  unfolding scan_at scan
  scan-end p h = at_drop_all (scan p) s p h

  scan-as : (p : ℕ) (c : Class) → p < length s → class_of (get_or s p 0) ≡ c → scan_at s p ≡ put c (lettered (drop (p + 1) s)) (get_or s p 0) p (scan_at s (p + 1))
  unfolding scan_at scan
  scan-as p c h e = at_drop_more (scan p) s p 0 h ∙ ap (λ (k : Class). put k (lettered (drop (p + 1) s)) (get_or s p 0) p (scan_at s (p + 1))) e

  pub scan-blank : (p : ℕ) → p < length s → class_of (get_or s p 0) ≡ class.Blank → scan_at s p ≡ scan_at s (p + 1)
  scan-blank p h e = scan-as p class.Blank h e

  pub scan-sign : (p : ℕ) (g : Sign) → p < length s → class_of (get_or s p 0) ≡ class.Sign g → scan_at s p ≡ token (sign g) p (p + 1) (scan_at s (p + 1))
  scan-sign p g h e = scan-as p (class.Sign g) h e

  pub scan-stray : (p : ℕ) → p < length s → class_of (get_or s p 0) ≡ class.Other → scan_at s p ≡ stray p
  scan-stray p h e = scan-as p class.Other h e

  -- a letter, by whether another follows
  scan-letter : (p : ℕ) (more : Bool) → p < length s → class_of (get_or s p 0) ≡ class.Letter → lettered (drop (p + 1) s) ≡ more
      → scan_at s p ≡ put class.Letter more (get_or s p 0) p (scan_at s (p + 1))
  scan-letter p more h e m = scan-as p class.Letter h e ∙ ap (λ (b : Bool). put class.Letter b (get_or s p 0) p (scan_at s (p + 1))) m

  unlettered : (p : ℕ) → (p < length s → class_of (get_or s p 0) ≡ class.Letter → ⊥) → lettered (drop p s) ≡ false
  unlettered p f =
      ⊎_elim (λ h. at_drop_more lettered s p 0 h ∙ no_letter (class_of (get_or s p 0)) (f h))
      (λ h. at_drop_all lettered s p h) (cases_lt p (length s))

  one_more : (i j : ℕ) → i < length s → i < j → get_or s i 0 ∷ take (j - (i + 1)) (drop (i + 1) s) ≡ take (j - i) (drop i s)
  one_more i j h l =
      let e : j - i ≡ suc (j - (i + 1)) = omega arith in
      sym (ap (λ (n : ℕ). take n (drop i s)) e ∙ ap (take (suc (j - (i + 1)))) (drop_more s i 0 h))

  -- a longest run of letters is one word: n more letters follow the first
  scan-run : (n i j : ℕ) → j ≡ i + (n + 1) → j ≤ length s → Letters s i j → (j < length s → class_of (get_or s j 0) ≡ class.Letter → ⊥)
      → scan_at s i ≡ token (word (take (j - i) (drop i s))) i j (scan_at s j)
  scan-run zero i j e w run stops =
      let i1 : i + 1 ≡ j = omega arith in
      let none : 0 ≡ j - (i + 1) = omega arith in
      scan-letter i false (omega arith) (run i (omega arith) (omega arith))
      (unlettered (i + 1) (subst (λ (k : ℕ). k < length s → class_of (get_or s k 0) ≡ class.Letter → ⊥) (sym i1) stops))
      ∙ ap₂ (λ (v : List ℕ) (k : ℕ). token (word v) i k (scan_at s k))
      (ap (λ (m : ℕ). get_or s i 0 ∷ take m (drop (i + 1) s)) none ∙ one_more i j (omega arith) (omega arith)) i1
  scan-run (suc n) i j e w run stops =
      let next = scan-run n (i + 1) j (omega arith) w (λ k l. run k (omega arith)) stops in
      let more : lettered (drop (i + 1) s) ≡ true =
      at_drop_more lettered s (i + 1) 0 (omega arith) ∙ ap is_letter (run (i + 1) (omega arith) (omega arith)) in
      scan-letter i true (omega arith) (run i (omega arith) (omega arith)) more
      ∙ ap (longer (get_or s i 0) i) next
      ∙ ap (λ (v : List ℕ). token (word v) i j (scan_at s j)) (one_more i j (omega arith) (omega arith))

  pub scan-word : (i j : ℕ) → i < j → j ≤ length s → Letters s i j → (j < length s → class_of (get_or s j 0) ≡ class.Letter → ⊥)
      → scan_at s i ≡ token (word (take (j - i) (drop i s))) i j (scan_at s j)
  scan-word i j h = scan-run (j - (i + 1)) i j (omega arith)

  -- one byte in front of a run of its class
  pub run_more : {c : Class} (i j : ℕ) → class_of (get_or s i 0) ≡ c → Run c s (i + 1) j → Run c s i j
  run_more {c} i j e run k h l =
      ⊎_elim (λ p. subst (λ (n : ℕ). class_of (get_or s n 0) ≡ c) (sym p) e) (λ p. run k (omega arith) l) (cases_eq k i)

  -- a letter and the letters right behind it are a word
  pub scan-letters : (i : ℕ) → i < length s → class_of (get_or s i 0) ≡ class.Letter
      → Goes s i (word (take (1 + prefix_len word_byte (drop (i + 1) s)) (drop i s))) i (i + 1 + prefix_len word_byte (drop (i + 1) s))
  scan-letters i h e =
      let n = prefix_len word_byte (drop (i + 1) s) in
      let inside : n ≤ length (drop (i + 1) s) = prefix_len-le-length word_byte (drop (i + 1) s) in
      let within : i + 1 + n ≤ length s = omega (arith, inside, length-drop (i + 1) s) in
      let run : Letters s (i + 1) (i + 1 + n) = λ k l m.
      let k1 : i + 1 + (k - (i + 1)) ≡ k = omega arith in
      letter_word _ (ap (λ (j : ℕ). word_byte (get_or s j 0)) (sym k1) ∙ ap word_byte (sym (get_or-drop (i + 1) s (k - (i + 1)) 0)) ∙ prefix_len_passes word_byte (drop (i + 1) s) (k - (i + 1)) 0 (omega arith)) in
      let stops : i + 1 + n < length s → class_of (get_or s (i + 1 + n) 0) ≡ class.Letter → ⊥ = λ l c.
      true≢false (sym (word_letter _ c) ∙ ap word_byte (sym (get_or-drop (i + 1) s n 0)) ∙ prefix_len_stops word_byte (drop (i + 1) s) 0 (omega (arith, length-drop (i + 1) s))) in
      let same : (i + 1 + n) - i ≡ 1 + n = omega arith in
      record {
        scans = scan-word i (i + 1 + n) (omega arith) within (run_more i (i + 1 + n) e run) stops
            ∙ ap (λ (k : ℕ). token (word (take k (drop i s))) i (i + 1 + n) (scan_at s (i + 1 + n))) same;
        moves = omega arith;
        within = within;
      }

  -- blanks in front of a token
  pub blanks-goes : {i j p q : ℕ} {t : Tok} → scan_at s i ≡ scan_at s j → i ≤ j → Goes s j t p q → Goes s i t p q
  blanks-goes e h g = record { scans = e ∙ g.scans; moves = omega (arith, g.moves); within = g.within }

  pub sign-goes : (i : ℕ) (g : Sign) → i < length s → class_of (get_or s i 0) ≡ class.Sign g → Goes s i (sign g) i (i + 1)
  sign-goes i g h e = record { scans = scan-sign i g h e; moves = omega arith; within = omega arith }
