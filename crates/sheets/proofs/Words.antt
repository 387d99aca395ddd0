-- A set as four words of 64 digits.
use denote.Param.Members.{Mut}
use Rattle.std.specs.Fn.{Called}
use Rattle.std.specs.Array.{IsFromFnResult, IsFromFnResultFrom}
use Rattle.std.proofs.lemmas.Bool.{cases_eq}
use Rattle.std.proofs.Common.{◌≡◌, ℕ, zero, suc, ◌+◌, ◌*◌, ◌/◌, ◌%◌, ◌^◌, ◌<◌, ◌≤◌, ⊎_elim, Bool, List, length, get_or, sym, refl, ap, ◌∙◌, subst, ap₂, le_of_suc-le-suc, not-suc-le-zero, zero-add, arith, ext_get_or}
use lib.Count.{ones}
use Rattle.sheets.specs.declared.SheetSet.{SheetSet}
use Rattle.sheets.specs.Sets.{bit, mem, digits, set_of, count}
use Rattle.sheets.proofs.Digits.{digits_ext, digits_is, count_ext, count_split, count_ones}

-- the words of a set that code holds: four, each of 64 bits
pub record Formed (x : SheetSet) : Type 0 where
  pub four : length x.words ≡ 4
  pub fits : (q : ℕ) → q < 4 → get_or x.words q 0 < 2 ^ 64

-- what holds of 0, 1, 2 and 3 holds of each number below 4
below_four : (P : ℕ → Type 0) → P 0 → P 1 → P 2 → P 3 → (q : ℕ) → q < 4 → P q
below_four P a b c d zero h = a
below_four P a b c d (suc zero) h = b
below_four P a b c d (suc (suc zero)) h = c
below_four P a b c d (suc (suc (suc zero))) h = d
below_four P a b c d (suc (suc (suc (suc q)))) h =
    absurd (not-suc-le-zero (le_of_suc-le-suc (le_of_suc-le-suc (le_of_suc-le-suc (le_of_suc-le-suc h)))))

-- digit k of word q is the sheet 64 * q + k
mem_word : (x : SheetSet) (q k : ℕ) → k < 64 → mem x (64 * q + k) ≡ bit (get_or x.words q 0) k
unfolding mem
mem_word x q k l =
    let d : (64 * q + k) / 64 ≡ q = omega arith in
    let m : (64 * q + k) % 64 ≡ k = omega arith in
    ap₂ (λ (i j : ℕ). bit (get_or x.words i 0) j) d m

pub word-set_of : (f : ℕ → Bool) (q : ℕ) → q < 4 → get_or (set_of f).words q 0 ≡ digits (λ k. f (64 * q + k)) 64
unfolding set_of
word-set_of f =
    below_four (λ q. get_or (set_of f).words q 0 ≡ digits (λ k. f (64 * q + k)) 64)
    (digits_ext f (λ k. f (0 + k)) 64 (λ k l. ap f (sym (zero-add k)))) refl refl refl

pub length-set_of : (f : ℕ → Bool) → length (set_of f).words ≡ 4
unfolding set_of
length-set_of f = refl

-- four words with the digits of f are those of the set of f
pub is-set_of : (x : SheetSet) (f : ℕ → Bool) → length x.words ≡ 4
    → ((q : ℕ) → q < 4 → get_or x.words q 0 ≡ digits (λ k. f (64 * q + k)) 64) → x ≡ set_of f
is-set_of x f four e =
    ap (λ (ws : List ℕ). record { words = ws })
    (ext_get_or 0 x.words (set_of f).words (four ∙ sym (length-set_of f))
    (λ q h. let l : q < 4 = omega (arith, four) in e q l ∙ sym (word-set_of f q l)))

-- a set is determined by its members
pub by_members : (x : SheetSet) (f : ℕ → Bool) → Formed x → ((s : ℕ) → s < 256 → mem x s ≡ f s) → x ≡ set_of f
by_members x f formed e =
    is-set_of x f formed.four
    (λ q l.
    digits_is 64 (get_or x.words q 0) (λ k. f (64 * q + k)) (formed.fits q l)
    (λ k m. sym (mem_word x q k m) ∙ e (64 * q + k) (omega arith)))

-- ---- words that a closure makes, called at each index

module _ {F : Type 0} (g : Mut F (ℕ × Unit {0}) ℕ) {f : F} (word : ℕ → ℕ) (calls : (q w : ℕ) (f' : F) → Called g f (q, tt) w f' → (f' ≡ f) × (w ≡ word q)) where
  each_word : (ws : List ℕ) (from n : ℕ) → IsFromFnResultFrom g f ws from n → (q : ℕ) → from ≤ q → q < from + n → get_or ws q 0 ≡ word q
  each_word ws from zero made q l m = absurd (omega arith)
  each_word ws from (suc n) (f', w, at, call, rest) q l m =
      let here = calls from w f' call in
      ⊎_elim
      (λ e. subst (λ (q : ℕ). get_or ws q 0 ≡ word q) (sym e) (at.1 0 ∙ here.1))
      (λ ne. each_word ws (from + 1) n (subst (λ (f : F). IsFromFnResultFrom g f ws (from + 1) n) here.0 rest) q (omega arith) (omega arith))
      (cases_eq q from)

-- an operation on words that is t at each digit makes the set that is t at each sheet
pub word_by_word : (op : ℕ → ℕ → ℕ) (t : Bool → Bool → Bool)
    → ((x y : ℕ) → x < 2 ^ 64 → y < 2 ^ 64 → op x y < 2 ^ 64)
    → ((x y k : ℕ) → x < 2 ^ 64 → y < 2 ^ 64 → k < 64 → bit (op x y) k ≡ t (bit x k) (bit y k))
    → (a b : SheetSet) → Formed a → Formed b
    → {F : Type 0} (g : Mut F (ℕ × Unit {0}) ℕ) {f : F}
    → ((q w : ℕ) (f' : F) → Called g f (q, tt) w f' → (f' ≡ f) × (w ≡ op (get_or a.words q 0) (get_or b.words q 0)))
    → (ws : List ℕ) → IsFromFnResult g f ws 4 → record { words = ws } ≡ set_of (λ s. t (mem a s) (mem b s))
unfolding mem
word_by_word op t fits law a b fa fb g calls ws made =
    let word : ℕ → ℕ = λ q. op (get_or a.words q 0) (get_or b.words q 0) in
    let at : (q : ℕ) → q < 4 → word q ≡ get_or ws q 0 = λ q l. sym (each_word g word calls ws 0 4 made.each q (omega arith) (omega arith)) in
    by_members (record { words = ws }) (λ s. t (mem a s) (mem b s))
    (record { four = made.long; fits = λ q l. subst (λ (w : ℕ). w < 2 ^ 64) (at q l) (fits _ _ (fa.fits q l) (fb.fits q l)) })
    (λ s h.
    let l : s / 64 < 4 = omega arith in
    ap (λ (w : ℕ). bit w (s % 64)) (sym (at (s / 64) l)) ∙ law _ _ (s % 64) (fa.fits (s / 64) l) (fb.fits (s / 64) l) (omega arith))

-- ---- counting

count_word : (x : SheetSet) → Formed x → (q : ℕ) → q < 4 → count (λ k. mem x (64 * q + k)) 64 ≡ ones (get_or x.words q 0)
count_word x formed q l =
    count_ext (λ k. mem x (64 * q + k)) (bit (get_or x.words q 0)) 64 (mem_word x q) ∙ count_ones 64 (get_or x.words q 0) (formed.fits q l)

count_more : (f : ℕ → Bool) (m x y : ℕ) → count f m ≡ x → count (λ k. f (m + k)) 64 ≡ y → count f (m + 64) ≡ x + y
count_more f m x y p q = count_split f m 64 ∙ ap₂ (λ (x y : ℕ). x + y) p q

pub count-words : (x : SheetSet) → Formed x
    → count (mem x) 256 ≡ ones (get_or x.words 0 0) + ones (get_or x.words 1 0) + ones (get_or x.words 2 0) + ones (get_or x.words 3 0)
count-words x formed =
    count_more (mem x) 192 _ _ (count_more (mem x) 128 _ _ (count_more (mem x) 64 _ _
    (count_ext (mem x) (λ k. mem x (0 + k)) 64 (λ k l. ap (mem x) (sym (zero-add k))) ∙ count_word x formed 0 (omega arith))
    (count_word x formed 1 (omega arith))) (count_word x formed 2 (omega arith))) (count_word x formed 3 (omega arith))
