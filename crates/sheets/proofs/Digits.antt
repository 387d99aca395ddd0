-- The binary digits of a number, at any width.
use Rattle.std.proofs.Common.{◌≡◌, ℕ, zero, suc, ◌+◌, ◌-◌, ◌*◌, ◌/◌, ◌%◌, ◌^◌, ◌<◌, ◌≤◌, Bool, true, false, cond, not, ◌&&◌, ◌||◌, eqb, sym, refl, ap, ◌∙◌, ap₂, le_refl, le_of_suc-le-suc, not-suc-le-zero, add-zero, add_assoc, add-suc, mod-lt, zero-lt-suc, pow-suc, zero-add, div-one, one-add, arith, pow_mono, shr-shr}
use native.Mathlib.Nat.{div-eq_of_lt, zero-div}
use lib.Arith.{lt-one}
use lib.Bits.{bit_and, bit_or, and_shr, and_mod, or_shr, or_mod}
use lib.Count.{ones, ones_step}
use lib.Dec.{eqb-zero-suc, eqb-suc-zero, eqb-suc-suc}
use lib.Pow.{pow-lt}
use Rattle.sheets.specs.Sets.{bit, digits, count}

-- what holds of 0 and of 1 holds of x % 2
below_two : (P : ℕ → Type 0) → P 0 → P 1 → (d : ℕ) → d < 2 → P d
below_two P p0 p1 zero h = p0
below_two P p0 p1 (suc zero) h = p1
below_two P p0 p1 (suc (suc d)) h = absurd (not-suc-le-zero (le_of_suc-le-suc (le_of_suc-le-suc h)))

parity : (P : ℕ → Type 0) → P 0 → P 1 → (x : ℕ) → P (x % 2)
parity P p0 p1 x = below_two P p0 p1 (x % 2) (mod-lt x (zero-lt-suc 1))

-- ---- one digit

-- an operation that goes digit by digit, and is t on single digits, is t at each digit
bit_by : (op : ℕ → ℕ → ℕ) (t : Bool → Bool → Bool)
    → ((a b k : ℕ) → op a b / 2 ^ k ≡ op (a / 2 ^ k) (b / 2 ^ k)) → ((a b k : ℕ) → op a b % 2 ^ k ≡ op (a % 2 ^ k) (b % 2 ^ k))
    → eqb (op 0 0) 1 ≡ t false false → eqb (op 0 1) 1 ≡ t false true → eqb (op 1 0) 1 ≡ t true false → eqb (op 1 1) 1 ≡ t true true
    → (a b k : ℕ) → bit (op a b) k ≡ t (bit a k) (bit b k)
unfolding bit
bit_by op t shift low e00 e01 e10 e11 a b k =
    ap (λ (x : ℕ). eqb (x % 2) 1) (shift a b k)
    ∙ ap (λ (x : ℕ). eqb x 1) (low (a / 2 ^ k) (b / 2 ^ k) 1)
    ∙ parity (λ x. eqb (op x (b / 2 ^ k % 2)) 1 ≡ t (eqb x 1) (bit b k))
    (parity (λ y. eqb (op 0 y) 1 ≡ t false (eqb y 1)) e00 e01 (b / 2 ^ k))
    (parity (λ y. eqb (op 1 y) 1 ≡ t true (eqb y 1)) e10 e11 (b / 2 ^ k)) (a / 2 ^ k)

pub bit-and : (a b k : ℕ) → bit (bit_and a b) k ≡ (bit a k && bit b k)
bit-and = bit_by bit_and ◌&&◌ and_shr and_mod refl refl refl refl

pub bit-or : (a b k : ℕ) → bit (bit_or a b) k ≡ (bit a k || bit b k)
bit-or = bit_by bit_or ◌||◌ or_shr or_mod refl refl refl refl

pub bit_none : (k : ℕ) → bit 0 k ≡ false
unfolding bit
bit_none k = ap (λ (x : ℕ). eqb (x % 2) 1) (zero-div (2 ^ k))

-- the lowest digit, and the others
bit-zero : (n : ℕ) → bit n 0 ≡ eqb (n % 2) 1
unfolding bit
bit-zero n = ap (λ (x : ℕ). eqb (x % 2) 1) (div-one n)

bit-suc : (n k : ℕ) → bit n (suc k) ≡ bit (n / 2) k
unfolding bit
bit-suc n k = ap (bit n) (sym (one-add k)) ∙ ap (λ (x : ℕ). eqb (x % 2) 1) (sym (shr-shr n 1 k))

-- a number of n digits has no digit from n on
pub bit_above : (n w k : ℕ) → w < 2 ^ n → n ≤ k → bit w k ≡ false
unfolding bit
bit_above n w k h l =
    let below : w < 2 ^ k = omega (arith, pow_mono l) in
    ap (λ (x : ℕ). eqb (x % 2) 1) (div-eq_of_lt below)

-- the complement at w digits
pub bit_not : (w a k : ℕ) → a < 2 ^ w → k < w → bit ((2 ^ w - 1) - a) k ≡ not (bit a k)
bit_not zero a k h l = absurd (not-suc-le-zero l)
bit_not (suc w) a zero h l =
    let e : ((2 ^ suc w - 1) - a) % 2 ≡ 1 - a % 2 = omega (arith, pow-suc 2 w) in
    bit-zero ((2 ^ suc w - 1) - a) ∙ ap (λ (x : ℕ). eqb x 1) e
    ∙ parity (λ x. eqb (1 - x) 1 ≡ not (eqb x 1)) refl refl a ∙ ap not (sym (bit-zero a))
bit_not (suc w) a (suc k) h l =
    let e : ((2 ^ suc w - 1) - a) / 2 ≡ (2 ^ w - 1) - a / 2 = omega (arith, pow-suc 2 w) in
    let h' : a / 2 < 2 ^ w = omega (arith, pow-suc 2 w) in
    bit-suc ((2 ^ suc w - 1) - a) k ∙ ap (λ (x : ℕ). bit x k) e ∙ bit_not w (a / 2) k h' (le_of_suc-le-suc l)
    ∙ ap not (sym (bit-suc a k))

-- what is in a and not in b
pub bit-minus : (w a b k : ℕ) → b < 2 ^ w → k < w → bit (bit_and a ((2 ^ w - 1) - b)) k ≡ (bit a k && not (bit b k))
bit-minus w a b k h l = bit-and a ((2 ^ w - 1) - b) k ∙ ap (λ (t : Bool). bit a k && t) (bit_not w b k h l)

-- a power of two has one digit
bit_power : (f k : ℕ) → bit (2 ^ f) k ≡ eqb k f
bit_power zero zero = bit-zero 1
bit_power zero (suc k) = bit-suc 1 k ∙ bit_above 0 0 k (omega arith) (omega arith) ∙ sym (eqb-suc-zero k)
bit_power (suc f) zero =
    let e : 2 ^ suc f % 2 ≡ 0 = omega (arith, pow-suc 2 f) in
    bit-zero (2 ^ suc f) ∙ ap (λ (x : ℕ). eqb x 1) e ∙ sym (eqb-zero-suc f)
bit_power (suc f) (suc k) =
    let e : 2 ^ suc f / 2 ≡ 2 ^ f = omega (arith, pow-suc 2 f) in
    bit-suc (2 ^ suc f) k ∙ ap (λ (x : ℕ). bit x k) e ∙ bit_power f k ∙ sym (eqb-suc-suc k f)

-- ---- one digit set or cleared

or-cond : (a t : Bool) → (a || t) ≡ cond t true a
or-cond true true = refl
or-cond true false = refl
or-cond false true = refl
or-cond false false = refl

and-not-cond : (a t : Bool) → (a && not t) ≡ cond t false a
and-not-cond true true = refl
and-not-cond true false = refl
and-not-cond false true = refl
and-not-cond false false = refl

pub bit-set : (s f k : ℕ) → bit (bit_or s (2 ^ f)) k ≡ cond (eqb k f) true (bit s k)
bit-set s f k = bit-or s (2 ^ f) k ∙ ap (λ (t : Bool). bit s k || t) (bit_power f k) ∙ or-cond (bit s k) (eqb k f)

pub bit_cleared : (w s f k : ℕ) → f < w → k < w → bit (bit_and s ((2 ^ w - 1) - 2 ^ f)) k ≡ cond (eqb k f) false (bit s k)
bit_cleared w s f k h l =
    bit-and s ((2 ^ w - 1) - 2 ^ f) k
    ∙ ap (λ (t : Bool). bit s k && t) (bit_not w (2 ^ f) k (pow-lt h) l ∙ ap not (bit_power f k))
    ∙ and-not-cond (bit s k) (eqb k f)

-- ---- the number with given digits

pub digits_ext : (f g : ℕ → Bool) (n : ℕ) → ((k : ℕ) → k < n → f k ≡ g k) → digits f n ≡ digits g n
unfolding digits
digits_ext f g zero e = refl
digits_ext f g (suc n) e =
    ap₂ (λ (x : ℕ) (t : Bool). x + cond t (2 ^ n) 0) (digits_ext f g n (λ k l. e k (omega arith))) (e n (le_refl (suc n)))

pub digits_below : (f : ℕ → Bool) (n : ℕ) → digits f n < 2 ^ n
unfolding digits
digits_below f zero = omega arith
digits_below f (suc n) =
    elim (f n) as (λ t. digits f n + cond t (2 ^ n) 0 < 2 ^ suc n) [
      | true ↦ omega (arith, digits_below f n, pow-suc 2 n)
      | false ↦ omega (arith, digits_below f n, pow-suc 2 n)
    ]

-- twice a digit's weight is the weight of the next digit
weight : (t : Bool) (n : ℕ) → cond t (2 ^ suc n) 0 ≡ 2 * cond t (2 ^ n) 0
weight true n = omega (arith, pow-suc 2 n)
weight false n = refl

-- the lowest digit apart from the others
digits_low : (f : ℕ → Bool) (n : ℕ) → digits f (suc n) ≡ cond (f 0) 1 0 + 2 * digits (λ k. f (suc k)) n
unfolding digits
digits_low f zero = omega arith
digits_low f (suc n) = omega (arith, digits_low f n, weight (f (suc n)) n)

low : (t : Bool) (x : ℕ) → (cond t 1 0 + 2 * x) % 2 ≡ cond t 1 0
low true x = omega arith
low false x = omega arith

high : (t : Bool) (x : ℕ) → (cond t 1 0 + 2 * x) / 2 ≡ x
high true x = omega arith
high false x = omega arith

is_one : (t : Bool) → eqb (cond t 1 0) 1 ≡ t
is_one true = refl
is_one false = refl

pub bit-digits : (f : ℕ → Bool) (n k : ℕ) → k < n → bit (digits f n) k ≡ f k
bit-digits f zero k l = absurd (not-suc-le-zero l)
bit-digits f (suc n) zero l =
    bit-zero (digits f (suc n))
    ∙ ap (λ (x : ℕ). eqb x 1) (ap (λ (x : ℕ). x % 2) (digits_low f n) ∙ low (f 0) (digits (λ k. f (suc k)) n)) ∙ is_one (f 0)
bit-digits f (suc n) (suc k) l =
    bit-suc (digits f (suc n)) k
    ∙ ap (λ (x : ℕ). bit x k) (ap (λ (x : ℕ). x / 2) (digits_low f n) ∙ high (f 0) (digits (λ k. f (suc k)) n))
    ∙ bit-digits (λ k. f (suc k)) n k (le_of_suc-le-suc l)

-- the lowest digit as a number
odd : (a : ℕ) → cond (bit a 0) 1 0 ≡ a % 2
odd a = ap (λ (t : Bool). cond t 1 0) (bit-zero a) ∙ parity (λ d. cond (eqb d 1) 1 0 ≡ d) refl refl a

-- a number of w digits is the one with its own digits
pub digits-bit : (w a : ℕ) → a < 2 ^ w → digits (bit a) w ≡ a
unfolding digits
digits-bit zero a h = sym (lt-one h)
digits-bit (suc w) a h =
    let h' : a / 2 < 2 ^ w = omega (arith, pow-suc 2 w) in
    let rest = digits_ext (λ k. bit a (suc k)) (bit (a / 2)) w (λ k l. bit-suc a k) ∙ digits-bit w (a / 2) h' in
    omega (arith, digits_low (bit a) w, odd a, rest)

pub digits_is : (w a : ℕ) (f : ℕ → Bool) → a < 2 ^ w → ((k : ℕ) → k < w → bit a k ≡ f k) → a ≡ digits f w
digits_is w a f h e = sym (digits-bit w a h) ∙ digits_ext (bit a) f w e

-- digits that are not set add nothing
digits_trim : (f : ℕ → Bool) (n m : ℕ) → ((k : ℕ) → n ≤ k → f k ≡ false) → digits f (n + m) ≡ digits f n
unfolding digits
digits_trim f n zero e = ap (digits f) (add-zero n)
digits_trim f n (suc m) e =
    ap (digits f) (add-suc n m) ∙ ap₂ (λ (x : ℕ) (t : Bool). x + cond t (2 ^ (n + m)) 0) (digits_trim f n m e) (e (n + m) (omega arith))
    ∙ add-zero (digits f n)

-- a number of n + m digits, of which those from n on are not set, is the one with its first n digits
pub digits_front : (n m a : ℕ) (f : ℕ → Bool) → a < 2 ^ (n + m) → ((k : ℕ) → k < n + m → bit a k ≡ f k) → ((k : ℕ) → n ≤ k → f k ≡ false) → a ≡ digits f n
digits_front n m a f h e z = digits_is (n + m) a f h e ∙ digits_trim f n m z

-- ---- counting

pub count_ext : (f g : ℕ → Bool) (n : ℕ) → ((k : ℕ) → k < n → f k ≡ g k) → count f n ≡ count g n
unfolding count
count_ext f g zero e = refl
count_ext f g (suc n) e =
    ap₂ (λ (x : ℕ) (t : Bool). x + cond t 1 0) (count_ext f g n (λ k l. e k (omega arith))) (e n (le_refl (suc n)))

pub count_split : (f : ℕ → Bool) (m n : ℕ) → count f (m + n) ≡ count f m + count (λ k. f (m + k)) n
unfolding count
count_split f m zero = ap (count f) (add-zero m) ∙ sym (add-zero (count f m))
count_split f m (suc n) =
    ap (count f) (add-suc m n) ∙ ap (λ (x : ℕ). x + cond (f (m + n)) 1 0) (count_split f m n)
    ∙ add_assoc (count f m) (count (λ k. f (m + k)) n) (cond (f (m + n)) 1 0)

-- the ones of a word are its digits that are set
pub count_ones : (w a : ℕ) → a < 2 ^ w → count (bit a) w ≡ ones a
unfolding count ones
count_ones zero a h = sym (ap ones (lt-one h))
count_ones (suc w) a h =
    let h' : a / 2 < 2 ^ w = omega (arith, pow-suc 2 w) in
    let rest = count_ext (λ k. bit a (1 + k)) (bit (a / 2)) w (λ k l. ap (bit a) (one-add k) ∙ bit-suc a k) ∙ count_ones w (a / 2) h' in
    ap (count (bit a)) (sym (one-add w)) ∙ count_split (bit a) 1 w ∙ ap₂ (λ (x y : ℕ). x + y) (zero-add (cond (bit a 0) 1 0) ∙ odd a) rest
    ∙ sym (ones_step a)
