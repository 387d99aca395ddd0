-- The laws of sets of sheets, by their members.
use Rattle.std.proofs.Common.{◌≡◌, ℕ, zero, suc, ◌+◌, ◌*◌, ◌/◌, ◌%◌, ◌<◌, Bool, true, false, cond, not, ◌&&◌, ◌||◌, eqb, List, [], ◌∷◌, length, get_or, sym, refl, ap, ◌∙◌, subst, ap₂, ⊎_elim, true≢false, suc-le-suc, le_of_suc-le-suc, not-suc-le-zero, add-zero, zero-add, zero-lt-suc, arith}
use Rattle.std.specs.Bool.{MatchBool}
use Rattle.std.specs.List.{AllWithin, HoldsAt, range_with_len}
use Rattle.std.proofs.lemmas.List.FromFn.{length-range_with_len, get_or-range_with_len}
use Rattle.std.proofs.lemmas.Bool.{false_from_ne_true, and_parts, and_from, and_cases, and_right, ne_eqb, or_left, or_right, or_parts, or_cases, cases_eq, not-false, both_ways}
use Rattle.sheets.specs.declared.SheetSet.{SheetSet}
use Rattle.sheets.specs.Sets.{bit, mem, set_of, meet, union, minus, outside, count, every, any, within, within_one, within_union, SameMembers}
use Rattle.sheets.proofs.Digits.{bit-digits, digits_ext}
use Rattle.sheets.proofs.Words.{word-set_of, length-set_of, is-set_of}

and_true : (t : Bool) → t ≡ (t && true)
and_true true = refl
and_true false = refl

-- ---- members

pub mem-set_of : (f : ℕ → Bool) (s : ℕ) → s < 256 → mem (set_of f) s ≡ f s
unfolding mem
mem-set_of f s h =
    let q : s / 64 < 4 = omega arith in
    let e : 64 * (s / 64) + s % 64 ≡ s = omega arith in
    ap (λ (w : ℕ). bit w (s % 64)) (word-set_of f (s / 64) q)
    ∙ bit-digits (λ k. f (64 * (s / 64) + k)) 64 (s % 64) (omega arith) ∙ ap f e

pub set_of_ext : (f g : ℕ → Bool) → ((s : ℕ) → s < 256 → f s ≡ g s) → set_of f ≡ set_of g
set_of_ext f g e =
    is-set_of (set_of f) g (length-set_of f)
    (λ q l. word-set_of f q l ∙ digits_ext (λ k. f (64 * q + k)) (λ k. g (64 * q + k)) 64 (λ k m. e (64 * q + k) (omega arith)))

pub mem-meet : (a b : SheetSet) (s : ℕ) → s < 256 → mem (meet a b) s ≡ (mem a s && mem b s)
unfolding meet
mem-meet a b = mem-set_of (λ s. mem a s && mem b s)

pub mem-minus : (a b : SheetSet) (s : ℕ) → s < 256 → mem (minus a b) s ≡ (mem a s && not (mem b s))
unfolding minus
mem-minus a b = mem-set_of (λ s. mem a s && not (mem b s))

-- ---- operations on sets that are given by a test

pub meet-set_of : (f g : ℕ → Bool) → meet (set_of f) (set_of g) ≡ set_of (λ s. f s && g s)
unfolding meet
meet-set_of f g = set_of_ext _ _ (λ s h. ap₂ (λ (x y : Bool). x && y) (mem-set_of f s h) (mem-set_of g s h))

pub union-set_of : (f g : ℕ → Bool) → union (set_of f) (set_of g) ≡ set_of (λ s. f s || g s)
unfolding union
union-set_of f g = set_of_ext _ _ (λ s h. ap₂ (λ (x y : Bool). x || y) (mem-set_of f s h) (mem-set_of g s h))

pub outside-set_of : (f : ℕ → Bool) → outside (set_of f) ≡ set_of (λ s. not (f s))
unfolding outside
outside-set_of f = set_of_ext _ _ (λ s h. ap not (mem-set_of f s h))

-- ---- a test of each number below n

pub every-at : (f : ℕ → Bool) (n : ℕ) → every f n ≡ true → (s : ℕ) → s < n → f s ≡ true
unfolding every
every-at f zero e s h = absurd (not-suc-le-zero h)
every-at f (suc n) e s h =
    let both = and_parts (every f n) (f n) e in
    ⊎_elim (λ p. subst (λ (k : ℕ). f k ≡ true) (sym p) both.1) (λ ne. every-at f n both.0 s (omega arith)) (cases_eq s n)

pub every_from : (f : ℕ → Bool) (n : ℕ) → ((s : ℕ) → s < n → f s ≡ true) → every f n ≡ true
unfolding every
every_from f zero e = refl
every_from f (suc n) e = and_from (every f n) (f n) (every_from f n (λ s h. e s (omega arith))) (e n (omega arith))

pub every_fails : (f : ℕ → Bool) (n : ℕ) → every f n ≡ false → (s : ℕ) × (s < n) × (f s ≡ false)
unfolding every
every_fails f zero e = absurd (true≢false e)
every_fails f (suc n) e =
    ⊎_elim (λ p. let u = every_fails f n p in (u.0, omega (arith, u.1), u.2)) (λ p. (n, omega arith, p)) (and_cases (every f n) (f n) e)

-- a chain that tests each number of a range answers as `every` does
pub every_is : (f : ℕ → Bool) (n : ℕ) (r : Bool) → MatchBool r (AllWithin (λ s. f s ≡ true) (range_with_len 0 n) 0 (length (range_with_len 0 n)))
    ((k : ℕ) × (k < length (range_with_len 0 n)) × HoldsAt (λ s. f s ≡ false) (range_with_len 0 n) k) → r ≡ every f n
every_is f n true all =
    sym (every_from f n (λ s h.
    subst (λ (k : ℕ). f k ≡ true) (get_or-range_with_len 0 n s 0 h ∙ zero-add s) (all s 0 (omega arith) (omega (arith, length-range_with_len 0 n)))))
every_is f n false (k, h, out) =
    let l : k < n = omega (arith, length-range_with_len 0 n) in
    let fails = subst (λ (k : ℕ). f k ≡ false) (get_or-range_with_len 0 n k 0 l ∙ zero-add k) (out 0) in
    sym (false_from_ne_true (every f n) (λ e. both_ways (f k) fails (every-at f n e k l)))

-- none is counted where each fails
pub count_none : (f : ℕ → Bool) (n : ℕ) → eqb (count f n) 0 ≡ every (λ s. not (f s)) n
unfolding count every
count_none f zero = refl
count_none f (suc n) =
    elim (f n) as (λ t. eqb (count f n + cond t 1 0) 0 ≡ (every (λ s. not (f s)) n && not t)) [
      | true ↦ ne_eqb (count f n + 1) 0 (λ e. omega arith) ∙ sym (and_right (every (λ s. not (f s)) n) false refl)
      | false ↦ ap (λ (k : ℕ). eqb k 0) (add-zero (count f n)) ∙ count_none f n ∙ and_true (every (λ s. not (f s)) n)
    ]

-- ---- a test of each element of a list, by its index; the default d is never read

pub any_at : {A : Type 0} (f : A → Bool) (xs : List A) (d : A) → any f xs ≡ true → (k : ℕ) × (k < length xs) × (f (get_or xs k d) ≡ true)
unfolding any
any_at f [] d e = absurd (true≢false (sym e))
any_at f (x ∷ xs) d e =
    ⊎_elim (λ p. (0, zero-lt-suc (length xs), p)) (λ p. let u = any_at f xs d p in (suc u.0, suc-le-suc u.1, u.2)) (or_cases (f x) (any f xs) e)

pub any_from : {A : Type 0} (f : A → Bool) (xs : List A) (d : A) (k : ℕ) → k < length xs → f (get_or xs k d) ≡ true → any f xs ≡ true
unfolding any
any_from f [] d k h e = absurd (not-suc-le-zero h)
any_from f (x ∷ xs) d zero h e = or_left (f x) (any f xs) e
any_from f (x ∷ xs) d (suc k) h e = or_right (f x) (any f xs) (any_from f xs d k (le_of_suc-le-suc h) e)

pub any_false : {A : Type 0} (f : A → Bool) (xs : List A) (d : A) → any f xs ≡ false → (k : ℕ) → k < length xs → f (get_or xs k d) ≡ false
any_false f xs d e k h = false_from_ne_true (f (get_or xs k d)) (λ p. both_ways (any f xs) e (any_from f xs d k h p))

pub any_none : {A : Type 0} (f : A → Bool) (xs : List A) (d : A) → ((k : ℕ) → k < length xs → f (get_or xs k d) ≡ false) → any f xs ≡ false
any_none f xs d e = false_from_ne_true (any f xs) (λ p. let u = any_at f xs d p in both_ways (f (get_or xs u.0 d)) (e u.0 u.1) u.2)

-- a chain that tests each element answers as `any` does
pub any_is : {A : Type 0} (f : A → Bool) (xs : List A) (d : A) (r : Bool)
    → MatchBool r ((k : ℕ) × (k < length xs) × HoldsAt (λ x. f x ≡ true) xs k) (AllWithin (λ x. f x ≡ false) xs 0 (length xs)) → r ≡ any f xs
any_is f xs d true (k, h, e) = sym (any_from f xs d k h (e d))
any_is f xs d false all = sym (any_none f xs d (λ k h. all k d (omega arith) h))

-- ---- each number below n that passes one test passes another

implies : (x y : Bool) → (not x || y) ≡ true → x ≡ true → y ≡ true
implies true y e h = e
implies false y e h = absurd (true≢false (sym h))

implied : (x y : Bool) → (x ≡ true → y ≡ true) → (not x || y) ≡ true
implied true y e = e refl
implied false y e = refl

all-at : (f g : ℕ → Bool) (n : ℕ) → every (λ s. not (f s) || g s) n ≡ true → (s : ℕ) → s < n → f s ≡ true → g s ≡ true
all-at f g n e s h = implies (f s) (g s) (every-at (λ s. not (f s) || g s) n e s h)

all_from : (f g : ℕ → Bool) (n : ℕ) → ((s : ℕ) → s < n → f s ≡ true → g s ≡ true) → every (λ s. not (f s) || g s) n ≡ true
all_from f g n e = every_from (λ s. not (f s) || g s) n (λ s h. implied (f s) (g s) (e s h))

all_fails : (f g : ℕ → Bool) (n : ℕ) → every (λ s. not (f s) || g s) n ≡ false → (s : ℕ) × (s < n) × (f s ≡ true) × (g s ≡ false)
all_fails f g n e =
    let u = every_fails (λ s. not (f s) || g s) n e in
    let v = or_parts (not (f u.0)) (g u.0) u.2 in
    (u.0, u.1, not-false (f u.0) v.0, v.1)

all-not : (f g : ℕ → Bool) (n s : ℕ) → s < n → f s ≡ true → g s ≡ false → every (λ s. not (f s) || g s) n ≡ false
all-not f g n s h p q = false_from_ne_true (every (λ s. not (f s) || g s) n) (λ e. both_ways (g s) q (all-at f g n e s h p))

-- ---- one set within another, within one of several, and within several together

pub within-at : (a b : SheetSet) → within a b ≡ true → (s : ℕ) → s < 256 → mem a s ≡ true → mem b s ≡ true
unfolding within
within-at a b = all-at (mem a) (mem b) 256

pub within_from : (a b : SheetSet) → ((s : ℕ) → s < 256 → mem a s ≡ true → mem b s ≡ true) → within a b ≡ true
unfolding within
within_from a b = all_from (mem a) (mem b) 256

pub within_fails : (a b : SheetSet) → within a b ≡ false → (s : ℕ) × (s < 256) × (mem a s ≡ true) × (mem b s ≡ false)
unfolding within
within_fails a b = all_fails (mem a) (mem b) 256

pub within_not : (a b : SheetSet) (s : ℕ) → s < 256 → mem a s ≡ true → mem b s ≡ false → within a b ≡ false
unfolding within
within_not a b = all-not (mem a) (mem b) 256

pub within_one_from : (a : SheetSet) (xs : List SheetSet) (d : SheetSet) (k : ℕ) → k < length xs → within a (get_or xs k d) ≡ true → within_one a xs ≡ true
unfolding within_one
within_one_from a = any_from (within a)

pub within_one_fails : (a : SheetSet) (xs : List SheetSet) (d : SheetSet) → within_one a xs ≡ false
    → (k : ℕ) → k < length xs → (s : ℕ) × (s < 256) × (mem a s ≡ true) × (mem (get_or xs k d) s ≡ false)
unfolding within_one
within_one_fails a xs d e k h = within_fails a (get_or xs k d) (any_false (within a) xs d e k h)

pub within_one_not : (a : SheetSet) (xs : List SheetSet) (d : SheetSet) → ((k : ℕ) → k < length xs → within a (get_or xs k d) ≡ false) → within_one a xs ≡ false
unfolding within_one
within_one_not a = any_none (within a)

pub within_union_from : (a : SheetSet) (xs : List SheetSet) → ((s : ℕ) → s < 256 → mem a s ≡ true → any (λ x. mem x s) xs ≡ true) → within_union a xs ≡ true
unfolding within_union
within_union_from a xs = all_from (mem a) (λ s. any (λ x. mem x s) xs) 256

pub within_union_fails : (a : SheetSet) (xs : List SheetSet) → within_union a xs ≡ false
    → (s : ℕ) × (s < 256) × (mem a s ≡ true) × (any (λ x. mem x s) xs ≡ false)
unfolding within_union
within_union_fails a xs = all_fails (mem a) (λ s. any (λ x. mem x s) xs) 256

pub within_union_not : (a : SheetSet) (xs : List SheetSet) (s : ℕ) → s < 256 → mem a s ≡ true → any (λ x. mem x s) xs ≡ false → within_union a xs ≡ false
unfolding within_union
within_union_not a xs = all-not (mem a) (λ s. any (λ x. mem x s) xs) 256

-- ---- the same members

every_ext : (f g : ℕ → Bool) (n : ℕ) → ((s : ℕ) → s < n → f s ≡ g s) → every f n ≡ every g n
unfolding every
every_ext f g zero e = refl
every_ext f g (suc n) e = ap₂ (λ (a b : Bool). a && b) (every_ext f g n (λ s h. e s (omega arith))) (e n (omega arith))

not-and : (a b : Bool) → not (a && not b) ≡ (not a || b)
not-and true true = refl
not-and true false = refl
not-and false b = refl

-- nothing is left of a without b exactly where a lies within b
pub minus_empty : (a b : SheetSet) → every (λ s. not (mem (minus a b) s)) 256 ≡ within a b
unfolding within
minus_empty a b = every_ext _ _ 256 (λ s h. ap not (mem-minus a b s h) ∙ not-and (mem a s) (mem b s))

alike : (a b : Bool) → (a ≡ true → b ≡ true) → (b ≡ true → a ≡ true) → a ≡ b
alike true b f g = sym (f refl)
alike false true f g = g refl
alike false false f g = refl

pub same_within : (a b : SheetSet) → within a b ≡ true → within b a ≡ true → SameMembers a b
same_within a b f g s h = alike (mem a s) (mem b s) (within-at a b f s h) (within-at b a g s h)

pub within_same : (a b : SheetSet) → SameMembers a b → within a b ≡ true
within_same a b e = within_from a b (λ s h m. sym (e s h) ∙ m)
