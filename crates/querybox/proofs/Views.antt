-- The front of an array, seen through a function g: what reading, writing and adding do to the list that it stands for.
use Rattle.std.proofs.Common.{Bool, true, false, cond, ltb, ◌≡◌, ℕ, zero, suc, ◌+◌, ◌<◌, ◌≤◌, List, [], ◌∷◌, ◌++◌, map, length, get_or, take, set, Some, None, Ok, Option, sym, refl, ap, ◌∙◌, arith, length-take}
use Rattle.std.proofs.lemmas.List.{length-map, map_push, take_more_set}
use Rattle.sheets.specs.declared.SheetSet.{SheetSet}
use Rattle.censors.specs.declared.question.Question.{Question}
use Rattle.censors.specs.declared.question.Reply.{Reply}
use Rattle.censors.specs.Questions.{value_in}
use Rattle.histories.specs.declared.data.Entry.{Entry}
use Rattle.histories.specs.Calls.{House, Party, State, at, change, questions, evaluated, remaining, renewed}
use Rattle.histories.specs.declared.data.BoxFault.TheVariants as fault
use Rattle.querybox.specs.declared.inner.Inner.{Inner}
use Rattle.querybox.specs.declared.party.Party.{Party as Stored}
use Rattle.querybox.specs.Entries.{entry_at, parties_of}
use Rattle.querybox.specs.Looking.{about, found_as, found_in}
use Rattle.querybox.specs.Parties.{blank, party_of, plain_house}
use Rattle.std.proofs.lemmas.Bool.{ltb-true, ltb-false}
use Rattle.std.specs.Option.{ok_or}

module _ {A B : Type 0} (g : A → B) where
  pub view-at : (xs : List A) (n p : ℕ) (d : A) → p < n → n ≤ length xs → at (map g (take n xs)) p ≡ Some (g (get_or xs p d))
  view-at xs zero p d b l = absurd (omega arith)
  view-at [] (suc n) p d b l = absurd (omega arith)
  view-at (x ∷ xs) (suc n) zero d b l = refl
  view-at (x ∷ xs) (suc n) (suc p) d b l = view-at xs n p d (omega arith) (omega arith)

  pub view-past : (xs : List A) (n p : ℕ) → n ≤ p → at (map g (take n xs)) p ≡ None
  view-past xs zero p b = refl
  view-past [] (suc n) p b = refl
  view-past (x ∷ xs) (suc n) zero b = absurd (omega arith)
  view-past (x ∷ xs) (suc n) (suc p) b = view-past xs n p (omega arith)

  pub view-length : (xs : List A) (n : ℕ) → n ≤ length xs → length (map g (take n xs)) ≡ n
  view-length xs n l = length-map (take n xs) g ∙ length-take n xs ∙ omega arith

  pub view-change : (f : B → B) (xs : List A) (n p : ℕ) (y d : A) → g y ≡ f (g (get_or xs p d)) → map g (take n (set xs p y)) ≡ change f (map g (take n xs)) p
  view-change f xs zero p y d e = refl
  view-change f [] (suc n) p y d e = refl
  view-change f (x ∷ xs) (suc n) zero y d e = ap (λ (z : B). z ∷ map g (take n xs)) e
  view-change f (x ∷ xs) (suc n) (suc p) y d e = ap (λ (zs : List B). g x ∷ zs) (view-change f xs n p y d e)

  pub view-push : (xs : List A) (n : ℕ) (y : A) → n < length xs → map g (take (n + 1) (set xs n y)) ≡ map g (take n xs) ++ g y ∷ []
  view-push xs n y l = ap (map g) (take_more_set xs n y l) ∙ map_push g (take n xs) y

-- a counterparty that is found is the entry there
pub found_at : (st : State) (c : ℕ) {p : Party} → Ok p ≡ found_in st c → at st.parties c ≡ Some p
found_at st c {p} e = here (at st.parties c) e
  where
    here : (o : Option Party) → Ok p ≡ about (λ q. q) c o → o ≡ Some p
    here (Some q) e = cc
    here None e = cc

-- what is looked for among the entries is the counterparty at that place
pub found_here : (x : Inner Stored) (c : ℕ) (o : Option Stored) → o ≡ cond (ltb c x.count) (Some (entry_at x c blank)) None
    → found_as (ok_or o (fault.NoCounterparty c)) ≡ about (λ p. p) c (at (parties_of x) c)
found_here x c o = go (ltb c x.count) refl
  where
    go : (b : Bool) → ltb c x.count ≡ b → o ≡ cond b (Some (entry_at x c blank)) None → found_as (ok_or o (fault.NoCounterparty c)) ≡ about (λ p. p) c (at (parties_of x) c)
    go true t e = ap (λ q. found_as (ok_or q (fault.NoCounterparty c))) e ∙ ap (about (λ p. p) c) (sym (view-at party_of x.parties.items x.count c blank (ltb-true c x.count t) (omega (arith, x.few, x.eight))))
    go false t e = ap (λ q. found_as (ok_or q (fault.NoCounterparty c))) e ∙ ap (about (λ p. p) c) (sym (view-past party_of x.parties.items x.count c (ltb-false c x.count t)))

pub change-set : {A : Type 0} (f : A → A) (xs : List A) (p : ℕ) (d : A) → change f xs p ≡ set xs p (f (get_or xs p d))
change-set f [] p d = refl
change-set f (x ∷ xs) zero d = refl
change-set f (x ∷ xs) (suc p) d = ap (λ zs. x ∷ zs) (change-set f xs p d)

-- a house's number, names and rules play no part in what is judged again
module _ (h : House) where
  abbrev plain : House
  plain = plain_house h.good h.decided h.after

  evaluated-plain : (r : SheetSet) (xs : List SheetSet) (qs : List Question) (s : ℕ) → evaluated h r xs qs s ≡ evaluated plain r xs qs s
  evaluated-plain r xs [] s = refl
  evaluated-plain r xs (q ∷ qs) s =
      let a : Reply = (h.decided r xs q (value_in q s)).reply in
      ap (λ (es : List Entry). record { question = q; reply = a } ∷ es) (evaluated-plain (h.after r xs q a) xs qs s)

  remaining-plain : (r : SheetSet) (xs : List SheetSet) (qs : List Question) (s : ℕ) → remaining h r xs qs s ≡ remaining plain r xs qs s
  remaining-plain r xs [] s = refl
  remaining-plain r xs (q ∷ qs) s = remaining-plain (h.after r xs q (h.decided r xs q (value_in q s)).reply) xs qs s

  pub renewed-plain : (s : ℕ) (ps : List Party) → map (renewed h s) ps ≡ map (renewed plain s) ps
  renewed-plain s [] = refl
  renewed-plain s (p ∷ ps) =
      rw (evaluated-plain p.start p.secrets (questions h p) s, remaining-plain p.start p.secrets (questions h p) s, renewed-plain s ps)
