-- The slips that are kept, after a call.
use Rattle.std.proofs.Common.{◌≡◌, ℕ, true, ◌&&◌, eqb, List, [], ◌∷◌, ◌++◌, length, set, Some, None, Option, sym, refl, ap, ◌∙◌, ⊎_elim, arith}
use Rattle.std.proofs.lemmas.Bool.{eq-eqb, eqb-true, and_from, and_parts}
use Rattle.std.proofs.lemmas.List.{get_or_append_left}
use Rattle.std.proofs.lemmas.Option.{none-some}
use Rattle.histories.specs.Calls.{Party, State, at}
use Rattle.querybox.specs.declared.slip.Slip.{Slip}
use Rattle.desks.specs.Slots.{slip_at, without, awaited, is_awaited, is_for, AllOut}
use Rattle.desks.proofs.Places.{placed, within}
use Rattle.desks.proofs.Staying.{Stays}

-- the slip is out for the counterparty c of a box with the number n
pub record Out (n : ℕ) (ps : List Party) (c : ℕ) (s : Slip) : Type 0 where
  pub number : s.number ≡ n
  pub counterparty : s.counterparty ≡ c
  pub place : awaited s.place (at ps c) ≡ true

pub out_of : (n : ℕ) (ps : List Party) (xs : List (Option Slip)) → AllOut n ps xs → (c : ℕ) (s : Slip) → slip_at xs c ≡ Some s → Out n ps c s
out_of n ps xs all c s e =
    let both = and_parts (eqb s.counterparty c) _ (sym (ap (λ (v : Option Slip). is_for c v && is_awaited n ps v) e) ∙ all c) in
    let one = and_parts (eqb s.number n) _ both.1 in
    let party = eqb-true _ _ both.0 in
    record { number = eqb-true _ _ one.0; counterparty = party; place = ap (λ (k : ℕ). awaited s.place (at ps k)) (sym party) ∙ one.1 }

is_awaited_from : {n : ℕ} {ps : List Party} {c : ℕ} {s : Slip} → Out n ps c s → is_awaited n ps (Some s) ≡ true
is_awaited_from {ps = ps} {s = s} o = and_from _ _ (eq-eqb _ _ o.number) (ap (λ (k : ℕ). awaited s.place (at ps k)) o.counterparty ∙ o.place)

by_slot : (n : ℕ) (ps : List Party) (c : ℕ) (v : Option Slip) → ((s : Slip) → v ≡ Some s → Out n ps c s) → is_for c v && is_awaited n ps v ≡ true
by_slot n ps c None each = refl
by_slot n ps c (Some s) each = let o = each s refl in and_from _ _ (eq-eqb _ _ o.counterparty) (is_awaited_from o)

all_out : (n : ℕ) (ps : List Party) (xs : List (Option Slip)) → ((c : ℕ) (s : Slip) → slip_at xs c ≡ Some s → Out n ps c s) → AllOut n ps xs
all_out n ps xs each c = by_slot n ps c (slip_at xs c) (each c)

-- the same of what is equal
pub same_out : {n n' : ℕ} {ps ps' : List Party} {xs xs' : List (Option Slip)} → n' ≡ n → ps' ≡ ps → xs' ≡ xs → AllOut n ps xs → AllOut n' ps' xs'
same_out number parties items all = rw (number, parties, items) all

module _ (n : ℕ) (st st' : State) (xs : List (Option Slip)) (all : AllOut n st.parties xs) where
  -- a call after which every slip is out still
  pub all_stay : ((d : ℕ) → Stays st st' d) → AllOut n st'.parties xs
  all_stay stay =
      all_out n st'.parties xs
      (λ c s e. let o = out_of n st.parties xs all c s e in record { number = o.number; counterparty = o.counterparty; place = stay c s.place o.place })

  -- a call on the counterparty c, for which v is kept from then on
  pub one-put : (c : ℕ) (v : Option Slip) → ((d : ℕ) → (d ≡ c → ⊥) → Stays st st' d) → ((s : Slip) → v ≡ Some s → Out n st'.parties c s) → AllOut n st'.parties (set xs c v)
  one-put c v stay new =
      all_out n st'.parties (set xs c v)
      (λ d s e.
      ⊎_elim
      (λ w. let o = new s w.1 in record { number = o.number; counterparty = o.counterparty ∙ sym w.0; place = ap (λ (x : ℕ). awaited s.place (at st'.parties x)) w.0 ∙ o.place })
      (λ w. let o = out_of n st.parties xs all d s w.1 in record { number = o.number; counterparty = o.counterparty; place = stay d w.0 s.place o.place })
      (placed xs c d v s e))

-- the slip of c was taken out, and the box is as it was
pub one_taken : (n : ℕ) (st : State) (xs : List (Option Slip)) → AllOut n st.parties xs → (c : ℕ) → AllOut n st.parties (without xs c)
one_taken n st xs all c = one-put n st st xs all c None (λ d ne k e. e) (λ s e. absurd (none-some _ e))

-- the last slip was taken out, and entered if there was one
pub last_gone : (n : ℕ) (st st' : State) (xs : List (Option Slip)) (v : Option Slip) → AllOut n st.parties (xs ++ v ∷ []) → ((d : ℕ) → (d ≡ length xs → ⊥) → Stays st st' d) → AllOut n st'.parties xs
last_gone n st st' xs v all stay =
    all_out n st'.parties xs
    (λ c s e.
    let l = within xs c e in
    let o = out_of n st.parties (xs ++ v ∷ []) all c s (get_or_append_left xs (v ∷ []) None c l ∙ e) in
    record { number = o.number; counterparty = o.counterparty; place = stay c (λ same. omega arith) s.place o.place })
