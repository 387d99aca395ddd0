-- The notes for one counterparty.
use Rattle.std.proofs.Common.{◌≡◌, ℕ, zero, suc, ◌+◌, ◌<◌, Bool, true, false, cond, eqb, List, [], ◌∷◌, ◌++◌, map, Some, None, Ok, Err, Option, Result, sym, refl, ap, ◌∙◌, ap₂, append-nil, arith}
use Rattle.std.specs.Prelude.{option_map}
use Rattle.std.proofs.lemmas.Option.{slice_get-map}
use Rattle.std.proofs.lemmas.Bool.{eq-eqb, ne_eqb}
use Rattle.censors.specs.declared.question.Reply.{Reply}
use Rattle.censors.specs.declared.question.Reply.TheVariants.{Said, Mum}
use Rattle.censors.specs.declared.question.Value.TheVariants.{Yes, No}
use Rattle.histories.specs.declared.data.BoxFault.{BoxFault}
use Rattle.histories.specs.declared.data.BoxFault.TheVariants as fault
use Rattle.histories.specs.declared.data.Change.{Change}
use Rattle.histories.specs.declared.data.Entry.{Entry}
use Rattle.histories.specs.declared.data.Note.{Note}
use Rattle.histories.specs.Calls.{House, Party, Amend, at, check_index, differs, changed, notes, amend_outcome, outcome, notes_for, noted}
use Rattle.histories.proofs.Lookups.{ok_or}
use Rattle.histories.proofs.Bare.{Bare, bare_slip_out, amending_on, sheet_next, fill, full}
use Rattle.histories.proofs.Filled.{full-slip-out, refill}

notes_for_append : (c : ℕ) (ms ns : List Note) → notes_for c (ms ++ ns) ≡ notes_for c ms ++ notes_for c ns
notes_for_append c [] ns = refl
notes_for_append c (m ∷ ms) ns = rw (notes_for_append c ms ns) (go (eqb c m.counterparty))
  where
    go : (t : Bool) → cond t (m ∷ (notes_for c ms ++ notes_for c ns)) (notes_for c ms ++ notes_for c ns) ≡ cond t (m ∷ notes_for c ms) (notes_for c ms) ++ notes_for c ns
    go true = refl
    go false = refl

-- the notes on d's replies are for d
changed_for : (c d i : ℕ) (old new : List Entry) → notes_for c (changed d i old new) ≡ cond (eqb c d) (changed d i old new) []
changed_for c d i [] new = elim (eqb c d) as (λ t. ◌≡◌ {A = List Note} [] (cond t [] [])) [ true ↦ refl | false ↦ refl ]
changed_for c d i (e ∷ old) [] = elim (eqb c d) as (λ t. ◌≡◌ {A = List Note} [] (cond t [] [])) [ true ↦ refl | false ↦ refl ]
changed_for c d i (e ∷ old) (f ∷ new) = go (differs e.reply f.reply) (eqb c d) refl (changed_for c d (i + 1) old new)
  where
    n : Note
    n = record { counterparty = d; place = i; reply = f.reply }

    go : (t mine : Bool) → eqb c d ≡ mine → notes_for c (changed d (i + 1) old new) ≡ cond mine (changed d (i + 1) old new) []
        → notes_for c (cond t (n ∷ changed d (i + 1) old new) (changed d (i + 1) old new)) ≡ cond mine (cond t (n ∷ changed d (i + 1) old new) (changed d (i + 1) old new)) []
    go false mine e rest = rest
    go true true e rest = rw e (ap (λ (l : List Note). n ∷ l) rest)
    go true false e rest = rw e rest

later_none : (c k : ℕ) (old new : List Party) → c < k → notes_for c (notes k old new) ≡ []
later_none c k [] new l = refl
later_none c k (p ∷ old) [] l = refl
later_none c k (p ∷ old) (q ∷ new) l =
    notes_for_append c (changed k 0 p.log q.log) (notes (k + 1) old new)
    ∙ rw (changed_for c k 0 p.log q.log, ne_eqb c k (λ (e : c ≡ k). omega arith)) (later_none c (k + 1) old new (omega arith))

-- the notes that c gets, by what it was and what it is
abbrev pub news : ℕ → Option Party → Option Party → List Note
news c None q = []
news c (Some p) None = []
news c (Some p) (Some q) = changed c 0 p.log q.log

notes_from : (old new : List Party) (k i c : ℕ) → c ≡ k + i → notes_for c (notes k old new) ≡ news c (at old i) (at new i)
notes_from [] new k i c e = refl
notes_from (p ∷ old) [] k zero c e = refl
notes_from (p ∷ old) [] k (suc i) c e = elim (at old i) as (λ o. [] ≡ news c o None) [ None ↦ refl | Some p ↦ refl ]
notes_from (p ∷ old) (q ∷ new) k zero c e =
    let same : k ≡ c = omega arith in
    notes_for_append c (changed k 0 p.log q.log) (notes (k + 1) old new)
    ∙ rw (later_none c (k + 1) old new (omega arith), append-nil, changed_for c k 0 p.log q.log, same, eq-eqb c c refl)
notes_from (p ∷ old) (q ∷ new) k (suc i) c e =
    notes_for_append c (changed k 0 p.log q.log) (notes (k + 1) old new)
    ∙ rw (changed_for c k 0 p.log q.log, ne_eqb c k (λ (x : c ≡ k). omega arith)) (notes_from old new (k + 1) i c (omega arith))

notes_for_is : (c : ℕ) (old new : List Party) → notes_for c (notes 0 old new) ≡ news c (at old c) (at new c)
notes_for_is c old new = notes_from old new 0 c c (omega arith)

same_reply : (a : Reply) → differs a a ≡ false
same_reply (Said Yes) = refl
same_reply (Said No) = refl
same_reply Mum = refl

changed_none : (c i : ℕ) (es : List Entry) → changed c i es es ≡ []
changed_none c i [] = refl
changed_none c i (e ∷ es) = rw (same_reply e.reply) (changed_none c (i + 1) es)

news_none : (c : ℕ) (o : Option Party) → news c o o ≡ []
news_none c None = refl
news_none c (Some p) = changed_none c 0 p.log

-- the notes that c is shown at an amendment, by the sheets before and after it
module _ (h : House) (s : ℕ) (bs : List Bare) (c : ℕ) where
  amend-notes : (o : Option ℕ) (r : Result ℕ BoxFault) → bare_slip_out 0 bs ≡ o
      → notes_for c (noted (amend_outcome h (map (fill h s) bs) (check_index o fault.SlipOut r)))
      ≡ news c (option_map (fill h s) (at bs c)) (option_map (fill h (ok_or s (check_index o fault.SlipOut r))) (at bs c))
  amend-notes (Some i) r e = sym (news_none c (option_map (fill h s) (at bs c)))
  amend-notes None (Err f) e = sym (news_none c (option_map (fill h s) (at bs c)))
  amend-notes None (Ok t) e =
      rw (refill h s t 0 bs e) (notes_for_is c (map (fill h s) bs) (map (fill h t) bs) ∙ ap₂ (news c) (slice_get-map (fill h s) bs c) (slice_get-map (fill h t) bs c))

  pub full-amend : (cs : List Change) (room : ℕ)
      → notes_for c (noted (outcome h (full h s bs) (Amend cs room))) ≡ news c (option_map (fill h s) (at bs c)) (option_map (fill h (sheet_next h s bs (Amend cs room))) (at bs c))
  full-amend cs room = rw (full-slip-out h s 0 bs) (amend-notes (bare_slip_out 0 bs) (amending_on h s cs room) refl)
