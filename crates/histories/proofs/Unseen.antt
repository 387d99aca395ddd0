-- The other history: on stand-ins for the sheets, counterparty c is shown the same.
use Rattle.std.proofs.Common.{◌≡◌, ℕ, ◌<◌, Bool, true, false, cond, eqb, ltb, List, [], ◌∷◌, map, length, Some, None, Ok, Option, Result, sym, refl, ap, ◌∙◌, subst, ap₂}
use Rattle.std.specs.Prelude.{option_map}
use Rattle.std.proofs.lemmas.Bool.{eqb-true}
use Rattle.censors.specs.Laws.{Laws}
use Rattle.histories.specs.declared.data.BoxFault.{BoxFault}
use Rattle.histories.specs.declared.data.BoxFault.TheVariants as fault
use Rattle.histories.specs.declared.data.Change.{Change}
use Rattle.histories.specs.declared.data.Note.{Note}
use Rattle.histories.specs.Calls.{Text, House, State, Slip, Call, Enrol, Judge, Read, Enter, Amend, Outcome, Replied, Amended, at, check, check_index, enter_outcome, outcome, next, sheets_of, shown, shows}
use Rattle.histories.specs.Promise.{Each, blank}
use Rattle.histories.proofs.Lookups.{On, at-change, ok_or}
use Rattle.histories.proofs.Bare.{Bare, bare_entered, bare_slip_out, bare_enter, bare_matching, bare_next, sheet_next, bare_run, pending_on, fill, full}
use Rattle.histories.proofs.Filled.{held_on, full-enrol, full-judge, full-enter, next-full}
use Rattle.histories.proofs.Facts.{all_facts}
use Rattle.histories.proofs.Proper.{Proper, amend-all}
use Rattle.histories.proofs.Notes.{news, full-amend}
use Rattle.histories.proofs.Moves.{moved}
use Rattle.histories.proofs.Covers.{Covers, news-alike, reply-alike, move-covers, run-covers}

module _ (h : House) (w : ℕ → ℕ) where
  -- an amendment sets all facts to what they are in the stand-in of the sheet that was left
  abbrev other_call : ℕ → List Bare → Call → Call
  other_call s bs (Enrol prior list) = Enrol prior list
  other_call s bs (Judge c t) = Judge c t
  other_call s bs (Read sl) = Read sl
  other_call s bs (Enter sl) = Enter sl
  other_call s bs (Amend cs room) = Amend (all_facts (length h.names) (w (sheet_next h s bs (Amend cs room)))) room

  abbrev pub other_calls : ℕ → List Bare → List Call → List Call
  other_calls s bs [] = []
  other_calls s bs (x ∷ xs) = other_call s bs x ∷ other_calls (sheet_next h s bs x) (bare_next h bs x) xs

  other-blank : (s : ℕ) (bs : List Bare) (x : Call) → blank (other_call s bs x) ≡ blank x
  other-blank s bs (Enrol prior list) = refl
  other-blank s bs (Judge c t) = refl
  other-blank s bs (Read sl) = refl
  other-blank s bs (Enter sl) = refl
  other-blank s bs (Amend cs room) = refl

  pub others-blank : (s : ℕ) (bs : List Bare) (xs : List Call) → map blank (other_calls s bs xs) ≡ map blank xs
  others-blank s bs [] = refl
  others-blank s bs (x ∷ xs) = ap₂ (λ (y : Call) (ys : List Call). y ∷ ys) (other-blank s bs x) (others-blank (sheet_next h s bs x) (bare_next h bs x) xs)

  -- where the checks before those of the facts pass, the stand-in is set; where they fail, both sheets stay
  amend-checks : (s : ℕ) (o : Option ℕ) (short : Bool) (r : Result ℕ BoxFault) → let u : ℕ = ok_or s (check_index o fault.SlipOut (check short fault.ShortNotes r)) in
      ok_or (w s) (check_index o fault.SlipOut (check short fault.ShortNotes (Ok (w u)))) ≡ w u
  amend-checks s (Some i) short r = refl
  amend-checks s None true r = refl
  amend-checks s None false r = refl

  module _ (proper : (s : ℕ) → Proper h (w s)) where
    -- ---- the other box holds what was asked on the stand-in

    other-amend : (s : ℕ) (bs : List Bare) (cs : List Change) (room : ℕ)
        → sheet_next h (w s) bs (other_call s bs (Amend cs room)) ≡ w (sheet_next h s bs (Amend cs room))
    other-amend s bs cs room =
        let u : ℕ = sheet_next h s bs (Amend cs room) in
        ap (λ (r : Result ℕ BoxFault). ok_or (w s) (check_index (bare_slip_out 0 bs) fault.SlipOut r)) (amend-all h (w s) (w u) (proper u) room)
        ∙ amend-checks s (bare_slip_out 0 bs) (ltb room 512) _

    next-other : (s : ℕ) (bs : List Bare) (x : Call) → next h (full h (w s) bs) (other_call s bs x) ≡ full h (w (sheet_next h s bs x)) (bare_next h bs x)
    next-other s bs (Enrol prior list) = next-full h (w s) bs (Enrol prior list)
    next-other s bs (Judge c t) = next-full h (w s) bs (Judge c t)
    next-other s bs (Read sl) = refl
    next-other s bs (Enter sl) = next-full h (w s) bs (Enter sl)
    next-other s bs (Amend cs room) = next-full h (w s) bs (other_call s bs (Amend cs room)) ∙ ap (λ (u : ℕ). full h u bs) (other-amend s bs cs room)

    -- its sheets are stand-ins
    pub other-sheets : (P : ℕ → Type 0) → ((s : ℕ) → P (w s)) → (s : ℕ) (bs : List Bare) (xs : List Call) → Each P (sheets_of h (full h (w s) bs) (other_calls s bs xs))
    other-sheets P all s bs [] = (all s, tt)
    other-sheets P all s bs (x ∷ xs) = (all s, rw (next-other s bs x) (other-sheets P all (sheet_next h s bs x) (bare_next h bs x) xs))

    -- ---- and shows c the same

    module _ (laws : Laws h.good h.decided h.after) (small : (s : ℕ) → w s < 256) (c : ℕ) where
      enter-alike : (s : ℕ) (bs : List Bare) (sl : Slip) (b : Option Bare) → at bs c ≡ b → On (Covers h w) (at (bare_enter bs c (bare_matching h sl b)) c)
          → enter_outcome h sl (held_on h (w s) sl b) ≡ enter_outcome h sl (held_on h s sl b)
      enter-alike s bs sl None e k = refl
      enter-alike s bs sl (Some b) e k = go (bare_matching h sl (Some b)) k
        where
          go : (o : Option Text) → On (Covers h w) (at (bare_enter bs c o) c) → enter_outcome h sl (option_map (pending_on h (w s) b) o) ≡ enter_outcome h sl (option_map (pending_on h s b) o)
          go None k = refl
          go (Some t) k = ap Replied (reply-alike h laws w small b t (subst (On (Covers h w)) (at-change (bare_entered t) bs c b e) k) s)

      -- of slips, c is shown only what its own answer
      own-enter : (s : ℕ) (bs : List Bare) (sl : Slip) (d : ℕ) (mine : Bool) → eqb c d ≡ mine → On (Covers h w) (at (bare_enter bs d (bare_matching h sl (at bs d))) c)
          → cond mine (Some (enter_outcome h sl (held_on h (w s) sl (at bs d)))) None ≡ cond mine (Some (enter_outcome h sl (held_on h s sl (at bs d)))) None
      own-enter s bs sl d false e k = refl
      own-enter s bs sl d true e k =
          ap Some
          (subst (λ (d : ℕ). On (Covers h w) (at (bare_enter bs d (bare_matching h sl (at bs d))) c) → enter_outcome h sl (held_on h (w s) sl (at bs d)) ≡ enter_outcome h sl (held_on h s sl (at bs d)))
          (eqb-true c d e) (enter-alike s bs sl (at bs c) refl) k)

      shown-alike : (s : ℕ) (bs : List Bare) (x : Call) → On (Covers h w) (at bs c) → On (Covers h w) (at (bare_next h bs x) c)
          → shown c (other_call s bs x) (outcome h (full h (w s) bs) (other_call s bs x)) ≡ shown c x (outcome h (full h s bs) x)
      shown-alike s bs (Enrol prior list) before after = ap Some (full-enrol h (w s) bs prior list ∙ sym (full-enrol h s bs prior list))
      shown-alike s bs (Judge d t) before after =
          ap (λ (o : Outcome). cond (eqb c d) (Some o) None) (full-judge h (w s) bs d t ∙ sym (full-judge h s bs d t))
      shown-alike s bs (Read sl) before after = refl
      shown-alike s bs (Enter sl) before after = rw (full-enter h (w s) bs sl, full-enter h s bs sl) (own-enter s bs sl sl.party (eqb c sl.party) refl after)
      shown-alike s bs (Amend cs room) before after =
          let u : ℕ = sheet_next h s bs (Amend cs room) in
          ap (λ (l : List Note). Some (Amended l))
          (full-amend h (w s) bs c (all_facts (length h.names) (w u)) room
          ∙ ap (λ (v : ℕ). news c (option_map (fill h (w s)) (at bs c)) (option_map (fill h v) (at bs c))) (other-amend s bs cs room)
          ∙ news-alike h laws w small c s u (at bs c) before
          ∙ sym (full-amend h s bs c cs room))

      pub shows_alike : (s : ℕ) (bs : List Bare) (xs : List Call) → On (Covers h w) (at (bare_run h bs xs) c)
          → shows h c (full h (w s) bs) (other_calls s bs xs) ≡ shows h c (full h s bs) xs
      shows_alike s bs [] k = refl
      shows_alike s bs (x ∷ xs) k =
          let u : ℕ = sheet_next h s bs x in
          let bs' : List Bare = bare_next h bs x in
          let after = run-covers h laws w small bs' xs c k in
          let before = move-covers h laws w small (moved h bs c s x) after in
          ap₂ (λ (o : Option Outcome) (rest : List (Option Outcome)). o ∷ rest) (shown-alike s bs x before after)
          (ap (λ (st : State). shows h c st (other_calls u bs' xs)) (next-other s bs x)
          ∙ shows_alike u bs' xs k
          ∙ sym (ap (λ (st : State). shows h c st xs) (next-full h s bs x)))
