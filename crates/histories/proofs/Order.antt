-- Counterparties have their numbers by the order of their enrolments.
use Rattle.std.proofs.Common.{◌≡◌, ℕ, zero, suc, ◌+◌, List, [], ◌∷◌, ◌++◌, map, length, Some, Ok, Err, Option, Result, sym, refl, ap, ◌∙◌, subst, append_assoc, arith, length-append}
use Rattle.std.proofs.lemmas.List.{length-map, length_push}
use Rattle.sentences.specs.declared.cuts.CutList.{CutList}
use Rattle.histories.specs.declared.data.BoxFault.{BoxFault}
use Rattle.histories.specs.Calls.{Text, House, Party, State, Call, Enrol, Judge, Read, Enter, Amend, Enrolled, at, enrolling, amending, enrol_outcome, outcome, outcomes, next}
use Rattle.histories.specs.Promise.{carried_out, enrolments, Enrols}
use Rattle.histories.proofs.Lookups.{at_past}
use Rattle.histories.proofs.Bare.{Bare, new_bare, bare_enrol, bare_judging, bare_matching, bare_next, sheet_next, full}
use Rattle.histories.proofs.Filled.{full-enrol, next-full}
use Rattle.histories.proofs.Fresh.{reset, reset_judge, reset_enter, judge_none, enter_none, amend_none}

module _ (h : House) where
  -- ---- each enrolment that is carried out adds one counterparty, and no other call does

  enrol-adds : (bs : List Bare) (x : Call) (r : Result Party BoxFault) → length (bare_enrol bs r) ≡ length bs + length (carried_out x (enrol_outcome h (length bs) r))
  enrol-adds bs x (Ok p) = length_push bs (new_bare p)
  enrol-adds bs x (Err f) = omega arith

  adds_none : (bs bs' : List Bare) {xs : List Call} → xs ≡ [] → map reset bs' ≡ map reset bs → length bs' ≡ length bs + length xs
  adds_none bs bs' {xs} e same = omega (arith, ap length e, ap length same, length-map bs reset, length-map bs' reset)

  adds : (s : ℕ) (bs : List Bare) (x : Call) → length (bare_next h bs x) ≡ length bs + length (carried_out x (outcome h (full h s bs) x))
  adds s bs (Enrol prior list) = rw (full-enrol h s bs prior list) (enrol-adds bs (Enrol prior list) (enrolling h (length bs) prior list))
  adds s bs (Judge c t) = adds_none bs (bare_next h bs (Judge c t)) (judge_none h (Judge c t) c _ _) (reset_judge bs c t (bare_judging h c (at bs c) t))
  adds s bs (Read sl) = adds_none bs bs refl refl
  adds s bs (Enter sl) = adds_none bs (bare_next h bs (Enter sl)) (enter_none h (Enter sl) sl _) (reset_enter bs sl.party (bare_matching h sl (at bs sl.party)))
  adds s bs (Amend cs room) = adds_none bs bs (amend_none h (Amend cs room) (full h s bs).parties (amending h (full h s bs) cs room)) refl

  module _ (prior : Option Text) (list : CutList) (c : ℕ) where
    -- ---- so after the enrolments es, the next one answers how many they are

    next-number : (n : ℕ) (es rest : List Call) (r : Result Party BoxFault) → length es ≡ n → enrol_outcome h n r ≡ Enrolled c
        → at (es ++ (carried_out (Enrol prior list) (enrol_outcome h n r) ++ rest)) c ≡ Some (Enrol prior list)
    next-number n es rest (Err f) l e = let z : ◌≡◌ {A = ℕ} 0 1 = cc in absurd (omega arith)
    next-number n es rest (Ok p) l e =
        let same : n ≡ c = cc in
        ap (at (es ++ Enrol prior list ∷ rest)) (sym same ∙ sym l) ∙ at_past es (Enrol prior list) rest

    abbrev Ordered : ℕ → List Bare → List Call → List Call → Call → Type 0
    Ordered s bs es rest x = outcome h (full h s bs) x ≡ Enrolled c → at (es ++ (carried_out x (outcome h (full h s bs) x) ++ rest)) c ≡ Some (Enrol prior list)

    now-ordered : (s : ℕ) (bs : List Bare) (es rest : List Call) → length es ≡ length bs → Ordered s bs es rest (Enrol prior list)
    now-ordered s bs es rest l = rw (full-enrol h s bs prior list) (next-number (length bs) es rest (enrolling h (length bs) prior list) l)

    pub ordered : (s : ℕ) (bs : List Bare) (es xs : List Call) (i : ℕ) → length es ≡ length bs → Enrols h (full h s bs) xs i prior list c
        → at (es ++ enrolments h (full h s bs) xs) c ≡ Some (Enrol prior list)
    ordered s bs es [] i l e = let f = e.0 in let z : ◌≡◌ {A = ℕ} 0 1 = cc in absurd (omega arith)
    ordered s bs es (x ∷ xs) zero l e =
        let call : Enrol prior list ≡ x = let f = e.0 in cc in
        let answer : outcome h (full h s bs) x ≡ Enrolled c = let f = e.1 in cc in
        subst (Ordered s bs es (enrolments h (next h (full h s bs) x) xs)) call (now-ordered s bs es (enrolments h (next h (full h s bs) x) xs) l) answer
    ordered s bs es (x ∷ xs) (suc i) l e =
        let now : List Call = carried_out x (outcome h (full h s bs) x) in
        let bs' : List Bare = bare_next h bs x in
        let s' : ℕ = sheet_next h s bs x in
        let e' : Enrols h (full h s' bs') xs i prior list c = (e.0, subst (λ (st : State). at (outcomes h st xs) i ≡ Some (Enrolled c)) (next-full h s bs x) e.1) in
        ap (λ (st : State). at (es ++ (now ++ enrolments h st xs)) c) (next-full h s bs x)
        ∙ ap (λ (l : List Call). at l c) (sym (append_assoc es now (enrolments h (full h s' bs') xs)))
        ∙ ordered s' bs' (es ++ now) xs i (omega (arith, length-append es now, adds s bs x)) e'
