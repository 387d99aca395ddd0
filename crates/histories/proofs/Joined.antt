-- Whoever was enrolled is still there, with the record and the secrets that its enrolment reads as; and nobody else is.
use Rattle.std.proofs.Common.{◌≡◌, ℕ, zero, suc, List, [], ◌∷◌, ◌++◌, length, Some, None, Ok, Err, Option, Result, sym, refl, ap, ◌∙◌, subst, arith}
use Rattle.std.specs.Prelude.{option_map}
use Rattle.std.proofs.lemmas.Option.{slice_get-map}
use Rattle.sentences.specs.declared.cuts.CutList.{CutList}
use Rattle.sentences.specs.declared.faults.ListKind.TheVariants as kind
use Rattle.sentences.specs.Lists.{read_list}
use Rattle.histories.specs.declared.data.BoxFault.{BoxFault}
use Rattle.histories.specs.Calls.{Text, House, Party, State, Call, Enrol, Outcome, Enrolled, at, start_from, enrolling, enrol_outcome, outcome, outcomes, run}
use Rattle.histories.specs.Promise.{Enrols, WasEnrolled}
use Rattle.histories.proofs.Lookups.{option_map_found, On, Has, has_found, at_past}
use Rattle.histories.proofs.Bare.{Bare, new_bare, bare_enrol, bare_next, sheet_next, bare_run, sheet_run, fill, full}
use Rattle.histories.proofs.Newcomers.{Read, as_read}
use Rattle.histories.proofs.Filled.{full-enrol, next-full, run-full}
use Rattle.histories.proofs.Moves.{Brings, Moved, stays, comes, asks, enters, moved}
use Rattle.histories.proofs.Sound.{Sound, run_sound}

module _ (h : House) (prior : Option Text) (list : CutList) where
  -- the record and the secrets are those of the enrolment
  pub record Began (b : Bare) : Type 0 where
    pub starts : start_from h prior ≡ Ok b.start
    pub says : read_list h.names kind.Secrets 1 list ≡ Ok b.secrets

  -- no call alters them
  move-began : {c : ℕ} {x : Call} {o : Outcome} {b b' : Option Bare} → Moved h c x o b b' → Has Began b → Has Began b'
  move-began (stays k) a = a
  move-began (comes new brings k) a = absurd a
  move-began (asks none room reads k) a = record { starts = a.starts; says = a.says }
  move-began (enters out k) a = record { starts = a.starts; says = a.says }

  run-began : (bs : List Bare) (xs : List Call) (c : ℕ) → Has Began (at bs c) → Has Began (at (bare_run h bs xs) c)
  run-began bs [] c a = a
  run-began bs (x ∷ xs) c a = run-began (bare_next h bs x) xs c (move-began (moved h bs c 0 x) a)

  -- an enrolment that is carried out puts the newcomer at the number that it answers
  enrol-begins : (bs : List Bare) (c : ℕ) (r : Result Party BoxFault) → ((p : Party) → r ≡ Ok p → Read h prior list p) → enrol_outcome h (length bs) r ≡ Enrolled c
      → Has Began (at (bare_enrol bs r) c)
  enrol-begins bs c (Err f) new e = let z : ◌≡◌ {A = ℕ} 0 1 = cc in absurd (omega arith)
  enrol-begins bs c (Ok p) new e =
      let same : length bs ≡ c = cc in
      let there : at (bs ++ new_bare p ∷ []) c ≡ Some (new_bare p) = ap (at (bs ++ new_bare p ∷ [])) (sym same) ∙ at_past bs (new_bare p) [] in
      subst (Has Began) (sym there) (record { starts = (new p refl).starts; says = (new p refl).says })

  call-begins : (s : ℕ) (bs : List Bare) (c : ℕ) → outcome h (full h s bs) (Enrol prior list) ≡ Enrolled c → Has Began (at (bare_next h bs (Enrol prior list)) c)
  call-begins s bs c e = enrol-begins bs c (enrolling h (length bs) prior list) (as_read h (length bs) prior list) (sym (full-enrol h s bs prior list) ∙ e)

  begins : (s : ℕ) (bs : List Bare) (xs : List Call) (i c : ℕ) → Enrols h (full h s bs) xs i prior list c → Has Began (at (bare_run h bs xs) c)
  begins s bs [] i c e = let f = e.0 in let z : ◌≡◌ {A = ℕ} 0 1 = cc in absurd (omega arith)
  begins s bs (x ∷ xs) zero c e =
      let call : Enrol prior list ≡ x = let f = e.0 in cc in
      let answer : outcome h (full h s bs) x ≡ Enrolled c = let f = e.1 in cc in
      run-began (bare_next h bs x) xs c
      (subst (λ (x : Call). outcome h (full h s bs) x ≡ Enrolled c → Has Began (at (bare_next h bs x) c)) call (call-begins s bs c) answer)
  begins s bs (x ∷ xs) (suc i) c e =
      begins (sheet_next h s bs x) (bare_next h bs x) xs i c (e.0, subst (λ (st : State). at (outcomes h st xs) i ≡ Some (Enrolled c)) (next-full h s bs x) e.1)

  -- a counterparty of a box that was opened on the sheet s, by what it asked
  pub record Behind (s : ℕ) (calls : List Call) (c : ℕ) : Type 0 where
    pub bare : Bare
    pub is : at (bare_run h [] calls) c ≡ Some bare
    pub there : at (run h (full h s []) calls).parties c ≡ Some (fill h (sheet_run h s [] calls) bare)
    pub began : Began bare
    pub sound : Sound h bare

  pub behind : (s : ℕ) (calls : List Call) (i c : ℕ) → Enrols h (full h s []) calls i prior list c → Behind s calls c
  behind s calls i c e =
      let found = has_found Began (at (bare_run h [] calls) c) (begins s [] calls i c e) in
      let u : ℕ = sheet_run h s [] calls in
      record {
        bare = found.0;
        is = found.1;
        there = ap (λ (st : State). at st.parties c) (run-full h s [] calls) ∙ slice_get-map (fill h u) (bare_run h [] calls) c ∙ ap (option_map (fill h u)) found.1;
        began = found.2;
        sound = subst (On (Sound h)) found.1 (run_sound h [] calls c tt);
      }

-- ---- and nobody else is there

module _ (h : House) (c : ℕ) where
  abbrev There : Option Bare → Type 0
  There = Has (λ b. Unit {0})

  move-brings : {x : Call} {o : Outcome} {b b' : Option Bare} → Moved h c x o b b' → b ≡ None → There b' → Brings c x o
  move-brings (stays k) none there = absurd (subst There none there)
  move-brings (comes new brings k) none there = brings
  move-brings (asks no-slip room reads k) none there = absurd (subst There none tt)
  move-brings (enters out k) none there = absurd (subst There none tt)

  later : (s : ℕ) (bs : List Bare) (x : Call) (xs : List Call) → WasEnrolled h (full h (sheet_next h s bs x) (bare_next h bs x)) xs c → WasEnrolled h (full h s bs) (x ∷ xs) c
  later s bs x xs e =
      let answer = subst (λ (st : State). at (outcomes h st xs) e.place ≡ Some (Enrolled c)) (sym (next-full h s bs x)) e.enrols.1 in
      record { place = suc e.place; prior = e.prior; list = e.list; enrols = (e.enrols.0, answer) }

  brought : (s : ℕ) (bs : List Bare) (xs : List Call) → at bs c ≡ None → There (at (bare_run h bs xs) c) → WasEnrolled h (full h s bs) xs c
  brought s bs [] none there = absurd (subst There none there)
  brought s bs (x ∷ xs) none there =
      go (at (bare_next h bs x) c) refl (λ gone. later s bs x xs (brought (sheet_next h s bs x) (bare_next h bs x) xs gone there))
    where
      go : (b : Option Bare) → at (bare_next h bs x) c ≡ b → (at (bare_next h bs x) c ≡ None → WasEnrolled h (full h s bs) (x ∷ xs) c) → WasEnrolled h (full h s bs) (x ∷ xs) c
      go None e rest = rest e
      go (Some b) e rest =
          let now = move-brings (moved h bs c s x) none (subst There (sym e) tt) in
          record { place = zero; prior = now.prior; list = now.list; enrols = (ap Some now.call, ap Some now.answer) }

  pub was-enrolled : (s : ℕ) (calls : List Call) (p : Party) → at (run h (full h s []) calls).parties c ≡ Some p → WasEnrolled h (full h s []) calls c
  was-enrolled s calls p e =
      let u : ℕ = sheet_run h s [] calls in
      let kept : option_map (fill h u) (at (bare_run h [] calls) c) ≡ Some p = sym (slice_get-map (fill h u) (bare_run h [] calls) c) ∙ ap (λ (st : State). at st.parties c) (sym (run-full h s [] calls)) ∙ e in
      let found = option_map_found (fill h u) (at (bare_run h [] calls) c) kept in
      brought s [] calls refl (subst There (sym found.1) tt)
