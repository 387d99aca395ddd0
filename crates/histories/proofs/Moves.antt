-- What a call can do to a counterparty.
use Rattle.std.proofs.Common.{◌≡◌, ℕ, ◌<◌, Bool, true, false, cond, ◌&&◌, eqb, List, [], length, Some, None, Ok, Err, Option, Result, sym, refl, ap, ◌∙◌, ⊎_elim}
use Rattle.std.specs.Prelude.{option_map}
use Rattle.sentences.specs.declared.cuts.CutList.{CutList}
use Rattle.censors.specs.declared.question.Question.{Question}
use Rattle.histories.specs.declared.data.BoxFault.{BoxFault}
use Rattle.histories.specs.Calls.{Text, House, Party, Slip, Call, Enrol, Judge, Read, Enter, Amend, Outcome, Enrolled, at, enrolling, enrol_outcome, judge_outcome, enter_outcome, outcome}
use Rattle.histories.specs.Promise.{accepted, list_of, entered_now}
use Rattle.histories.proofs.Lookups.{at_push, at-changed}
use Rattle.histories.proofs.Bare.{Bare, new_bare, bare_asked, bare_entered, bare_place, bare_enrol, bare_judge, bare_enter, Reads, bare_judging, bare_matching, bare_next, pending_on, full}
use Rattle.histories.proofs.Newcomers.{Admitted, admitted}
use Rattle.histories.proofs.Filled.{held_on, full-enrol, full-judge, full-enter, is-question, judges}

-- how a call and its outcome carry on the texts of c: those entered by it, and the text accepted last
abbrev pub Carries : ℕ → Call → Outcome → (Option Text → List Text) → (Option Text → Option Text) → Type 0
Carries c x o now then = (last : Option Text) → (entered_now c last x o ≡ now last) × (accepted c last x o ≡ then last)

-- the call is an enrolment, and answered c
pub record Brings (c : ℕ) (x : Call) (o : Outcome) : Type 0 where
  pub prior : Option Text
  pub list : CutList
  pub call : x ≡ Enrol prior list
  pub answer : o ≡ Enrolled c

-- from what counterparty c was before the call x, with the outcome o, to what it is after it
pub data Moved (h : House) (c : ℕ) (x : Call) (o : Outcome) : Option Bare → Option Bare → Type 0 where
  stays : {b : Option Bare} → Carries c x o (λ last. []) (λ last. last) → Moved h c x o b b
  comes : {p : Party} → Admitted h p → Brings c x o → Carries c x o (λ last. []) (λ last. last) → Moved h c x o None (Some (new_bare p))
  asks : {b : Bare} {t : Text} → b.out ≡ None → length b.past < 64 → Reads h t → Carries c x o (λ last. []) (λ last. Some t)
      → Moved h c x o (Some b) (Some (bare_asked t b))
  enters : {b : Bare} {t : Text} → b.out ≡ Some t → Carries c x o list_of (λ last. last) → Moved h c x o (Some b) (Some (bare_entered t b))

module _ (h : House) (bs : List Bare) (c : ℕ) where
  enrol-moves : (prior : Option Text) (list : CutList) (r : Result Party BoxFault) → ((p : Party) → r ≡ Ok p → Admitted h p)
      → Moved h c (Enrol prior list) (enrol_outcome h (length bs) r) (at bs c) (at (bare_enrol bs r) c)
  enrol-moves prior list (Err f) new = stays (λ last. (refl, refl))
  enrol-moves prior list (Ok p) new =
      ⊎_elim (λ e. rw e (stays (λ last. (refl, refl))))
      (λ e. rw (e.0, e.1) (comes (new p refl) (record { prior = prior; list = list; call = refl; answer = ap Enrolled e.2 }) (λ last. (refl, refl))))
      (at_push bs (new_bare p) c)

  judge-moves : (d : ℕ) (t : Text) (k : ℕ) (r : Result Question BoxFault) → bare_judging h d (at bs d) t ≡ r
      → Moved h c (Judge d t) (judge_outcome h d k r) (at bs c) (at (bare_judge bs d t r) c)
  judge-moves d t k (Err f) e = stays (λ last. (refl, refl))
  judge-moves d t k (Ok q) e =
      let j = judges h d (at bs d) t q e in
      let reads : Reads h t = j.read ∙ ap Ok (sym (is-question h t q j.read)) in
      ⊎_elim (λ m. rw (m.1, m.2) (asks j.no-slip j.room reads (λ last. (refl, rw m.0))))
      (λ m. rw m.1 (stays (λ last. (refl, rw m.0))))
      (at-changed (bare_asked t) bs d c j.asker j.is)

  out-matches : (t : Bool) (o : Option Text) {a : Text} → cond t o None ≡ Some a → o ≡ Some a
  out-matches true o e = e
  out-matches false o e = cc

  enter-moves : (s : ℕ) (sl : Slip) (o : Option Bare) → at bs sl.party ≡ o
      → Moved h c (Enter sl) (enter_outcome h sl (held_on h s sl o)) (at bs c) (at (bare_enter bs sl.party (bare_matching h sl o)) c)
  enter-moves s sl None e = stays (λ last. (refl, refl))
  enter-moves s sl (Some b) e = go (bare_matching h sl (Some b)) refl
    where
      go : (o : Option Text) → bare_matching h sl (Some b) ≡ o
          → Moved h c (Enter sl) (enter_outcome h sl (option_map (pending_on h s b) o)) (at bs c) (at (bare_enter bs sl.party o) c)
      go None m = stays (λ last. (refl, refl))
      go (Some t) m =
          ⊎_elim
          (λ n. rw (n.1, n.2) (enters (out-matches (eqb sl.number h.number && eqb sl.place (length b.past)) b.out m) (λ last. (rw n.0, refl))))
          (λ n. rw n.1 (stays (λ last. (rw n.0, refl))))
          (at-changed (bare_entered t) bs sl.party c b e)

  pub moved : (s : ℕ) (x : Call) → Moved h c x (outcome h (full h s bs) x) (at bs c) (at (bare_next h bs x) c)
  moved s (Enrol prior list) = rw (full-enrol h s bs prior list) (enrol-moves prior list (enrolling h (length bs) prior list) (admitted h (length bs) prior list))
  moved s (Judge d t) = rw (full-judge h s bs d t) (judge-moves d t (bare_place (at bs d)) (bare_judging h d (at bs d) t) refl)
  moved s (Read sl) = stays (λ last. (refl, refl))
  moved s (Enter sl) = rw (full-enter h s bs sl) (enter-moves s sl (at bs sl.party) refl)
  moved s (Amend cs room) = stays (λ last. (refl, refl))
