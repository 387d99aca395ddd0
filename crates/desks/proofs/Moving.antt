-- The slips that are kept, as judging and entering move them.
use Rattle.std.proofs.Common.{◌≡◌, ℕ, ◌<◌, Bool, List, [], ◌∷◌, ◌++◌, length, set, Some, None, Option, sym, refl, ap, ◌∙◌, subst, ap₂, arith}
use Rattle.std.proofs.lemmas.List.{set-set, set-get_or, get_or-set_same, get_or_push}
use Rattle.std.proofs.lemmas.Option.{none-some, slice_get_within}
use Rattle.sheets.specs.declared.SheetSet.{SheetSet}
use Rattle.censors.specs.declared.question.Decision.{Decision}
use Rattle.censors.specs.declared.question.Question.{Question}
use Rattle.censors.specs.declared.question.Reply.{Reply}
use Rattle.censors.specs.declared.question.Value.{Value}
use Rattle.histories.specs.declared.data.Change.{Change}
use Rattle.histories.specs.Calls.{Text, House, Party, State, Judge, Enter, Amend, Outcome, Judged, Unmatched, at, outcome, next}
use Rattle.querybox.specs.declared.query_box.QueryBox.{QueryBox}
use Rattle.querybox.specs.declared.slip.Slip.{Slip}
use Rattle.querybox.specs.Slips.{slip_of}
use Rattle.querybox.specs.States.{state_of, house_of, Step}
use Rattle.querybox.proofs.Enrolments.{counted}
use Rattle.desks.specs.Answers.{stored, Entered}
use Rattle.desks.specs.Slots.{slip_at, without, AllOut}
use Rattle.desks.proofs.Kept.{Out, out_of, same_out, all_stay, one-put, one_taken, last_gone}
use Rattle.desks.proofs.Places.{within}
use Rattle.desks.proofs.Staying.{Stays, Handed, Judging, Entering, judge-stays, judged, enter-stays, entering, amend-stays, awaits}

pub same_slip : (a b : Slip) → slip_of a ≡ slip_of b → a ≡ b
same_slip a b e = ap stored e

-- what entering a slip leaves, if there is one
abbrev pub state_after : House → State → Option Slip → State
state_after h st None = st
state_after h st (Some s) = next h st (Enter (slip_of s))

module _ {C : Type 0} (good : C → SheetSet → List SheetSet → Bool) (decided : C → SheetSet → List SheetSet → Question → Value → Decision)
    (after : C → SheetSet → List SheetSet → Question → Reply → SheetSet) where
  pub entered-number : (v : Option Slip) (b b' : QueryBox C) → Entered good decided after b v b' → b'.number ≡ b.number
  entered-number None b b' same = ap (λ (x : QueryBox C). x.number) same
  entered-number (Some s) b b' step = step.number

  pub entered-state : (v : Option Slip) (b b' : QueryBox C) → Entered good decided after b v b' → state_of b' ≡ state_after (house_of good decided after b) (state_of b) v
  entered-state None b b' same = ap state_of same
  entered-state (Some s) b b' step = step.leaves

-- a slip is kept for one of the eight
pub kept_below : {C : Type 0} (b : QueryBox C) (xs : List (Option Slip)) → AllOut b.number (state_of b).parties xs → (c : ℕ) (s : Slip) → slip_at xs c ≡ Some s → c < 8
kept_below b xs all c s kept =
    let a = awaits s.place (at (state_of b).parties c) (out_of b.number (state_of b).parties xs all c s kept).place in
    let below = slice_get_within (state_of b).parties c a.party a.is in
    omega (arith, below, counted b, b.inner.few)

pub the_slip : {a b : Slip} → Some a ≡ Some b → b ≡ a
the_slip e = cc

module _ (h : House) (st : State) (xs : List (Option Slip)) (all : AllOut h.number st.parties xs) where
  -- ---- a slip was handed out

  module _ (c : ℕ) (t : Text) (s : Slip) (e : Judged (slip_of s) ≡ outcome h st (Judge c t)) where
    pub handed : Handed h st c (slip_of s) (next h st (Judge c t))
    handed = subst (λ (o : Outcome). Judging h st c o (next h st (Judge c t))) (sym e) (judged h st c t)

    pub judged-kept : AllOut h.number (next h st (Judge c t)).parties (set xs c (Some s))
    judged-kept =
        one-put h.number st (next h st (Judge c t)) xs all c (Some s) (judge-stays h st c t)
        (λ s' is. subst (Out h.number (next h st (Judge c t)).parties c) (sym (the_slip is)) (record { number = handed.number; counterparty = handed.party; place = handed.out }))

  -- ---- a slip that was kept is entered

  module _ (c : ℕ) (s : Slip) (kept : slip_at xs c ≡ Some s) where
    abbrev out : Out h.number st.parties c s
    out = out_of h.number st.parties xs all c s kept

    pub entered-kept : AllOut h.number (next h st (Enter (slip_of s))).parties (without xs c)
    entered-kept =
        one-put h.number st (next h st (Enter (slip_of s))) xs all c None
        (λ d ne. enter-stays h st (slip_of s) d (λ same. ne (same ∙ out.counterparty)))
        (λ s' is. absurd (none-some _ is))

  -- what was kept for c is entered, if it is a slip
  pub one_entered : (c : ℕ) (v : Option Slip) → slip_at xs c ≡ v → AllOut h.number (state_after h st v).parties (without xs c)
  one_entered c None e = one_taken h.number st xs all c
  one_entered c (Some s) e = entered-kept c s e

-- ---- a slip of another desk is put into this box

module _ (h : House) (st : State) (own : List (Option Slip)) (all : AllOut h.number st.parties own)
    (n : ℕ) (st₂ : State) (others : List (Option Slip)) (all₂ : AllOut n st₂.parties others) (c : ℕ) (s : Slip) (kept : slip_at others c ≡ Some s) where
  abbrev there : Out n st₂.parties c s
  there = out_of n st₂.parties others all₂ c s kept

  pub its-party : s.counterparty ≡ c
  its-party = there.counterparty

  abbrev did : Entering h st (slip_of s) (outcome h st (Enter (slip_of s))) (next h st (Enter (slip_of s)))
  did = entering h st (slip_of s)

  -- whether it is taken or not, the slips for all but c are out still
  pub own-kept : AllOut h.number (next h st (Enter (slip_of s))).parties (without own c)
  own-kept =
      one-put h.number st (next h st (Enter (slip_of s))) own all c None
      (λ d ne. enter-stays h st (slip_of s) d (λ same. ne (same ∙ its-party)))
      (λ s' is. absurd (none-some _ is))

  -- where it is not, it comes back, and nothing has changed
  pub handed-back : (back : Slip) → Unmatched (slip_of back) ≡ outcome h st (Enter (slip_of s)) → (back ≡ s) × (next h st (Enter (slip_of s)) ≡ st)
  handed-back back e =
      let told = subst (λ (o : Outcome). Entering h st (slip_of s) o (next h st (Enter (slip_of s)))) (sym e) did in
      (same_slip back s told.0, told.1)

-- ---- what was kept last is entered, if it is a slip

last_stays : (h : House) (st : State) (xs : List (Option Slip)) (v : Option Slip) → AllOut h.number st.parties (xs ++ v ∷ []) → (d : ℕ) → (d ≡ length xs → ⊥) → Stays st (state_after h st v) d
last_stays h st xs None all d ne k e = e
last_stays h st xs (Some s) all d ne k e =
    let o = out_of h.number st.parties (xs ++ Some s ∷ []) all (length xs) s (get_or_push xs (Some s) None (length xs) refl) in
    enter-stays h st (slip_of s) d (λ same. ne (same ∙ o.counterparty)) k e

pub last_entered : (h : House) (st : State) (xs : List (Option Slip)) (v : Option Slip) → AllOut h.number st.parties (xs ++ v ∷ []) → AllOut h.number (state_after h st v).parties xs
last_entered h st xs v all = last_gone h.number st (state_after h st v) xs v all (last_stays h st xs v all)

-- ---- the slips of a desk, after a call of its box

module _ {C : Type 0} {good : C → SheetSet → List SheetSet → Bool} {decided : C → SheetSet → List SheetSet → Question → Value → Decision}
    {after : C → SheetSet → List SheetSet → Question → Reply → SheetSet} {b b' : QueryBox C} (xs : List (Option Slip)) where
  pub amended_out : {cs : List Change} {room : ℕ} {o : Outcome} → Step good decided after b (Amend cs room) o b' → AllOut b.number (state_of b).parties xs → AllOut b'.number (state_of b').parties xs
  amended_out {cs} {room} step all =
      let h = house_of good decided after b in
      same_out step.number (ap (λ (st : State). st.parties) step.leaves) refl
      (all_stay b.number (state_of b) (next h (state_of b) (Amend cs room)) xs all (amend-stays h (state_of b) cs room))

  pub judged_out : {ys : List (Option Slip)} {c : ℕ} {t : Text} {s : Slip} → Step good decided after b (Judge c t) (Judged (slip_of s)) b' → AllOut b.number (state_of b).parties xs
      → ys ≡ set xs s.counterparty (Some s) → AllOut b'.number (state_of b').parties ys
  judged_out {c = c} {t = t} {s = s} step all kept =
      let h = house_of good decided after b in
      same_out step.number (ap (λ (st : State). st.parties) step.leaves)
      (kept ∙ ap (λ (k : ℕ). set xs k (Some s)) (handed h (state_of b) xs all c t s step.answers).party)
      (judged-kept h (state_of b) xs all c t s step.answers)

module _ {C : Type 0} (good : C → SheetSet → List SheetSet → Bool) (decided : C → SheetSet → List SheetSet → Question → Value → Decision)
    (after : C → SheetSet → List SheetSet → Question → Reply → SheetSet) (v : Option Slip) (b b' : QueryBox C) (does : Entered good decided after b v b') (xs ys : List (Option Slip)) where
  same_after : {zs : List (Option Slip)} → AllOut b.number (state_after (house_of good decided after b) (state_of b) v).parties zs → ys ≡ zs → AllOut b'.number (state_of b').parties ys
  same_after all same = same_out (entered-number good decided after v b b' does) (ap (λ (st : State). st.parties) (entered-state good decided after v b b' does)) same all

  -- the slip of c, if there is one, was taken out and entered
  pub entered_out : AllOut b.number (state_of b).parties xs → (c : ℕ) → v ≡ slip_at xs c → ys ≡ without xs c → AllOut b'.number (state_of b').parties ys
  entered_out all c is left = same_after (one_entered (house_of good decided after b) (state_of b) xs all c v (sym is)) left

  -- the last one was
  pub last_out : AllOut b.number (state_of b).parties xs → xs ≡ ys ++ v ∷ [] → AllOut b'.number (state_of b').parties ys
  last_out all last = same_after (last_entered (house_of good decided after b) (state_of b) ys v (same_out refl refl (sym last) all)) refl

-- ---- a slip that another desk keeps for c is entered here

module _ {C : Type 0} {good : C → SheetSet → List SheetSet → Bool} {decided : C → SheetSet → List SheetSet → Question → Value → Decision}
    {after : C → SheetSet → List SheetSet → Question → Reply → SheetSet} {b b' : QueryBox C} (own : List (Option Slip)) (all : AllOut b.number (state_of b).parties own)
    (e : QueryBox C) (others : List (Option Slip)) (all₂ : AllOut e.number (state_of e).parties others) (c : ℕ) {s : Slip} (kept : slip_at others c ≡ Some s) where
  pub own_out : {o : Outcome} {left ys : List (Option Slip)} → Step good decided after b (Enter (slip_of s)) o b' → left ≡ without others c → ys ≡ set own c (slip_at left c)
      → AllOut b'.number (state_of b').parties ys
  own_out step left now =
      same_out step.number (ap (λ (st : State). st.parties) step.leaves)
      (now ∙ ap (λ (xs : List (Option Slip)). set own c (slip_at xs c)) left ∙ ap (set own c) (get_or-set_same others c None None (within others c kept)))
      (own-kept (house_of good decided after b) (state_of b) own all e.number (state_of e) others all₂ c s kept)

  pub same_back : {back : Slip} → Step good decided after b (Enter (slip_of s)) (Unmatched (slip_of back)) b' → back ≡ s
  same_back {back} step = (handed-back (house_of good decided after b) (state_of b) own all e.number (state_of e) others all₂ c s kept back step.answers).0

  pub back_below : {back : Slip} → Step good decided after b (Enter (slip_of s)) (Unmatched (slip_of back)) b' → back.counterparty < 8
  back_below step =
      subst (λ (x : Slip). x.counterparty < 8) (sym (same_back step))
      (subst (λ (k : ℕ). k < 8) (sym (out_of e.number (state_of e).parties others all₂ c s kept).counterparty) (kept_below e others all₂ c s kept))

-- a slip that was taken out for c is back where it was
pub back_there : (n : ℕ) (ps : List Party) (xs : List (Option Slip)) → AllOut n ps xs → (c : ℕ) {s : Slip} → slip_at xs c ≡ Some s → {left ys : List (Option Slip)} → left ≡ without xs c
    → {back : Slip} → back ≡ s → ys ≡ set left back.counterparty (Some back) → ys ≡ xs
back_there n ps xs all c {s} kept left same now =
    now
    ∙ ap₂ (λ (ys : List (Option Slip)) (x : Slip). set ys x.counterparty (Some x)) left same
    ∙ ap (λ (k : ℕ). set (without xs c) k (Some s)) (out_of n ps xs all c s kept).counterparty
    ∙ ap (set (without xs c) c) (sym kept)
    ∙ set-set xs c None (slip_at xs c) ∙ set-get_or xs c None
