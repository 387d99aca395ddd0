-- What each call does to the slips that are out.
use Rattle.std.proofs.Common.{◌≡◌, ℕ, zero, suc, ◌+◌, ◌<◌, Bool, true, false, cond, ◌&&◌, eqb, List, [], ◌∷◌, length, Some, None, Ok, Err, Option, Result, sym, refl, ap, ◌∙◌, ⊎_elim, arith}
use Rattle.std.specs.Prelude.{is_some}
use Rattle.std.proofs.lemmas.Bool.{both_ways, eq-eqb, eqb-true, and_from, and_parts}
use Rattle.std.proofs.lemmas.Option.{slice_get_within}
use Rattle.sentences.specs.declared.cuts.CutList.{CutList}
use Rattle.censors.specs.declared.question.Question.{Question}
use Rattle.histories.specs.declared.data.BoxFault.{BoxFault}
use Rattle.histories.specs.declared.data.BoxFault.TheVariants as fault
use Rattle.histories.specs.declared.data.Change.{Change}
use Rattle.histories.specs.declared.data.Pending.{Pending}
use Rattle.histories.specs.Calls.{Text, House, Party, State, Slip, Enrol, Judge, Enter, Amend, Outcome, Refused, Enrolled, Judged, Shown, Replied, Unmatched, Amended, at, check, slip_out, enrolling, judging, matching, next_place, amending, asked, entered, judge_outcome, enter_outcome, outcome, after_enrol, after_judge, after_enter, after_amend, next}
use Rattle.histories.proofs.Lookups.{at_change_other, at-change, at_push, check-index-ok}
use Rattle.desks.specs.Slots.{awaited}

-- the slips that were out for d are out for it still
abbrev pub Stays : State → State → ℕ → Type 0
Stays st st' d = (k : ℕ) → awaited k (at st.parties d) ≡ true → awaited k (at st'.parties d) ≡ true

-- ---- what is out

-- a slip is out for a counterparty: it is enrolled, the place is the next one of its log, and a question is pending
pub record Awaits (k : ℕ) (o : Option Party) : Type 0 where
  pub party : Party
  pub is : o ≡ Some party
  pub place : k ≡ length party.log
  pub pending : is_some party.pending ≡ true

pub awaits : (k : ℕ) (o : Option Party) → awaited k o ≡ true → Awaits k o
awaits k None e = absurd (both_ways false refl e)
awaits k (Some p) e =
    let both = and_parts (eqb k (length p.log)) (is_some p.pending) e in
    record { party = p; is = refl; place = eqb-true k (length p.log) both.0; pending = both.1 }

pub awaited_from : {k : ℕ} {o : Option Party} (p : Party) → o ≡ Some p → k ≡ length p.log → is_some p.pending ≡ true → awaited k o ≡ true
awaited_from p is place out = ap (awaited _) is ∙ and_from _ _ (eq-eqb _ _ place) out

-- one place only is awaited
pub same_place : (k j : ℕ) (o : Option Party) → awaited k o ≡ true → awaited j o ≡ true → k ≡ j
same_place k j None e f = absurd (both_ways false refl e)
same_place k j (Some p) e f =
    eqb-true k (length p.log) (and_parts _ _ e).0 ∙ sym (eqb-true j (length p.log) (and_parts _ _ f).0)

not_out : (k : ℕ) (o : Option Party) → ((p : Party) → o ≡ Some p → is_some p.pending ≡ false) → awaited k o ≡ true → ⊥
not_out k o free e = let a = awaits k o e in both_ways (is_some a.party.pending) (free a.party a.is) a.pending

-- ---- enrolling

module _ (h : House) (st : State) where
  enrol-by : (r : Result Party BoxFault) (d : ℕ) → Stays st (after_enrol h st r) d
  enrol-by (Err f) d k e = e
  enrol-by (Ok p) d k e =
      ⊎_elim (λ same. ap (awaited k) same ∙ e) (λ new. absurd (both_ways false refl (sym (ap (awaited k) new.0) ∙ e))) (at_push st.parties p d)

  pub enrol-stays : (t : Option Text) (list : CutList) (d : ℕ) → Stays st (next h st (Enrol t list)) d
  enrol-stays t list d = enrol-by (enrolling h (length st.parties) t list) d

-- ---- judging

module _ (h : House) (st : State) (c : ℕ) where
  judge-by : (r : Result Question BoxFault) (d : ℕ) → (d ≡ c → ⊥) → Stays st (after_judge h st c r) d
  judge-by (Err f) d ne k e = e
  judge-by (Ok q) d ne k e = ap (awaited k) (at_change_other (asked h st.sheet q) st.parties c d ne) ∙ e

  pub judge-stays : (t : Text) (d : ℕ) → (d ≡ c → ⊥) → Stays st (next h st (Judge c t)) d
  judge-stays t d ne = judge-by (judging h c (at st.parties c) t) d ne

  -- what is so where a slip was handed out: none was out before, and this one is now
  pub record Handed (sl : Slip) (st' : State) : Type 0 where
    pub below : c < length st.parties
    pub number : sl.number ≡ h.number
    pub party : sl.party ≡ c
    pub none : (k : ℕ) → awaited k (at st.parties c) ≡ true → ⊥
    pub out : awaited sl.place (at st'.parties c) ≡ true

  -- what a judge answers, and what it leaves
  abbrev pub Judging : Outcome → State → Type 0
  Judging (Refused f) st' = st' ≡ st
  Judging (Enrolled n) st' = Unit
  Judging (Judged sl) st' = Handed sl st'
  Judging (Shown sl) st' = Unit
  Judging (Replied a) st' = Unit
  Judging (Unmatched sl) st' = Unit
  Judging (Amended ns) st' = Unit

  handed : (p : Party) → at st.parties c ≡ Some p → is_some p.pending ≡ false → (r : Result Question BoxFault) → Judging (judge_outcome h c (length p.log) r) (after_judge h st c r)
  handed p here free (Err f) = refl
  handed p here free (Ok q) = record {
    below = slice_get_within st.parties c p here;
    number = refl;
    party = refl;
    none = λ k. not_out k (at st.parties c) (λ p' there. let same : p' ≡ p = cc in ap (λ (x : Party). is_some x.pending) same ∙ free);
    out = awaited_from (asked h st.sheet q p) (at-change (asked h st.sheet q) st.parties c p here) refl refl;
  }

  by-pending : (p : Party) (t : Text) → at st.parties c ≡ Some p → (b : Bool) → is_some p.pending ≡ b → (r : Result Question BoxFault)
      → Judging (judge_outcome h c (length p.log) (check b (fault.SlipOut c) r)) (after_judge h st c (check b (fault.SlipOut c) r))
  by-pending p t here true e r = refl
  by-pending p t here false e r = handed p here e r

  by-party : (o : Option Party) (t : Text) → at st.parties c ≡ o → Judging (judge_outcome h c (next_place h o) (judging h c o t)) (after_judge h st c (judging h c o t))
  by-party None t here = refl
  by-party (Some p) t here = by-pending p t here (is_some p.pending) refl _

  pub judged : (t : Text) → Judging (outcome h st (Judge c t)) (next h st (Judge c t))
  judged t = by-party (at st.parties c) t refl

-- ---- entering

module _ (h : House) (st : State) (sl : Slip) where
  enter-by : (o : Option Pending) (d : ℕ) → (d ≡ sl.party → ⊥) → Stays st (after_enter h st sl.party o) d
  enter-by None d ne k e = e
  enter-by (Some x) d ne k e = ap (awaited k) (at_change_other (entered h x) st.parties sl.party d ne) ∙ e

  pub enter-stays : (d : ℕ) → (d ≡ sl.party → ⊥) → Stays st (next h st (Enter sl)) d
  enter-stays d ne = enter-by (matching h sl (at st.parties sl.party)) d ne

  -- what an enter answers, and what it leaves
  abbrev pub Entering : Outcome → State → Type 0
  Entering (Refused f) st' = ⊥
  Entering (Enrolled n) st' = ⊥
  Entering (Judged sl') st' = ⊥
  Entering (Shown sl') st' = ⊥
  Entering (Replied a) st' = (sl.number ≡ h.number) × (awaited sl.place (at st.parties sl.party) ≡ true)
  Entering (Unmatched sl') st' = (sl' ≡ sl) × (st' ≡ st) × (sl.number ≡ h.number → awaited sl.place (at st.parties sl.party) ≡ true → ⊥)
  Entering (Amended ns) st' = ⊥

  by-pending-kept : (p : Party) → at st.parties sl.party ≡ Some p → (a b : Bool) → eqb sl.number h.number ≡ a → eqb sl.place (length p.log) ≡ b
      → (o : Option Pending) → p.pending ≡ o → Entering (enter_outcome h sl (cond (a && b) o None)) (after_enter h st sl.party (cond (a && b) o None))
  by-pending-kept p here true true e f (Some x) g = (eqb-true _ _ e, awaited_from p here (eqb-true _ _ f) (ap is_some g))
  by-pending-kept p here true true e f None g = (refl, refl, λ n w. not_out sl.place (at st.parties sl.party) (λ p' there. let same : p' ≡ p = cc in ap (λ (x : Party). is_some x.pending) same ∙ ap is_some g) w)
  by-pending-kept p here true false e f o g = (
    refl,
    refl,
    λ n w. let a = awaits sl.place (at st.parties sl.party) w in let same : a.party ≡ p = cc a.is in
        both_ways _ f (eq-eqb _ _ (a.place ∙ ap (λ (x : Party). length x.log) same)),
  )
  by-pending-kept p here false b e f o g = (refl, refl, λ n w. both_ways _ e (eq-eqb _ _ n))

  by-entry : (o : Option Party) → at st.parties sl.party ≡ o → Entering (enter_outcome h sl (matching h sl o)) (after_enter h st sl.party (matching h sl o))
  by-entry None here = (refl, refl, λ n w. both_ways _ (ap (awaited sl.place) here) w)
  by-entry (Some p) here = by-pending-kept p here _ _ refl refl p.pending refl

  pub entering : Entering (outcome h st (Enter sl)) (next h st (Enter sl))
  entering = by-entry (at st.parties sl.party) refl

-- ---- amending

-- an amendment is carried out only where no slip is out
none_out : (n : ℕ) (ps : List Party) (d k : ℕ) → slip_out n ps ≡ None → awaited k (at ps d) ≡ true → ⊥
none_out n [] d k none e = both_ways false refl e
none_out n (p ∷ ps) d k none e = by_first (is_some p.pending) refl d none e (λ d none e. none_out (n + 1) ps d k none e)
  where
    by_first : (b : Bool) → is_some p.pending ≡ b → (d : ℕ) → cond b (Some n) (slip_out (n + 1) ps) ≡ None → awaited k (at (p ∷ ps) d) ≡ true
        → ((d : ℕ) → slip_out (n + 1) ps ≡ None → awaited k (at ps d) ≡ true → ⊥) → ⊥
    by_first true out d e w rest = let z : ◌≡◌ {A = ℕ} 0 1 = cc in omega arith
    by_first false out zero e w rest = both_ways _ out (and_parts _ _ w).1
    by_first false out (suc d) e w rest = rest d e w

module _ (h : House) (st : State) where
  amend-by : (r : Result ℕ BoxFault) → ((s : ℕ) → r ≡ Ok s → slip_out 0 st.parties ≡ None) → (d : ℕ) → Stays st (after_amend h st r) d
  amend-by (Err f) free d k e = e
  amend-by (Ok s) free d k e = absurd (none_out 0 st.parties d k (free s refl) e)

  pub amend-stays : (cs : List Change) (room d : ℕ) → Stays st (next h st (Amend cs room)) d
  amend-stays cs room d = amend-by (amending h st cs room) (λ s e. (check-index-ok (slip_out 0 st.parties) fault.SlipOut _ e).0) d
