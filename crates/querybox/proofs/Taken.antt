-- The slip that judge hands out is taken by the enter that follows.
use Rattle.std.proofs.Common.{◌≡◌, ℕ, Bool, cond, ◌&&◌, List, length, Some, None, Ok, Err, Option, Result, sym, refl, ap, ◌∙◌, subst, ap₂, arith}
use Rattle.std.proofs.lemmas.Bool.{eq-eqb}
use Rattle.sheets.specs.declared.SheetSet.{SheetSet}
use Rattle.sentences.specs.declared.lists.SentenceList.{SentenceList}
use Rattle.sentences.specs.declared.names.Names.{Names}
use Rattle.sentences.specs.Lists.{sets_of}
use Rattle.sentences.specs.Naming.{words}
use Rattle.censors.specs.declared.question.Decision.{Decision}
use Rattle.censors.specs.declared.question.Question.{Question}
use Rattle.censors.specs.declared.question.Reply.{Reply}
use Rattle.censors.specs.declared.question.Value.{Value}
use Rattle.histories.specs.declared.data.BoxFault.{BoxFault}
use Rattle.histories.specs.Calls.{Text, House, Party, State, Slip, Call, Judge, Enter, Outcome, Refused, Enrolled, Judged, Shown, Replied, Unmatched, Amended, at, asked, judging, next_place, matching, judge_outcome, after_judge, enter_outcome, outcome, next}
use Rattle.querybox.specs.declared.query_box.QueryBox.{QueryBox}
use Rattle.querybox.specs.States.{state_of, house_of, Step}
use Rattle.histories.proofs.Lookups.{at-change}

-- a slip that a call hands out is taken by enter on the state st
abbrev pub Taken : House → State → Outcome → Type 0
Taken h st (Refused f) = Unit
Taken h st (Enrolled c) = Unit
Taken h st (Judged sl) = (back : Slip) → outcome h st (Enter sl) ≡ Unmatched back → ⊥
Taken h st (Shown sl) = Unit
Taken h st (Replied a) = Unit
Taken h st (Unmatched sl) = Unit
Taken h st (Amended ns) = Unit

never_back : {a : Reply} {back : Slip} → Replied a ≡ Unmatched back → ⊥
never_back e = let z : ◌≡◌ {A = ℕ} 0 1 = cc in omega arith

module _ (h : House) (st : State) (c : ℕ) (t : Text) where
  by_result : (p : Party) → at st.parties c ≡ Some p → (r : Result Question BoxFault) → Taken h (after_judge h st c r) (judge_outcome h c (length p.log) r)
  by_result p here (Err f) = tt
  by_result p here (Ok q) = λ back e.
      let sl : Slip = record { number = h.number; party = c; place = length p.log } in
      let matches =
      ap (matching h sl) (at-change (asked h st.sheet q) st.parties c p here)
      ∙ ap₂ (λ (a b : Bool). cond (a && b) (asked h st.sheet q p).pending None) (eq-eqb h.number h.number refl) (eq-eqb (length p.log) (length p.log) refl) in
      never_back (sym (ap (enter_outcome h sl) matches) ∙ e)

  by-entry : (o : Option Party) → at st.parties c ≡ o → Taken h (after_judge h st c (judging h c o t)) (judge_outcome h c (next_place h o) (judging h c o t))
  by-entry None here = tt
  by-entry (Some p) here = by_result p here (judging h c (Some p) t)

  pub taken : Taken h (next h st (Judge c t)) (outcome h st (Judge c t))
  taken = by-entry (at st.parties c) refl

-- ---- the box

module _ {C : Type 0} (good : C → SheetSet → List SheetSet → Bool) (decided : C → SheetSet → List SheetSet → Question → Value → Decision)
    (after : C → SheetSet → List SheetSet → Question → Reply → SheetSet) where
  abbrev house : QueryBox C → House
  house = house_of good decided after

  abbrev house_from : C → ℕ → Names → SentenceList → House
  house_from k n ns rs = record { good = good k; decided = decided k; after = after k; number = n; names = words ns; rules = sets_of rs }

  -- a call leaves what the box was opened with
  pub house-kept : {b b' : QueryBox C} {x : Call} {o : Outcome} → Step good decided after b x o b' → house b' ≡ house b
  house-kept {b = b} {b' = b'} s =
      ap₂ (λ (k : C) (n : ℕ). house_from k n b'.names b'.rules) s.censor s.number ∙ ap₂ (λ (ns : Names) (rs : SentenceList). house_from b.censor b.number ns rs) s.names s.rules

  -- a box judges a question, and its slip is the next thing entered: it is not handed back
  pub entered-at-once : {b b' b'' : QueryBox C} {c : ℕ} {t : Text} {sl same back : Slip} → Step good decided after b (Judge c t) (Judged sl) b' → same ≡ sl
      → Step good decided after b' (Enter same) (Unmatched back) b'' → ⊥
  entered-at-once {b = b} {b' = b'} {c = c} {t = t} {sl = sl} {back = back} judged alike entered =
      let none = subst (Taken (house b) (next (house b) (state_of b) (Judge c t))) (sym judged.answers) (taken (house b) (state_of b) c t) in
      none back
      (sym (entered.answers ∙ ap (λ (x : Slip). outcome (house b') (state_of b') (Enter x)) alike ∙ ap₂ (λ (h : House) (st : State). outcome h st (Enter sl)) (house-kept judged) judged.leaves))
