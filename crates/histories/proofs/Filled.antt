-- A box is at every call what its sheet makes of what was asked.
use Rattle.std.proofs.Common.{◌≡◌, ℕ, ◌+◌, ◌<◌, Bool, true, false, cond, ◌&&◌, eqb, leb, List, [], ◌∷◌, ◌++◌, map, length, Some, None, Ok, Err, Option, Result, sym, refl, ap, ◌∙◌, subst, ap₂}
use Rattle.std.specs.Prelude.{is_some, option_map}
use Rattle.std.proofs.lemmas.Option.{slice_get-map}
use Rattle.std.proofs.lemmas.List.{length-map, map_push}
use Rattle.std.proofs.lemmas.Bool.{leb-false}
use Rattle.sentences.specs.declared.cuts.CutList.{CutList}
use Rattle.censors.specs.declared.question.Question.{Question}
use Rattle.censors.specs.Laws.{no_sheet}
use Rattle.censors.specs.Questions.{question_of}
use Rattle.histories.specs.declared.data.BoxFault.{BoxFault}
use Rattle.histories.specs.declared.data.BoxFault.TheVariants as fault
use Rattle.histories.specs.declared.data.Pending.{Pending}
use Rattle.histories.specs.Calls.{Text, House, Party, State, Slip, Call, Enrol, Judge, Read, Enter, Amend, at, change, check_index, slip_out, judging, next_place, matching, enrolling, evaluated, remaining, questions, asked, entered, renewed, enrol_outcome, judge_outcome, enter_outcome, outcome, with_parties, after_enrol, after_judge, after_enter, after_amend, next, run}
use Rattle.histories.proofs.Lookups.{is_none, is_some-option_map, cond-option_map, map-change, ok_or, check-ok, never_ok}
use Rattle.histories.proofs.Replaying.{final-more, logged-more, logged-questions, length-logged, remaining-is, evaluated-is}
use Rattle.histories.proofs.Bare.{Bare, new_bare, bare_asked, bare_entered, bare_slip_out, bare_place, bare_enrol, bare_judge, bare_enter, read_question, as_question, bare_judging, bare_matching, amending_on, bare_next, sheet_next, bare_run, sheet_run, log_on, pending_on, fill, full}
use Rattle.histories.proofs.Newcomers.{as_read}

module _ (h : House) where
  -- ---- what the checks of a call find

  length-log : (s : ℕ) (b : Bare) → length (log_on h s b) ≡ length b.past
  length-log s b = length-logged h.decided h.after b.secrets b.start (map (as_question h) b.past) s ∙ length-map b.past (as_question h)

  full-judging : (s c : ℕ) (o : Option Bare) (t : Text) → judging h c (option_map (fill h s) o) t ≡ bare_judging h c o t
  full-judging s c None t = refl
  full-judging s c (Some b) t = rw (is_some-option_map (pending_on h s b) b.out, length-log s b)

  full-place : (s : ℕ) (o : Option Bare) → next_place h (option_map (fill h s) o) ≡ bare_place o
  full-place s None = refl
  full-place s (Some b) = length-log s b

  -- what is kept for a slip that matches
  abbrev pub held_on : ℕ → Slip → Option Bare → Option Pending
  held_on s sl None = None
  held_on s sl (Some b) = option_map (pending_on h s b) (bare_matching h sl (Some b))

  full-matching : (s : ℕ) (sl : Slip) (o : Option Bare) → matching h sl (option_map (fill h s) o) ≡ held_on s sl o
  full-matching s sl None = refl
  full-matching s sl (Some b) =
      rw (length-log s b) (cond-option_map (pending_on h s b) (eqb sl.number h.number && eqb sl.place (length b.past)) b.out)

  pub full-slip-out : (s c : ℕ) (bs : List Bare) → slip_out c (map (fill h s) bs) ≡ bare_slip_out c bs
  full-slip-out s c [] = refl
  full-slip-out s c (b ∷ bs) = rw (is_some-option_map (pending_on h s b) b.out, full-slip-out s (c + 1) bs)

  -- ---- what each call answers

  pub full-enrol : (s : ℕ) (bs : List Bare) (prior : Option Text) (list : CutList) → outcome h (full h s bs) (Enrol prior list) ≡ enrol_outcome h (length bs) (enrolling h (length bs) prior list)
  full-enrol s bs prior list = rw (length-map bs (fill h s))

  pub full-judge : (s : ℕ) (bs : List Bare) (c : ℕ) (t : Text) → outcome h (full h s bs) (Judge c t) ≡ judge_outcome h c (bare_place (at bs c)) (bare_judging h c (at bs c) t)
  full-judge s bs c t = rw (slice_get-map (fill h s) bs c, full-judging s c (at bs c) t, full-place s (at bs c))

  pub full-enter : (s : ℕ) (bs : List Bare) (sl : Slip) → outcome h (full h s bs) (Enter sl) ≡ enter_outcome h sl (held_on s sl (at bs sl.party))
  full-enter s bs sl = rw (slice_get-map (fill h s) bs sl.party, full-matching s sl (at bs sl.party))

  -- ---- what each call leaves

  pub is-question : (t : Text) (q : Question) → read_question h t ≡ Ok q → as_question h t ≡ q
  is-question t q e = ap (ok_or (question_of no_sheet)) e

  -- a text that is judged: no slip is out, there is room for it, and it reads
  pub record Judges (o : Option Bare) (t : Text) (q : Question) : Type 0 where
    pub asker : Bare
    pub is : o ≡ Some asker
    pub no-slip : asker.out ≡ None
    pub room : length asker.past < 64
    pub read : read_question h t ≡ Ok q

  pub judges : (c : ℕ) (o : Option Bare) (t : Text) (q : Question) → bare_judging h c o t ≡ Ok q → Judges o t q
  judges c None t q e = absurd (never_ok e)
  judges c (Some b) t q e =
      let one = check-ok (is_some b.out) (fault.SlipOut c) _ e in
      let two = check-ok (leb 64 (length b.past)) fault.LogFull (read_question h t) one.1 in
      record { asker = b; is = refl; no-slip = is_none b.out one.0; room = leb-false 64 (length b.past) two.0; read = two.1 }

  next-enrol : (s : ℕ) (bs : List Bare) (r : Result Party BoxFault) → ((p : Party) → r ≡ Ok p → fill h s (new_bare p) ≡ p) → after_enrol h (full h s bs) r ≡ full h s (bare_enrol bs r)
  next-enrol s bs (Err f) is = refl
  next-enrol s bs (Ok p) is =
      ap (with_parties h (full h s bs)) (ap (λ (y : Party). map (fill h s) bs ++ y ∷ []) (sym (is p refl)) ∙ sym (map_push (fill h s) bs (new_bare p)))

  next-judge : (s : ℕ) (bs : List Bare) (c : ℕ) (t : Text) (r : Result Question BoxFault) → ((q : Question) → r ≡ Ok q → as_question h t ≡ q)
      → after_judge h (full h s bs) c r ≡ full h s (bare_judge bs c t r)
  next-judge s bs c t (Err f) is = refl
  next-judge s bs c t (Ok q) is =
      ap (λ (p : Question). with_parties h (full h s bs) (change (asked h s p) (map (fill h s) bs) c)) (sym (is q refl))
      ∙ ap (with_parties h (full h s bs)) (map-change (fill h s) (bare_asked t) (asked h s (as_question h t)) bs c (λ b e. refl))

  fill-entered : (s : ℕ) (b : Bare) (t : Text) → entered h (pending_on h s b t) (fill h s b) ≡ fill h s (bare_entered t b)
  fill-entered s b t =
      rw (
        map_push (as_question h) b.past t,
        logged-more h.decided h.after b.secrets b.start (map (as_question h) b.past) (as_question h t) s,
        final-more h.decided h.after b.secrets b.start (map (as_question h) b.past) (as_question h t) s,
      )

  next-enter : (s : ℕ) (bs : List Bare) (sl : Slip) (c : ℕ) (o : Option Bare) → at bs c ≡ o
      → after_enter h (full h s bs) c (held_on s sl o) ≡ full h s (bare_enter bs c (bare_matching h sl o))
  next-enter s bs sl c None e = refl
  next-enter s bs sl c (Some b) e = go (bare_matching h sl (Some b))
    where
      go : (o : Option Text) → after_enter h (full h s bs) c (option_map (pending_on h s b) o) ≡ full h s (bare_enter bs c o)
      go None = refl
      go (Some t) =
          ap (with_parties h (full h s bs))
          (map-change (fill h s) (bare_entered t) (entered h (pending_on h s b t)) bs c
          (λ x ex. let same : x ≡ b = cc in subst (λ (y : Bare). entered h (pending_on h s y t) (fill h s x) ≡ fill h s (bare_entered t x)) same (fill-entered s x t)))

  -- where no slip is out, an amendment makes of each counterparty what the new sheet makes of it
  fill-again : (s t : ℕ) (b : Bare) → is_some b.out ≡ false → renewed h t (fill h s b) ≡ fill h t b
  fill-again s t b e =
      let qs : List Question = map (as_question h) b.past in
      let asked-again : questions h (fill h s b) ≡ qs = logged-questions h.decided h.after b.secrets b.start qs s in
      let log-again = ap (λ (l : List Question). evaluated h b.start b.secrets l t) asked-again ∙ evaluated-is h b.secrets b.start qs t in
      let left-again = ap (λ (l : List Question). remaining h b.start b.secrets l t) asked-again ∙ remaining-is h b.secrets b.start qs t in
      let no-slip : b.out ≡ None = is_none b.out e in
      let none : option_map (pending_on h s b) b.out ≡ option_map (pending_on h t b) b.out = rw no-slip in
      cc

  pub refill : (s t c : ℕ) (bs : List Bare) → bare_slip_out c bs ≡ None → map (renewed h t) (map (fill h s) bs) ≡ map (fill h t) bs
  refill s t c [] e = refl
  refill s t c (b ∷ bs) e = go (is_some b.out) refl e (refill s t (c + 1) bs)
    where
      go : (out : Bool) → is_some b.out ≡ out → cond out (Some c) (bare_slip_out (c + 1) bs) ≡ None
          → (bare_slip_out (c + 1) bs ≡ None → map (renewed h t) (map (fill h s) bs) ≡ map (fill h t) bs) → map (renewed h t) (map (fill h s) (b ∷ bs)) ≡ map (fill h t) (b ∷ bs)
      go true o e rest = cc
      go false o e rest = ap₂ (λ (p : Party) (ps : List Party). p ∷ ps) (fill-again s t b o) (rest e)

  next-amend : (s : ℕ) (bs : List Bare) (o : Option ℕ) (r : Result ℕ BoxFault) → bare_slip_out 0 bs ≡ o
      → after_amend h (full h s bs) (check_index o fault.SlipOut r) ≡ full h (ok_or s (check_index o fault.SlipOut r)) bs
  next-amend s bs (Some i) r e = refl
  next-amend s bs None (Err f) e = refl
  next-amend s bs None (Ok t) e = ap (λ (l : List Party). record { sheet = t; parties = l }) (refill s t 0 bs e)

  pub next-full : (s : ℕ) (bs : List Bare) (x : Call) → next h (full h s bs) x ≡ full h (sheet_next h s bs x) (bare_next h bs x)
  next-full s bs (Enrol prior list) =
      rw (length-map bs (fill h s))
      (next-enrol s bs (enrolling h (length bs) prior list) (λ p e. (as_read h (length bs) prior list p e).is-new))
  next-full s bs (Judge c t) =
      rw (slice_get-map (fill h s) bs c, full-judging s c (at bs c) t)
      (next-judge s bs c t (bare_judging h c (at bs c) t) (λ q e. is-question t q (judges c (at bs c) t q e).read))
  next-full s bs (Read sl) = refl
  next-full s bs (Enter sl) =
      rw (slice_get-map (fill h s) bs sl.party, full-matching s sl (at bs sl.party)) (next-enter s bs sl sl.party (at bs sl.party) refl)
  next-full s bs (Amend cs room) = rw (full-slip-out s 0 bs) (next-amend s bs (bare_slip_out 0 bs) (amending_on h s cs room) refl)

  pub run-full : (s : ℕ) (bs : List Bare) (xs : List Call) → run h (full h s bs) xs ≡ full h (sheet_run h s bs xs) (bare_run h bs xs)
  run-full s bs [] = refl
  run-full s bs (x ∷ xs) = ap (λ (st : State). run h st xs) (next-full s bs x) ∙ run-full (sheet_next h s bs x) (bare_next h bs x) xs
