-- The fresh box: opened on the present sheet under any number, it carries out the enrolments and one counterparty's questions.
use Rattle.std.proofs.Common.{◌≡◌, ℕ, zero, suc, ◌+◌, ◌<◌, ◌≤◌, true, List, [], ◌∷◌, ◌++◌, map, length, Some, None, Ok, Err, Option, Result, sym, refl, ap, ◌∙◌, subst, append_assoc, append-nil, arith}
use Rattle.std.proofs.lemmas.List.{length-map, length_push, map_push}
use Rattle.std.proofs.lemmas.Bool.{eq-eqb, lt-leb}
use Rattle.sentences.specs.declared.cuts.CutList.{CutList}
use Rattle.censors.specs.declared.question.Question.{Question}
use Rattle.histories.specs.declared.data.BoxFault.{BoxFault}
use Rattle.histories.specs.declared.data.Pending.{Pending}
use Rattle.histories.specs.Calls.{Text, House, Party, State, Slip, Call, Enrol, Judge, Read, Enter, Amend, Outcome, at, change, lawful_sheets, enrolling, amending, enrol_outcome, judge_outcome, enter_outcome, amend_outcome, outcome, outcomes, next, run}
use Rattle.histories.specs.Promise.{Each, carried_out, enrolments, asking, granted, numbered}
use Rattle.histories.proofs.Lookups.{at-change}
use Rattle.histories.proofs.Bare.{Bare, new_bare, bare_asked, bare_entered, bare_enrol, bare_judge, bare_enter, as_question, Reads, bare_judging, bare_matching, bare_next, sheet_next, bare_run, full}
use Rattle.histories.proofs.Filled.{full-enrol, full-judge, full-enter, next-full}

abbrev Granted : Outcome → Type 0
Granted o = granted o ≡ true

-- ---- calls that are all carried out

module _ (h : House) where
  -- the box that holds st carries out the calls, which leave st'
  pub record Goes (st : State) (xs : List Call) (st' : State) : Type 0 where
    pub carried : Each Granted (outcomes h st xs)
    pub leaves : run h st xs ≡ st'

  goes_none : (st : State) → Goes st [] st
  goes_none st = record { carried = tt; leaves = refl }

  goes-cons : {st st' st'' : State} {x : Call} {xs : List Call} → Granted (outcome h st x) → next h st x ≡ st' → Goes st' xs st'' → Goes st (x ∷ xs) st''
  goes-cons g e rest = record { carried = (g, rw e rest.carried); leaves = rw e rest.leaves }

  pub goes-append : (xs : List Call) {ys : List Call} {st st' st'' : State} → Goes st xs st' → Goes st' ys st'' → Goes st (xs ++ ys) st''
  goes-append [] {ys} {st'' = st''} a b = subst (λ (u : State). Goes u ys st'') (sym a.leaves) b
  goes-append (x ∷ xs) a b = goes-cons a.carried.0 refl (goes-append xs (record { carried = a.carried.1; leaves = a.leaves }) b)

-- ---- the questions of a counterparty

-- a counterparty that has entered the texts, and nothing else
abbrev pub with_texts : Bare → List Text → Bare
with_texts b ts = record { start = b.start; secrets = b.secrets; past = ts; out = None }

module _ (h : House) (u c : ℕ) (b : Bare) where
  judge-goes : (bs : List Bare) (past : List Text) (t : Text) {xs : List Call} {st : State} → at bs c ≡ Some (with_texts b past) → length past < 64 → Reads h t
      → Goes h (full h u (change (bare_asked t) bs c)) xs st → Goes h (full h u bs) (Judge c t ∷ xs) st
  judge-goes bs past t e room reads =
      let now : bare_judging h c (at bs c) t ≡ Ok (as_question h t) = rw (e, lt-leb 64 (length past) room) reads in
      goes-cons h (rw (full-judge h u bs c t, now)) (next-full h u bs (Judge c t) ∙ ap (λ (r : Result Question BoxFault). full h u (bare_judge bs c t r)) now)

  enter-goes : (bs : List Bare) (past : List Text) (t : Text) (k : ℕ) {xs : List Call} {st : State} → at bs c ≡ Some (bare_asked t (with_texts b past)) → length past ≡ k
      → Goes h (full h u (change (bare_entered t) bs c)) xs st → Goes h (full h u bs) (Enter (record { number = h.number; party = c; place = k }) ∷ xs) st
  enter-goes bs past t k e ek =
      let sl : Slip = record { number = h.number; party = c; place = k } in
      let now : bare_matching h sl (Some (bare_asked t (with_texts b past))) ≡ Some t = rw (eq-eqb h.number h.number refl, eq-eqb k (length past) (sym ek)) in
      goes-cons h (rw (full-enter h u bs sl, e, now)) (next-full h u bs (Enter sl) ∙ ap (λ (o : Option Text). full h u (bare_enter bs c o)) (ap (bare_matching h sl) e ∙ now))

  pub record Asks (bs : List Bare) (calls : List Call) (ts : List Text) : Type 0 where
    pub leaves : List Bare
    pub goes : Goes h (full h u bs) calls (full h u leaves)
    pub there : at leaves c ≡ Some (with_texts b ts)

  pub asking-goes : (ts : List Text) (bs : List Bare) (past : List Text) (k : ℕ) → at bs c ≡ Some (with_texts b past) → length past ≡ k → k + length ts ≤ 64 → Each (Reads h) ts
      → Asks bs (asking h.number c k ts) (past ++ ts)
  asking-goes [] bs past k e ek room reads = record { leaves = bs; goes = goes_none h (full h u bs); there = rw (append-nil past) e }
  asking-goes (t ∷ ts) bs past k e ek room reads =
      let bs₁ : List Bare = change (bare_asked t) bs c in
      let e₁ = at-change (bare_asked t) bs c (with_texts b past) e in
      let e₂ = at-change (bare_entered t) bs₁ c (bare_asked t (with_texts b past)) e₁ in
      let rest = asking-goes ts (change (bare_entered t) bs₁ c) (past ++ t ∷ []) (k + 1) e₂ (length_push past t ∙ ap (λ (n : ℕ). n + 1) ek) (omega arith) reads.1 in
      record {
        leaves = rest.leaves;
        goes = judge-goes bs past t e (omega arith) reads.0 (enter-goes bs₁ past t k e₁ ek rest.goes);
        there = subst (λ (l : List Text). at rest.leaves c ≡ Some (with_texts b l)) (append_assoc past (t ∷ []) ts) rest.there;
      }

-- ---- the enrolments of a history

abbrev pub reset : Bare → Bare
reset b = with_texts b []

reset_change : (f : Bare → Bare) → ((b : Bare) → reset (f b) ≡ reset b) → (bs : List Bare) (c : ℕ) → map reset (change f bs c) ≡ map reset bs
reset_change f same [] c = refl
reset_change f same (b ∷ bs) zero = ap (λ (a : Bare). a ∷ map reset bs) (same b)
reset_change f same (b ∷ bs) (suc c) = ap (λ (l : List Bare). reset b ∷ l) (reset_change f same bs c)

pub reset_judge : (bs : List Bare) (c : ℕ) (t : Text) (r : Result Question BoxFault) → map reset (bare_judge bs c t r) ≡ map reset bs
reset_judge bs c t (Ok q) = reset_change (bare_asked t) (λ b. refl) bs c
reset_judge bs c t (Err f) = refl

pub reset_enter : (bs : List Bare) (c : ℕ) (o : Option Text) → map reset (bare_enter bs c o) ≡ map reset bs
reset_enter bs c (Some t) = reset_change (bare_entered t) (λ b. refl) bs c
reset_enter bs c None = refl

-- what is no enrolment
pub judge_none : (h : House) (x : Call) (c k : ℕ) (r : Result Question BoxFault) → carried_out x (judge_outcome h c k r) ≡ []
judge_none h x c k (Ok q) = refl
judge_none h x c k (Err f) = refl

pub enter_none : (h : House) (x : Call) (sl : Slip) (o : Option Pending) → carried_out x (enter_outcome h sl o) ≡ []
enter_none h x sl (Some e) = refl
enter_none h x sl None = refl

pub amend_none : (h : House) (x : Call) (ps : List Party) (r : Result ℕ BoxFault) → carried_out x (amend_outcome h ps r) ≡ []
amend_none h x ps (Ok s) = refl
amend_none h x ps (Err f) = refl

module _ (h : House) (m u : ℕ) where
  -- the box number plays no part in an enrolment
  same-enrolling : (n : ℕ) (prior : Option Text) (list : CutList) → enrolling (numbered h m) n prior list ≡ enrolling h n prior list
  unfolding lawful_sheets
  same-enrolling n None list = refl
  same-enrolling n (Some t) list = refl

  -- the calls, carried out by the fresh box, take it from one to the other
  abbrev Takes : List Bare → List Call → List Bare → Type 0
  Takes bs xs bs' = Goes (numbered h m) (full (numbered h m) u (map reset bs)) xs (full (numbered h m) u (map reset bs'))

  enrol-takes : (bs : List Bare) (prior : Option Text) (list : CutList) (r : Result Party BoxFault) → enrolling h (length bs) prior list ≡ r
      → Takes bs (carried_out (Enrol prior list) (enrol_outcome h (length bs) r)) (bare_enrol bs r)
  enrol-takes bs prior list (Err f) e = goes_none (numbered h m) (full (numbered h m) u (map reset bs))
  enrol-takes bs prior list (Ok p) e =
      let now : enrolling (numbered h m) (length (map reset bs)) prior list ≡ Ok p = rw (length-map bs reset) (same-enrolling (length bs) prior list ∙ e) in
      goes-cons (numbered h m) (rw (full-enrol (numbered h m) u (map reset bs) prior list, now))
      (next-full (numbered h m) u (map reset bs) (Enrol prior list)
      ∙ ap (λ (r : Result Party BoxFault). full (numbered h m) u (bare_enrol (map reset bs) r)) now
      ∙ ap (full (numbered h m) u) (sym (map_push reset bs (new_bare p))))
      (goes_none (numbered h m) (full (numbered h m) u (map reset (bs ++ new_bare p ∷ []))))

  none-takes : (bs bs' : List Bare) {xs : List Call} → xs ≡ [] → map reset bs' ≡ map reset bs → Takes bs xs bs'
  none-takes bs bs' e same = rw (e, same) (goes_none (numbered h m) (full (numbered h m) u (map reset bs)))

  call-takes : (s : ℕ) (bs : List Bare) (x : Call) → Takes bs (carried_out x (outcome h (full h s bs) x)) (bare_next h bs x)
  call-takes s bs (Enrol prior list) = rw (full-enrol h s bs prior list) (enrol-takes bs prior list (enrolling h (length bs) prior list) refl)
  call-takes s bs (Judge c t) = none-takes bs (bare_next h bs (Judge c t)) (judge_none h (Judge c t) c _ _) (reset_judge bs c t (bare_judging h c (at bs c) t))
  call-takes s bs (Read sl) = none-takes bs bs refl refl
  call-takes s bs (Enter sl) = none-takes bs (bare_next h bs (Enter sl)) (enter_none h (Enter sl) sl _) (reset_enter bs sl.party (bare_matching h sl (at bs sl.party)))
  call-takes s bs (Amend cs room) = none-takes bs bs (amend_none h (Amend cs room) (full h s bs).parties (amending h (full h s bs) cs room)) refl

  pub enrolments-take : (s : ℕ) (bs : List Bare) (xs : List Call) → Takes bs (enrolments h (full h s bs) xs) (bare_run h bs xs)
  enrolments-take s bs [] = none-takes bs bs refl refl
  enrolments-take s bs (x ∷ xs) =
      goes-append (numbered h m) (carried_out x (outcome h (full h s bs) x)) (call-takes s bs x)
      (rw (next-full h s bs x) (enrolments-take (sheet_next h s bs x) (bare_next h bs x) xs))
