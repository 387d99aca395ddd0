-- What is promised of every history of a box: no secret is given away, and no reply is out of date.
use Rattle.std.specs.Prelude.{◌≡◌, ℕ, ◌+◌, ◌<◌, Bool, true, false, cond, List, [], ◌∷◌, ◌++◌, map, length, Some, None, Ok, Option, ◌==◌, slice_index_or}
use Rattle.sheets.specs.declared.SheetSet.{SheetSet}
use Rattle.sheets.specs.Sets.{mem}
use Rattle.sentences.specs.Names.{Word}
use Rattle.sentences.specs.declared.cuts.CutList.{CutList}
use Rattle.sentences.specs.declared.faults.ListKind.TheVariants as kind
use Rattle.sentences.specs.Lists.{read_list}
use Rattle.censors.specs.declared.question.Decision.{Decision}
use Rattle.censors.specs.declared.question.Question.{Question}
use Rattle.censors.specs.declared.question.Reply.{Reply}
use Rattle.censors.specs.declared.question.Value.{Value}
use Rattle.censors.specs.Laws.{no_sheet}
use Rattle.histories.specs.Calls.{Text, House, Party, State, Call, Enrol, Judge, Read, Enter, Amend, Outcome, Refused, Enrolled, Judged, Shown, Replied, Unmatched, Amended, at, opening, start_from, outcome, next, run, outcomes, sheets_of, shows}

-- P of each of the list
abbrev pub Each : {A : Type 0} → (A → Type 0) → List A → Type 0
Each P [] = Unit {0}
Each P (x ∷ xs) = P x × Each P xs

-- a call without the facts and values that it amends
abbrev pub blank : Call → Call
blank (Enrol prior list) = Enrol prior list
blank (Judge c t) = Judge c t
blank (Read sl) = Read sl
blank (Enter sl) = Enter sl
blank (Amend cs room) = Amend [] room

-- Another history that counterparty c cannot tell from this one: another opening sheet, and other amendments in the same places, show c exactly the same at every call; and every sheet of it, from the opening on, lies in r and makes the secret x untrue.
pub record Another (h : House) (st : State) (calls : List Call) (c : ℕ) (r x : SheetSet) : Type 0 where
  pub sheet : ℕ
  pub opened : State
  pub opens : opening h sheet ≡ Ok opened
  pub others : List Call
  pub same_calls : map blank others ≡ map blank calls
  pub same_shown : shows h c opened others ≡ shows h c st calls
  pub untrue : Each (λ s. (mem r s ≡ true) × (mem x s ≡ false)) (sheets_of h opened others)

-- No secret is given away.
abbrev pub Hidden : House → State → List Call → Type 0
Hidden h st calls =
    (c : ℕ) (p : Party) → at (run h st calls).parties c ≡ Some p → (k : ℕ) → k < length p.secrets
    → Another h st calls c p.start (slice_index_or p.secrets k no_sheet)

-- the enrolments that were carried out, in their order
abbrev pub carried_out : Call → Outcome → List Call
carried_out x (Refused f) = []
carried_out x (Enrolled c) = x ∷ []
carried_out x (Judged sl) = []
carried_out x (Shown sl) = []
carried_out x (Replied a) = []
carried_out x (Unmatched sl) = []
carried_out x (Amended ns) = []

abbrev pub enrolments : House → State → List Call → List Call
enrolments h st [] = []
enrolments h st (x ∷ xs) = carried_out x (outcome h st x) ++ enrolments h (next h st x) xs

-- the text that judge accepted from counterparty c last
abbrev pub accepted : ℕ → Option Text → Call → Outcome → Option Text
accepted c last (Enrol prior list) o = last
accepted c last (Judge d t) (Refused f) = last
accepted c last (Judge d t) (Enrolled n) = last
accepted c last (Judge d t) (Judged sl) = cond (c == d) (Some t) last
accepted c last (Judge d t) (Shown sl) = last
accepted c last (Judge d t) (Replied a) = last
accepted c last (Judge d t) (Unmatched sl) = last
accepted c last (Judge d t) (Amended ns) = last
accepted c last (Read sl) o = last
accepted c last (Enter sl) o = last
accepted c last (Amend cs room) o = last

abbrev pub list_of : Option Text → List Text
list_of (Some t) = t ∷ []
list_of None = []

-- a matching entry for counterparty c enters it
abbrev pub entered_now : ℕ → Option Text → Call → Outcome → List Text
entered_now c last (Enrol prior list) o = []
entered_now c last (Judge d t) o = []
entered_now c last (Read sl) o = []
entered_now c last (Enter sl) (Refused f) = []
entered_now c last (Enter sl) (Enrolled n) = []
entered_now c last (Enter sl) (Judged sl') = []
entered_now c last (Enter sl) (Shown sl') = []
entered_now c last (Enter sl) (Replied a) = cond (c == sl.party) (list_of last) []
entered_now c last (Enter sl) (Unmatched sl') = []
entered_now c last (Enter sl) (Amended ns) = []
entered_now c last (Amend cs room) o = []

-- the questions that counterparty c entered, as texts, by the calls and what they answered
abbrev pub entered_texts : House → ℕ → Option Text → State → List Call → List Text
entered_texts h c last st [] = []
entered_texts h c last st (x ∷ xs) = entered_now c last x (outcome h st x) ++ entered_texts h c (accepted c last x (outcome h st x)) (next h st x) xs

-- the texts judged and entered one by one, the first at place k
abbrev pub asking : ℕ → ℕ → ℕ → List Text → List Call
asking m c k [] = []
asking m c k (t ∷ ts) = Judge c t ∷ Enter (record { number = m; party = c; place = k }) ∷ asking m c (k + 1) ts

-- the call was carried out
abbrev pub granted : Outcome → Bool
granted (Refused f) = false
granted (Enrolled c) = true
granted (Judged sl) = true
granted (Shown sl) = true
granted (Replied a) = true
granted (Unmatched sl) = false
granted (Amended ns) = true

-- the same house under another box number
abbrev pub numbered : House → ℕ → House
numbered h m = record { good = h.good; decided = h.decided; after = h.after; number = m; names = h.names; rules = h.rules }

-- A box opened alike, under any number, on the sheet s carries out all the calls, and counterparty c then has the replies and the record that p has.
pub record Fresh (h : House) (s : ℕ) (calls : List Call) (c : ℕ) (p : Party) : Type 0 where
  pub opened : State
  pub opens : opening h s ≡ Ok opened
  pub carried : Each (λ o. granted o ≡ true) (outcomes h opened calls)
  pub party : Party
  pub there : at (run h opened calls).parties c ≡ Some party
  pub same_log : party.log ≡ p.log
  pub same_record : party.known ≡ p.known

-- No reply is out of date: a counterparty has what a box opened alike on the present sheet gives, after the enrolments carried out, with this counterparty's entered questions in order and nothing else.
abbrev pub Current : House → State → List Call → Type 0
Current h st calls =
    (c : ℕ) (p : Party) → at (run h st calls).parties c ≡ Some p → (m : ℕ)
    → Fresh (numbered h m) (run h st calls).sheet (enrolments h st calls ++ asking m c 0 (entered_texts h c None st calls)) c p

-- Of a box opened with this censor, whatever its number, its names, its house rules and the sheet, and of every history of it.
abbrev pub Promise : (SheetSet → List SheetSet → Bool) → (SheetSet → List SheetSet → Question → Value → Decision) → (SheetSet → List SheetSet → Question → Reply → SheetSet) → Type 0
Promise good decided after =
    (number : ℕ) (names : List Word) (rules : List SheetSet)
    → let h : House = record { good = good; decided = decided; after = after; number = number; names = names; rules = rules } in
    (s : ℕ) (st : State) → opening h s ≡ Ok st → (calls : List Call) → Hidden h st calls × Current h st calls

-- ---- the same in the words of the calls, of each counterparty that an enrolment made

-- The call at place i enrolled counterparty c, with this prior and these secrets: it was carried out, and answered c.
abbrev pub Enrols : House → State → List Call → ℕ → Option Text → CutList → ℕ → Type 0
Enrols h st calls i prior list c = (at calls i ≡ Some (Enrol prior list)) × (at (outcomes h st calls) i ≡ Some (Enrolled c))

-- What counterparty c starts from and what is kept from it, as its enrolment reads: the record that the prior gives, and the secrets that the list says. For each of the secrets there is another history.
pub record SecretsKept (h : House) (st : State) (calls : List Call) (c : ℕ) (prior : Option Text) (list : CutList) : Type 0 where
  pub start : SheetSet
  pub starts : start_from h prior ≡ Ok start
  pub secrets : List SheetSet
  pub says : read_list h.names kind.Secrets 1 list ≡ Ok secrets
  pub another : (k : ℕ) → k < length secrets → Another h st calls c start (slice_index_or secrets k no_sheet)

-- No secret is given away: of each enrolment that was carried out.
abbrev pub AllSecretsKept : House → State → List Call → Type 0
AllSecretsKept h st calls = (i : ℕ) (prior : Option Text) (list : CutList) (c : ℕ) → Enrols h st calls i prior list c → SecretsKept h st calls c prior list

-- Counterparty c, whose enrolment was the c-th that was carried out, has what a box opened alike on the present sheet gives, after the enrolments carried out, with this counterparty's entered questions in order and nothing else.
pub record UpToDate (h : House) (st : State) (calls : List Call) (c : ℕ) (prior : Option Text) (list : CutList) : Type 0 where
  pub order : at (enrolments h st calls) c ≡ Some (Enrol prior list)
  pub party : Party
  pub there : at (run h st calls).parties c ≡ Some party
  pub same : (m : ℕ) → Fresh (numbered h m) (run h st calls).sheet (enrolments h st calls ++ asking m c 0 (entered_texts h c None st calls)) c party

-- No reply is out of date: of each enrolment that was carried out.
abbrev pub AllUpToDate : House → State → List Call → Type 0
AllUpToDate h st calls = (i : ℕ) (prior : Option Text) (list : CutList) (c : ℕ) → Enrols h st calls i prior list c → UpToDate h st calls c prior list

-- One of the calls enrolled counterparty c.
pub record WasEnrolled (h : House) (st : State) (calls : List Call) (c : ℕ) : Type 0 where
  pub place : ℕ
  pub prior : Option Text
  pub list : CutList
  pub enrols : Enrols h st calls place prior list c

-- Nobody is left out of this: whomever the box holds was enrolled.
abbrev pub AllEnrolled : House → State → List Call → Type 0
AllEnrolled h st calls = (c : ℕ) (p : Party) → at (run h st calls).parties c ≡ Some p → WasEnrolled h st calls c
