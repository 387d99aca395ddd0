-- Runs of a box with one counterparty: what is done, what each call is to answer, and the record that is to be left.
use Rattle.std.specs.Prelude.{◌≡◌, ℕ, ◌+◌, List, [], ◌∷◌, ◌++◌, map, length, Some, None, Ok, Err, Option, Result}
use Rattle.std.specs.Borrow.{Bor}
use Rattle.sheets.specs.declared.SheetSet.{SheetSet}
use Rattle.sentences.specs.declared.cuts.Cut.{Cut}
use Rattle.sentences.specs.declared.cuts.CutList.{CutList}
use Rattle.sentences.specs.Names.{Word}
use Rattle.censors.specs.declared.builtin.Builtin.{Builtin}
use Rattle.censors.specs.declared.question.Reply.{Reply}
use Rattle.censors.specs.Kinds.{good_of, table_of}
use Rattle.censors.specs.Tables.{decided_by, entered}
use Rattle.histories.specs.declared.data.Change.{Change}
use Rattle.histories.specs.declared.data.Note.{Note}
use Rattle.histories.specs.declared.refusals.BoxRefusal.{BoxRefusal}
use Rattle.histories.specs.Calls.{Text, House, Party, State, Slip, Call, Enrol, Judge, Enter, Amend, Outcome, Enrolled, Judged, Replied, Amended, at, opening, outcomes, run}
use Rattle.histories.specs.Refusals.{refusal_of}

-- what is done, with what comes of it
pub data Step : Type 0 where
  -- counterparty 0 enrols, with this prior and these secrets
  enrols : Option Text → List Text → Step
  -- the enrolment is refused under this number
  refuses : Option Text → List Text → ℕ → Step
  -- counterparty 0 asks: the question is judged and entered, and this is the reply
  asks : Text → Reply → Step
  -- facts get new values, and these notes are written
  amends : List Change → List Note → Step

-- a box of the censor is opened on the sheet, and after the steps these sheets are the record of counterparty 0, if there is one
pub data Run : Type 0 where
  opens : Builtin → ℕ → List Step → Option (List ℕ) → Run

-- a box of the censor with these names, the number 0 and no house rules
abbrev pub house : List Word → Builtin → House
house ns k = record {
  good = good_of k;
  decided = decided_by (good_of k) (table_of k);
  after = λ r xs q a. entered r q a;
  number = 0;
  names = ns;
  rules = [];
}

-- the texts as a cut list: a block of all, and a pair for each
abbrev pub joined : List Text → Text
joined [] = []
joined (t ∷ ts) = t ++ joined ts

abbrev pub cuts_from : ℕ → List Text → List Cut
cuts_from i [] = []
cuts_from i (t ∷ ts) = record { offset = i; len = length t } ∷ cuts_from (i + length t) ts

-- a reference to the value: where it points plays no part
abbrev pub lent : {A : Type 0} → A → Bor A
lent x = record { ref_ptr = (0, 0); now = x }

abbrev pub cut_list : List Text → CutList
cut_list ts = record { block = lent (joined ts); cuts = lent (cuts_from 0 ts) }

abbrev pub slip_at : ℕ → Slip
slip_at place = record { number = 0; party = 0; place = place }

-- the calls of the steps, where the next question has the place k
abbrev pub calls_of : ℕ → List Step → List Call
calls_of k [] = []
calls_of k (enrols prior secrets ∷ ss) = Enrol prior (cut_list secrets) ∷ calls_of k ss
calls_of k (refuses prior secrets n ∷ ss) = Enrol prior (cut_list secrets) ∷ calls_of k ss
calls_of k (asks t a ∷ ss) = Judge 0 t ∷ Enter (slip_at k) ∷ calls_of (k + 1) ss
calls_of k (amends cs ns ∷ ss) = Amend cs 512 ∷ calls_of k ss

-- what the calls are to answer, or the numbers that they are to be refused under
abbrev pub answers_of : ℕ → List Step → List (Result Outcome ℕ)
answers_of k [] = []
answers_of k (enrols prior secrets ∷ ss) = Ok (Enrolled 0) ∷ answers_of k ss
answers_of k (refuses prior secrets n ∷ ss) = Err n ∷ answers_of k ss
answers_of k (asks t a ∷ ss) = Ok (Judged (slip_at k)) ∷ Ok (Replied a) ∷ answers_of (k + 1) ss
answers_of k (amends cs ns ∷ ss) = Ok (Amended ns) ∷ answers_of k ss

abbrev pub unless_refused : Option BoxRefusal → Outcome → Result Outcome ℕ
unless_refused (Some x) o = Err x.number
unless_refused None o = Ok o

abbrev pub answer : Outcome → Result Outcome ℕ
answer o = unless_refused (refusal_of o) o

abbrev pub known_to : Option Party → Option SheetSet
known_to (Some p) = Some p.known
known_to None = None

-- exactly this comes out, where the record of counterparty 0 is to be `left`
pub record ComesOut (h : House) (sheet : ℕ) (steps : List Step) (left : Option SheetSet) : Type 0 where
  pub opened : State
  pub opens_so : opening h sheet ≡ Ok opened
  pub answers_so : map answer (outcomes h opened (calls_of 0 steps)) ≡ answers_of 0 steps
  pub leaves_so : known_to (at (run h opened (calls_of 0 steps)).parties 0) ≡ left
