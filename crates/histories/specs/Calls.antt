-- A box: what it holds, what each call answers and leaves, and what a counterparty is shown.
use Rattle.std.specs.Prelude.{ℕ, zero, suc, ◌+◌, ◌^◌, Bool, true, false, cond, not, ◌&&◌, ◌||◌, List, [], ◌∷◌, ◌++◌, map, length, get_or, slice_get, Some, None, Ok, Err, Option, Result, ◌==◌, nat_le, nat_lt, slice_index_or}
pub use Rattle.std.specs.Prelude.{is_some}
use Rattle.sheets.specs.declared.SheetSet.{SheetSet}
use Rattle.sheets.specs.Sets.{bit, mem, digits, set_of, meet}
use Rattle.sentences.specs.declared.cuts.CutList.{CutList}
use Rattle.sentences.specs.declared.faults.ListFault.{ListFault}
use Rattle.sentences.specs.declared.faults.ListKind.TheVariants as kind
use Rattle.sentences.specs.declared.faults.SentenceFault.{SentenceFault}
use Rattle.sentences.specs.declared.reading.Meaning.{Meaning}
use Rattle.sentences.specs.Lists.{read_list}
use Rattle.sentences.specs.Machine.{reading}
use Rattle.sentences.specs.Names.{Word}
use Rattle.sentences.specs.Search.{first}
use Rattle.censors.specs.declared.question.Decision.{Decision}
use Rattle.censors.specs.declared.question.Question.{Question}
use Rattle.censors.specs.declared.question.Reply.{Reply}
use Rattle.censors.specs.declared.question.Reply.TheVariants.{Said, Mum}
use Rattle.censors.specs.declared.question.Value.{Value}
use Rattle.censors.specs.Laws.{no_sheet}
use Rattle.censors.specs.Questions.{question_of, value_in, same_value}
use Rattle.histories.specs.declared.data.AmendFault.TheVariants as amendment
use Rattle.histories.specs.declared.data.BoxFault.{BoxFault}
use Rattle.histories.specs.declared.data.BoxFault.TheVariants as fault
use Rattle.histories.specs.declared.data.Change.{Change}
use Rattle.histories.specs.declared.data.Entry.{Entry}
use Rattle.histories.specs.declared.data.Note.{Note}
use Rattle.histories.specs.declared.data.Pending.{Pending}

abbrev pub Text : Type 0
Text = List ℕ

-- what a box is opened with, but for the sheet: the censor's three functions, the box number, the names and the sets of the house rules
pub record House : Type 0 where
  pub good : SheetSet → List SheetSet → Bool
  pub decided : SheetSet → List SheetSet → Question → Value → Decision
  pub after : SheetSet → List SheetSet → Question → Reply → SheetSet
  pub number : ℕ
  pub names : List Word
  pub rules : List SheetSet

-- a counterparty: the record that it started from, its secrets' sets, its log, its record, and the question that its slip is out for
pub record Party : Type 0 where
  pub start : SheetSet
  pub secrets : List SheetSet
  pub log : List Entry
  pub known : SheetSet
  pub pending : Option Pending

pub record State : Type 0 where
  pub sheet : ℕ
  pub parties : List Party

pub record Slip : Type 0 where
  pub number : ℕ
  pub party : ℕ
  pub place : ℕ

pub data Call : Type 0 where
  -- a prior, which may be absent, and the secrets
  Enrol : Option Text → CutList → Call
  Judge : ℕ → Text → Call
  Read : Slip → Call
  Enter : Slip → Call
  -- the facts with their new values, and the length of the list for notes
  Amend : List Change → ℕ → Call

pub data Outcome : Type 0 where
  Refused : BoxFault → Outcome
  Enrolled : ℕ → Outcome
  Judged : Slip → Outcome
  Shown : Slip → Outcome
  Replied : Reply → Outcome
  -- the slip does not match, and is handed back
  Unmatched : Slip → Outcome
  Amended : List Note → Outcome

-- the element at a place
abbrev pub at : {A : Type 0} → List A → ℕ → Option A
at xs c = slice_get xs c

-- the list with f put to the element at a place
abbrev pub change : {A : Type 0} → (A → A) → List A → ℕ → List A
change f [] c = []
change f (x ∷ xs) zero = f x ∷ xs
change f (x ∷ xs) (suc c) = x ∷ change f xs c

-- go on with what was found, or hand a fault on
abbrev pub and_then : {A B : Type 0} → Result A BoxFault → (A → Result B BoxFault) → Result B BoxFault
and_then (Ok a) go = go a
and_then (Err f) go = Err f

-- checks in order: where the condition holds, its fault comes before what follows
abbrev pub check : {A : Type 0} → Bool → BoxFault → Result A BoxFault → Result A BoxFault
check true f next = Err f
check false f next = next

abbrev pub check_index : {A : Type 0} → Option ℕ → (ℕ → BoxFault) → Result A BoxFault → Result A BoxFault
check_index (Some i) f next = Err (f i)
check_index None f next = next

-- a fault of a sentence or of a list, carried into the box's
abbrev pub as_sentence : (SentenceFault → BoxFault) → Result Meaning SentenceFault → Result SheetSet BoxFault
as_sentence f (Ok m) = Ok m.sheets
as_sentence f (Err e) = Err (f e)

abbrev pub as_list : (ListFault → BoxFault) → Result (List SheetSet) ListFault → Result (List SheetSet) BoxFault
as_list f (Ok xs) = Ok xs
as_list f (Err e) = Err (f e)

abbrev pub all_have : List SheetSet → ℕ → Bool
all_have [] s = true
all_have (x ∷ xs) s = mem x s && all_have xs s

abbrev pub differs : Reply → Reply → Bool
differs (Said v) (Said w) = not (same_value v w)
differs (Said v) Mum = true
differs Mum (Said w) = true
differs Mum Mum = false

-- the notes on one counterparty's replies, old against new, from a place on
abbrev pub changed : ℕ → ℕ → List Entry → List Entry → List Note
changed c i [] new = []
changed c i (e ∷ old) [] = []
changed c i (e ∷ old) (e' ∷ new) =
    cond (differs e.reply e'.reply) (record { counterparty = c; place = i; reply = e'.reply } ∷ changed c (i + 1) old new) (changed c (i + 1) old new)

-- the notes on all, by counterparty, then place
abbrev pub notes : ℕ → List Party → List Party → List Note
notes c [] new = []
notes c (p ∷ old) [] = []
notes c (p ∷ old) (p' ∷ new) = changed c 0 p.log p'.log ++ notes (c + 1) old new

-- the lowest counterparty whose slip is out
abbrev pub slip_out : ℕ → List Party → Option ℕ
slip_out c [] = None
slip_out c (p ∷ ps) = cond (is_some p.pending) (Some c) (slip_out (c + 1) ps)

-- a change of a fact that is none of the n, or was listed before
abbrev pub listed_before : ℕ → List Change → ℕ → Bool
listed_before f cs zero = false
listed_before f cs (suc i) = listed_before f cs i || f == (get_or cs i (record { fact = 0; value = false })).fact

unfoldable pub bad_change : ℕ → List Change → ℕ → Bool
bad_change n cs i = let f : ℕ = (get_or cs i (record { fact = 0; value = false })).fact in nat_le n f || listed_before f cs i

-- the value of a fact after the changes
abbrev pub new_value : List Change → ℕ → Bool → Bool
new_value [] k old = old
new_value (c ∷ cs) k old = cond (k == c.fact) c.value (new_value cs k old)

-- the sheet of n facts that differs from s in the listed facts only
unfoldable pub new_sheet : ℕ → ℕ → List Change → ℕ
new_sheet n s cs = digits (λ k. new_value cs k (bit s k)) n

-- the index of the first rule that is untrue in the sheet
abbrev pub first_untrue : List SheetSet → ℕ → Option ℕ
first_untrue xs s = first (λ i. not (mem (slice_index_or xs i no_sheet) s)) (length xs)

-- the sheets of n facts that keep all rules
abbrev pub keeping : ℕ → List SheetSet → SheetSet
keeping n xs = set_of (λ s. nat_lt s (2 ^ n) && all_have xs s)

module _ (h : House) where
  abbrev pub untrue_rule : ℕ → Option ℕ
  untrue_rule = first_untrue h.rules

  -- opening on a sheet: it has to be a sheet of the box, and to keep the house rules
  abbrev pub opening : ℕ → Result State BoxFault
  opening s = check (nat_le (2 ^ length h.names) s) (fault.Sheet s) (check_index (untrue_rule s) fault.HouseRule (Ok (record { sheet = s; parties = [] })))

  -- the sheets of the box that keep all house rules
  unfoldable pub lawful_sheets : SheetSet
  lawful_sheets = keeping (length h.names) h.rules

  -- the record that a counterparty starts from: the sheets that make all house rules and the prior true
  abbrev pub start_from : Option Text → Result SheetSet BoxFault
  start_from None = Ok lawful_sheets
  start_from (Some t) = and_then (as_sentence fault.Prior (reading h.names t)) (λ x. Ok (meet lawful_sheets x))

  abbrev pub newcomer : SheetSet → List SheetSet → Party
  newcomer r xs = record { start = r; secrets = xs; log = []; known = r; pending = None }

  -- the newcomer, where n are enrolled already; the sheet plays no part
  abbrev pub enrolling : ℕ → Option Text → CutList → Result Party BoxFault
  enrolling n prior list =
      check (nat_le 8 n) fault.Full
      (and_then (start_from prior) (λ r.
      and_then (as_list fault.Secrets (read_list h.names kind.Secrets 1 list)) (λ xs.
      check (not (h.good r xs)) fault.NotGood (Ok (newcomer r xs)))))

  -- the question that is judged for the counterparty c
  abbrev pub judging : ℕ → Option Party → Text → Result Question BoxFault
  judging c None t = Err (fault.NoCounterparty c)
  judging c (Some p) t =
      check (is_some p.pending) (fault.SlipOut c)
      (check (nat_le 64 (length p.log)) fault.LogFull
      (and_then (as_sentence fault.Question (reading h.names t)) (λ x. Ok (question_of x))))

  -- the place that the next question has
  abbrev pub next_place : Option Party → ℕ
  next_place None = 0
  next_place (Some p) = length p.log

  -- the question kept for the slip, if the slip matches
  abbrev pub matching : Slip → Option Party → Option Pending
  matching sl None = None
  matching sl (Some p) = cond (sl.number == h.number && sl.place == length p.log) p.pending None

  -- the sheet after an amendment
  abbrev pub amending : State → List Change → ℕ → Result ℕ BoxFault
  amending st cs room =
      check_index (slip_out 0 st.parties) fault.SlipOut
      (check (nat_lt room 512) fault.ShortNotes
      (check_index (first (bad_change (length h.names) cs) (length cs)) (λ i. fault.Amendment (amendment.Fact i))
      (check_index (untrue_rule (new_sheet (length h.names) st.sheet cs)) (λ i. fault.Amendment (amendment.HouseRule i))
      (Ok (new_sheet (length h.names) st.sheet cs)))))

  -- controlled query evaluation of the questions in their order, from a record on, where s is the true sheet: the log, and the record that is left
  abbrev pub evaluated : SheetSet → List SheetSet → List Question → ℕ → List Entry
  evaluated r xs [] s = []
  evaluated r xs (q ∷ qs) s =
      let a : Reply = (h.decided r xs q (value_in q s)).reply in
      record { question = q; reply = a } ∷ evaluated (h.after r xs q a) xs qs s

  abbrev pub remaining : SheetSet → List SheetSet → List Question → ℕ → SheetSet
  remaining r xs [] s = r
  remaining r xs (q ∷ qs) s = remaining (h.after r xs q (h.decided r xs q (value_in q s)).reply) xs qs s

  abbrev pub questions : Party → List Question
  questions p = map (λ e. e.question) p.log

  -- the question is kept with the decision on it; record and log do not move
  abbrev pub asked : ℕ → Question → Party → Party
  asked s q p = record {
    start = p.start;
    secrets = p.secrets;
    log = p.log;
    known = p.known;
    pending = Some (record { question = q; decision = h.decided p.known p.secrets q (value_in q s) });
  }

  -- question and reply go into the log, and the record is the censor's new one
  abbrev pub entered : Pending → Party → Party
  entered e p = record {
    start = p.start;
    secrets = p.secrets;
    log = p.log ++ (record { question = e.question; reply = e.decision.reply } ∷ []);
    known = h.after p.known p.secrets e.question e.decision.reply;
    pending = None;
  }

  -- all entered questions are judged again, in their order, from the start
  abbrev pub renewed : ℕ → Party → Party
  renewed s p = record {
    start = p.start;
    secrets = p.secrets;
    log = evaluated p.start p.secrets (questions p) s;
    known = remaining p.start p.secrets (questions p) s;
    pending = p.pending;
  }

  -- what each call answers
  abbrev pub enrol_outcome : ℕ → Result Party BoxFault → Outcome
  enrol_outcome n (Ok p) = Enrolled n
  enrol_outcome n (Err f) = Refused f

  abbrev pub judge_outcome : ℕ → ℕ → Result Question BoxFault → Outcome
  judge_outcome c k (Ok q) = Judged (record { number = h.number; party = c; place = k })
  judge_outcome c k (Err f) = Refused f

  abbrev pub enter_outcome : Slip → Option Pending → Outcome
  enter_outcome sl (Some e) = Replied e.decision.reply
  enter_outcome sl None = Unmatched sl

  abbrev pub amend_outcome : List Party → Result ℕ BoxFault → Outcome
  amend_outcome ps (Ok s) = Amended (notes 0 ps (map (renewed s) ps))
  amend_outcome ps (Err f) = Refused f

  abbrev pub outcome : State → Call → Outcome
  outcome st (Enrol prior list) = enrol_outcome (length st.parties) (enrolling (length st.parties) prior list)
  outcome st (Judge c t) = judge_outcome c (next_place (at st.parties c)) (judging c (at st.parties c) t)
  outcome st (Read sl) = Shown sl
  outcome st (Enter sl) = enter_outcome sl (matching sl (at st.parties sl.party))
  outcome st (Amend cs room) = amend_outcome st.parties (amending st cs room)

  -- what each call leaves
  abbrev pub with_parties : State → List Party → State
  with_parties st ps = record { sheet = st.sheet; parties = ps }

  abbrev pub after_enrol : State → Result Party BoxFault → State
  after_enrol st (Ok p) = with_parties st (st.parties ++ (p ∷ []))
  after_enrol st (Err f) = st

  abbrev pub after_judge : State → ℕ → Result Question BoxFault → State
  after_judge st c (Ok q) = with_parties st (change (asked st.sheet q) st.parties c)
  after_judge st c (Err f) = st

  abbrev pub after_enter : State → ℕ → Option Pending → State
  after_enter st c (Some e) = with_parties st (change (entered e) st.parties c)
  after_enter st c None = st

  abbrev pub after_amend : State → Result ℕ BoxFault → State
  after_amend st (Ok s) = record { sheet = s; parties = map (renewed s) st.parties }
  after_amend st (Err f) = st

  abbrev pub next : State → Call → State
  next st (Enrol prior list) = after_enrol st (enrolling (length st.parties) prior list)
  next st (Judge c t) = after_judge st c (judging c (at st.parties c) t)
  next st (Read sl) = st
  next st (Enter sl) = after_enter st sl.party (matching sl (at st.parties sl.party))
  next st (Amend cs room) = after_amend st (amending st cs room)

  -- each call on what the one before left
  abbrev pub run : State → List Call → State
  run st [] = st
  run st (x ∷ xs) = run (next st x) xs

  abbrev pub outcomes : State → List Call → List Outcome
  outcomes st [] = []
  outcomes st (x ∷ xs) = outcome st x ∷ outcomes (next st x) xs

  -- the sheets of a history, from the opening on
  abbrev pub sheets_of : State → List Call → List ℕ
  sheets_of st [] = st.sheet ∷ []
  sheets_of st (x ∷ xs) = st.sheet ∷ sheets_of (next st x) xs

-- the notes for one counterparty
abbrev pub notes_for : ℕ → List Note → List Note
notes_for c [] = []
notes_for c (n ∷ ns) = cond (c == n.counterparty) (n ∷ notes_for c ns) (notes_for c ns)

abbrev pub noted : Outcome → List Note
noted (Refused f) = []
noted (Enrolled c) = []
noted (Judged sl) = []
noted (Shown sl) = []
noted (Replied a) = []
noted (Unmatched sl) = []
noted (Amended ns) = ns

-- what counterparty c is shown at a call: what an enrolment answers, what its own questions and slips answer, and its own notes; an amendment that is turned down looks like one without a note for c
abbrev pub shown : ℕ → Call → Outcome → Option Outcome
shown c (Enrol prior list) o = Some o
shown c (Judge d t) o = cond (c == d) (Some o) None
shown c (Read sl) o = None
shown c (Enter sl) o = cond (c == sl.party) (Some o) None
shown c (Amend cs room) o = Some (Amended (notes_for c (noted o)))

abbrev pub shows : House → ℕ → State → List Call → List (Option Outcome)
shows h c st [] = []
shows h c st (x ∷ xs) = shown c x (outcome h st x) ∷ shows h c (next h st x) xs
