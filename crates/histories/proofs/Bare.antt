-- A box without sheet and replies: what each counterparty has asked, as texts. With a sheet it determines all else that the box holds.
use Rattle.std.proofs.Common.{◌≡◌, ℕ, ◌+◌, cond, ◌&&◌, eqb, ltb, leb, List, [], ◌∷◌, ◌++◌, map, length, Some, None, Ok, Err, Option, Result}
use Rattle.std.specs.Prelude.{is_some, option_map}
use Rattle.sheets.specs.declared.SheetSet.{SheetSet}
use Rattle.sentences.specs.Machine.{reading}
use Rattle.sentences.specs.Search.{first}
use Rattle.censors.specs.declared.question.Question.{Question}
use Rattle.censors.specs.Laws.{no_sheet}
use Rattle.censors.specs.Questions.{question_of, value_in}
use Rattle.censors.specs.Replay.{final}
use Rattle.histories.specs.declared.data.AmendFault.TheVariants as amendment
use Rattle.histories.specs.declared.data.BoxFault.{BoxFault}
use Rattle.histories.specs.declared.data.BoxFault.TheVariants as fault
use Rattle.histories.specs.declared.data.Change.{Change}
use Rattle.histories.specs.declared.data.Entry.{Entry}
use Rattle.histories.specs.declared.data.Pending.{Pending}
use Rattle.histories.specs.Calls.{Text, House, Party, State, Slip, Call, Enrol, Judge, Read, Enter, Amend, at, change, and_then, check, check_index, as_sentence, bad_change, new_sheet, untrue_rule, enrolling}
use Rattle.histories.proofs.Lookups.{ok_or}
use Rattle.histories.proofs.Replaying.{logged}

-- the record and the secrets on enrolment, the texts entered, and the text that the slip is out for
pub record Bare : Type 0 where
  pub start : SheetSet
  pub secrets : List SheetSet
  pub past : List Text
  pub out : Option Text

abbrev pub new_bare : Party → Bare
new_bare p = record { start = p.start; secrets = p.secrets; past = []; out = None }

abbrev pub bare_asked : Text → Bare → Bare
bare_asked t b = record { start = b.start; secrets = b.secrets; past = b.past; out = Some t }

abbrev pub bare_entered : Text → Bare → Bare
bare_entered t b = record { start = b.start; secrets = b.secrets; past = b.past ++ t ∷ []; out = None }

abbrev pub bare_slip_out : ℕ → List Bare → Option ℕ
bare_slip_out c [] = None
bare_slip_out c (b ∷ bs) = cond (is_some b.out) (Some c) (bare_slip_out (c + 1) bs)

abbrev pub bare_place : Option Bare → ℕ
bare_place None = 0
bare_place (Some b) = length b.past

-- what each call leaves, by what its checks found
abbrev pub bare_enrol : List Bare → Result Party BoxFault → List Bare
bare_enrol bs (Ok p) = bs ++ new_bare p ∷ []
bare_enrol bs (Err f) = bs

abbrev pub bare_judge : List Bare → ℕ → Text → Result Question BoxFault → List Bare
bare_judge bs c t (Ok q) = change (bare_asked t) bs c
bare_judge bs c t (Err f) = bs

abbrev pub bare_enter : List Bare → ℕ → Option Text → List Bare
bare_enter bs c (Some t) = change (bare_entered t) bs c
bare_enter bs c None = bs

module _ (h : House) where
  -- the question that a text is read as
  abbrev pub read_question : Text → Result Question BoxFault
  read_question t = and_then (as_sentence fault.Question (reading h.names t)) (λ x. Ok (question_of x))

  abbrev pub as_question : Text → Question
  as_question t = ok_or (question_of no_sheet) (read_question t)

  abbrev pub Reads : Text → Type 0
  Reads t = read_question t ≡ Ok (as_question t)

  abbrev pub bare_judging : ℕ → Option Bare → Text → Result Question BoxFault
  bare_judging c None t = Err (fault.NoCounterparty c)
  bare_judging c (Some b) t = check (is_some b.out) (fault.SlipOut c) (check (leb 64 (length b.past)) fault.LogFull (read_question t))

  abbrev pub bare_matching : Slip → Option Bare → Option Text
  bare_matching sl None = None
  bare_matching sl (Some b) = cond (eqb sl.number h.number && eqb sl.place (length b.past)) b.out None

  -- the checks of an amendment after those of the slips
  abbrev pub amending_on : ℕ → List Change → ℕ → Result ℕ BoxFault
  amending_on s cs room =
      check (ltb room 512) fault.ShortNotes
      (check_index (first (bad_change (length h.names) cs) (length cs)) (λ i. fault.Amendment (amendment.Fact i))
      (check_index (untrue_rule h (new_sheet (length h.names) s cs)) (λ i. fault.Amendment (amendment.HouseRule i))
      (Ok (new_sheet (length h.names) s cs))))

  -- what a call leaves of what was asked: the sheet plays no part
  abbrev pub bare_next : List Bare → Call → List Bare
  bare_next bs (Enrol prior list) = bare_enrol bs (enrolling h (length bs) prior list)
  bare_next bs (Judge c t) = bare_judge bs c t (bare_judging c (at bs c) t)
  bare_next bs (Read sl) = bs
  bare_next bs (Enter sl) = bare_enter bs sl.party (bare_matching sl (at bs sl.party))
  bare_next bs (Amend cs room) = bs

  -- the sheet that a call leaves
  abbrev pub sheet_next : ℕ → List Bare → Call → ℕ
  sheet_next s bs (Enrol prior list) = s
  sheet_next s bs (Judge c t) = s
  sheet_next s bs (Read sl) = s
  sheet_next s bs (Enter sl) = s
  sheet_next s bs (Amend cs room) = ok_or s (check_index (bare_slip_out 0 bs) fault.SlipOut (amending_on s cs room))

  abbrev pub bare_run : List Bare → List Call → List Bare
  bare_run bs [] = bs
  bare_run bs (x ∷ xs) = bare_run (bare_next bs x) xs

  abbrev pub sheet_run : ℕ → List Bare → List Call → ℕ
  sheet_run s bs [] = s
  sheet_run s bs (x ∷ xs) = sheet_run (sheet_next s bs x) (bare_next bs x) xs

  -- the log and the record that a sheet makes of what was asked
  abbrev pub log_on : ℕ → Bare → List Entry
  log_on s b = logged h.decided h.after b.secrets b.start (map as_question b.past) s

  abbrev pub left_on : ℕ → Bare → SheetSet
  left_on s b = final h.decided h.after b.secrets b.start (map as_question b.past) s

  abbrev pub pending_on : ℕ → Bare → Text → Pending
  pending_on s b t = record { question = as_question t; decision = h.decided (left_on s b) b.secrets (as_question t) (value_in (as_question t) s) }

  abbrev pub fill : ℕ → Bare → Party
  fill s b = record { start = b.start; secrets = b.secrets; log = log_on s b; known = left_on s b; pending = option_map (pending_on s b) b.out }

  abbrev pub full : ℕ → List Bare → State
  full s bs = record { sheet = s; parties = map (fill s) bs }
