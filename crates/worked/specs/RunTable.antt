-- Worked examples of runs of a box, with the names full, late and sold: a second small table, each row of which follows from the rules.
use Rattle.std.specs.Prelude.{ℕ, false, List, [], ◌∷◌, ◌++◌, Some, None, codes, Option}
use Rattle.sheets.specs.declared.SheetSet.{SheetSet}
use Rattle.censors.specs.declared.builtin.Builtin.TheVariants.{Refusing, Lying, Combined}
use Rattle.censors.specs.declared.question.Reply.{Reply}
use Rattle.censors.specs.declared.question.Reply.TheVariants.{Said, Mum}
use Rattle.censors.specs.declared.question.Value.TheVariants.{Yes, No}
use Rattle.histories.specs.declared.data.Change.{Change}
use Rattle.histories.specs.declared.data.Note.{Note}
use Rattle.histories.specs.Calls.{Text}
use Rattle.worked.specs.Runs.{Step, enrols, refuses, asks, amends, Run, opens, house, ComesOut}
use Rattle.worked.specs.Worked.{names, sheets}

abbrev pub sheets_if : Option (List ℕ) → Option SheetSet
sheets_if (Some xs) = Some (sheets xs)
sheets_if None = None

abbrev pub RunHolds : Run → Type 0
RunHolds (opens censor sheet steps left) = ComesOut (house names censor) sheet steps (sheets_if left)

abbrev pub RunsHold : List Run → Type 0
RunsHold [] = Unit {0}
RunsHold (x ∷ xs) = RunHolds x × RunsHold xs

-- each of the rows holds, and a row is a list of runs
abbrev pub RowsHold : List (List Run) → Type 0
RowsHold [] = Unit {0}
RowsHold (r ∷ rs) = RunsHold r × RowsHold rs

-- the words of the runs
abbrev pub yes : Reply
yes = Said Yes

abbrev pub no : Reply
no = Said No

abbrev pub mum : Reply
mum = Mum

abbrev pub full : Text
full = codes "full"

abbrev pub late : Text
late = codes "late"

abbrev pub sold : Text
sold = codes "sold"

abbrev pub one_secret : List Text
one_secret = codes "full & late" ∷ []

abbrev pub two_secrets : List Text
two_secrets = codes "full & late" ∷ codes "full & !late" ∷ []

abbrev pub untrue : ℕ → Change
untrue fact = record { fact = fact; value = false }

abbrev pub note : ℕ → Reply → Note
note place reply = record { counterparty = 0; place = place; reply = reply }

abbrev pub four_asked : List Step
four_asked = enrols None one_secret ∷ asks full yes ∷ asks late mum ∷ asks sold no ∷ asks full mum ∷ []

abbrev pub run_rows : List (List Run)
run_rows =
    -- the sheet 1, in which the secret is untrue, brings the same as the sheet 3
    (
    opens Refusing 3 four_asked (Some (1 ∷ 3 ∷ []))
    ∷ opens Refusing 1 four_asked (Some (1 ∷ 3 ∷ []))
    ∷ [])
    ∷ (opens Lying 3 (enrols None one_secret ∷ asks full yes ∷ asks late no ∷ []) (Some (1 ∷ 5 ∷ [])) ∷ [])
    ∷ (opens Refusing 3 (four_asked ++ (amends (untrue 0 ∷ []) (note 0 no ∷ note 1 yes ∷ []) ∷ [])) (Some (2 ∷ [])) ∷ [])
    ∷ (opens Combined 3 (enrols None two_secrets ∷ asks full yes ∷ asks late mum ∷ []) (Some (1 ∷ 3 ∷ 5 ∷ 7 ∷ [])) ∷ [])
    ∷ (opens Lying 3 (enrols None two_secrets ∷ asks full no ∷ []) (Some (0 ∷ 2 ∷ 4 ∷ 6 ∷ [])) ∷ [])
    ∷ (
    opens Combined 3 (enrols (Some full) two_secrets ∷ []) (Some (1 ∷ 3 ∷ 5 ∷ 7 ∷ []))
    ∷ opens Lying 3 (refuses (Some full) two_secrets 11 ∷ []) None
    ∷ [])
    ∷ []
