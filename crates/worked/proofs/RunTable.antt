-- One computed test over the whole table of runs, and what it says of each row.
use Rattle.std.proofs.Common.{◌≡◌, ℕ, List, [], ◌∷◌, map, Ok, Err, Option, Result, refl, arith}
use Rattle.sheets.specs.declared.SheetSet.{SheetSet}
use Rattle.sheets.specs.Sets.{bit, mem, digits, set_of, meet, union, outside, every, any, within, within_one, within_union}
use Rattle.sentences.specs.Cuts.{bad_pair, first_bad_pair, pieces, pairs_fault}
use Rattle.sentences.specs.Lists.{read_from, read_list}
use Rattle.sentences.specs.Machine.{parse, tokens_in, reading}
use Rattle.sentences.specs.Names.{fact_of}
use Rattle.sentences.specs.Scanning.{scan, scan_at}
use Rattle.sentences.specs.Search.{first}
use Rattle.sentences.specs.Tokens.{class_of}
use Rattle.censors.specs.Questions.{value_in, with_value}
use Rattle.censors.specs.Tables.{entry}
use Rattle.histories.specs.declared.data.BoxFault.{BoxFault}
use Rattle.histories.specs.Calls.{House, State, Outcome, opening, outcomes, run, at, bad_change, new_sheet, lawful_sheets}
use Rattle.worked.specs.Runs.{Step, Run, opens, house, calls_of, answers_of, answer, known_to, ComesOut}
use Rattle.worked.specs.RunTable.{sheets_if, RunHolds, RunsHold, RowsHold, run_rows}
use Rattle.worked.specs.Worked.{names}

-- what comes out of a run: the answers, and the record that is left
data Played : Type 0 where
  not_opened : Played
  played : List (Result Outcome ℕ) → Option SheetSet → Played

abbrev played_from : House → List Step → Result State BoxFault → Played
played_from h ss (Ok st) = played (map answer (outcomes h st (calls_of 0 ss))) (known_to (at (run h st (calls_of 0 ss)).parties 0))
played_from h ss (Err f) = not_opened

abbrev computed_run : Run → Played
computed_run (opens k s ss left) = played_from (house names k) ss (opening (house names k) s)

abbrev expected_run : Run → Played
expected_run (opens k s ss left) = played (answers_of 0 ss) (sheets_if left)

-- the test
tested : map (map computed_run) run_rows ≡ map (map expected_run) run_rows
unfolding reading parse tokens_in scan scan_at first fact_of class_of set_of digits mem bit meet union outside every any within within_one within_union bad_pair first_bad_pair pieces pairs_fault read_from read_list value_in with_value entry bad_change new_sheet lawful_sheets
tested = refl

-- from what comes out of a run to what a row of runs says
out_at : (h : House) (s : ℕ) (ss : List Step) (left : Option SheetSet) (o : Result State BoxFault)
    → opening h s ≡ o → played_from h ss o ≡ played (answers_of 0 ss) left → ComesOut h s ss left
out_at h s ss left (Ok st) at-opening e = record { opened = st; opens_so = at-opening; answers_so = cc; leaves_so = cc }
out_at h s ss left (Err f) at-opening e = let z : ◌≡◌ {A = ℕ} 0 1 = cc in absurd (omega arith)

run_holds : (x : Run) → computed_run x ≡ expected_run x → RunHolds x
run_holds (opens k s ss left) = out_at (house names k) s ss (sheets_if left) (opening (house names k) s) refl

runs_hold : (xs : List Run) → map computed_run xs ≡ map expected_run xs → RunsHold xs
runs_hold [] e = tt
runs_hold (x ∷ xs) e = (run_holds x (cc), runs_hold xs (cc))

rows_hold : (rs : List (List Run)) → map (map computed_run) rs ≡ map (map expected_run) rs → RowsHold rs
rows_hold [] e = tt
rows_hold (r ∷ rs) e = (runs_hold r (cc), rows_hold rs (cc))

pub worked_runs : RowsHold run_rows
worked_runs = rows_hold run_rows tested
