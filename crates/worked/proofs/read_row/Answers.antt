use Rattle.std.proofs.Common.{◌≡◌, List, Some, None, Result, ap, ◌∙◌, rules}
use Rattle.sentences.specs.declared.faults.SentenceFault.{SentenceFault}
use Rattle.sentences.specs.declared.reading.Meaning.{Meaning}
use Rattle.sentences.specs.Machine.{reading}
use Rattle.sentences.specs.Names.{Word}
use Rattle.worked.specs.Worked.{rows, seen, seen_at}
use Rattle.worked.proofs.RunTable.{worked_runs}
use Rattle.worked.proofs.Table.{worked, row_read, no_row}
use Rattle.worked.proofs.read_row.Goals as goal

pub returns-clause-as_listed : goal.returns-clause-as_listed
returns-clause-as_listed c =
    ap (λ (x : Result Meaning SentenceFault). Some (seen x)) (c.parse.ensures.is ∙ ap (λ (ws : List Word). reading ws c.in_ok-text.text.now) c.names.ensures)
    ∙ row_read c.args.row _ c.in_ok-text.ensures

pub returns-clause-by_rule : goal.returns-clause-by_rule
returns-clause-by_rule c = worked

pub returns-clause-runs_by_rule : goal.returns-clause-runs_by_rule
returns-clause-runs_by_rule c = worked_runs

pub returns-in_err-text-clause-as_listed : goal.returns-in_err-text-clause-as_listed
returns-in_err-text-clause-as_listed c =
    let none : c.from_residual.result ≡ None = search rules in
    ap seen_at none ∙ no_row rows c.args.row c.in_err-text.ensures

pub returns-in_err-text-clause-by_rule : goal.returns-in_err-text-clause-by_rule
returns-in_err-text-clause-by_rule c = worked

pub returns-in_err-text-clause-runs_by_rule : goal.returns-in_err-text-clause-runs_by_rule
returns-in_err-text-clause-runs_by_rule c = worked_runs
