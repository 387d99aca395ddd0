use Rattle.std.proofs.Common.{rules, ◌≡◌, ℕ, ◌<◌, ◌≤◌, length, get_or}
use Rattle.report.proofs.Places.{first_other}
use Rattle.report.proofs.input.leading_blanks.Goals as goal

pub returns-clause-first : goal.returns-clause-first
returns-clause-first c =
    let within : c.unwrap_or.result ≤ length c.args.text.now = search rules in
    let before : (k : ℕ) → k < c.unwrap_or.result → get_or c.args.text.now k 0 ≡ 32 = search rules in
    let stops : c.unwrap_or.result < length c.args.text.now → get_or c.args.text.now c.unwrap_or.result 0 ≡ 32 → ⊥ = search rules in
    first_other c.args.text.now c.unwrap_or.result within before stops
