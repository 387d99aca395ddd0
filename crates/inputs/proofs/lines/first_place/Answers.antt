use Rattle.std.proofs.Common.{rules, ◌≡◌, ℕ, ◌<◌, ◌≤◌, length, get_or}
use Rattle.inputs.proofs.Places.{first_place}
use Rattle.inputs.proofs.lines.first_place.Goals as goal

pub returns-clause-first : goal.returns-clause-first
returns-clause-first c =
    let within : c.unwrap_or.result ≤ length c.args.text.now = search rules in
    let before : (k : ℕ) → k < c.unwrap_or.result → get_or c.args.text.now k 0 ≡ c.args.byte → ⊥ = search rules in
    let found : c.unwrap_or.result < length c.args.text.now → get_or c.args.text.now c.unwrap_or.result 0 ≡ c.args.byte = search rules in
    first_place c.args.byte c.args.text.now c.unwrap_or.result within before found
