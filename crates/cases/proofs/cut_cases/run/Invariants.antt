use Rattle.std.proofs.Common.{◌≡◌, ◌+◌, ◌*◌, ◌-◌, ◌^◌, ◌<◌, ◌≤◌, min}
use Rattle.cases.proofs.cut_cases.run.Given as goal

abbrev pub invariant-loop-case : goal.invariant-loop-case
invariant-loop-case l = record {
  none : l.case-index ≡ 0 → l.checks.tally.cases ≡ l.initial.checks.tally.cases;
  cases : 0 < l.case-index → l.checks.tally.cases ≡ min (l.initial.checks.tally.cases + 2 * l.case-index) (2 ^ 64 - 1);
  wrong : l.initial.checks.tally.wrong ≤ l.checks.tally.wrong;
}
