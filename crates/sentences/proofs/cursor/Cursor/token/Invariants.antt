use Rattle.std.proofs.Common.{◌≡◌, ◌+◌}
use Rattle.sentences.specs.Scanning.{scan_at}
use Rattle.sentences.proofs.cursor.Cursor.token.Given as goal

abbrev pub invariant-loop-skipped : goal.invariant-loop-skipped
invariant-loop-skipped l = scan_at l.self.text.now l.self.at ≡ scan_at l.self.text.now (l.self.at + l.skipped)
