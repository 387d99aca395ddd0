use Rattle.std.proofs.Common.{◌≡◌, drop}
use Rattle.censors.specs.Replay.{final}
use Rattle.censors.proofs.replay.replay.Given as goal

abbrev pub invariant-loop-question : goal.invariant-loop-question
invariant-loop-question g l =
    final (g.C.Censor.decided l.censor) (g.C.Censor.after l.censor) l.secrets l.left (drop l.question-index l.questions) l.sheet
    ≡ final (g.C.Censor.decided l.censor) (g.C.Censor.after l.censor) l.secrets l.known l.questions l.sheet
