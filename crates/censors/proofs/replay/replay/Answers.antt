use Rattle.std.proofs.Common.{sym, ◌∙◌}
use Rattle.std.proofs.lemmas.List.{at_drop_all}
use Rattle.censors.specs.Replay.{final}
use Rattle.censors.proofs.Replays.{hides, replay_more}
use Rattle.censors.proofs.replay.replay.Goals as goal

pub loop-question-preserved : goal.loop-question-preserved
loop-question-preserved g c =
    replay_more (g.C.Censor.decided c.args.censor.now) (g.C.Censor.after c.args.censor.now) c.args.secrets.now c.loop-question.left _ c.args.questions.now c.loop-question.question-index _ _ _ _ c.loop-question-test.true
    c.value_in.ensures c.decide-decision.ensures c.record_after-left.ensures
    ∙ c.loop-question.invariant

pub returns : goal.returns
returns g c = record {
  is =
      sym (at_drop_all (λ zs. final (g.C.Censor.decided c.args.censor.now) (g.C.Censor.after c.args.censor.now) c.args.secrets.now c.loop-question.left zs c.args.sheet) _ _ c.loop-question-test.false)
      ∙ c.loop-question.invariant;
  hides = hides (g.met.C.Censor.keeps c.args.censor.now);
}
