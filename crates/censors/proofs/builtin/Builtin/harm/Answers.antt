use Rattle.std.proofs.Common.{◌&&◌, ap, ◌∙◌}
use Rattle.censors.specs.declared.table.Harm.{Harm}
use Rattle.censors.specs.Guarding.{spared}
use Rattle.censors.proofs.builtin.Builtin.harm.Goals as goal

pub returns-in-Lying-clause-spared : goal.returns-in-Lying-clause-spared
returns-in-Lying-clause-spared c = λ lying good. ap (λ (h : Harm). h.yes && h.no) c.of-in-Lying.ensures ∙ spared _ _ _ good
