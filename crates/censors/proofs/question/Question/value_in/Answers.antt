use Rattle.std.proofs.Common.{rules}
use Rattle.censors.specs.Questions.{value_in}
use Rattle.censors.proofs.question.Question.value_in.Goals as goal

pub returns-then-has : goal.returns-then-has
unfolding value_in
returns-then-has c = search rules

pub returns-else-has : goal.returns-else-has
unfolding value_in
returns-else-has c = search rules
