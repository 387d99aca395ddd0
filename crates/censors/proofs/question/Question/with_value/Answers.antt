use Rattle.std.proofs.Common.{sym, ap, rules}
use Rattle.censors.specs.Parts.{with-yes, with-no}
use Rattle.censors.specs.Questions.{with_value}
use Rattle.censors.proofs.question.Question.with_value.Goals as goal

-- the facts alone: what the code calls is found by the search
pub returns-in-Yes : goal.returns-in-Yes
returns-in-Yes c =
    let of_yes = with-yes c.args.known.now c.args.self.now in
    let same = ap (with_value c.args.known.now c.args.self.now) (sym c.in-Yes.is) in
    search rules

pub returns-in-No : goal.returns-in-No
returns-in-No c =
    let of_no = with-no c.args.known.now c.args.self.now in
    let same = ap (with_value c.args.known.now c.args.self.now) (sym c.in-No.is) in
    search rules
