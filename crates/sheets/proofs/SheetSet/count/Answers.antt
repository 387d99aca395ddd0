use Rattle.std.proofs.Common.{arith, rules}
use Rattle.sheets.proofs.Words.{count-words}
use Rattle.sheets.proofs.SheetSet.count.Goals as goal

pub returns : goal.returns
returns c = omega (arith, count-words c.args.self.now (search rules))
