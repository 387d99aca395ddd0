use Rattle.std.proofs.Common.{[], sym, rules}
use Rattle.sheets.proofs.Laws.{within_one_from, within_one_not}
use Rattle.sheets.proofs.SheetSet.within_one.Goals as goal

pub returns-then-within : goal.returns-then-within
returns-then-within c =
    sym (within_one_from c.args.self.now c.args.sets.now (record { words = [] }) c.loop-set.set-index (search rules) (search rules))

pub returns : goal.returns
returns c = sym (within_one_not c.args.self.now c.args.sets.now (record { words = [] }) (search rules))
