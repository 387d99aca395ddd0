use Rattle.std.proofs.Common.{ℕ, eqb, ap, ◌∙◌}
use Rattle.sheets.specs.Sets.{mem}
use Rattle.sheets.proofs.Laws.{count_none}
use Rattle.sheets.proofs.SheetSet.is_empty.Goals as goal

pub returns : goal.returns
returns c = ap (λ (n : ℕ). eqb n 0) c.count.ensures ∙ count_none (mem c.args.self.now) 256
