use Rattle.std.proofs.Common.{◌≡◌, length, None}
use Rattle.sentences.specs.Cuts.{bad_pair, front_end}
use Rattle.sentences.specs.Search.{first}
use Rattle.sentences.proofs.cuts.CutList.first_bad_pair.Given as goal

abbrev pub invariant-loop-index : goal.invariant-loop-index
invariant-loop-index l = (first (bad_pair (length l.self.block.now) l.self.cuts.now) l.index ≡ None) × (l.front ≡ front_end l.self.cuts.now l.index)
