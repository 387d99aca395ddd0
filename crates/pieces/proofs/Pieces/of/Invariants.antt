use Rattle.std.proofs.Common.{vec_items, map, take}
use Rattle.pieces.proofs.Gathered.{Gathered}
use Rattle.pieces.proofs.Pieces.of.Given as goal

abbrev pub invariant-loop-text : goal.invariant-loop-text
invariant-loop-text l = Gathered (vec_items l.pieces.block) (vec_items l.pieces.cuts) l.pieces.left_out (map (λ text. text.now) (take l.text-index l.texts))
