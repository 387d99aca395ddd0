use Rattle.std.proofs.Common.{List, ℕ, Bor}
use Rattle.pieces.proofs.Gathered.{gathered_more}
use Rattle.pieces.proofs.Held.{texts_more}
use Rattle.pieces.proofs.Pieces.of.Goals as goal

pub loop-text-preserved : goal.loop-text-preserved
loop-text-preserved c =
    let w : List ℕ = c.as_bytes.result.now in
    let more = texts_more (λ (p : Bor (List ℕ)). p.now) c.args.texts.now c.loop-text.text-index _ w c.loop-text-test.true c.as_bytes.ensures.value in
    rw (more, c.in_ok-add.ensures.block, c.in_ok-add.ensures.cuts, c.in_ok-add.ensures.left) (gathered_more c.loop-text.pieces.block.items c.loop-text.pieces.cuts.items c.loop-text.pieces.left_out _ w c.loop-text.invariant)
