use Rattle.std.proofs.Common.{◌≡◌, ℕ, length, get_or, None, sym, refl, ap, ◌∙◌, subst, add-one, arith}
use Rattle.sentences.specs.Cuts.{no_cut, misplaced, bad_pair, front_end, first_bad_pair}
use Rattle.sentences.specs.Search.{first}
use Rattle.sentences.proofs.Searches.{first_none, first_more, first_found}
use Rattle.sentences.proofs.cuts.CutList.first_bad_pair.Goals as goal

pub loop-index-init : goal.loop-index-init
loop-index-init c = (first_none _, refl)

pub returns-then-is_misplaced : goal.returns-then-is_misplaced
unfolding bad_pair first_bad_pair
returns-then-is_misplaced c =
    let here = ap (λ (n : ℕ). misplaced n (length c.args.self.now.block.now) (get_or c.args.self.now.cuts.now c.loop-index.index no_cut)) (sym c.loop-index.invariant.1) in
    sym (first_found _ _ c.loop-index.index c.loop-index.invariant.0 (here ∙ sym c.if-is_misplaced.ensures) c.loop-index-test.true)

pub loop-index-preserved : goal.loop-index-preserved
unfolding bad_pair
loop-index-preserved c =
    let here = ap (λ (n : ℕ). misplaced n (length c.args.self.now.block.now) (get_or c.args.self.now.cuts.now c.loop-index.index no_cut)) (sym c.loop-index.invariant.1) in (
      first_more _ c.loop-index.index c.loop-index.invariant.0 (here ∙ sym c.if-is_misplaced.ensures),
      c.end-front.ensures ∙ ap (front_end c.args.self.now.cuts.now) (sym (add-one c.loop-index.index)),
    )

pub returns : goal.returns
unfolding first_bad_pair
returns c =
    sym (subst (λ (n : ℕ). first (bad_pair (length c.args.self.now.block.now) c.args.self.now.cuts.now) n ≡ None)
    (omega arith) c.loop-index.invariant.0)
