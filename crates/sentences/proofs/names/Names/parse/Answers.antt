use Rattle.std.proofs.Common.{sym, ap, ◌∙◌, arith}
use Rattle.std.proofs.lemmas.Result.{err_from_is_err_and}
use Rattle.sentences.specs.declared.faults.ListKind.TheVariants as kind
use Rattle.sentences.specs.Names.{words_of, unfit}
use Rattle.sentences.proofs.NameLists.{collected-none, collected-more, collected-bad, collected-all, collected-proper, collected-some, naming-fault}
use Rattle.sentences.proofs.Pieces.{passed, failed, sound}
use Rattle.sentences.proofs.names.Names.parse.Goals as goal

pub returns-in_err-test : goal.returns-in_err-test
returns-in_err-test c =
    let p = err_from_is_err_and c.from_residual.result c.from_residual.ensures.1 in
    rw (p.1, p.2) (sym (naming-fault _ (failed _ _ c.in_err-test.ensures)))

pub loop-index-init : goal.loop-index-init
loop-index-init c = rw c.new-names.ensures (collected-none _)

pub piece-word-requires : goal.piece-word-requires
piece-word-requires c =
    (sound c.args.list.now kind.Names 1 (passed _ c.in_ok-test.ensures)).inside _ c.loop-index-test.true

pub returns-then-is_unfit : goal.returns-then-is_unfit
returns-then-is_unfit c =
    let bad = ap (λ xs. unfit (words_of xs) c.piece-word.result.now) (sym c.as_slice.ensures) ∙ sym c.if-is_unfit.ensures in
    sym (collected-bad _ c.loop-index.invariant c.loop-index-test.true _ c.piece-word.ensures (passed _ c.in_ok-test.ensures) bad)

pub loop-index-preserved : goal.loop-index-preserved
loop-index-preserved c =
    let good = ap (λ xs. unfit (words_of xs) c.piece-word.result.now) (sym c.as_slice.ensures) ∙ sym c.if-is_unfit.ensures in
    rw c.push.ensures
    (collected-more _ c.loop-index.invariant c.loop-index-test.true _ c.piece-word.ensures _
    (omega (arith, (sound c.args.list.now kind.Names 1 (passed _ c.in_ok-test.ensures)).few)) good c.of-in-loop-index.ensures)

pub invariant_of-result : goal.invariant_of-result
invariant_of-result c =
    let s = sound c.args.list.now kind.Names 1 (passed _ c.in_ok-test.ensures) in
    record {
      some = collected-some _ c.loop-index.invariant (omega arith) s.enough;
      proper = collected-proper _ c.loop-index.invariant (omega arith);
    }

pub returns : goal.returns
returns c = sym (collected-all _ c.loop-index.invariant (omega arith) (passed _ c.in_ok-test.ensures))
