use Rattle.std.proofs.Common.{◌≡◌, sym, ◌∙◌, arith, rules}
use Rattle.std.proofs.lemmas.Result.{err_from_is_err_and}
use Rattle.sentences.specs.declared.faults.ListFault.TheVariants.{Sentence}
use Rattle.sentences.proofs.MapErr.{ok_before, err_before}
use Rattle.sentences.proofs.Pieces.{passed, failed, sound}
use Rattle.sentences.proofs.SentenceLists.{gathered-none, gathered-more, gathered-bad, gathered-all, list-fault}
use Rattle.sentences.proofs.lists.parse.parse_list.Goals as goal

pub returns-in_err-test : goal.returns-in_err-test
returns-in_err-test c =
    let p = err_from_is_err_and c.from_residual.result c.from_residual.ensures.1 in
    rw (p.1, p.2) (sym (list-fault _ _ _ _ (failed _ _ c.in_err-test.ensures)))

pub loop-index-init : goal.loop-index-init
loop-index-init c = rw c.new-sets.ensures (gathered-none _ _)

pub piece-text-requires : goal.piece-text-requires
piece-text-requires c =
    (sound c.args.list.now _ _ (passed _ c.in_ok-test.ensures)).inside _ c.loop-index-test.true

pub returns-in_err-meaning : goal.returns-in_err-meaning
returns-in_err-meaning c =
    let p = err_from_is_err_and c.from_residual-in_err-meaning.result c.from_residual-in_err-meaning.ensures.1 in
    let q = err_before _ c.parse.result c.map_err.ensures.cases c.in_err-meaning.was in
    let fault : c.in_err-meaning.field-0.0 ≡ Sentence c.loop-index.index-counter q.0 = search rules in
    rw (p.1, p.2, fault)
    (sym (gathered-bad _ _ c.loop-index.invariant c.loop-index-test.true _ c.piece-text.ensures _ _ _ (passed _ c.in_ok-test.ensures) (sym q.1 ∙ c.parse.ensures.is)))

pub loop-index-preserved : goal.loop-index-preserved
loop-index-preserved c =
    rw c.push.ensures
    (gathered-more _ _ c.loop-index.invariant c.loop-index-test.true _ c.piece-text.ensures c.in_ok-meaning.meaning
    (omega (arith, (sound c.args.list.now _ _ (passed _ c.in_ok-test.ensures)).few)) (sym (ok_before _ c.parse.result c.map_err.ensures.cases c.in_ok-meaning.was) ∙ c.parse.ensures.is))

pub returns : goal.returns
returns c = sym (gathered-all _ _ _ _ c.loop-index.invariant (omega arith) (passed _ c.in_ok-test.ensures))
