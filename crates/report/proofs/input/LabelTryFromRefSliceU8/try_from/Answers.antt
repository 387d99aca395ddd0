use Rattle.std.proofs.Common.{◌≡◌, ◌≢◌, sym, subst, rules, tests}
use Rattle.std.proofs.lemmas.Iterator.{YieldsList-from_slice, first_from_find}
use Rattle.std.proofs.lemmas.Iterator.Consumers.{YieldsList-from_copied}
use Rattle.report.specs.Labels.{label_name, NamedBy}
use Rattle.report.proofs.Labels.{four, named_by}
use Rattle.report.proofs.input.LabelTryFromRefSliceU8.try_from.Goals as goal

pub returns : goal.returns
returns c =
    let word = c.args.word.now in
    let found =
    first_from_find _ _ c.find.result (λ k. word ≡ label_name k) (λ k. word ≢ label_name k) c.find.ensures.ran
    (YieldsList-from_copied (YieldsList-from_slice four cc)) (λ x q k. search (rules, tests)) (λ x q k. search (rules, tests)) in
    subst (NamedBy word) (sym c.ok_or.ensures.value) (named_by word c.find.result (λ k p. p.0) found)
