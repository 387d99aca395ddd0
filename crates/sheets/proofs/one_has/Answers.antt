use Rattle.std.proofs.Common.{◌≡◌, true, false, [], rules, tests}
use Rattle.std.proofs.lemmas.Iterator.{YieldsList-from_slice, cases_from_any}
use Rattle.sheets.specs.declared.SheetSet.{SheetSet}
use Rattle.sheets.specs.Sets.{mem}
use Rattle.sheets.proofs.Laws.{any_is}
use Rattle.sheets.proofs.one_has.Goals as goal

-- the default is never read
pub returns : goal.returns
returns c =
    let test : SheetSet → _ = λ x. mem x c.args.sheet in
    any_is test c.args.sets.now (record { words = [] }) c.any.result
    (cases_from_any _ _ _ (λ x. test x ≡ true) (λ x. test x ≡ false) c.any.ensures.ran (YieldsList-from_slice c.args.sets.now cc)
    (λ x q k. search (rules, tests)) (λ x q k. search (rules, tests)))
