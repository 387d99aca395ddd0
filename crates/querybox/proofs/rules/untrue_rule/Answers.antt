use Rattle.std.proofs.Common.{◌≡◌, true, false, not, rules}
use borrow.Author.Tests.{tests}
use Rattle.std.proofs.lemmas.Iterator.{YieldsList-from_slice, IsFirst-from_position}
use Rattle.sheets.specs.declared.SheetSet.{SheetSet}
use Rattle.sheets.specs.Sets.{mem}
use Rattle.sentences.specs.Lists.{sets_of}
use Rattle.censors.specs.Laws.{no_sheet}
use Rattle.querybox.proofs.FirstIndex.{position_first}
use Rattle.querybox.proofs.rules.untrue_rule.Goals as goal

pub returns : goal.returns
returns c =
    let s = c.args.sheet in
    position_first (λ (x : SheetSet). not (mem x s)) no_sheet (sets_of c.args.rules.now) c.position.result
    (IsFirst-from_position _ _ _ (λ x. not (mem x s) ≡ true) (λ x. not (mem x s) ≡ false) c.position.ensures.ran (YieldsList-from_slice (sets_of c.args.rules.now) (cc))
    (λ x q k. search (rules, tests)) (λ x q k. search (rules, tests)))
