use Rattle.std.proofs.Common.{rules, eqb, ◌∙◌}
use borrow.Author.Tests.{tests}
use Rattle.std.proofs.lemmas.Iterator.{YieldsList-from_slice, YieldsList-from_take}
use Rattle.std.proofs.lemmas.Iterator.Search.{any_from_yields_List}
use Rattle.histories.specs.declared.data.Change.{Change}
use Rattle.querybox.proofs.ListedFacts.{listed_any}
use Rattle.querybox.proofs.changes.is_listed_before.Goals as goal

pub returns : goal.returns
returns c =
    any_from_yields_List (λ (x : Change). eqb c.args.fact x.fact) _ _ _ c.any.ensures.ran
    (YieldsList-from_take c.args.end (YieldsList-from_slice c.args.changes.now (cc)) (cc)) (λ x b q k. search (rules, tests))
    ∙ listed_any c.args.fact c.args.changes.now c.args.end c.requires
