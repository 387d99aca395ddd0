use Rattle.std.proofs.Common.{ℕ, List, IfOk, ◌≡◌, subst, refl, vec_items, rules, tests}
use Rattle.std.proofs.lemmas.Iterator.{YieldsList-from_range, items_from_collect}
use Rattle.std.proofs.lemmas.Iterator.Consumers.{YieldsList-from_filter}
use Rattle.sheets.specs.Sets.{mem}
use Rattle.sheets.proofs.Passings.{passing-filter}
use Rattle.sheets.proofs.SheetSet.members.Goals as goal

pub returns : goal.returns
returns c =
    let test = mem c.args.self.now in
    subst (λ (all : List ℕ). IfOk c.collect.result (λ sheets. vec_items sheets ≡ all)) (passing-filter test 256)
    (items_from_collect _ c.collect.ensures.ran
    (YieldsList-from_filter _ test (YieldsList-from_range 0 256 256 c.filter.ensures.source refl) c.filter.ensures.closure (λ x b q k. search (rules, tests))))
