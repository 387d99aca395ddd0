use Rattle.std.proofs.Common.{◌≡◌, ℕ, Bool, true, false, not, ◌||◌, refl, rules, tests}
use Rattle.std.proofs.lemmas.Iterator.{YieldsList-from_range, cases_from_all}
use Rattle.sheets.specs.Sets.{mem, within}
use Rattle.sheets.proofs.Laws.{every_is}
use Rattle.sheets.proofs.SheetSet.within.Goals as goal

pub returns : goal.returns
unfolding within
returns c =
    let test : ℕ → Bool = λ s. not (mem c.args.self.now s) || mem c.args.other.now s in
    every_is test 256 c.all.result
    (cases_from_all _ _ _ (λ s. test s ≡ true) (λ s. test s ≡ false) c.all.ensures.ran (YieldsList-from_range 0 256 256 refl refl)
    (λ x q k. search (rules, tests)) (λ x q k. search (rules, tests)))
