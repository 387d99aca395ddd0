use Rattle.std.proofs.Common.{◌≡◌, Bool, not, sym, ap, ◌∙◌}
use mathlib.Core.Bool.{false≢true}
use Rattle.sheets.specs.declared.SheetSet.{SheetSet}
use Rattle.sheets.specs.Sets.{mem, minus, every, within}
use Rattle.sheets.proofs.Laws.{minus_empty, same_within, within_same}
use Rattle.sheets.proofs.SheetSet.same.Goals as goal

-- an empty difference, as the code finds it
inside : (a b d : SheetSet) (r : Bool) → d ≡ minus a b → r ≡ every (λ s. not (mem d s)) 256 → r ≡ within a b
inside a b d r e f = f ∙ ap (λ (x : SheetSet). every (λ s. not (mem x s)) 256) e ∙ minus_empty a b

pub returns-then-is_empty : goal.returns-then-is_empty
returns-then-is_empty c =
    let there = inside _ _ _ _ c.minus.ensures c.is_empty.ensures in
    let back = inside _ _ _ _ c.minus-then-is_empty.ensures c.is_empty-then-is_empty.ensures in (
      λ e. same_within _ _ (sym there ∙ c.if-is_empty.true) (sym back ∙ e),
      λ m. back ∙ within_same _ _ (λ s h. sym (m s h)),
    )

pub returns-else-is_empty : goal.returns-else-is_empty
returns-else-is_empty c =
    let there = inside _ _ _ _ c.minus.ensures c.is_empty.ensures in
    (λ e. absurd (false≢true (sym c.if-is_empty.false ∙ e)), λ m. there ∙ within_same _ _ m)
