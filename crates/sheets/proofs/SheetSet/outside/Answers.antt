use Rattle.std.proofs.Common.{◌-◌, ◌^◌, not, arith, rules, tests}
use Rattle.sheets.specs.Sets.{outside}
use Rattle.sheets.proofs.Digits.{bit_not}
use Rattle.sheets.proofs.Words.{word_by_word}
use Rattle.sheets.proofs.SheetSet.outside.Goals as goal

-- an operation on one word is one on two that leaves the second aside
pub returns : goal.returns
unfolding outside
returns c =
    word_by_word (λ x _. (2 ^ 64 - 1) - x) (λ x _. not x) (λ x y _ _. omega arith) (λ x _ k h _ l. bit_not 64 x k h l)
    c.args.self.now c.args.self.now (search rules) (search rules)
    _ (λ q w f' k. search (rules, tests)) c.from_fn.result c.from_fn.ensures.items
