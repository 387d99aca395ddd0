use Rattle.std.proofs.Common.{◌-◌, ◌^◌, not, ◌&&◌, lt_of_le_of_lt, rules, tests}
use lib.Bits.{bit_and, and_le_l}
use Rattle.sheets.specs.Sets.{minus}
use Rattle.sheets.proofs.Digits.{bit-minus}
use Rattle.sheets.proofs.Words.{word_by_word}
use Rattle.sheets.proofs.SheetSet.minus.Goals as goal

pub returns : goal.returns
unfolding minus
returns c =
    word_by_word (λ x y. bit_and x ((2 ^ 64 - 1) - y)) (λ x y. x && not y)
    (λ x y h _. lt_of_le_of_lt (and_le_l x ((2 ^ 64 - 1) - y)) h) (λ x y k _ h l. bit-minus 64 x y k h l)
    c.args.self.now c.args.other.now (search rules) (search rules)
    _ (λ q w f' k. search (rules, tests)) c.from_fn.result c.from_fn.ensures.items
