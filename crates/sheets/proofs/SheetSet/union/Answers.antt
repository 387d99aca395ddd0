use Rattle.std.proofs.Common.{◌||◌, rules, tests}
use lib.Bits.{bit_or, or_lt}
use Rattle.sheets.specs.Sets.{union}
use Rattle.sheets.proofs.Digits.{bit-or}
use Rattle.sheets.proofs.Words.{word_by_word}
use Rattle.sheets.proofs.SheetSet.union.Goals as goal

pub returns : goal.returns
unfolding union
returns c =
    word_by_word bit_or ◌||◌ (or_lt 64) (λ x y k _ _ _. bit-or x y k) c.args.self.now c.args.other.now (search rules) (search rules)
    _ (λ q w f' k. search (rules, tests)) c.from_fn.result c.from_fn.ensures.items
