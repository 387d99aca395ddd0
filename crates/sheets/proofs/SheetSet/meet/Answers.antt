use Rattle.std.proofs.Common.{◌&&◌, rules, tests}
use lib.Bits.{bit_and, and_lt}
use Rattle.sheets.specs.Sets.{meet}
use Rattle.sheets.proofs.Digits.{bit-and}
use Rattle.sheets.proofs.Words.{word_by_word}
use Rattle.sheets.proofs.SheetSet.meet.Goals as goal

pub returns : goal.returns
unfolding meet
returns c =
    word_by_word bit_and ◌&&◌ (and_lt 64) (λ x y k _ _ _. bit-and x y k) c.args.self.now c.args.other.now (search rules) (search rules)
    _ (λ q w f' k. search (rules, tests)) c.from_fn.result c.from_fn.ensures.items
