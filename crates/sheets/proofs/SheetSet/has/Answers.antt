use Rattle.std.proofs.Common.{ℕ, ◌/◌, ◌%◌, ◌≤◌, eqb, length, sym, ap, ◌∙◌, rules}
use lib.Bits.{and_mask}
use Rattle.std.proofs.lemmas.List.{get_or_past}
use Rattle.sheets.specs.Sets.{bit, mem}
use Rattle.sheets.proofs.Digits.{bit_none}
use Rattle.sheets.proofs.SheetSet.has.Goals as goal

-- past the last word `get_or` gives 0, which has no digits
pub returns-then-sheet-ge256 : goal.returns-then-sheet-ge256
unfolding mem
returns-then-sheet-ge256 c =
    let past : length c.args.self.now.words ≤ c.args.sheet / 64 = search rules in
    sym (ap (λ (w : ℕ). bit w (c.args.sheet % 64)) (get_or_past c.args.self.now.words (c.args.sheet / 64) 0 past) ∙ bit_none (c.args.sheet % 64))

pub returns : goal.returns
unfolding bit mem
returns c = ap (λ (x : ℕ). eqb x 1) (and_mask _ 1)
