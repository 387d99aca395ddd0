use Rattle.std.proofs.Common.{ℕ, ◌%◌, ◌^◌, ◌<◌, false, eqb, sym, ap, ◌∙◌, arith, pow_mono, rules}
use native.Mathlib.Nat.{div-eq_of_lt}
use Rattle.sheets.specs.Sets.{bit, digits, set_of}
use Rattle.sheets.proofs.Laws.{set_of_ext}
use Rattle.sheets.proofs.Tables.{row_is}
use Rattle.sheets.proofs.SheetSet.fact.Goals as goal

-- a sheet has no digit from the ninth on
pub returns-then-index-ge8 : goal.returns-then-index-ge8
unfolding bit
returns-then-index-ge8 c =
    c.empty.ensures
    ∙ set_of_ext (λ _. false) (λ s. bit s c.args.index)
    (λ s h.
    let l : s < 2 ^ c.args.index = omega (arith, pow_mono c.if-index-ge8.true) in
    sym (ap (λ (x : ℕ). eqb (x % 2) 1) (div-eq_of_lt l)))

pub returns : goal.returns
unfolding bit digits set_of
returns c = row_is (λ i s. bit s i) 8 c.args.index (search rules)
