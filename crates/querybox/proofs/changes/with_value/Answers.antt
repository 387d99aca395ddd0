use Rattle.std.proofs.Common.{ℕ, ◌-◌, Bool, cond, eqb, sym, ap, ◌∙◌}
use lib.Bits.{bit_and, bit_or}
use Rattle.std.proofs.lemmas.Nat.{one_shl}
use Rattle.sheets.specs.Sets.{bit}
use Rattle.sheets.proofs.Digits.{bit-set, bit_cleared}
use Rattle.querybox.proofs.changes.with_value.Goals as goal

pub returns-then-value : goal.returns-then-value
returns-then-value c k l =
    ap (λ (p : ℕ). bit (bit_or c.args.sheet p) k) (one_shl c.args.fact 16 c.requires)
    ∙ bit-set c.args.sheet c.args.fact k
    ∙ ap (λ (v : Bool). cond (eqb k c.args.fact) v (bit c.args.sheet k)) (sym c.if-value.true)

pub returns-else-value : goal.returns-else-value
returns-else-value c k l =
    ap (λ (p : ℕ). bit (bit_and c.args.sheet (65535 - p)) k) (one_shl c.args.fact 16 c.requires)
    ∙ bit_cleared 16 c.args.sheet c.args.fact k c.requires l
    ∙ ap (λ (v : Bool). cond (eqb k c.args.fact) v (bit c.args.sheet k)) (sym c.if-value.false)
