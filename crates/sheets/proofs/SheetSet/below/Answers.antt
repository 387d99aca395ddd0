use Rattle.std.proofs.Common.{◌≡◌, ℕ, ◌^◌, ◌<◌, ◌≤◌, ltb, sym, ap, ◌∙◌, ⊎_elim, arith, pow_mono}
use Rattle.std.proofs.lemmas.Bool.{lt-ltb, cases_lt}
use Rattle.sheets.specs.Sets.{digits, set_of}
use Rattle.sheets.proofs.Laws.{set_of_ext}
use Rattle.sheets.proofs.Tables.{row_is}
use Rattle.sheets.proofs.SheetSet.below.Goals as goal

-- each sheet is below 2 ^ 8, and so below every higher power
pub returns : goal.returns
unfolding digits set_of
returns c =
    let n = c.args.names in
    row_is (λ n s. ltb s (2 ^ n)) 9 c.min.result (omega (arith, c.min.ensures))
    ∙ set_of_ext _ _
    (λ s h.
    ⊎_elim
    (λ (l : 8 < n).
    let e : c.min.result ≡ 8 = omega (arith, c.min.ensures) in
    ap (λ (k : ℕ). ltb s (2 ^ k)) e ∙ lt-ltb s 256 h ∙ sym (lt-ltb s (2 ^ n) (omega (arith, pow_mono l))))
    (λ (l : n ≤ 8).
    let e : c.min.result ≡ n = omega (arith, c.min.ensures) in
    ap (λ (k : ℕ). ltb s (2 ^ k)) e) (cases_lt 8 n))
