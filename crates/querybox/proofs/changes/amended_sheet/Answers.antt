use Rattle.std.proofs.Common.{Bool, cond, eqb, List, sym, ap, ◌∙◌, arith}
use Rattle.std.proofs.lemmas.List.{take_all}
use Rattle.sheets.specs.Sets.{bit}
use Rattle.histories.specs.declared.data.Change.{Change}
use Rattle.histories.specs.Calls.{new_value}
use Rattle.querybox.proofs.ListedFacts.{fact_at, value_at}
use Rattle.querybox.proofs.NewSheets.{fact_below, new_value_more, new_sheet_is}
use Rattle.querybox.proofs.changes.amended_sheet.Goals as goal

pub with_value-amended-requires : goal.with_value-amended-requires
with_value-amended-requires c =
    omega (arith, fact_below c.args.facts c.args.changes.now c.requires.proper c.loop-change.change-index c.loop-change-test.true, c.requires.few)

pub loop-change-preserved : goal.loop-change-preserved
loop-change-preserved c =
    let cs = c.args.changes.now in
    let i = c.loop-change.change-index in (
      c.with_value-amended.type_inv,
      λ k l.
          c.with_value-amended.ensures k l
          ∙ ap (λ (b : Bool). cond (eqb k (fact_at cs i)) (value_at cs i) b) (c.loop-change.invariant.1 k l)
          ∙ sym (new_value_more c.args.facts cs i k (bit c.args.sheet k) c.requires.proper c.loop-change-test.true),
    )

pub returns : goal.returns
returns c =
    let cs = c.args.changes.now in
    new_sheet_is 16 c.args.facts c.args.sheet c.loop-change.amended cs (omega (arith, c.requires.few)) c.requires.known c.loop-change.invariant.0 c.requires.proper
    (λ k l. c.loop-change.invariant.1 k l ∙ ap (λ (xs : List Change). new_value xs k (bit c.args.sheet k)) (take_all c.loop-change.change-index cs c.loop-change-test.false))
