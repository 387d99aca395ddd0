use Rattle.std.proofs.Common.{◌≡◌, true, leb, length, sym}
use Rattle.std.proofs.lemmas.Bool.{le-leb, lt-leb, or_left, or_right, or_from}
use Rattle.sentences.proofs.Searches.{first_none, first_more, first_found}
use Rattle.histories.specs.Calls.{listed_before, bad_change}
use Rattle.querybox.proofs.ListedFacts.{fact_at}
use Rattle.querybox.proofs.changes.first_bad_change.Goals as goal
use Rattle.querybox.proofs.changes.first_bad_change.Goals.{then-change-facts-via-then-change-facts, then-change-facts-via-else-change-facts+then-is_listed_before}

pub loop-index-init : goal.loop-index-init
loop-index-init c = first_none _

pub returns-then-change-facts : goal.returns-then-change-facts
unfolding bad_change
returns-then-change-facts c =
    let cs = c.args.changes.now in
    let i = c.loop-index.index in
    let bad : bad_change c.args.facts cs i ≡ true =
    elim c.then-change-facts.branch [
      | then-change-facts-via-then-change-facts w ↦
          or_left (leb c.args.facts (fact_at cs i)) (listed_before (fact_at cs i) cs i) (le-leb c.args.facts (fact_at cs i) w.if-change-facts.true)
      | then-change-facts-via-else-change-facts+then-is_listed_before w ↦
          or_right (leb c.args.facts (fact_at cs i)) (listed_before (fact_at cs i) cs i) (sym w.if-is_listed_before.ensures)
    ] in
    sym (first_found (bad_change c.args.facts cs) (length cs) i c.loop-index.invariant bad c.loop-index-test.true)

pub loop-index-preserved : goal.loop-index-preserved
unfolding bad_change
loop-index-preserved c =
    let cs = c.args.changes.now in
    let i = c.loop-index.index in
    first_more (bad_change c.args.facts cs) i c.loop-index.invariant
    (or_from (leb c.args.facts (fact_at cs i)) (listed_before (fact_at cs i) cs i) (lt-leb c.args.facts (fact_at cs i) c.if-change-facts.false) (sym c.if-is_listed_before.ensures))
