use Rattle.std.proofs.Common.{length, refl}
use Rattle.sentences.specs.Naming.{words}
use Rattle.histories.specs.Calls.{House}
use Rattle.querybox.specs.declared.query_box.QueryBox.{QueryBox}
use Rattle.querybox.specs.States.{state_of, house_of}
use Rattle.querybox.proofs.Amendments.{amend-done, amended_small}
use Rattle.querybox.proofs.Boxes.{few_facts}
use Rattle.querybox.proofs.query_box.QueryBox.amend.Given as given
use Rattle.querybox.proofs.query_box.QueryBox.amend.Goals as goal

abbrev house : (g : given.Over) → QueryBox g.row.C.Denot → House
house g b = house_of g.C.Censor.good g.C.Censor.decided g.C.Censor.after b

pub amended_sheet-sheet-requires-clause-few : goal.amended_sheet-sheet-requires-clause-few
amended_sheet-sheet-requires-clause-few g c = few_facts c.args.self.now.names _ c.count-facts.ensures

pub invariant_of-self : goal.invariant_of-self
invariant_of-self g c =
    let b = c.args.self.now in
    record { small = amended_small c.args.changes.now _ b.sheet (length (words b.names)) _ c.count-facts.ensures c.amended_sheet-sheet.ensures }

pub returns-clause-step : goal.returns-clause-step
returns-clause-step g c =
    let b = c.args.self.now in
    let does = amend-done (house g b) (state_of b) c.args.changes.now (length c.args.notes.now) c.in_default.ensures c.if-notes-lt-MOST_NOTES.false _ c.count-facts.ensures
    c.in_default-first_bad_change.ensures _ c.amended_sheet-sheet.ensures _ _ _ _ c.in_default-untrue_rule.ensures c.renew_all-count.ensures.writes c.renew_all-count.ensures.leaves in
    record { answers = does.answers; leaves = does.leaves; censor = refl; number = refl; names = refl; rules = refl; unmoved = tt }
