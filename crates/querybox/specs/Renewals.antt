-- What a renewal makes of a counterparty.
use Rattle.std.specs.Prelude.{ℕ, Bool, List}
use Rattle.sheets.specs.declared.SheetSet.{SheetSet}
use Rattle.censors.specs.declared.question.Decision.{Decision}
use Rattle.censors.specs.declared.question.Question.{Question}
use Rattle.censors.specs.declared.question.Reply.{Reply}
use Rattle.censors.specs.declared.question.Value.{Value}
use Rattle.histories.specs.Calls.{House, Party, renewed}
use Rattle.querybox.specs.declared.renewal.Renewal.{Renewal}
use Rattle.querybox.specs.Parties.{plain_house, rejudged}

module _ {C : Type 0} (good : C → SheetSet → List SheetSet → Bool) (decided : C → SheetSet → List SheetSet → Question → Value → Decision)
    (after : C → SheetSet → List SheetSet → Question → Reply → SheetSet) (r : Renewal C) where
  abbrev pub house : House
  house = plain_house (good r.censor.now) (decided r.censor.now) (after r.censor.now)

  -- the log judged again by the censor of the renewal on its sheet
  abbrev pub renewed_by : Party → Party
  renewed_by = renewed house r.sheet

  -- the question at a place judged so
  abbrev pub rejudged_by : ℕ → Party → Party
  rejudged_by = rejudged house r.sheet
