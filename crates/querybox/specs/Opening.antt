-- What opening a box gives.
use Rattle.std.specs.Prelude.{ℕ, Bool, List, Ok, Err, Result}
use Rattle.sheets.specs.declared.SheetSet.{SheetSet}
use Rattle.sentences.specs.declared.cuts.CutList.{CutList}
use Rattle.sentences.specs.declared.faults.ListFault.{ListFault}
use Rattle.sentences.specs.declared.faults.ListKind.TheVariants as kind
use Rattle.sentences.specs.Lists.{read_list}
use Rattle.sentences.specs.Names.{Word}
use Rattle.sentences.specs.Naming.{naming}
use Rattle.censors.specs.declared.question.Decision.{Decision}
use Rattle.censors.specs.declared.question.Question.{Question}
use Rattle.censors.specs.declared.question.Reply.{Reply}
use Rattle.censors.specs.declared.question.Value.{Value}
use Rattle.histories.specs.declared.data.BoxFault.{BoxFault}
use Rattle.histories.specs.declared.data.BoxFault.TheVariants as fault
use Rattle.histories.specs.Calls.{House, State, and_then, as_list, opening}
use Rattle.querybox.specs.declared.query_box.QueryBox.{QueryBox}
use Rattle.querybox.specs.States.{state_of, house_of}

-- a box that was opened
pub record Opened : Type 0 where
  pub house : House
  pub state : State

-- a fault of the names, carried into the box's
abbrev pub as_names : Result (List Word) ListFault → Result (List Word) BoxFault
as_names (Ok ws) = Ok ws
as_names (Err f) = Err (fault.Names f)

-- the box with this house on the sheet s
abbrev pub opening_of : House → ℕ → Result Opened BoxFault
opening_of h s = and_then (opening h s) (λ st. Ok (record { house = h; state = st }))

module _ (good : SheetSet → List SheetSet → Bool) (decided : SheetSet → List SheetSet → Question → Value → Decision) (after : SheetSet → List SheetSet → Question → Reply → SheetSet) where
  abbrev pub house_with : ℕ → List Word → List SheetSet → House
  house_with m ws xs = record { good = good; decided = decided; after = after; number = m; names = ws; rules = xs }

  -- the names, then the house rules, then the sheet
  abbrev pub opens : ℕ → CutList → CutList → ℕ → Result Opened BoxFault
  opens m facts list s =
      and_then (as_names (naming facts)) (λ ws.
      and_then (as_list fault.HouseRules (read_list ws kind.HouseRules 0 list)) (λ xs.
      opening_of (house_with m ws xs) s))

-- what open hands out
abbrev pub opened_as : {C : Type 0} → (C → SheetSet → List SheetSet → Bool) → (C → SheetSet → List SheetSet → Question → Value → Decision)
    → (C → SheetSet → List SheetSet → Question → Reply → SheetSet) → Result (QueryBox C) BoxFault → Result Opened BoxFault
opened_as good decided after (Ok b) = Ok (record { house = house_of good decided after b; state = state_of b })
opened_as good decided after (Err f) = Err f
