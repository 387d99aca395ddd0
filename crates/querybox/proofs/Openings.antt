-- What opening gives, by what its checks find.
use Rattle.std.proofs.Common.{◌≡◌, ℕ, ◌^◌, ◌<◌, ◌≤◌, Bool, true, leb, List, [], length, None, Ok, Err, Option, Result, sym, refl, ap, ◌∙◌, ap₂}
use Rattle.std.proofs.lemmas.Bool.{le-leb, lt-leb}
use Rattle.sheets.specs.declared.SheetSet.{SheetSet}
use Rattle.sentences.specs.declared.cuts.CutList.{CutList}
use Rattle.sentences.specs.declared.faults.ListFault.{ListFault}
use Rattle.sentences.specs.declared.faults.ListKind.TheVariants as kind
use Rattle.sentences.specs.Lists.{read_list}
use Rattle.sentences.specs.Names.{Word}
use Rattle.sentences.specs.Naming.{naming}
use Rattle.censors.specs.declared.question.Decision.{Decision}
use Rattle.censors.specs.declared.question.Question.{Question}
use Rattle.censors.specs.declared.question.Reply.{Reply}
use Rattle.censors.specs.declared.question.Value.{Value}
use Rattle.histories.specs.declared.data.BoxFault.{BoxFault}
use Rattle.histories.specs.declared.data.BoxFault.TheVariants as fault
use Rattle.histories.specs.Calls.{House, State, and_then, as_list, check, check_index, untrue_rule, opening}
use Rattle.querybox.specs.Opening.{Opened, as_names, opening_of, house_with, opens}
use Rattle.histories.specs.Calls.{first_untrue}

-- opening on a sheet that passes both checks
pub opens-on : (h : House) (s : ℕ) → s < 2 ^ length h.names → None ≡ untrue_rule h s → opening h s ≡ Ok (record { sheet = s; parties = [] })
opens-on h s l u =
    ap₂ (λ (b : Bool) (o : Option ℕ). check b (fault.Sheet s) (check_index o fault.HouseRule (Ok (record { sheet = s; parties = [] })))) (lt-leb (2 ^ length h.names) s l) (sym u)

module _ (good : SheetSet → List SheetSet → Bool) (decided : SheetSet → List SheetSet → Question → Value → Decision) (after : SheetSet → List SheetSet → Question → Reply → SheetSet)
    (m : ℕ) (facts list : CutList) (s : ℕ) where
  -- the house that the names and the rules make
  abbrev house : List Word → List SheetSet → House
  house = house_with good decided after m

  abbrev ruled : List Word → Result (List SheetSet) ListFault → Result Opened BoxFault
  ruled ws r = and_then (as_list fault.HouseRules r) (λ xs. opening_of (house ws xs) s)

  named : (r : Result (List Word) ListFault) → r ≡ naming facts
      → and_then (as_names r) (λ ws. ruled ws (read_list ws kind.HouseRules 0 list)) ≡ opens good decided after m facts list s
  named r e = ap (λ (r : Result (List Word) ListFault). and_then (as_names r) (λ ws. ruled ws (read_list ws kind.HouseRules 0 list))) e

  module _ (ws : List Word) (e : Ok ws ≡ naming facts) where
    module _ (xs : List SheetSet) (k : Ok xs ≡ read_list ws kind.HouseRules 0 list) where
      -- the two checks of the sheet
      checked : (b : Bool) (o : Option ℕ) → leb (2 ^ length ws) s ≡ b → o ≡ first_untrue xs s
          → and_then (check b (fault.Sheet s) (check_index o fault.HouseRule (Ok (record { sheet = s; parties = [] })))) (λ (st : State). Ok (record { house = house ws xs; state = st }))
          ≡ opens good decided after m facts list s
      checked b o l u =
          ap₂ (λ (b : Bool) (o : Option ℕ). and_then (check b (fault.Sheet s) (check_index o fault.HouseRule (Ok (record { sheet = s; parties = [] })))) (λ (st : State). Ok (record { house = house ws xs; state = st }))) (sym l) u
          ∙ ap (ruled ws) k ∙ named (Ok ws) e

      pub open-past : 2 ^ length ws ≤ s → Err (fault.Sheet s) ≡ opens good decided after m facts list s
      open-past l = checked true (first_untrue xs s) (le-leb (2 ^ length ws) s l) refl
