-- What amending answers and leaves, once its first three checks are passed; the refusals of those need no lemma.
use Rattle.std.proofs.Common.{◌≡◌, ℕ, ◌^◌, ◌<◌, ◌≤◌, Bool, List, map, length, take, None, Ok, Option, Result, sym, ap, ◌∙◌, ap₂}
use Rattle.std.proofs.lemmas.Bool.{le-ltb}
use Rattle.sentences.specs.Search.{first}
use Rattle.histories.specs.declared.data.AmendFault.TheVariants as amendment
use Rattle.histories.specs.declared.data.BoxFault.{BoxFault}
use Rattle.histories.specs.declared.data.BoxFault.TheVariants as fault
use Rattle.histories.specs.declared.data.Change.{Change}
use Rattle.histories.specs.declared.data.Note.{Note}
use Rattle.histories.specs.Calls.{House, Party, State, Amend, Amended, check, check_index, slip_out, bad_change, new_sheet, untrue_rule, amending, amend_outcome, after_amend, renewed, notes as notes_of}
use Rattle.histories.proofs.Facts.{new_sheet_below}
use Rattle.querybox.specs.Notes.{Written}
use Rattle.querybox.specs.Parties.{plain_house}
use Rattle.querybox.proofs.Answering.{Does}
use Rattle.querybox.proofs.Views.{renewed-plain}

module _ (h : House) (st : State) (cs : List Change) (room : ℕ) where
  amend-as : (r : Result ℕ BoxFault) → r ≡ amending h st cs room → Does h st (Amend cs room) (amend_outcome h st.parties r) (after_amend h st r)
  amend-as r e = record { answers = ap (amend_outcome h st.parties) e; leaves = ap (after_amend h st) e }

  -- the last two checks, by what they find
  abbrev ruled : ℕ → Option ℕ → Result ℕ BoxFault
  ruled s o = check_index o (λ i. fault.Amendment (amendment.HouseRule i)) (Ok s)

  abbrev listed : ℕ → Option ℕ → Result ℕ BoxFault
  listed s o = check_index o (λ i. fault.Amendment (amendment.Fact i)) (ruled s (untrue_rule h s))

  abbrev bad : ℕ → Option ℕ
  bad n = first (bad_change n cs) (length cs)

  abbrev new : ℕ → ℕ
  new n = new_sheet n st.sheet cs

  module _ (back : None ≡ slip_out 0 st.parties) (l : 512 ≤ room) (n : ℕ) (count : n ≡ length h.names) (good : None ≡ bad n) (s : ℕ) (is : s ≡ new n) where
    judged : (u : Option ℕ) → u ≡ untrue_rule h s → ruled s u ≡ amending h st cs room
    judged u e =
        ap (ruled s) e
        ∙ ap₂ listed is good
        ∙ ap (λ (n : ℕ). listed (new n) (bad n)) count
        ∙ ap₂ (λ (o : Option ℕ) (b : Bool). check_index o fault.SlipOut (check b fault.ShortNotes (listed (new (length h.names)) (bad (length h.names))))) back (sym (le-ltb room 512 l))

    -- logs are judged again by the censor alone
    abbrev again : List Party
    again = map (renewed (plain_house h.good h.decided h.after) s) st.parties

    pub amend-done : (old out : List Note) (k : ℕ) (ps : List Party) → None ≡ untrue_rule h s → Written old 0 (notes_of 0 st.parties again) k out → ps ≡ again
        → Does h st (Amend cs room) (Amended (take k out)) (record { sheet = s; parties = ps })
    amend-done old out k ps e w p =
        let does = amend-as (Ok s) (judged None e) in
        let whole : again ≡ map (renewed h s) st.parties = sym (renewed-plain h s st.parties) in
        record {
          answers = ap Amended (w.front ∙ ap (notes_of 0 st.parties) whole) ∙ does.answers;
          leaves = ap (λ (ps : List Party). record { sheet = s; parties = ps }) (p ∙ whole) ∙ does.leaves;
        }

-- the new sheet is a sheet of the box
pub amended_small : (cs : List Change) (n s m r : ℕ) → n ≡ m → r ≡ new_sheet n s cs → r < 2 ^ m
amended_small cs n s m r count is = rw (is, count) (new_sheet_below m s cs)
