-- What enrolling answers and leaves, by what its checks find.
use Rattle.std.proofs.Common.{◌≡◌, ℕ, ◌<◌, Bool, true, not, List, [], ◌∷◌, ◌++◌, length, Some, None, Ok, Option, Result, sym, ap, ◌∙◌, ap₂, arith, Bor}
use Rattle.std.proofs.lemmas.Bool.{lt-leb}
use Rattle.sheets.specs.declared.SheetSet.{SheetSet}
use Rattle.sheets.specs.Sets.{meet}
use Rattle.sentences.specs.declared.cuts.CutList.{CutList}
use Rattle.sentences.specs.declared.faults.ListFault.{ListFault}
use Rattle.sentences.specs.declared.faults.ListKind.TheVariants as kind
use Rattle.sentences.specs.declared.faults.SentenceFault.{SentenceFault}
use Rattle.sentences.specs.declared.reading.Meaning.{Meaning}
use Rattle.sentences.specs.Lists.{read_list}
use Rattle.sentences.specs.Machine.{reading}
use Rattle.histories.specs.declared.data.BoxFault.{BoxFault}
use Rattle.histories.specs.declared.data.BoxFault.TheVariants as fault
use Rattle.histories.specs.Calls.{Text, House, Party, State, Enrol, Enrolled, and_then, check, as_sentence, as_list, lawful_sheets, start_from, newcomer, enrolling, enrol_outcome, with_parties, after_enrol}
use Rattle.querybox.specs.declared.query_box.QueryBox.{QueryBox}
use Rattle.querybox.specs.Enrolling.{prior_text}
use Rattle.querybox.specs.Parties.{party_of}
use Rattle.histories.specs.Calls.{keeping}
use Rattle.querybox.specs.States.{state_of}
use Rattle.querybox.proofs.Answering.{Does}
use Rattle.querybox.proofs.Keeping.{keeping_lawful}
use Rattle.querybox.proofs.Views.{view-length}

-- ---- the record to start from

module _ (h : House) (l : SheetSet) (e : l ≡ keeping (length h.names) h.rules) (o : Option (Bor (List ℕ))) where
  pub start-lawful : o ≡ None → Ok l ≡ start_from h (prior_text o)
  start-lawful none = ap Ok (e ∙ keeping_lawful h) ∙ ap (λ (o : Option (Bor (List ℕ))). start_from h (prior_text o)) (sym none)

  pub start-met : (t : Bor (List ℕ)) (m : Meaning) (r : SheetSet) → o ≡ Some t → Ok m ≡ reading h.names t.now → r ≡ meet l m.sheets → Ok r ≡ start_from h (prior_text o)
  start-met t m r some read is =
      ap Ok (is ∙ ap (λ (x : SheetSet). meet x m.sheets) (e ∙ keeping_lawful h))
      ∙ ap (λ (m : Result Meaning SentenceFault). and_then (as_sentence fault.Prior m) (λ x. Ok (meet (lawful_sheets h) x))) read
      ∙ ap (λ (o : Option (Bor (List ℕ))). start_from h (prior_text o)) (sym some)

-- ---- the call

module _ (h : House) (st : State) (t : Option Text) (list : CutList) where
  enrol-as : (r : Result Party BoxFault) → r ≡ enrolling h (length st.parties) t list
      → Does h st (Enrol t list) (enrol_outcome h (length st.parties) r) (after_enrol h st r)
  enrol-as r e = record { answers = ap (enrol_outcome h (length st.parties)) e; leaves = ap (after_enrol h st) e }

  module _ (some : length st.parties < 8) where
    -- the start test
    abbrev tested : SheetSet → List SheetSet → Bool → Result Party BoxFault
    tested r xs good = check (not good) fault.NotGood (Ok (newcomer h r xs))

    abbrev secret : SheetSet → Result (List SheetSet) ListFault → Result Party BoxFault
    secret r x = and_then (as_list fault.Secrets x) (λ xs. tested r xs (h.good r xs))

    started : (r : Result SheetSet BoxFault) → r ≡ start_from h t → and_then r (λ x. secret x (read_list h.names kind.Secrets 1 list)) ≡ enrolling h (length st.parties) t list
    started r e =
        ap₂ (λ (full : Bool) (r : Result SheetSet BoxFault). check full fault.Full (and_then r (λ x. secret x (read_list h.names kind.Secrets 1 list)))) (sym (lt-leb 8 (length st.parties) some)) e

    module _ (r : SheetSet) (e : Ok r ≡ start_from h t) where
      module _ (xs : List SheetSet) (k : Ok xs ≡ read_list h.names kind.Secrets 1 list) where
        enrol-tested : (b : Bool) → b ≡ h.good r xs → Does h st (Enrol t list) (enrol_outcome h (length st.parties) (tested r xs b)) (after_enrol h st (tested r xs b))
        enrol-tested b g = enrol-as (tested r xs b) (ap (tested r xs) g ∙ ap (secret r) k ∙ started (Ok r) e)

        pub enrol-done : true ≡ h.good r xs → Does h st (Enrol t list) (Enrolled (length st.parties)) (with_parties h st (st.parties ++ (newcomer h r xs ∷ [])))
        enrol-done g = enrol-tested true g

-- ---- the box

pub counted : {C : Type 0} (b : QueryBox C) → length (state_of b).parties ≡ b.inner.count
counted b = view-length party_of b.inner.parties.items b.inner.count (omega (arith, b.inner.few, b.inner.eight))
