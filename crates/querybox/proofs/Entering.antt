-- A slip that matches, by the entry of its counterparty.
use Rattle.std.proofs.Common.{◌≡◌, Bool, cond, ◌&&◌, length, Some, None, sym, ap, ◌∙◌, ap₂}
use Rattle.std.proofs.lemmas.Bool.{eq-eqb}
use Rattle.tables.specs.Entries.{entries}
use Rattle.histories.specs.declared.data.Pending.{Pending}
use Rattle.histories.specs.Calls.{House, State, Slip, Enter, Replied, at, change, entered, matching, enter_outcome, after_enter, with_parties}
use Rattle.querybox.specs.declared.party.Party as kept
use Rattle.querybox.specs.Parties.{party_of}
use Rattle.querybox.proofs.Answering.{Does}

pub enter_done : (h : House) (st : State) (sl : Slip) (x : kept.Party) → at st.parties sl.party ≡ Some (party_of x)
    → sl.number ≡ h.number → sl.place ≡ length (entries x.log) → (e : Pending) → x.pending ≡ Some e
    → Does h st (Enter sl) (Replied e.decision.reply) (with_parties h st (change (entered h e) st.parties sl.party))
enter_done h st sl x found number place e out =
    let matches : matching h sl (at st.parties sl.party) ≡ Some e =
    ap (matching h sl) found
    ∙ ap₂ (λ (a b : Bool). cond (a && b) x.pending None) (eq-eqb _ _ number) (eq-eqb _ _ place)
    ∙ out in
    record { answers = sym (ap (enter_outcome h sl) matches); leaves = sym (ap (after_enter h st sl.party) matches) }
