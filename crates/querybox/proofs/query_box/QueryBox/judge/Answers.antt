use Rattle.std.proofs.Common.{◌≡◌, ℕ, Ok, rules, ◌<◌, sym, refl, ap, ◌∙◌, subst}
use Rattle.sentences.specs.Machine.{reading}
use Rattle.sentences.specs.Naming.{words}
use Rattle.histories.specs.Calls.{House, Judged, with_parties}
use Rattle.querybox.specs.declared.query_box.QueryBox.{QueryBox}
use Rattle.querybox.specs.States.{state_of, house_of}
use Rattle.querybox.proofs.Judging.{judged, decided_on}
use Rattle.querybox.proofs.Views.{found_at}
use Rattle.querybox.proofs.Moves.{moved-parties}
use Rattle.querybox.proofs.query_box.QueryBox.judge.Given as given
use Rattle.querybox.proofs.query_box.QueryBox.judge.Goals as goal

abbrev house : (g : given.Over) → QueryBox g.row.C.Denot → House
house g b = house_of g.C.Censor.good g.C.Censor.decided g.C.Censor.after b

pub returns : goal.returns
returns g c =
    let b = c.args.self.now in
    let read : Ok c.in_ok-meaning.meaning ≡ reading (words b.names) c.args.text.now = search rules in
    let does = judged (house g b) (state_of b) c.args.counterparty c.args.text.now c.in_ok-party.party (found_at (state_of b) c.args.counterparty c.in_ok-party.ensures.is)
    (sym c.is_some.ensures ∙ c.if-is_some.false) (subst (λ (n : ℕ). n < 64) c.len-place.ensures.count c.if-place-ge-PLACES.false) _ read _ c.new-question.ensures in
    let moved = c.keep.ensures (house g b) b.sheet
    (decided_on (house g b) c.in_ok-party.party _ c.new-question.result b.sheet _ _ _ c.in_ok-party.ensures.entry.1 c.sets.ensures c.value_in-value.ensures c.decide-decision.ensures) in
    record {
      answers = ap (λ (n : ℕ). Judged (record { number = b.number; party = c.args.counterparty; place = n })) c.len-place.ensures.count ∙ does.answers;
      leaves = ap (with_parties (house g b) (state_of b)) (moved-parties moved) ∙ does.leaves;
      censor = refl;
      number = refl;
      names = refl;
      rules = refl;
      unmoved = tt;
    }
