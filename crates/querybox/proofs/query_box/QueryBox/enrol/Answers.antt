use Rattle.std.proofs.Common.{◌≡◌, Ok, rules, ℕ, ◌<◌, [], ◌∷◌, ◌++◌, length, sym, refl, ap, ◌∙◌, subst}
use Rattle.querybox.specs.Entries.{parties_of}
use Rattle.sentences.specs.declared.faults.ListKind.TheVariants as kind
use Rattle.sentences.specs.Lists.{read_list, sets_of}
use Rattle.histories.specs.Calls.{House, Enrolled, start_from, with_parties}
use Rattle.querybox.specs.Enrolling.{prior_text}
use Rattle.querybox.specs.declared.query_box.QueryBox.{QueryBox}
use Rattle.querybox.specs.States.{state_of, house_of}
use Rattle.querybox.proofs.Enrolments.{counted, enrol-done}
use Rattle.querybox.proofs.Moves.{added-parties}
use Rattle.querybox.proofs.query_box.QueryBox.enrol.Given as given
use Rattle.querybox.proofs.query_box.QueryBox.enrol.Goals as goal

abbrev house : (g : given.Over) → QueryBox g.row.C.Denot → House
house g b = house_of g.C.Censor.good g.C.Censor.decided g.C.Censor.after b

room : {C : Type 0} (b : QueryBox C) → b.inner.count < 8 → length (state_of b).parties < 8
room b l = subst (λ (n : ℕ). n < 8) (sym (counted b)) l

pub returns : goal.returns
returns g c =
    let b = c.args.self.now in
    let start : Ok c.in_ok-start.start ≡ start_from (house g b) (prior_text c.args.prior) = search rules in
    let read : Ok (sets_of c.in_ok-secrets.secrets) ≡ read_list (house g b).names kind.Secrets 1 c.args.secrets.now = search rules in
    let does = enrol-done (house g b) (state_of b) _ c.args.secrets.now (room b c.if-place-ge-COUNTERPARTIES.false) _ start _ read
    (c.if-not-is_good.ensures ∙ ap (g.C.Censor.good b.censor c.in_ok-start.start) c.sets.ensures) in
    let parties = added-parties b.inner c.add.new.self _ c.if-place-ge-COUNTERPARTIES.false c.add.ensures.count c.add.ensures.entries ∙ ap (λ p. parties_of b.inner ++ p ∷ []) (c.new.ensures (house g b)) in
    record {
      answers = ap Enrolled (sym (counted b)) ∙ does.answers;
      leaves = ap (with_parties (house g b) (state_of b)) parties ∙ does.leaves;
      censor = refl;
      number = refl;
      names = refl;
      rules = refl;
      unmoved = tt;
    }
