use Rattle.std.proofs.Common.{Ok, Err, sym, ap, ◌∙◌, ⊎_elim, rules}
use mathlib.Core.Bool.{false≢true}
use Rattle.std.proofs.lemmas.Result.{err_from_is_err_and}
use Rattle.sentences.specs.declared.symbols.Symbol.TheVariants.{Sign}
use Rattle.sentences.specs.Machine.{on, want}
use Rattle.sentences.specs.Reads.{PartIs, ClauseIs, SentenceIs, NextSymbol}
use Rattle.sentences.proofs.Moves.{here_too, found, none_found, found_there, none_there, part_end, part-fact, part-not, part-not-fails, part-misfit, group-fails, group-then, group-end, group-misfit, group-closes, clause-fails, clause-more, sentence-fails, sentence-more}
use Rattle.sentences.proofs.cursor.Cursor.+clause_part_sentence.Goals as goal

pub clause-returns-in_err-more : goal.clause-returns-in_err-more
clause-returns-in_err-more t c =
    let p = err_from_is_err_and c.from_residual-in_err-more.result c.from_residual-in_err-more.ensures.1 in
    let m = found_there c.moved_to.ensures.same c.moved_to.ensures.place c.in_ok-found.ensures c.in-Some.is in
    rw (p.1, p.2) (clause-fails _ _ c.loop-found.invariant m (search rules)
    (here_too (λ ns s at. PartIs ns s at (Err c.in_err-more.field-0.0)) c.moved_to-in-loop-found.ensures.same c.moved_to-in-loop-found.ensures.place c.in_err-more.ensures))

pub clause-loop-found-preserved : goal.clause-loop-found-preserved
clause-loop-found-preserved t c =
    let m = found_there c.moved_to.ensures.same c.moved_to.ensures.place c.in_ok-found.ensures c.in-Some.is in
    let r = here_too (λ ns s at. PartIs ns s at (Ok c.in_ok-more.more)) c.moved_to-in-loop-found.ensures.same c.moved_to-in-loop-found.ensures.place c.in_ok-more.ensures in
    rw c.meet.ensures (clause-more _ _ c.loop-found.invariant m (search rules) r)

pub part-returns-in_default : goal.part-returns-in_default
part-returns-in_default t c = part_end _ _ _ (none_found _ _ _ c.in_ok-found.ensures c.in_default.is)

pub part-returns-in_err-inner-in-Not : goal.part-returns-in_err-inner-in-Not
part-returns-in_err-inner-in-Not t c =
    let p = err_from_is_err_and c.from_residual-in_err-inner-in-Not.result c.from_residual-in_err-inner-in-Not.ensures.1 in
    let m = found _ _ _ c.in_ok-found.ensures c.in-Some.is in
    rw (p.1, p.2) (part-not-fails _ _ m (search rules)
    (here_too (λ ns s at. PartIs ns s at (Err c.in_err-inner-in-Not.field-0.0)) c.moved_to.ensures.same c.moved_to.ensures.place c.in_err-inner-in-Not.ensures))

pub part-returns-in_err-inner-in-Open : goal.part-returns-in_err-inner-in-Open
part-returns-in_err-inner-in-Open t c =
    let p = err_from_is_err_and c.from_residual-in_err-inner-in-Open.result c.from_residual-in_err-inner-in-Open.ensures.1 in
    let m = found _ _ _ c.in_ok-found.ensures c.in-Some.is in
    rw (p.1, p.2) (group-fails _ _ m (search rules)
    (here_too (λ ns s at. SentenceIs ns s at (Err c.in_err-inner-in-Open.field-0.0)) c.moved_to-in-Open.ensures.same c.moved_to-in-Open.ensures.place c.in_err-inner-in-Open.ensures))

pub part-returns-in_err-last-in-Open : goal.part-returns-in_err-last-in-Open
part-returns-in_err-last-in-Open t c =
    let p = err_from_is_err_and c.from_residual-in_err-last-in-Open.result c.from_residual-in_err-last-in-Open.ensures.1 in
    let m = found _ _ _ c.in_ok-found.ensures c.in-Some.is in
    let r = here_too (λ ns s at. SentenceIs ns s at (Ok c.in_ok-inner-in-Open.inner)) c.moved_to-in-Open.ensures.same c.moved_to-in-Open.ensures.place c.in_ok-inner-in-Open.ensures in
    rw (p.1, p.2) (group-then _ _ m (search rules) r
    (here_too (λ ns s at. NextSymbol ns s at (Err c.in_err-last-in-Open.field-0.0)) c.moved_to-in-Open-2.ensures.same c.moved_to-in-Open-2.ensures.place c.in_err-last-in-Open.ensures))

pub part-returns-in_default-2 : goal.part-returns-in_default-2
part-returns-in_default-2 t c =
    let m = found _ _ _ c.in_ok-found.ensures c.in-Some.is in
    let r = here_too (λ ns s at. SentenceIs ns s at (Ok c.in_ok-inner-in-Open.inner)) c.moved_to-in-Open.ensures.same c.moved_to-in-Open.ensures.place c.in_ok-inner-in-Open.ensures in
    group-end _ _ m (search rules) r (none_there c.moved_to-in-Open-2.ensures.same c.moved_to-in-Open-2.ensures.place c.in_ok-last-in-Open.ensures c.in_default-2.is)

pub part-returns-then-not-is : goal.part-returns-then-not-is
part-returns-then-not-is t c =
    let m = found _ _ _ c.in_ok-found.ensures c.in-Some.is in
    let r = here_too (λ ns s at. SentenceIs ns s at (Ok c.in_ok-inner-in-Open.inner)) c.moved_to-in-Open.ensures.same c.moved_to-in-Open.ensures.place c.in_ok-inner-in-Open.ensures in
    let k = found_there c.moved_to-in-Open-2.ensures.same c.moved_to-in-Open-2.ensures.place c.in_ok-last-in-Open.ensures c.in-Some-2.is in
    group-misfit _ _ m (search rules) r k (λ e. false≢true (sym c.if-not-is.true ∙ c.is.ensures.1 e))

pub part-returns-in-Fact : goal.part-returns-in-Fact
part-returns-in-Fact t c =
    let m = found _ _ _ c.in_ok-found.ensures c.in-Some.is in
    rw c.fact.ensures (part-fact _ _ m c.in-Fact.is)

pub part-returns-in_ok-inner-in-Not : goal.part-returns-in_ok-inner-in-Not
part-returns-in_ok-inner-in-Not t c =
    let m = found _ _ _ c.in_ok-found.ensures c.in-Some.is in
    let r = here_too (λ ns s at. PartIs ns s at (Ok c.in_ok-inner-in-Not.inner)) c.moved_to.ensures.same c.moved_to.ensures.place c.in_ok-inner-in-Not.ensures in
    rw c.outside.ensures (part-not _ _ m (search rules) r)

pub part-returns-else-not-is : goal.part-returns-else-not-is
part-returns-else-not-is t c =
    let m = found _ _ _ c.in_ok-found.ensures c.in-Some.is in
    let r = here_too (λ ns s at. SentenceIs ns s at (Ok c.in_ok-inner-in-Open.inner)) c.moved_to-in-Open.ensures.same c.moved_to-in-Open.ensures.place c.in_ok-inner-in-Open.ensures in
    let k = found_there c.moved_to-in-Open-2.ensures.same c.moved_to-in-Open-2.ensures.place c.in_ok-last-in-Open.ensures c.in-Some-2.is in
    group-closes _ _ m (search rules) r k (search rules)

pub part-returns-in-And : goal.part-returns-in-And
part-returns-in-And t c =
    let m = found _ _ _ c.in_ok-found.ensures c.in-Some.is in
    part-misfit _ _ m (λ g fs.
    ap (on (want g fs)) c.in-Sign.is
    ∙ ⊎_elim (λ e. ap (λ h. on (want g fs) (Sign h)) e) (⊎_elim (λ e. ap (λ h. on (want g fs) (Sign h)) e) (λ e. ap (λ h. on (want g fs) (Sign h)) e)) c.in-And.is)

pub sentence-returns-in_err-more : goal.sentence-returns-in_err-more
sentence-returns-in_err-more t c =
    let p = err_from_is_err_and c.from_residual-in_err-more.result c.from_residual-in_err-more.ensures.1 in
    let m = found_there c.moved_to.ensures.same c.moved_to.ensures.place c.in_ok-found.ensures c.in-Some.is in
    rw (p.1, p.2) (sentence-fails _ _ c.loop-found.invariant m (search rules)
    (here_too (λ ns s at. ClauseIs ns s at (Err c.in_err-more.field-0.0)) c.moved_to-in-loop-found.ensures.same c.moved_to-in-loop-found.ensures.place c.in_err-more.ensures))

pub sentence-loop-found-preserved : goal.sentence-loop-found-preserved
sentence-loop-found-preserved t c =
    let m = found_there c.moved_to.ensures.same c.moved_to.ensures.place c.in_ok-found.ensures c.in-Some.is in
    let r = here_too (λ ns s at. ClauseIs ns s at (Ok c.in_ok-more.more)) c.moved_to-in-loop-found.ensures.same c.moved_to-in-loop-found.ensures.place c.in_ok-more.ensures in
    rw c.union.ensures (sentence-more _ _ c.loop-found.invariant m (search rules) r)
