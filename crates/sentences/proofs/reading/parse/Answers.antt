use Rattle.std.proofs.Common.{◌≡◌, ℕ, ◌^◌, ltb, Ok, Err, sym, ap, ◌∙◌}
use Rattle.std.proofs.lemmas.Result.{err_from_is_err_and}
use Rattle.sheets.specs.declared.SheetSet.{SheetSet}
use Rattle.sheets.specs.Sets.{set_of, meet}
use Rattle.sentences.specs.Machine.{reading}
use Rattle.sentences.specs.Naming.{words}
use Rattle.sentences.specs.Reads.{NextSymbol}
use Rattle.sentences.proofs.Answered.{exactly}
use Rattle.sentences.proofs.Moves.{here_too, found_there, none_there, reads-long, reads-fails, reads_then, reads-misfit, reads_whole}
use Rattle.sentences.proofs.reading.parse.Goals as goal

pub returns-then-text-gt-LONGEST : goal.returns-then-text-gt-LONGEST
returns-then-text-gt-LONGEST c = let e = sym (reads-long _ _ c.if-text-gt-LONGEST.true) in record { is = e; exact = exactly c.args.names.now _ _ e }

pub returns-in_err-whole : goal.returns-in_err-whole
returns-in_err-whole c =
    let p = err_from_is_err_and c.from_residual.result c.from_residual.ensures.1 in
    let e : c.from_residual.result ≡ reading (words c.args.names.now) c.args.text.now =
    p.1 ∙ ap Err p.2 ∙ sym (reads-fails _ _ c.if-text-gt-LONGEST.false (c.in_err-whole.ensures _)) in
    record { is = e; exact = exactly c.args.names.now _ _ e }

pub returns-in_err-found : goal.returns-in_err-found
returns-in_err-found c =
    let p = err_from_is_err_and c.from_residual-in_err-found.result c.from_residual-in_err-found.ensures.1 in
    let fails = here_too (λ ns s at. NextSymbol ns s at (Err c.in_err-found.field-0.0)) c.moved_to.ensures.same c.moved_to.ensures.place c.in_err-found.ensures in
    let e : c.from_residual-in_err-found.result ≡ reading (words c.args.names.now) c.args.text.now =
    p.1 ∙ ap Err p.2 ∙ sym (reads_then _ _ c.if-text-gt-LONGEST.false c.in_ok-whole.ensures fails) in
    record { is = e; exact = exactly c.args.names.now _ _ e }

pub returns-in-Some : goal.returns-in-Some
returns-in-Some c =
    let m = found_there c.moved_to.ensures.same c.moved_to.ensures.place c.in_ok-found.ensures c.in-Some.is in
    let e = sym (reads-misfit _ _ c.if-text-gt-LONGEST.false c.in_ok-whole.ensures m) in
    record { is = e; exact = exactly c.args.names.now _ _ e }

pub returns-in-None : goal.returns-in-None
returns-in-None c =
    let none = none_there c.moved_to.ensures.same c.moved_to.ensures.place c.in_ok-found.ensures c.in-None.is in
    let below = c.below.ensures ∙ ap (λ (n : ℕ). set_of (λ k. ltb k (2 ^ n))) c.count.ensures in
    let sheets = c.meet.ensures ∙ ap (λ (x : SheetSet). meet x c.in_ok-whole.whole.sheets) below in
    let e =
    ap (λ (x : SheetSet). Ok (record { sheets = x; tokens = c.in_ok-whole.whole.tokens })) sheets
    ∙ sym (reads_whole _ _ c.if-text-gt-LONGEST.false c.in_ok-whole.ensures none) in
    record { is = e; exact = exactly c.args.names.now _ _ e }
