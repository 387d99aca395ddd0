use Rattle.std.proofs.Common.{◌≡◌, None, Ok, Option, subst, arith}
use Rattle.std.proofs.lemmas.Result.{err_from_is_err_and}
use Rattle.sentences.specs.declared.faults.SentenceFault.TheVariants.{Unknown}
use Rattle.sentences.specs.declared.tokens.Found.{Found}
use Rattle.sentences.specs.declared.tokens.Token.{Token}
use Rattle.sentences.specs.Machine.{symbol_of}
use Rattle.sentences.specs.Naming.{words}
use Rattle.sentences.specs.Scanning.{tok_of, NextIs}
use Rattle.sentences.proofs.Moves.{parse-stray, parse-unknown}
use Rattle.sentences.proofs.cursor.Cursor.symbol.Goals as goal

pub returns-in_err-found : goal.returns-in_err-found
returns-in_err-found c =
    let p = err_from_is_err_and c.from_residual.result c.from_residual.ensures.1 in
    let stray = c.in_err-found.ensures in
    rw (p.1, p.2, stray.1) (λ st. parse-stray _ _ _ st stray.2)

pub returns-in_err-symbol : goal.returns-in_err-symbol
returns-in_err-symbol c =
    let p = err_from_is_err_and c.from_residual-in_err-symbol.result c.from_residual-in_err-symbol.ensures.1 in
    let goes = subst (λ (o : Option (Found Token)). NextIs c.args.self.now.text.now c.args.self.now.at (Ok o)) c.in-Some.is c.in_ok-found.ensures in
    let none : symbol_of (words c.args.self.now.names.now) (tok_of c.in-Some.found.what) ≡ None = grind (arith) in
    let fault : c.in_err-symbol.field-0.0 ≡ Unknown c.in-Some.found.start = grind (arith) in
    rw (p.1, p.2, fault) (λ st. parse-unknown _ _ st goes none)
