use Rattle.std.proofs.Common.{ap, refl, sym, ◌∙◌}
use Rattle.report.specs.PieceLists.{or_refused, words_read}
use Rattle.report.proofs.PieceLists.{read_left_out, read_refused, whole_or_refused, naming_by_parts}
use Rattle.report.proofs.lists.names_in.Goals as goal

pub returns-in_err-list_of-clause-read : goal.returns-in_err-list_of-clause-read
returns-in_err-list_of-clause-read c =
    read_left_out c.args.pieces.now.left_out _ words_read (λ why. refl) c.from_residual.result c.from_residual.ensures.1 c.in_err-list_of.ensures.too_large c.in_err-list_of.ensures.parts

pub returns-in_err-parse-clause-read : goal.returns-in_err-parse-clause-read
returns-in_err-parse-clause-read c =
    read_refused c.args.pieces.now.left_out _ words_read (λ why. refl) c.from_residual-in_err-parse.result c.from_residual-in_err-parse.ensures.1 (c.in_err-parse.ensures ∙ naming_by_parts c.in_ok-list_of.field-0 c.in_ok-list_of.ensures.parts.1 c.in_ok-list_of.ensures.parts.2) c.in_ok-list_of.ensures.parts.0

pub returns-clause-read : goal.returns-clause-read
returns-clause-read c =
    ap or_refused (c.in_ok-parse.ensures ∙ naming_by_parts c.in_ok-list_of.field-0 c.in_ok-list_of.ensures.parts.1 c.in_ok-list_of.ensures.parts.2)
    ∙ sym (whole_or_refused c.args.pieces.now.left_out _ c.in_ok-list_of.ensures.parts.0)
