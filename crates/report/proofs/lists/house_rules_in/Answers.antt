use Rattle.std.proofs.Common.{ap, refl, sym, ◌∙◌}
use Rattle.sentences.specs.Naming.{words}
use Rattle.sentences.specs.declared.faults.ListKind.TheVariants.{HouseRules}
use Rattle.report.specs.PieceLists.{or_refused, sets_read}
use Rattle.report.proofs.PieceLists.{read_left_out, read_refused, whole_or_refused, read_list_by_parts}
use Rattle.report.proofs.lists.house_rules_in.Goals as goal

pub returns-in_err-list_of-clause-read : goal.returns-in_err-list_of-clause-read
returns-in_err-list_of-clause-read c =
    read_left_out c.args.pieces.now.left_out _ sets_read (λ why. refl) c.from_residual.result c.from_residual.ensures.1 c.in_err-list_of.ensures.too_large c.in_err-list_of.ensures.parts

pub returns-in_err-house_rules-clause-read : goal.returns-in_err-house_rules-clause-read
returns-in_err-house_rules-clause-read c =
    read_refused c.args.pieces.now.left_out _ sets_read (λ why. refl) c.from_residual-in_err-house_rules.result c.from_residual-in_err-house_rules.ensures.1 (c.in_err-house_rules.ensures ∙ read_list_by_parts c.in_ok-list_of.field-0 c.in_ok-list_of.ensures.parts.1 c.in_ok-list_of.ensures.parts.2 (words c.args.names.now) HouseRules 0) c.in_ok-list_of.ensures.parts.0

pub returns-clause-read : goal.returns-clause-read
returns-clause-read c =
    ap or_refused (c.in_ok-house_rules.ensures ∙ read_list_by_parts c.in_ok-list_of.field-0 c.in_ok-list_of.ensures.parts.1 c.in_ok-list_of.ensures.parts.2 (words c.args.names.now) HouseRules 0)
    ∙ sym (whole_or_refused c.args.pieces.now.left_out _ c.in_ok-list_of.ensures.parts.0)
