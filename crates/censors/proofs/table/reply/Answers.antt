use Rattle.std.proofs.Common.{ℕ, [], get_or, ◌∙◌, ap, ap₂}
use Rattle.censors.specs.Tables.{Table, entry, no_reply}
use Rattle.censors.proofs.table.reply.Goals as goal

pub returns : goal.returns
unfolding entry
returns g c =
    let e =
    ap (λ (t : Table). get_or (get_or t c.row.result []) c.column.result no_reply) c.ROWS.ensures
    ∙ ap₂ (λ (i j : ℕ). get_or (get_or g.T.ReplyTable.ROWS i []) j no_reply) c.row.ensures.is c.column.ensures.is in
    record { is = e; candid = λ candid h. e ∙ candid _ _ h }
