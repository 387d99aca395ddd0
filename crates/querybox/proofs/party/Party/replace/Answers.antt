use Rattle.std.proofs.Common.{◌≡◌, List, get_or, set, sym, ap, ◌∙◌}
use Rattle.censors.specs.declared.question.Reply.{Reply}
use Rattle.histories.specs.declared.data.Entry.{Entry}
use Rattle.histories.specs.Calls.{change}
use Rattle.tables.specs.Entries.{entries}
use Rattle.querybox.specs.Parties.{blank_entry}
use Rattle.querybox.proofs.Views.{change-set}
use Rattle.querybox.proofs.party.Party.replace.Goals as goal

abbrev replying : Reply → Entry → Entry
replying a e = record { question = e.question; reply = a }

pub returns : goal.returns
returns c =
    let es : List Entry = entries c.args.self.now.log in
    let said : entries c.replace.new.self ≡ change (replying c.args.reply) es c.args.place =
    c.replace.ensures ∙ ap (λ (xs : List Entry). set es c.args.place (replying c.args.reply (get_or xs c.args.place blank_entry))) c.as_slice.ensures
    ∙ sym (change-set (replying c.args.reply) es c.args.place blank_entry) in
    rw said
