-- What is kept of a counterparty, as the calls are defined over it.
use Rattle.std.specs.Prelude.{ℕ, Bool, List, [], replicate, None, slice_index_or}
use Rattle.std.proofs.Common.{zero-le}
use Rattle.std.proofs.lemmas.List.{length-replicate}
use Rattle.sheets.specs.declared.SheetSet.{SheetSet}
use Rattle.sentences.specs.Lists.{sets_of}
use Rattle.tables.specs.Entries.{entries}
use Rattle.censors.specs.declared.question.Decision.{Decision}
use Rattle.censors.specs.declared.question.Question.{Question}
use Rattle.censors.specs.declared.question.Reply.{Reply}
use Rattle.censors.specs.declared.question.Reply.TheVariants.{Said}
use Rattle.censors.specs.declared.question.Value.{Value}
use Rattle.censors.specs.declared.question.Value.TheVariants.{Yes}
use Rattle.censors.specs.Questions.{value_in}
use Rattle.histories.specs.declared.data.Entry.{Entry}
use Rattle.histories.specs.Calls.{House, Party, change}
use Rattle.querybox.specs.declared.party.Party.{Party as Stored}

abbrev pub party_of : Stored → Party
party_of x = record { start = x.start; secrets = sets_of x.secrets; log = entries x.log; known = x.known; pending = x.pending }

abbrev no_sheets : SheetSet
no_sheets = record { words = [] }

-- what a read past the end of an array gives
abbrev pub blank_entry : Entry
blank_entry = record { question = record { yes = no_sheets }; reply = Said Yes }

-- and one past the end of the table
abbrev pub blank : Stored
blank = record {
  start = no_sheets;
  secrets = record { sets = record { items = replicate 8 no_sheets; len = 0; within = zero-le; all = length-replicate 8 no_sheets } };
  log = record { items = replicate 64 blank_entry; len = 0; within = zero-le; all = length-replicate 64 blank_entry };
  known = no_sheets;
  pending = None;
  room = zero-le;
}

-- a censor alone: what is kept of a counterparty asks nothing else of the house
abbrev pub plain_house : (SheetSet → List SheetSet → Bool) → (SheetSet → List SheetSet → Question → Value → Decision)
    → (SheetSet → List SheetSet → Question → Reply → SheetSet) → House
plain_house good decided after = record { good = good; decided = decided; after = after; number = 0; names = []; rules = [] }

-- the record is again what the counterparty started from
abbrev pub restarted : Party → Party
restarted p = record { start = p.start; secrets = p.secrets; log = p.log; known = p.start; pending = p.pending }

-- the reply at a place and the record are replaced
abbrev pub replaced : ℕ → Reply → SheetSet → Party → Party
replaced i a k p = record {
  start = p.start;
  secrets = p.secrets;
  log = change (λ e. record { question = e.question; reply = a }) p.log i;
  known = k;
  pending = p.pending;
}

-- the question at a place is judged on the sheet s, from the record that stands
abbrev pub rejudged : House → ℕ → ℕ → Party → Party
rejudged h s i p =
    let q : Question = (slice_index_or p.log i blank_entry).question in
    let a : Reply = (h.decided p.known p.secrets q (value_in q s)).reply in
    replaced i a (h.after p.known p.secrets q a) p
