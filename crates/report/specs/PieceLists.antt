-- What the pieces of a list are read as.
use Rattle.std.specs.Prelude.{ℕ, cond, List, Ok, Err, Result, nat_eq}
use Rattle.sheets.specs.declared.SheetSet.{SheetSet}
use Rattle.sentences.specs.declared.cuts.Cut.{Cut}
use Rattle.sentences.specs.declared.cuts.CutList.{CutList}
use Rattle.sentences.specs.declared.faults.ListFault.{ListFault}
use Rattle.sentences.specs.declared.lists.SentenceList.{SentenceList}
use Rattle.sentences.specs.declared.names.Names.{Names}
use Rattle.sentences.specs.Lists.{sets_of}
use Rattle.sentences.specs.Names.{Word}
use Rattle.sentences.specs.Naming.{words}
use Rattle.report.specs.declared.lists.Unread.{Unread}
use Rattle.report.specs.declared.lists.Unread.TheVariants.{TooLarge, Refused}

-- the cut list of a block and its pairs: where these lie plays no part
abbrev pub cut_list : List ℕ → List Cut → CutList
cut_list block cuts = record { block = record { ref_ptr = (0, 0); now = block }; cuts = record { ref_ptr = (0, 0); now = cuts } }

-- a fault of the list is why it is not read
abbrev pub or_refused : {R : Type 0} → Result R ListFault → Result R Unread
or_refused (Ok x) = Ok x
or_refused (Err fault) = Err (Refused fault)

-- what is read of a list, unless pieces were left out of it
abbrev pub if_whole : {R : Type 0} → ℕ → Result R ListFault → Result R Unread
if_whole left_out read = cond (nat_eq left_out 0) (or_refused read) (Err TooLarge)

-- what reading pieces as names gives, by the words
abbrev pub words_read : Result Names Unread → Result (List Word) Unread
words_read (Ok names) = Ok (words names)
words_read (Err why) = Err why

-- what reading pieces as sentences gives, by the sets
abbrev pub sets_read : Result SentenceList Unread → Result (List SheetSet) Unread
sets_read (Ok list) = Ok (sets_of list)
sets_read (Err why) = Err why
