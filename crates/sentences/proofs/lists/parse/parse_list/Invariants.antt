use Rattle.tables.specs.Entries.{entries}
use Rattle.sentences.specs.Naming.{words}
use Rattle.sentences.proofs.SentenceLists.{Gathered}
use Rattle.sentences.proofs.lists.parse.parse_list.Given as goal

abbrev pub invariant-loop-index : goal.invariant-loop-index
invariant-loop-index l = Gathered (words l.names) l.list (entries l.sets) l.index-counter
