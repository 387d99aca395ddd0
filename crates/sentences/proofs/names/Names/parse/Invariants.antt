use Rattle.tables.specs.Entries.{entries}
use Rattle.sentences.proofs.NameLists.{Collected}
use Rattle.sentences.proofs.names.Names.parse.Given as goal

abbrev pub invariant-loop-index : goal.invariant-loop-index
invariant-loop-index l = Collected l.list (entries l.names) l.index
