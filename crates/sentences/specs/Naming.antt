-- The names that a box holds, and what a list of them is read as.
use Rattle.std.specs.Prelude.{ℕ, List, Some, None, Ok, Err, Option, Result}
use Rattle.tables.specs.Entries.{entries}
use Rattle.sentences.specs.declared.cuts.CutList.{CutList}
use Rattle.sentences.specs.declared.faults.ListFault.{ListFault}
use Rattle.sentences.specs.declared.faults.ListFault.TheVariants.{BadName}
use Rattle.sentences.specs.declared.faults.ListKind.TheVariants as kind
use Rattle.sentences.specs.declared.names.Names.{Names}
use Rattle.sentences.specs.Cuts.{pairs_fault, pieces, unless}
use Rattle.sentences.specs.Names.{Word, words_of, first_bad_name}

abbrev pub words : Names → List Word
words x = words_of (entries x.names)

abbrev pub at_name : Option ℕ → Option ListFault
at_name (Some i) = Some (BadName i)
at_name None = None

-- the words that a list of names holds, or its first fault: the number of names, then the pairs, then each name in order
unfoldable pub naming : CutList → Result (List Word) ListFault
naming x = unless (pairs_fault kind.Names 1 x) (unless (at_name (first_bad_name (pieces x))) (Ok (pieces x)))

-- what reading a list of names gives, by its words
abbrev pub named : Result Names ListFault → Result (List Word) ListFault
named (Ok x) = Ok (words x)
named (Err f) = Err f
