-- Lists of sentences, and what each is read as.
use Rattle.std.specs.Prelude.{ℕ, ◌+◌, List, [], ◌∷◌, ◌++◌, Ok, Err, Result}
use Rattle.tables.specs.Entries.{entries}
use Rattle.sheets.specs.declared.SheetSet.{SheetSet}
use Rattle.sentences.specs.declared.cuts.CutList.{CutList}
use Rattle.sentences.specs.declared.faults.ListFault.{ListFault}
use Rattle.sentences.specs.declared.faults.ListFault.TheVariants.{Sentence}
use Rattle.sentences.specs.declared.faults.ListKind.{ListKind}
use Rattle.sentences.specs.declared.faults.SentenceFault.{SentenceFault}
use Rattle.sentences.specs.declared.reading.Meaning.{Meaning}
use Rattle.sentences.specs.declared.lists.SentenceList.{SentenceList}
use Rattle.sentences.specs.Cuts.{pairs_fault, pieces, unless}
use Rattle.sentences.specs.Machine.{reading}
use Rattle.sentences.specs.Names.{Word}

-- the sets of some sentences in front of those of the others
abbrev pub in_front : List SheetSet → Result (List SheetSet) ListFault → Result (List SheetSet) ListFault
in_front xs (Ok ys) = Ok (xs ++ ys)
in_front xs (Err f) = Err f

-- the sentence i, and the sentences after it: the first fault is carried whole, beside the index
abbrev pub and_then : ℕ → Result Meaning SentenceFault → Result (List SheetSet) ListFault → Result (List SheetSet) ListFault
and_then i (Ok m) rest = in_front (m.sheets ∷ []) rest
and_then i (Err f) rest = Err (Sentence i f)

unfoldable pub read_from : List Word → ℕ → List (List ℕ) → Result (List SheetSet) ListFault
read_from ns i [] = Ok []
read_from ns i (t ∷ ts) = and_then i (reading ns t) (read_from ns (i + 1) ts)

-- the sets of the sentences of a list with at least `least` of them, or its first fault: the number of sentences, then the pairs, then each sentence in order
unfoldable pub read_list : List Word → ListKind → ℕ → CutList → Result (List SheetSet) ListFault
read_list ns k least x = unless (pairs_fault k least x) (read_from ns 0 (pieces x))

abbrev pub sets_of : SentenceList → List SheetSet
sets_of x = entries x.sets

-- what reading a list of sentences gives, by the sets
abbrev pub sets_read : Result SentenceList ListFault → Result (List SheetSet) ListFault
sets_read (Ok x) = Ok (sets_of x)
sets_read (Err f) = Err f
