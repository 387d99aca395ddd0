-- The reasons that the refusals give, in plain words.
use Rattle.std.specs.Prelude.{ℕ, List, codes}
use Rattle.sentences.specs.declared.faults.SentenceFault.{SentenceFault}
use Rattle.sentences.specs.declared.faults.SentenceFault.TheVariants.{TooLong, Stray, Unknown, Misfit}
use Rattle.sentences.specs.declared.faults.ListFault.{ListFault}
use Rattle.sentences.specs.declared.faults.ListFault.TheVariants.{Count, BadPair, BadName, Sentence}

-- why a sentence is refused
abbrev pub sentence_reason : SentenceFault → List ℕ
sentence_reason TooLong = codes "the text has more than 256 bytes"
sentence_reason (Stray p) = codes "a byte that belongs to no token"
sentence_reason (Unknown p) = codes "a word that is no name"
sentence_reason (Misfit p) = codes "a token, or the end of the text, that does not fit"

-- why a list is refused: a refused sentence gives its own reason
abbrev pub list_reason : ListFault → List ℕ
list_reason (Count k) = codes "too few or too many items"
list_reason (BadPair i) = codes "a pair that reaches past the block or into the pair before it"
list_reason (BadName i) = codes "a name that is misspelled or was there before"
list_reason (Sentence i f) = sentence_reason f
