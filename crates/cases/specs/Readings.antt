-- What is answered to a sentence, by what it is read as.
use Rattle.std.specs.Prelude.{◌≡◌, Ok, Err, Result, vec_items}
use Rattle.sheets.specs.Passing.{passing}
use Rattle.sheets.specs.Sets.{mem}
use Rattle.sentences.specs.declared.faults.SentenceFault.{SentenceFault}
use Rattle.sentences.specs.declared.reading.Meaning.{Meaning}
use Rattle.sentences.specs.declared.faults.Returned.TheVariants.{Place}
use Rattle.sentences.specs.Faults.{plain, sentence_refusal}
use Rattle.cases.specs.declared.answers.Answer.{Answer}
use Rattle.cases.specs.declared.answers.Answer.TheVariants as answer
use Rattle.cases.specs.declared.readings.Reading.{Reading}
use Rattle.cases.specs.declared.readings.Reading.TheVariants.{Sentence, Refused}

-- an answer with all members of a sentence's set and with the number of its tokens, or with the refusal of its fault
abbrev pub AnswersReading : Result Meaning SentenceFault → Answer → Type 0
AnswersReading (Ok m) (answer.Meaning v n) = (vec_items v ≡ passing (mem m.sheets) 256) × (n ≡ m.tokens)
AnswersReading (Ok m) (answer.Count n) = ⊥
AnswersReading (Ok m) (answer.Accepted n) = ⊥
AnswersReading (Ok m) (answer.Refused r) = ⊥
AnswersReading (Ok m) (answer.BadPair p) = ⊥
AnswersReading (Err f) a = a ≡ answer.Refused (sentence_refusal f)

-- the answer that a text asks for by what it is expected to be read as
abbrev pub AnswersExpected : Reading → Answer → Type 0
AnswersExpected (Sentence sheets n) (answer.Meaning v m) = (vec_items v ≡ sheets.now) × (m ≡ n)
AnswersExpected (Sentence sheets n) (answer.Count m) = ⊥
AnswersExpected (Sentence sheets n) (answer.Accepted m) = ⊥
AnswersExpected (Sentence sheets n) (answer.Refused r) = ⊥
AnswersExpected (Sentence sheets n) (answer.BadPair p) = ⊥
AnswersExpected (Refused number place) a = a ≡ answer.Refused (plain number (Place place))
