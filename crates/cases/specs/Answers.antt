-- What is answered in a case, by what the library's definitions give, and what is expected.
use Rattle.std.specs.Prelude.{List, length, Ok, Err, Result}
use Rattle.sentences.specs.declared.cuts.CutList.{CutList}
use Rattle.sentences.specs.declared.faults.ListFault.{ListFault}
use Rattle.sentences.specs.declared.faults.ListKind.{ListKind}
use Rattle.sentences.specs.declared.faults.ListKind.TheVariants as kind
use Rattle.sentences.specs.declared.faults.Returned.TheVariants.{Place, Index, Kind}
use Rattle.sentences.specs.Faults.{list_refusal, of_item, plain}
use Rattle.sentences.specs.Lists.{read_list}
use Rattle.sentences.specs.Names.{Word}
use Rattle.sentences.specs.Naming.{naming}
use Rattle.cases.specs.declared.answers.Answer.{Answer}
use Rattle.cases.specs.declared.answers.Answer.TheVariants as answer
use Rattle.cases.specs.declared.lists.Expected.{Expected}
use Rattle.cases.specs.declared.lists.Expected.TheVariants.{Accepted, BadCount, BadItem, BadSentence}

-- what is expected of a list, as the answer that it asks for
abbrev pub expected_answer : Expected → Answer
expected_answer (Accepted n) = answer.Accepted n
expected_answer (BadCount k) = answer.Refused (plain 7 (Kind k))
expected_answer (BadItem n i) = answer.Refused (plain n (Index i))
expected_answer (BadSentence n i p) = answer.Refused (of_item i (plain n (Place p)))

-- how many items an accepted list has, or why it is refused
abbrev pub counted : {A : Type 0} → Result (List A) ListFault → Answer
counted (Ok xs) = answer.Accepted (length xs)
counted (Err f) = answer.Refused (list_refusal f)

-- the answer to a list of each kind: of names, of none to eight house rules, of one to eight secrets
abbrev pub list_answer : List Word → ListKind → CutList → Answer
list_answer ns kind.Names x = counted (naming x)
list_answer ns kind.HouseRules x = counted (read_list ns kind.HouseRules 0 x)
list_answer ns kind.Secrets x = counted (read_list ns kind.Secrets 1 x)
