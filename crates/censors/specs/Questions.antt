-- The value of a question in a sheet, the sheets of a record in which it has a value, and the word for each reply.
use Rattle.std.specs.Prelude.{ℕ, Bool, true, false, cond, ◌&&◌, List, codes}
use Rattle.sheets.specs.declared.SheetSet.{SheetSet}
use Rattle.sheets.specs.Sets.{mem, set_of}
use Rattle.censors.specs.declared.question.Question.{Question}
use Rattle.censors.specs.declared.question.Reply.{Reply}
use Rattle.censors.specs.declared.question.Reply.TheVariants.{Said, Mum}
use Rattle.censors.specs.declared.question.Value.{Value}
use Rattle.censors.specs.declared.question.Value.TheVariants.{Yes, No}

abbrev pub question_of : SheetSet → Question
question_of x = record { yes = x }

unfoldable pub value_in : Question → ℕ → Value
value_in q s = cond (mem q.yes s) Yes No

abbrev pub same_value : Value → Value → Bool
same_value Yes Yes = true
same_value Yes No = false
same_value No Yes = false
same_value No No = true

-- the sheets of the record r in which the question has the value
unfoldable pub with_value : SheetSet → Question → Value → SheetSet
with_value r q v = set_of (λ s. mem r s && same_value (value_in q s) v)

-- the one table of replies: each with the word that it is written with
abbrev pub reply_word : Reply → List ℕ
reply_word (Said Yes) = codes "yes"
reply_word (Said No) = codes "no"
reply_word Mum = codes "mum"
