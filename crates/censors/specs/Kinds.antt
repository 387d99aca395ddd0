-- The start test, the table and the word of a censor that is chosen as the program runs.
use Rattle.std.specs.Prelude.{◌≡◌, ◌≢◌, ℕ, Bool, List, Result, MatchResult, codes}
use Rattle.sheets.specs.declared.SheetSet.{SheetSet}
use Rattle.censors.specs.declared.builtin.Builtin.{Builtin}
use Rattle.censors.specs.declared.builtin.Builtin.TheVariants.{Refusing, Lying, Combined}
use Rattle.censors.specs.declared.builtin.UnknownWord.{UnknownWord}
use Rattle.censors.specs.Builtin.{good_singly, good_jointly}
use Rattle.censors.specs.Tables.{Table, refusing, speaking}

abbrev pub good_of : Builtin → SheetSet → List SheetSet → Bool
good_of Refusing = good_singly
good_of Lying = good_jointly
good_of Combined = good_singly

abbrev pub table_of : Builtin → Table
table_of Refusing = refusing
table_of Lying = speaking
table_of Combined = speaking

-- the word that each censor is written with
abbrev pub builtin_word : Builtin → List ℕ
builtin_word Refusing = codes "refusing"
builtin_word Lying = codes "lying"
builtin_word Combined = codes "combined"

-- the censor with this word, or that none has it
abbrev pub NamedBy : List ℕ → Result Builtin UnknownWord → Type 0
NamedBy word r = MatchResult r (λ k. word ≡ builtin_word k) (λ _. (k : Builtin) → word ≢ builtin_word k)
