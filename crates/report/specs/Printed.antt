-- What is printed: texts in columns, and the censors in their order.
use Rattle.std.specs.Prelude.{ℕ, List, [], ◌∷◌, length, min}
use Rattle.censors.specs.declared.builtin.Builtin.{Builtin}
use Rattle.censors.specs.declared.builtin.Builtin.TheVariants.{Refusing, Lying, Combined}

-- the columns that a text takes as it is shown: one for each byte that fits a sentence
abbrev pub columns : List ℕ → ℕ
columns text = min (length text) 256

-- each censor that a box can have, in the order of the report
abbrev pub all_censors : List Builtin
all_censors = Refusing ∷ Lying ∷ Combined ∷ []
