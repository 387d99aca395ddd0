-- Notes written into a slice.
use Rattle.std.specs.Prelude.{◌≡◌, ℕ, ◌+◌, cond, List, [], ◌∷◌, ◌++◌, length, take, drop}
use Rattle.censors.specs.declared.question.Reply.{Reply}
use Rattle.histories.specs.declared.data.Note.{Note}
use Rattle.histories.specs.Calls.{differs}

-- the notes ns were written from n on, up to r, and all else is as it was
pub record Written (old : List Note) (n : ℕ) (ns : List Note) (r : ℕ) (new : List Note) : Type 0 where
  pub count : r ≡ n + length ns
  pub front : take r new ≡ take n old ++ ns
  pub rest : drop r new ≡ drop r old

-- a note alone, if its reply differs from the old one
abbrev pub note_on : Reply → Note → List Note
note_on a x = cond (differs a x.reply) (x ∷ []) []
