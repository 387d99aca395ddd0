-- Places in a text.
use Rattle.std.specs.Prelude.{◌≡◌}
use Rattle.sentences.specs.declared.cursor.Cursor.{Cursor}

-- the second place is in the same text as the first, read over the same names
pub record SameText (c d : Cursor) : Type 0 where
  pub names : d.names.now ≡ c.names.now
  pub text : d.text.now ≡ c.text.now
