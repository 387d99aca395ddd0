-- The start tests of the censors that come with the library.
use Rattle.std.specs.Prelude.{Bool, not, List}
use Rattle.sheets.specs.declared.SheetSet.{SheetSet}
use Rattle.sheets.specs.Sets.{within_one, within_union}

-- no single secret contains the record
abbrev pub good_singly : SheetSet → List SheetSet → Bool
good_singly r xs = not (within_one r xs)

-- the secrets together do not contain the record
abbrev pub good_jointly : SheetSet → List SheetSet → Bool
good_jointly r xs = not (within_union r xs)
