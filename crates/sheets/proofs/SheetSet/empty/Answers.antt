use Rattle.std.proofs.Common.{refl}
use Rattle.sheets.specs.Sets.{digits, set_of}
use Rattle.sheets.proofs.SheetSet.empty.Goals as goal

pub returns : goal.returns
unfolding set_of digits
returns c = refl
