use Rattle.std.proofs.Common.{refl}
use Rattle.std.specs.Option.{ghost_name_of as name_of}
use Rattle.querybox.specs.Entries.{with_entry}
use Rattle.querybox.proofs.Lending.{same_inner, read_same}
use Rattle.querybox.proofs.inner.Inner.lend.Goals as goal

pub returns : goal.returns
returns g c = (
  read_same (name_of c.lend.result) _ (with_entry c.args.self.now c.args.p) _ c.args.self.now (λ w. same_inner _ _ refl refl) (same_inner _ _ refl refl),
  record { ends = tt; is = c.lend.ensures.is },
)
