use Rattle.std.proofs.Common.{◌≡◌, map, subst}
use Rattle.std.proofs.lemmas.Option.{MatchOption-at_some}
use Rattle.sentences.specs.Naming.{naming, named, words}
use Rattle.cases.proofs.Named.{if_kept, named_as}
use Rattle.cases.proofs.lists.names_of.Goals as goal

pub returns : goal.returns
returns c =
    let list = c.in_ok-list.list in
    let some = c.in_ok-list.ensures in
    let block = MatchOption-at_some _ _ list some c.list.ensures.block in
    let cuts = MatchOption-at_some _ _ list some c.list.ensures.cuts in
    let whole = MatchOption-at_some _ _ list some c.list.ensures.whole in
    if_kept (λ r. words r ≡ map (λ p. p.now) c.args.names.now) _ c.parse.result c.map_err.result c.map_err.ensures.cases (λ ns e. named_as list (words ns) c.in_ok-pieces.pieces.block.items c.in_ok-pieces.pieces.cuts.items _ (subst (λ r. named r ≡ naming list) e c.parse.ensures) block cuts (c.in_ok-pieces.ensures.held whole))
