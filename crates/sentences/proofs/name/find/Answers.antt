use Rattle.std.proofs.Common.{sym, ◌∙◌, rules, tests}
use Rattle.std.proofs.lemmas.Iterator.{YieldsList-from_slice}
use Rattle.std.proofs.lemmas.Iterator.Search.{position_from_yields_List}
use Rattle.std.specs.Str.{bytes_eq}
use Rattle.sentences.specs.Names.{spelling}
use Rattle.sentences.proofs.WordLists.{fact-position}
use Rattle.sentences.proofs.name.find.Goals as goal

pub returns : goal.returns
returns c =
    position_from_yields_List (λ x. bytes_eq (spelling x) c.args.word.now) _ _ c.position.result c.position.ensures.ran
    (YieldsList-from_slice c.args.names.now (cc)) (λ x b q k. search (rules, tests))
    ∙ sym (fact-position c.args.names.now c.args.word.now)
