use Rattle.std.proofs.Common.{◌≡◌, ℕ, List, Ok, Err, Result, refl, sym, ap, ◌∙◌, arith}
use Rattle.std.specs.Result.{IsOk}
use Rattle.sentences.specs.declared.faults.ListFault.{ListFault}
use Rattle.sentences.specs.declared.names.Names.{Names}
use Rattle.sentences.specs.Cuts.{bad_pair, first_bad_pair, pieces, pairs_fault}
use Rattle.sentences.specs.Names.{Word, fact_of, is_name, unfit, first_bad_name}
use Rattle.sentences.specs.Naming.{words, naming, named}
use Rattle.sentences.specs.Search.{first}
use Rattle.worked.proofs.names.Goals as goal

-- a list with a reading has names
accepted : (r : Result Names ListFault) {ws : List Word} → named r ≡ Ok ws → IsOk r
accepted (Ok x) e = refl
accepted (Err f) e = let z : ◌≡◌ {A = ℕ} 0 1 = cc in absurd (omega arith)

held : {r : Result Names ListFault} {x : Names} {ws : List Word} → named r ≡ Ok ws → r ≡ Ok x → words x ≡ ws
held {x = x} {ws = ws} e f = let same : ◌≡◌ {A = Result (List Word) ListFault} (Ok (words x)) (Ok ws) = sym (ap named f) ∙ e in cc

pub unwrap-requires : goal.unwrap-requires
unfolding naming pairs_fault first_bad_pair bad_pair pieces first_bad_name unfit is_name fact_of first
unwrap-requires c = accepted c.parse.result c.parse.ensures

pub returns : goal.returns
unfolding naming pairs_fault first_bad_pair bad_pair pieces first_bad_name unfit is_name fact_of first
returns c = held c.parse.ensures c.unwrap.ensures
