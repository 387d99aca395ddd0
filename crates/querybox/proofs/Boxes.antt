-- What holds of the names of every box.
use Rattle.std.proofs.Common.{◌≡◌, ℕ, ◌≤◌, length, arith}
use Rattle.sentences.specs.declared.names.Names.{Names}
use Rattle.sentences.specs.Naming.{words}
use Rattle.sentences.proofs.WordLists.{words-few}

pub few_facts : (x : Names) (n : ℕ) → n ≡ length (words x) → n ≤ 8
few_facts x n e = omega (arith, words-few x)
