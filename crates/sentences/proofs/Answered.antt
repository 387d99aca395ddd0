-- What follows for a box's names from the equation with the machine's reading.
use Rattle.std.proofs.Common.{◌≡◌, ℕ, ◌≤◌, List, length, Result, sym, ◌∙◌, subst, arith}
use Rattle.tables.specs.Entries.{entries}
use Rattle.sentences.specs.declared.faults.SentenceFault.{SentenceFault}
use Rattle.sentences.specs.declared.names.Names.{Names}
use Rattle.sentences.specs.declared.reading.Meaning.{Meaning}
use Rattle.sentences.specs.Machine.{reading}
use Rattle.sentences.specs.Naming.{words}
use Rattle.sentences.specs.Reading.{Answers, Exactly}
use Rattle.sentences.proofs.Exact.{answered, only}
use Rattle.sentences.proofs.WordLists.{words-length}

pub exactly : (x : Names) (s : List ℕ) (r : Result Meaning SentenceFault) → r ≡ reading (words x) s → Exactly (words x) s r
exactly x s r e =
    let some : 1 ≤ length (words x) = omega (arith, x.some, words-length (entries x.names)) in
    record {
      answers = subst (Answers (words x) s) (sym e) (answered (words x) s some);
      only = λ y a. only (words x) s some y a ∙ sym e;
    }
