-- Every call is from a later place, or from the same place down the order sentence, clause, part.
use Rattle.std.proofs.Common.{◌+◌, ◌-◌, ◌*◌, length}
use Rattle.sentences.specs.Naming.{words}
use Rattle.sentences.specs.Reads.{ClauseSoFar, SentenceSoFar}
use Rattle.sentences.proofs.cursor.Cursor.+clause_part_sentence.Given as goal

abbrev pub decreases-sentence : goal.decreases-sentence
decreases-sentence l = 3 * (length l.self.now.text.now - l.self.now.at) + 2

abbrev pub decreases-clause : goal.decreases-clause
decreases-clause l = 3 * (length l.self.now.text.now - l.self.now.at) + 1

abbrev pub decreases-part : goal.decreases-part
decreases-part l = 3 * (length l.self.now.text.now - l.self.now.at)

abbrev pub invariant-clause-loop-found : goal.invariant-clause-loop-found
invariant-clause-loop-found l =
    ClauseSoFar (words l.self.names.now) l.self.text.now l.self.at l.so_far.sheets l.so_far.tokens l.so_far.after

abbrev pub decreases-clause-loop-found : goal.decreases-clause-loop-found
decreases-clause-loop-found l = length l.self.text.now - l.so_far.after

abbrev pub invariant-sentence-loop-found : goal.invariant-sentence-loop-found
invariant-sentence-loop-found l =
    SentenceSoFar (words l.self.names.now) l.self.text.now l.self.at l.so_far.sheets l.so_far.tokens l.so_far.after

abbrev pub decreases-sentence-loop-found : goal.decreases-sentence-loop-found
decreases-sentence-loop-found l = length l.self.text.now - l.so_far.after
