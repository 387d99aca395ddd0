-- The table of refusals: each fault with its number and what it returns.
use Rattle.std.specs.Prelude.{ℕ, List, Some, None, codes}
use Rattle.sentences.specs.declared.faults.SentenceFault.{SentenceFault}
use Rattle.sentences.specs.declared.faults.SentenceFault.TheVariants.{TooLong, Stray, Unknown, Misfit}
use Rattle.sentences.specs.declared.faults.ListFault.{ListFault}
use Rattle.sentences.specs.declared.faults.ListFault.TheVariants.{Count, BadPair, BadName, Sentence}
use Rattle.sentences.specs.declared.faults.ListKind.{ListKind}
use Rattle.sentences.specs.declared.faults.ListKind.TheVariants.{Names, HouseRules, Secrets}
use Rattle.sentences.specs.declared.faults.Returned.{Returned}
use Rattle.sentences.specs.declared.faults.Returned.TheVariants.{Place, Index, Kind}
use Rattle.sentences.specs.declared.faults.Refusal.{Refusal}

-- a refusal that is about no item of a list
abbrev pub plain : ℕ → Returned → Refusal
plain n r = record { number = n; item = None; returned = r }

-- the refusal of the item with index i
abbrev pub of_item : ℕ → Refusal → Refusal
of_item i x = record { number = x.number; item = Some i; returned = x.returned }

abbrev pub sentence_refusal : SentenceFault → Refusal
sentence_refusal TooLong = plain 1 (Place 256)
sentence_refusal (Stray p) = plain 2 (Place p)
sentence_refusal (Unknown p) = plain 3 (Place p)
sentence_refusal (Misfit p) = plain 4 (Place p)

abbrev pub list_refusal : ListFault → Refusal
list_refusal (BadPair i) = plain 5 (Index i)
list_refusal (BadName i) = plain 6 (Index i)
list_refusal (Count k) = plain 7 (Kind k)
list_refusal (Sentence i f) = of_item i (sentence_refusal f)

-- each kind of list with the word that it is written with
abbrev pub kind_word : ListKind → List ℕ
kind_word Names = codes "names"
kind_word HouseRules = codes "house rules"
kind_word Secrets = codes "secrets"
