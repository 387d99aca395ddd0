-- A cut list is read by its block and its pairs alone.
use Rattle.std.proofs.Common.{◌≡◌, ℕ, ◌<◌, false, List, Result, Err, IsErrAnd, nat_eq, ap, sym, refl, arith, ◌∙◌}
use Rattle.std.proofs.lemmas.Bool.Decides.{nat_tests}
use Rattle.std.proofs.lemmas.Result.{err_from_is_err_and}
use Rattle.sentences.specs.declared.cuts.Cut.{Cut}
use Rattle.sentences.specs.declared.cuts.CutList.{CutList}
use Rattle.sentences.specs.declared.faults.ListKind.{ListKind}
use Rattle.sentences.specs.Cuts.{pairs_fault, first_bad_pair, pieces}
use Rattle.sentences.specs.Lists.{read_list}
use Rattle.sentences.specs.Names.{Word}
use Rattle.sentences.specs.Naming.{naming}
use Rattle.sentences.specs.declared.faults.ListFault.{ListFault}
use Rattle.report.specs.PieceLists.{cut_list, if_whole, or_refused}
use Rattle.report.specs.declared.lists.Unread.{Unread}
use Rattle.report.specs.declared.lists.Unread.TheVariants.{TooLarge, Refused}

module _ (x : CutList) {block : List ℕ} {cuts : List Cut} (same_block : x.block.now ≡ block) (same_cuts : x.cuts.now ≡ cuts) where
  pub naming_by_parts : naming x ≡ naming (cut_list block cuts)
  unfolding naming pairs_fault first_bad_pair pieces
  naming_by_parts = λ i. naming (cut_list (same_block i) (same_cuts i))

  pub read_list_by_parts : (names : List Word) (kind : ListKind) (least : ℕ) → read_list names kind least x ≡ read_list names kind least (cut_list block cuts)
  unfolding read_list pairs_fault first_bad_pair pieces
  read_list_by_parts names kind least = λ i. read_list names kind least (cut_list (same_block i) (same_cuts i))

-- What is read of a list, by whether pieces were left out of it, and by whether it has a fault.
module _ {R : Type 0} (n : ℕ) (read : Result R ListFault) where
  pub left_out_too_large : 0 < n → if_whole n read ≡ Err TooLarge
  left_out_too_large some = let no : nat_eq n 0 ≡ false = grind (arith, nat_tests) in rw no refl

  pub whole_or_refused : n ≡ 0 → if_whole n read ≡ or_refused read
  whole_or_refused none = rw none refl

  module _ {L : Type 0} (shown : Result L Unread → Result R Unread) (keeps : (why : Unread) → shown (Err why) ≡ Err why) (r : Result L Unread) where
    pub read_left_out : {why : Unread} → IsErrAnd r (λ y. y ≡ why) → why ≡ TooLarge → 0 < n → shown r ≡ if_whole n read
    read_left_out e large some = let p = err_from_is_err_and r e in rw (p.1, p.2) (keeps _ ∙ ap Err large ∙ sym (left_out_too_large some))

    pub read_refused : {fault : ListFault} → IsErrAnd r (λ y. y ≡ Refused fault) → Err fault ≡ read → n ≡ 0 → shown r ≡ if_whole n read
    read_refused e same none = let p = err_from_is_err_and r e in rw (p.1, p.2) (keeps _ ∙ ap or_refused same ∙ sym (whole_or_refused none))
