-- Names that were read from a list are its pieces.
use Rattle.std.proofs.Common.{◌≡◌, ℕ, List, map, Option, Some, None, Result, Ok, Err, IfOk, IsErrAnd, MatchResult, sym, subst, refl, ◌∙◌}
use Rattle.std.proofs.lemmas.Result.{err_from_is_err_and}
use Rattle.sentences.specs.declared.cuts.Cut.{Cut}
use Rattle.sentences.specs.declared.cuts.CutList.{CutList}
use Rattle.sentences.specs.declared.faults.ListFault.{ListFault}
use Rattle.sentences.specs.declared.faults.ListKind.TheVariants as kind
use Rattle.sentences.specs.Cuts.{pairs_fault, piece, pieces, unless}
use Rattle.sentences.specs.Names.{Word, first_bad_name}
use Rattle.sentences.specs.Naming.{at_name, naming}
use Rattle.pieces.specs.Held.{Holds}

unless_ok : (o : Option ListFault) (ws : List Word) (next : Result (List Word) ListFault) → Ok ws ≡ unless o next → Ok ws ≡ next
unless_ok (Some f) ws next e = cc
unless_ok None ws next e = e

naming_ok : (x : CutList) (ws : List Word) → Ok ws ≡ naming x → ws ≡ map (piece x.block.now) x.cuts.now
unfolding naming pieces
naming_ok x ws e =
    let inner : Ok ws ≡ unless (at_name (first_bad_name (pieces x))) (Ok (pieces x)) = unless_ok (pairs_fault kind.Names 1 x) ws (unless (at_name (first_bad_name (pieces x))) (Ok (pieces x))) e in
    let whole : Result (List Word) ListFault = Ok (pieces x) in
    let same : Ok ws ≡ whole = unless_ok (at_name (first_bad_name (pieces x))) ws whole inner in
    cc

pub named_as : (x : CutList) (ws : List Word) (block : List ℕ) (cuts : List Cut) (texts : List (List ℕ)) → Ok ws ≡ naming x → x.block.now ≡ block → x.cuts.now ≡ cuts → Holds block cuts texts → ws ≡ texts
named_as x ws block cuts texts e eb ec h =
    let read : ws ≡ map (piece x.block.now) x.cuts.now = naming_ok x ws e in
    read ∙ rw (eb, ec) h.pieces_are

-- a value that is handed on keeps what holds of it, whatever a fault is turned into
pub if_kept : {T E D : Type 0} (P : T → Type 0) (Q : E → D → Type 0) (read : Result T E) (r : Result T D) → MatchResult read (λ x. r ≡ Ok x) (λ e. IsErrAnd r (Q e)) → ((x : T) → read ≡ Ok x → P x) → IfOk r P
if_kept P Q (Ok x) r kept f = subst (λ r. IfOk r P) (sym kept) (f x refl)
if_kept P Q (Err e) r turned f = let y = err_from_is_err_and r turned in subst (λ r. IfOk r P) (sym y.1) (record {})
