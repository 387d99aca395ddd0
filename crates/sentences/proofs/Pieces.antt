-- The pieces of a cut list whose pairs have passed their tests.
use Rattle.std.proofs.Common.{◌≡◌, ℕ, ◌<◌, ◌≤◌, Bool, true, false, cond, ltb, [], length, get_or, Some, None, Ok, Err, Option, refl, arith}
use Rattle.std.proofs.lemmas.List.{length-map, get_or-map}
use Rattle.std.proofs.lemmas.Bool.{and_parts, or_parts, leb-true, ltb-false}
use Rattle.sentences.specs.declared.cuts.Cut.{Cut}
use Rattle.sentences.specs.declared.cuts.CutList.{CutList}
use Rattle.sentences.specs.declared.faults.ListFault.{ListFault}
use Rattle.sentences.specs.declared.faults.ListKind.{ListKind}
use Rattle.sentences.specs.Cuts.{no_cut, end_of, front_end, bad_pair, first_bad_pair, piece, pieces, at_pair, pairs_fault, unless}
use Rattle.sentences.proofs.Searches.{none-at}

-- what the test of the list itself answers
pub passed : (o : Option ListFault) → Ok tt ≡ unless {R = Unit {0}} o (Ok tt) → o ≡ None
passed None e = refl
passed (Some f) e = let z : ◌≡◌ {A = ℕ} 0 1 = cc in absurd (omega arith)

pub failed : (o : Option ListFault) (f : ListFault) → Err f ≡ unless {R = Unit {0}} o (Ok tt) → o ≡ Some f
failed None f e = let z : ◌≡◌ {A = ℕ} 0 1 = cc in absurd (omega arith)
failed (Some h) f e = cc

module _ (x : CutList) where
  pub pieces-length : length (pieces x) ≡ length x.cuts.now
  unfolding pieces
  pieces-length = length-map x.cuts.now (piece x.block.now)

  pub piece-at : (i : ℕ) → i < length x.cuts.now → get_or (pieces x) i [] ≡ piece x.block.now (get_or x.cuts.now i no_cut)
  unfolding pieces
  piece-at i h = get_or-map (piece x.block.now) x.cuts.now i no_cut [] h

  -- what a list without a fault of its own is like
  pub record Sound (least : ℕ) : Type 0 where
    pub enough : least ≤ length x.cuts.now
    pub few : length x.cuts.now ≤ 8
    pub inside : (i : ℕ) → i < length x.cuts.now → end_of (get_or x.cuts.now i no_cut) ≤ length x.block.now

  counted : (least : ℕ) (b : Bool) (k : ListFault) (o : Option ListFault) → cond b o (Some k) ≡ None → (b ≡ true) × (o ≡ None)
  counted least true k o e = (refl, e)
  counted least false k o e = let z : ◌≡◌ {A = ℕ} 0 1 = cc in absurd (omega arith)

  no-pair : (o : Option ℕ) → at_pair o ≡ None → o ≡ None
  no-pair (Some i) e = let z : ◌≡◌ {A = ℕ} 0 1 = cc in absurd (omega arith)
  no-pair None e = refl

  pub sound : (k : ListKind) (least : ℕ) → pairs_fault k least x ≡ None → Sound least
  unfolding pairs_fault first_bad_pair bad_pair
  sound k least e =
      let b = counted least _ _ _ e in
      let n = and_parts _ _ b.0 in
      record {
        enough = leb-true _ _ n.0;
        few = leb-true _ _ n.1;
        inside = λ i h.
            let c : Cut = get_or x.cuts.now i no_cut in
            ltb-false _ _ (or_parts (ltb c.offset (front_end x.cuts.now i)) (ltb (length x.block.now) (end_of c)) (none-at _ _ (no-pair _ b.1) i h)).1;
      }
