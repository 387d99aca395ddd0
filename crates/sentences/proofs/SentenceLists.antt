-- Sentences read from a list one after the other.
use Rattle.std.proofs.Common.{◌≡◌, ℕ, ◌+◌, ◌<◌, ◌≤◌, List, [], ◌∷◌, ◌++◌, length, get_or, take, drop, Some, None, Ok, Err, Option, Result, sym, refl, ap, ◌∙◌, ap₂, append_assoc, append-nil, arith}
use Rattle.std.proofs.lemmas.List.{take_all, length-append, at_drop_more, at_drop_all}
use Rattle.sheets.specs.declared.SheetSet.{SheetSet}
use Rattle.sentences.specs.declared.cuts.CutList.{CutList}
use Rattle.sentences.specs.declared.faults.ListFault.{ListFault}
use Rattle.sentences.specs.declared.faults.ListFault.TheVariants.{Sentence}
use Rattle.sentences.specs.declared.faults.ListKind.{ListKind}
use Rattle.sentences.specs.declared.faults.SentenceFault.{SentenceFault}
use Rattle.sentences.specs.declared.reading.Meaning.{Meaning}
use Rattle.sentences.specs.Cuts.{no_cut, piece, pieces, pairs_fault, unless}
use Rattle.sentences.specs.Lists.{in_front, and_then, read_from, read_list}
use Rattle.sentences.specs.Machine.{reading}
use Rattle.sentences.specs.Names.{Word}
use Rattle.sentences.proofs.Pieces.{pieces-length, piece-at}

-- sets put in front twice are put in front once
in_front_is : (xs : List SheetSet) (y : SheetSet) (r : Result (List SheetSet) ListFault) → in_front xs (in_front (y ∷ []) r) ≡ in_front (xs ++ y ∷ []) r
in_front_is xs y (Ok zs) = ap Ok (sym (append_assoc xs (y ∷ []) zs))
in_front_is xs y (Err f) = refl

-- nothing in front
none_in_front : (r : Result (List SheetSet) ListFault) → r ≡ in_front [] r
none_in_front (Ok ys) = refl
none_in_front (Err f) = refl

module _ (ns : List Word) (x : CutList) where
  -- the sets of the first i sentences are gathered, and the others are still to be read
  pub record Gathered (xs : List SheetSet) (i : ℕ) : Type 0 where
    pub count : length xs ≡ i
    pub rest : read_from ns 0 (pieces x) ≡ in_front xs (read_from ns i (drop i (pieces x)))

  pub gathered-none : Gathered [] 0
  gathered-none = record { count = refl; rest = none_in_front (read_from ns 0 (pieces x)) }

  module _ {xs : List SheetSet} {i : ℕ} (g : Gathered xs i) (h : i < length x.cuts.now) (t : List ℕ) (is : t ≡ piece x.block.now (get_or x.cuts.now i no_cut)) where
    -- the sentence i is read next
    next : read_from ns 0 (pieces x) ≡ in_front xs (and_then i (reading ns t) (read_from ns (i + 1) (drop (i + 1) (pieces x))))
    unfolding read_from
    next =
        g.rest
        ∙ ap (in_front xs) (at_drop_more (read_from ns i) (pieces x) i [] (omega (arith, pieces-length x))
        ∙ ap (λ (u : List ℕ). and_then i (reading ns u) (read_from ns (i + 1) (drop (i + 1) (pieces x)))) (piece-at x i h ∙ sym is))

    pub gathered-more : (m : Meaning) → i < 8 → Ok m ≡ reading ns t → Gathered (take 8 (xs ++ m.sheets ∷ [])) (i + 1)
    gathered-more m l e =
        let added : length (xs ++ m.sheets ∷ []) ≡ i + 1 = omega (arith, length-append xs (m.sheets ∷ []), g.count) in
        let whole = take_all 8 (xs ++ m.sheets ∷ []) (omega (arith, added)) in
        record {
          count = ap length whole ∙ added;
          rest = next
              ∙ ap (λ (r : Result Meaning SentenceFault). in_front xs (and_then i r (read_from ns (i + 1) (drop (i + 1) (pieces x))))) (sym e)
              ∙ in_front_is xs m.sheets (read_from ns (i + 1) (drop (i + 1) (pieces x)))
              ∙ ap (λ (ys : List SheetSet). in_front ys (read_from ns (i + 1) (drop (i + 1) (pieces x)))) (sym whole);
        }

    pub gathered-bad : (k : ListKind) (least : ℕ) (f : SentenceFault) → pairs_fault k least x ≡ None → Err f ≡ reading ns t → read_list ns k least x ≡ Err (Sentence i f)
    unfolding read_list
    gathered-bad k least f p e =
        ap₂ (λ (o : Option ListFault) (r : Result (List SheetSet) ListFault). unless o r) p
        (next ∙ ap (λ (r : Result Meaning SentenceFault). in_front xs (and_then i r (read_from ns (i + 1) (drop (i + 1) (pieces x))))) (sym e))

  pub gathered-all : {xs : List SheetSet} {i : ℕ} (k : ListKind) (least : ℕ) → Gathered xs i → i ≡ length x.cuts.now → pairs_fault k least x ≡ None → read_list ns k least x ≡ Ok xs
  unfolding read_list read_from
  gathered-all {xs} {i} k least g h p =
      let past : length (pieces x) ≤ i = omega (arith, pieces-length x) in
      ap₂ (λ (o : Option ListFault) (r : Result (List SheetSet) ListFault). unless o r) p
      (g.rest ∙ ap (in_front xs) (at_drop_all (read_from ns i) (pieces x) i past) ∙ ap Ok (append-nil xs))

  pub list-fault : (k : ListKind) (least : ℕ) {f : ListFault} → pairs_fault k least x ≡ Some f → read_list ns k least x ≡ Err f
  unfolding read_list
  list-fault k least e = ap (λ (o : Option ListFault). unless o (read_from ns 0 (pieces x))) e
