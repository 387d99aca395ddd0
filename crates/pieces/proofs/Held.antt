-- A block with its pairs, as a piece is put at its end.
use Rattle.std.proofs.Common.{◌≡◌, ℕ, zero, suc, ◌+◌, ◌<◌, ◌≤◌, List, [], ◌∷◌, ◌++◌, length, map, take, drop, get_or, refl, sym, ap, ◌∙◌, arith, length-append, length-drop}
use Rattle.std.proofs.lemmas.List.{map-append, take-append-le, drop-append-le, take_more}
use Rattle.std.proofs.Math.Seq.{drop-append_seam, take-length}
use Rattle.sentences.specs.declared.cuts.Cut.{Cut}
use Rattle.sentences.specs.Cuts.{end_of, no_cut, piece}
use Rattle.pieces.specs.Held.{Holds}

piece_grows : (block w : List ℕ) (c : Cut) → end_of c ≤ length block → piece (block ++ w) c ≡ piece block c
piece_grows block w c h =
    let first : c.offset ≤ length block = omega arith in
    let fits : c.len ≤ length (drop c.offset block) = omega (arith, length-drop c.offset block) in
    ap (take c.len) (drop-append-le c.offset block w first) ∙ take-append-le c.len (drop c.offset block) w fits

pieces_grow : (block w : List ℕ) (cs : List Cut) → ((k : ℕ) → end_of (get_or cs k no_cut) ≤ length block) → map (piece (block ++ w)) cs ≡ map (piece block) cs
pieces_grow block w [] h = refl
pieces_grow block w (c ∷ cs) h =
    let one : piece (block ++ w) c ≡ piece block c = piece_grows block w c (h 0) in
    let more : map (piece (block ++ w)) cs ≡ map (piece block) cs = pieces_grow block w cs (λ k. h (suc k)) in
    ap (λ (x : List ℕ). x ∷ map (piece (block ++ w)) cs) one ∙ ap (λ (xs : List (List ℕ)). piece block c ∷ xs) more

inside_more : (cs : List Cut) (c : Cut) (n m : ℕ) → n ≤ m → ((k : ℕ) → end_of (get_or cs k no_cut) ≤ n) → end_of c ≤ m → (k : ℕ) → end_of (get_or (cs ++ c ∷ []) k no_cut) ≤ m
inside_more [] c n m le h e zero = e
inside_more [] c n m le h e (suc k) = omega arith
inside_more (d ∷ ds) c n m le h e zero = omega (arith, h 0)
inside_more (d ∷ ds) c n m le h e (suc k) = inside_more ds c n m le (λ j. h (suc j)) e k

last_piece : (block w : List ℕ) → take (length w) (drop (length block) (block ++ w)) ≡ w
last_piece block w = ap (take (length w)) (drop-append_seam block w) ∙ take-length w

abbrev last_cut : List ℕ → List ℕ → Cut
last_cut block w = record { offset = length block; len = length w }

holds_last : (block : List ℕ) (cuts : List Cut) (ps : List (List ℕ)) (w : List ℕ) → Holds block cuts ps → Holds (block ++ w) (cuts ++ last_cut block w ∷ []) (ps ++ w ∷ [])
holds_last block cuts ps w h = record {
  pieces_are =
      map-append (piece (block ++ w)) cuts (last_cut block w ∷ [])
      ∙ ap (λ (xs : List (List ℕ)). xs ++ piece (block ++ w) (last_cut block w) ∷ []) (pieces_grow block w cuts h.inside ∙ h.pieces_are)
      ∙ ap (λ (x : List ℕ). ps ++ x ∷ []) (last_piece block w);
  inside =
      let longer : length block ≤ length (block ++ w) = omega (arith, length-append block w) in
      inside_more cuts (last_cut block w) (length block) (length (block ++ w)) longer h.inside (omega (arith, length-append block w));
}

cut_is : (o n p q : ℕ) (cuts : List Cut) → o ≡ p → n ≡ q → cuts ++ record { offset = o; len = n } ∷ [] ≡ cuts ++ record { offset = p; len = q } ∷ []
cut_is o n p q cuts e f = cc

-- the block, the pairs and the pieces after one more piece
pub holds_more : (block : List ℕ) (cuts : List Cut) (ps : List (List ℕ)) (w : List ℕ) (o n : ℕ) (block' : List ℕ) (cuts' : List Cut) (ps' : List (List ℕ)) → Holds block cuts ps → o ≡ length block → n ≡ length w → block' ≡ block ++ w → cuts' ≡ cuts ++ record { offset = o; len = n } ∷ [] → ps' ≡ ps ++ w ∷ [] → Holds block' cuts' ps'
holds_more block cuts ps w o n block' cuts' ps' h eo en eb ec ep =
    let at : cuts' ≡ cuts ++ last_cut block w ∷ [] = ec ∙ cut_is o n (length block) (length w) cuts eo en in
    rw (eb, at, ep) (holds_last block cuts ps w h)

pub texts_more : {X : Type 0} (f : X → List ℕ) (xs : List X) (i : ℕ) (d : X) (w : List ℕ) → i < length xs → w ≡ f (get_or xs i d) → map f (take (i + 1) xs) ≡ map f (take i xs) ++ w ∷ []
texts_more f xs i d w h e =
    ap (map f) (take_more xs i d h) ∙ map-append f (take i xs) (get_or xs i d ∷ []) ∙ ap (λ (x : List ℕ). map f (take i xs) ++ x ∷ []) (sym e)
