-- Names taken from a list one after the other.
use Rattle.std.proofs.Common.{◌≡◌, ℕ, ◌+◌, ◌<◌, ◌≤◌, true, false, List, [], ◌∷◌, ◌++◌, length, get_or, take, Some, None, Ok, Err, Option, sym, refl, ap, ◌∙◌, subst, ap₂, arith}
use Rattle.std.proofs.lemmas.List.{take_more, take_all, map_push, length-append, length-take-le}
use Rattle.std.proofs.lemmas.Bool.Decides.{nat_tests}
use Rattle.sentences.specs.declared.cuts.CutList.{CutList}
use Rattle.sentences.specs.declared.faults.ListFault.{ListFault}
use Rattle.sentences.specs.declared.faults.ListFault.TheVariants.{BadName}
use Rattle.sentences.specs.declared.faults.ListKind.TheVariants as kind
use Rattle.sentences.specs.declared.name.Name.{Name}
use Rattle.sentences.specs.Cuts.{no_cut, piece, pieces, pairs_fault, unless}
use Rattle.sentences.specs.Names.{Word, spelling, words_of, is_name, is_found, unfit, first_bad_name}
use Rattle.sentences.specs.Naming.{at_name, naming}
use Rattle.sentences.specs.Search.{first}
use Rattle.sentences.proofs.Pieces.{pieces-length, piece-at}
use Rattle.sentences.proofs.WordLists.{words-length}
use Rattle.sentences.proofs.Searches.{first_none, first_more, first_found}

-- a word that may be a name is short enough
pub short_name : (before : List Word) (w : Word) → unfit before w ≡ false → length w ≤ 12
unfolding unfit is_name
short_name before w e = grind (arith, nat_tests)

module _ (x : CutList) where
  -- the first i pieces are names, and no others are collected
  pub record Collected (xs : List Name) (i : ℕ) : Type 0 where
    pub words : words_of xs ≡ take i (pieces x)
    pub none : first (λ k. unfit (take k (pieces x)) (get_or (pieces x) k [])) i ≡ None

  pub collected-none : Collected [] 0
  collected-none = record { words = refl; none = first_none _ }

  module _ {xs : List Name} {i : ℕ} (c : Collected xs i) (h : i < length x.cuts.now) (w : Word) (is : w ≡ piece x.block.now (get_or x.cuts.now i no_cut)) where
    -- the test of the definition at i
    pub here : unfit (take i (pieces x)) (get_or (pieces x) i []) ≡ unfit (words_of xs) w
    here = ap₂ unfit (sym c.words) (piece-at x i h ∙ sym is)

    pub collected-more : (y : Name) → i < 8 → unfit (words_of xs) w ≡ false → spelling y ≡ take 12 w → Collected (take 8 (xs ++ y ∷ [])) (i + 1)
    collected-more y l e s =
        let inside : i < length (pieces x) = omega (arith, pieces-length x) in
        let so_far : length xs ≡ i = omega (arith, words-length xs, ap length c.words, length-take-le i (pieces x) (omega arith)) in
        let room : length (xs ++ y ∷ []) ≤ 8 = omega (arith, length-append xs (y ∷ [])) in
        let whole : spelling y ≡ w = s ∙ take_all 12 w (short_name (words_of xs) w e) in
        record {
          words = ap words_of (take_all 8 (xs ++ y ∷ []) room) ∙ map_push spelling xs y
              ∙ ap₂ (λ (us : List Word) (u : Word). us ++ u ∷ []) c.words (whole ∙ is ∙ sym (piece-at x i h)) ∙ sym (take_more (pieces x) i [] inside);
          none = first_more _ i c.none (here ∙ e);
        }

    pub collected-bad : pairs_fault kind.Names 1 x ≡ None → unfit (words_of xs) w ≡ true → naming x ≡ Err (BadName i)
    unfolding naming first_bad_name
    collected-bad p e =
        let found = first_found _ (length (pieces x)) i c.none (here ∙ e) (omega (arith, pieces-length x)) in
        ap₂ (λ (o : Option ListFault) (k : Option ℕ). unless o (unless (at_name k) (Ok (pieces x)))) p found

  module _ {xs : List Name} {i : ℕ} (c : Collected xs i) (h : i ≡ length x.cuts.now) where
    all : i ≡ length (pieces x)
    all = omega (arith, pieces-length x)

    every : words_of xs ≡ pieces x
    every = c.words ∙ take_all i (pieces x) (omega (arith, all))

    no_bad : first (λ k. unfit (take k (pieces x)) (get_or (pieces x) k [])) (length (pieces x)) ≡ None
    no_bad = subst (λ (n : ℕ). first (λ k. unfit (take k (pieces x)) (get_or (pieces x) k [])) n ≡ None) all c.none

    pub collected-all : pairs_fault kind.Names 1 x ≡ None → naming x ≡ Ok (words_of xs)
    unfolding naming first_bad_name
    collected-all p =
        ap₂ (λ (o : Option ListFault) (k : Option ℕ). unless o (unless (at_name k) (Ok (pieces x)))) p no_bad ∙ ap Ok (sym every)

    -- so every name is a name, and new
    pub collected-proper : is_found (first_bad_name (words_of xs)) ≡ false
    unfolding first_bad_name
    collected-proper = ap (λ (ws : List Word). is_found (first_bad_name ws)) every ∙ ap is_found no_bad

    pub collected-some : 1 ≤ length x.cuts.now → 1 ≤ length xs
    collected-some l = omega (arith, words-length xs, ap length every, pieces-length x)

  pub naming-fault : {f : ListFault} → pairs_fault kind.Names 1 x ≡ Some f → naming x ≡ Err f
  unfolding naming
  naming-fault e = ap (λ (o : Option ListFault). unless o (unless (at_name (first_bad_name (pieces x))) (Ok (pieces x)))) e
