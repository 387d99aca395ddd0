-- What a block with its pairs holds.
use Rattle.std.specs.Prelude.{◌≡◌, ℕ, ◌≤◌, List, length, map, slice_index_or}
use Rattle.sentences.specs.declared.cuts.Cut.{Cut}
use Rattle.sentences.specs.Cuts.{end_of, no_cut, piece}

-- the pairs cut these pieces from the block, and none reaches past it
pub record Holds (block : List ℕ) (cuts : List Cut) (pieces : List (List ℕ)) : Type 0 where
  pub pieces_are : map (piece block) cuts ≡ pieces
  pub inside : (k : ℕ) → end_of (slice_index_or cuts k no_cut) ≤ length block
