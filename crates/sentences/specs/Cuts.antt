-- Cut lists: pieces of a block of bytes, by pairs of offset and length.
use Rattle.std.specs.Prelude.{ℕ, zero, suc, ◌+◌, Bool, cond, ◌&&◌, ◌||◌, List, map, length, take, drop, Some, None, Err, Option, Result, nat_le, nat_lt, slice_index_or}
use Rattle.sentences.specs.declared.faults.ListFault.{ListFault}
use Rattle.sentences.specs.declared.faults.ListFault.TheVariants.{Count, BadPair}
use Rattle.sentences.specs.declared.faults.ListKind.{ListKind}
use Rattle.sentences.specs.declared.cuts.Cut.{Cut}
use Rattle.sentences.specs.declared.cuts.CutList.{CutList}
use Rattle.sentences.specs.Search.{first}

abbrev pub no_cut : Cut
no_cut = record { offset = 0; len = 0 }

abbrev pub end_of : Cut → ℕ
end_of c = c.offset + c.len

-- where the pair in front of the pair i ends
abbrev pub front_end : List Cut → ℕ → ℕ
front_end cs zero = 0
front_end cs (suc i) = end_of (slice_index_or cs i no_cut)

-- a pair that begins before the end of the pair in front of it, or reaches past the n bytes of the block
abbrev pub misplaced : ℕ → ℕ → Cut → Bool
misplaced front n c = nat_lt c.offset front || nat_lt n (end_of c)

unfoldable pub bad_pair : ℕ → List Cut → ℕ → Bool
bad_pair n cs i = misplaced (front_end cs i) n (slice_index_or cs i no_cut)

unfoldable pub first_bad_pair : CutList → Option ℕ
first_bad_pair x = first (bad_pair (length x.block.now) x.cuts.now) (length x.cuts.now)

abbrev pub piece : List ℕ → Cut → List ℕ
piece block c = take c.len (drop c.offset block)

-- the pieces in their order
unfoldable pub pieces : CutList → List (List ℕ)
pieces x = map (piece x.block.now) x.cuts.now

-- the first fault of the list itself: fewer than `least` pairs or more than eight, then the first bad pair
abbrev pub at_pair : Option ℕ → Option ListFault
at_pair (Some i) = Some (BadPair i)
at_pair None = None

unfoldable pub pairs_fault : ListKind → ℕ → CutList → Option ListFault
pairs_fault k least x = cond (nat_le least (length x.cuts.now) && nat_le (length x.cuts.now) 8) (at_pair (first_bad_pair x)) (Some (Count k))

-- a fault, if there is one, comes before what follows
abbrev pub unless : {R : Type 0} → Option ListFault → Result R ListFault → Result R ListFault
unless (Some f) next = Err f
unless None next = next
