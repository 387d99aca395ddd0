-- The slips that are kept: at the place of each counterparty, the slip that is out for it.
use Rattle.std.specs.Prelude.{◌≡◌, ℕ, Bool, true, false, ◌&&◌, List, length, is_some, Some, None, Option, ◌==◌, slice_index_or, slice_set}
use Rattle.histories.specs.Calls.{Party, at}
use Rattle.querybox.specs.declared.slip.Slip.{Slip}

-- the slip kept for a counterparty
abbrev pub slip_at : List (Option Slip) → ℕ → Option Slip
slip_at xs c = slice_index_or xs c None

-- the slips without the counterparty's
abbrev pub without : List (Option Slip) → ℕ → List (Option Slip)
without xs c = slice_set xs c None

-- a slip for the place k of this counterparty's log is out
abbrev pub awaited : ℕ → Option Party → Bool
awaited k None = false
awaited k (Some p) = k == length p.log && is_some p.pending

-- what is kept is nothing, or a slip that a box with this number awaits
abbrev pub is_awaited : ℕ → List Party → Option Slip → Bool
is_awaited number ps None = true
is_awaited number ps (Some s) = s.number == number && awaited s.place (at ps s.counterparty)

-- what is kept is nothing, or a slip of the counterparty c
abbrev pub is_for : ℕ → Option Slip → Bool
is_for c None = true
is_for c (Some s) = s.counterparty == c

-- each slip that is kept is at the place of its counterparty, and awaited
abbrev pub AllOut : ℕ → List Party → List (Option Slip) → Type 0
AllOut number ps xs = (c : ℕ) → is_for c (slip_at xs c) && is_awaited number ps (slip_at xs c) ≡ true
