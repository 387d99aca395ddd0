-- The entries of the table, and what moves one of them.
use Rattle.std.specs.Prelude.{◌≡◌, ℕ, List, map, take, slice_index_or, slice_set}
use Rattle.std.proofs.Common.{◌∙◌, length-set}
use Rattle.tables.specs.Tables.{put}
use Rattle.histories.specs.Calls.{Party}
use Rattle.querybox.specs.declared.inner.Inner.{Inner}
use Rattle.querybox.specs.declared.party.Party.{Party as Stored}
use Rattle.querybox.specs.Parties.{blank, party_of}

abbrev pub entry_at : {T : Type 0} → Inner T → ℕ → T → T
entry_at x p d = slice_index_or x.parties.items p d

abbrev pub with_entry : {T : Type 0} → Inner T → ℕ → T → Inner T
with_entry x p y = record { count = x.count; parties = put x.parties p y; few = x.few; eight = length-set x.parties.items p y ∙ x.eight }

-- the counterparties that are enrolled
abbrev pub parties_of : Inner Stored → List Party
parties_of x = map party_of (take x.count x.parties.items)

-- of the whole table the entry p alone has moved, by f
pub record Moved (f : Party → Party) (p : ℕ) (old new : Inner Stored) : Type 0 where
  pub count : new.count ≡ old.count
  pub alone : new.parties.items ≡ slice_set old.parties.items p (entry_at new p blank)
  pub by : party_of (entry_at new p blank) ≡ f (party_of (entry_at old p blank))
