-- One entry of the table replaced.
use Rattle.std.proofs.Common.{◌≡◌, ℕ, ◌+◌, ◌<◌, ◌≢◌, [], ◌∷◌, ◌++◌, map, get_or, take, ap, ◌∙◌, ap₂, arith, get_or-set_other}
use Rattle.tables.specs.Tables.{put}
use Rattle.histories.specs.Calls.{Party, change}
use Rattle.querybox.specs.declared.inner.Inner.{Inner}
use Rattle.querybox.specs.declared.party.Party.{Party as Stored}
use Rattle.querybox.specs.Parties.{blank, party_of}
use Rattle.querybox.specs.Entries.{entry_at, parties_of, Moved}
use Rattle.querybox.proofs.Views.{view-change, view-push}

module _ {f : Party → Party} {p : ℕ} {old new : Inner Stored} (m : Moved f p old new) where
  pub moved_other : (k : ℕ) → k ≢ p → entry_at new k blank ≡ entry_at old k blank
  moved_other k ne = ap (λ xs. get_or xs k blank) m.alone ∙ get_or-set_other old.parties.items p k (entry_at new p blank) blank ne

  pub moved-parties : parties_of new ≡ change f (parties_of old) p
  moved-parties = ap₂ (λ n xs. map party_of (take n xs)) m.count m.alone ∙ view-change party_of f old.parties.items old.count p (entry_at new p blank) blank m.by

-- a counterparty added after the others
pub added-parties : (old new : Inner Stored) (y : Stored) → old.count < 8 → new.count ≡ old.count + 1 → new.parties ≡ put old.parties old.count y
    → parties_of new ≡ parties_of old ++ party_of y ∷ []
added-parties old new y room count parties =
    ap₂ (λ n t. map party_of (take n t.items)) count parties ∙ view-push party_of old.parties.items old.count y (omega (arith, old.eight))
