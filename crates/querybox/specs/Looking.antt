-- What can be looked up of a counterparty.
use Rattle.std.specs.Prelude.{◌≡◌, ℕ, ◌<◌, map, Some, None, Ok, Err, Option, Result}
use Rattle.sheets.specs.Sets.{mem, count}
use Rattle.censors.specs.declared.question.Reply.{Reply}
use Rattle.histories.specs.declared.data.BoxFault.{BoxFault}
use Rattle.histories.specs.declared.data.BoxFault.TheVariants as fault
use Rattle.histories.specs.Calls.{Party, State, at}
use Rattle.querybox.specs.declared.party.Party as kept
use Rattle.querybox.specs.declared.inner.Inner.{Inner}
use Rattle.querybox.specs.Entries.{entry_at}
use Rattle.querybox.specs.Parties.{blank, party_of}

-- a party that is found, as the calls are defined over it
abbrev pub found_as : Result kept.Party BoxFault → Result Party BoxFault
found_as (Ok p) = Ok (party_of p)
found_as (Err f) = Err f

-- what is found is the entry of the table
abbrev pub FoundAt : Inner kept.Party → ℕ → Result kept.Party BoxFault → Type 0
FoundAt x c (Ok p) = (c < x.count) × (p ≡ entry_at x c blank)
FoundAt x c (Err f) = Unit

-- what f says of the counterparty c
abbrev pub about : {A : Type 0} → (Party → A) → ℕ → Option Party → Result A BoxFault
about f c (Some p) = Ok (f p)
about f c None = Err (fault.NoCounterparty c)

-- the reply that stands at the place i
abbrev pub reply_at : ℕ → Party → Option Reply
reply_at i p = at (map (λ e. e.reply) p.log) i

-- how many sheets the record has
abbrev pub sheets_left : Party → ℕ
sheets_left p = count (mem p.known) 256

-- the counterparty c itself
abbrev pub found_in : State → ℕ → Result Party BoxFault
found_in st c = about (λ p. p) c (at st.parties c)

abbrev pub held_in : State → ℕ → ℕ → Result (Option Reply) BoxFault
held_in st c i = about (reply_at i) c (at st.parties c)

abbrev pub remaining_in : State → ℕ → Result ℕ BoxFault
remaining_in st c = about sheets_left c (at st.parties c)
