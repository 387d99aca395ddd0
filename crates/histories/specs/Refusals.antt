-- The table of refusals of a box: each fault with its number, what it is about, and what it returns.
use Rattle.std.specs.Prelude.{ℕ, List, Some, None, Option, codes}
use Rattle.sentences.specs.declared.faults.Refusal.{Refusal}
use Rattle.sentences.specs.declared.faults.Returned.TheVariants.{Index}
use Rattle.sentences.specs.Faults.{sentence_refusal, list_refusal}
use Rattle.histories.specs.declared.data.AmendFault.TheVariants as amendment
use Rattle.histories.specs.declared.data.BoxFault.{BoxFault}
use Rattle.histories.specs.declared.data.BoxFault.TheVariants as fault
use Rattle.histories.specs.declared.refusals.About.{About}
use Rattle.histories.specs.declared.refusals.About.TheVariants as about
use Rattle.histories.specs.declared.refusals.BoxRefusal.{BoxRefusal}
use Rattle.histories.specs.declared.refusals.BoxReturned.{BoxReturned}
use Rattle.histories.specs.declared.refusals.BoxReturned.TheVariants as returned
use Rattle.histories.specs.declared.refusals.SlipFace.{SlipFace}
use Rattle.histories.specs.Calls.{Slip, Outcome, Refused, Enrolled, Judged, Shown, Replied, Unmatched, Amended}

-- each thing that a refusal is about with the word that it is written with
abbrev pub about_word : About → List ℕ
about_word about.Names = codes "names"
about_word about.HouseRules = codes "house rules"
about_word about.Prior = codes "prior"
about_word about.Secrets = codes "secrets"
about_word about.Question = codes "question"
about_word about.Amendment = codes "amendment"

abbrev pub plain : ℕ → BoxReturned → BoxRefusal
plain n r = record { number = n; about = None; item = None; returned = r }

abbrev pub of_index : ℕ → About → ℕ → BoxRefusal
of_index n a i = record { number = n; about = Some a; item = None; returned = returned.Part (Index i) }

-- a refusal of a text or a list, carried into the box's
abbrev pub carried : About → Refusal → BoxRefusal
carried a x = record { number = x.number; about = Some a; item = x.item; returned = returned.Part x.returned }

abbrev pub box_refusal : BoxFault → BoxRefusal
box_refusal (fault.Names f) = carried about.Names (list_refusal f)
box_refusal (fault.HouseRules f) = carried about.HouseRules (list_refusal f)
box_refusal (fault.Prior f) = carried about.Prior (sentence_refusal f)
box_refusal (fault.Secrets f) = carried about.Secrets (list_refusal f)
box_refusal (fault.Question f) = carried about.Question (sentence_refusal f)
box_refusal (fault.Sheet s) = plain 8 (returned.Sheet s)
box_refusal (fault.HouseRule i) = of_index 9 about.HouseRules i
box_refusal fault.Full = plain 10 (returned.Limit 8)
box_refusal fault.NotGood = plain 11 returned.Nothing
box_refusal (fault.NoCounterparty c) = plain 12 (returned.Counterparty c)
box_refusal (fault.SlipOut c) = plain 13 (returned.Counterparty c)
box_refusal fault.LogFull = plain 14 (returned.Limit 64)
box_refusal (fault.Amendment (amendment.Fact i)) = of_index 16 about.Amendment i
box_refusal (fault.Amendment (amendment.HouseRule i)) = of_index 9 about.Amendment i
box_refusal fault.ShortNotes = plain 17 (returned.Limit 512)

-- a slip that does not match is handed back
abbrev pub slip_refusal : SlipFace → BoxRefusal
slip_refusal x = plain 15 (returned.Slip x)

abbrev pub face_of : Slip → SlipFace
face_of sl = record { counterparty = sl.party; place = sl.place }

-- the line of the table for what a call answers; none where it was carried out
abbrev pub refusal_of : Outcome → Option BoxRefusal
refusal_of (Refused f) = Some (box_refusal f)
refusal_of (Enrolled c) = None
refusal_of (Judged sl) = None
refusal_of (Shown sl) = None
refusal_of (Replied a) = None
refusal_of (Unmatched sl) = Some (slip_refusal (face_of sl))
refusal_of (Amended ns) = None
