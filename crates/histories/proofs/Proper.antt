-- The sheets that a box can be opened on, and amended to.
use Rattle.std.proofs.Common.{◌≡◌, ℕ, zero, suc, ◌^◌, ◌<◌, true, not, ◌&&◌, ltb, leb, List, [], ◌∷◌, length, get_or, Some, None, Ok, Err, Option, Result, sym, refl, ap, ◌∙◌, subst, le_of_suc-le-suc, not-suc-le-zero}
use Rattle.std.proofs.lemmas.Bool.{and_parts, ltb-true, leb-false, lt-leb}
use Rattle.sheets.specs.declared.SheetSet.{SheetSet}
use Rattle.sheets.specs.Sets.{mem}
use Rattle.sheets.proofs.Laws.{mem-set_of}
use Rattle.sentences.specs.Search.{first}
use Rattle.censors.specs.Laws.{no_sheet}
use Rattle.histories.specs.declared.data.BoxFault.{BoxFault}
use Rattle.histories.specs.declared.data.BoxFault.TheVariants as fault
use Rattle.histories.specs.declared.data.AmendFault.TheVariants as amendment
use Rattle.histories.specs.declared.data.Change.{Change}
use Rattle.histories.specs.Calls.{House, State, Call, Enrol, Judge, Read, Enter, Amend, all_have, check, check_index, bad_change, new_sheet, untrue_rule, opening, lawful_sheets}
use Rattle.histories.proofs.Lookups.{ok_or, check-ok, check-index-ok}
use Rattle.histories.proofs.Bare.{Bare, bare_slip_out, amending_on, sheet_next, bare_next, sheet_run, full}
use Rattle.histories.proofs.Facts.{new_sheet_below, none_passes, all_facts, new_sheet_all, no_bad_change}

module _ (h : House) where
  -- a sheet of the box that keeps the house rules
  pub record Proper (s : ℕ) : Type 0 where
    pub below : s < 2 ^ length h.names
    pub keeps : untrue_rule h s ≡ None

  pub opens-proper : (s : ℕ) (st : State) → opening h s ≡ Ok st → Proper s × (full h s [] ≡ st)
  opens-proper s st e =
      let one = check-ok (leb (2 ^ length h.names) s) (fault.Sheet s) _ e in
      let two = check-index-ok (untrue_rule h s) fault.HouseRule (Ok (full h s [])) one.1 in
      (record { below = leb-false (2 ^ length h.names) s one.0; keeps = two.0 }, let f = two.1 in cc)

  pub proper-opens : {s : ℕ} → Proper s → opening h s ≡ Ok (full h s [])
  proper-opens {s} p = rw (lt-leb (2 ^ length h.names) s p.below, p.keeps)

  have-at : (xs : List SheetSet) (s k : ℕ) → all_have xs s ≡ true → k < length xs → mem (get_or xs k no_sheet) s ≡ true
  have-at [] s k e l = absurd (not-suc-le-zero l)
  have-at (x ∷ xs) s zero e l = (and_parts (mem x s) (all_have xs s) e).0
  have-at (x ∷ xs) s (suc k) e l = have-at xs s k (and_parts (mem x s) (all_have xs s) e).1 (le_of_suc-le-suc l)

  pub lawful-proper : (s : ℕ) → s < 256 → mem (lawful_sheets h) s ≡ true → Proper s
  unfolding lawful_sheets
  lawful-proper s l m =
      let both = and_parts (ltb s (2 ^ length h.names)) (all_have h.rules s) (sym (mem-set_of (λ s. ltb s (2 ^ length h.names) && all_have h.rules s) s l) ∙ m) in
      record {
        below = ltb-true s (2 ^ length h.names) both.0;
        keeps = none_passes (λ i. not (mem (get_or h.rules i no_sheet) s)) (length h.rules) (λ k b. ap not (have-at h.rules s k both.1 b));
      }

  -- an amendment that passes
  amended-proper : (s : ℕ) (cs : List Change) (room u : ℕ) → amending_on h s cs room ≡ Ok u → Proper u
  amended-proper s cs room u e =
      let n : ℕ = length h.names in
      let one = check-ok (ltb room 512) fault.ShortNotes _ e in
      let two = check-index-ok (first (bad_change n cs) (length cs)) (λ i. fault.Amendment (amendment.Fact i)) _ one.1 in
      let three = check-index-ok (untrue_rule h (new_sheet n s cs)) (λ i. fault.Amendment (amendment.HouseRule i)) (Ok (new_sheet n s cs)) two.1 in
      let same : new_sheet n s cs ≡ u = let f = three.1 in cc in
      subst Proper same (record { below = new_sheet_below n s cs; keeps = three.0 })

  amend-proper : (s : ℕ) (o : Option ℕ) (cs : List Change) (room : ℕ) (r : Result ℕ BoxFault) → amending_on h s cs room ≡ r → Proper s → Proper (ok_or s (check_index o fault.SlipOut r))
  amend-proper s (Some i) cs room r e p = p
  amend-proper s None cs room (Err f) e p = p
  amend-proper s None cs room (Ok u) e p = amended-proper s cs room u e

  next-proper : (s : ℕ) (bs : List Bare) (x : Call) → Proper s → Proper (sheet_next h s bs x)
  next-proper s bs (Enrol prior list) p = p
  next-proper s bs (Judge c t) p = p
  next-proper s bs (Read sl) p = p
  next-proper s bs (Enter sl) p = p
  next-proper s bs (Amend cs room) p = amend-proper s (bare_slip_out 0 bs) cs room (amending_on h s cs room) refl p

  pub run-proper : (s : ℕ) (bs : List Bare) (xs : List Call) → Proper s → Proper (sheet_run h s bs xs)
  run-proper s bs [] p = p
  run-proper s bs (x ∷ xs) p = run-proper (sheet_next h s bs x) (bare_next h bs x) xs (next-proper s bs x p)

  -- all facts can be amended at once to what they are in a proper sheet
  pub amend-all : (s u : ℕ) → Proper u → (room : ℕ) → amending_on h s (all_facts (length h.names) u) room ≡ check (ltb room 512) fault.ShortNotes (Ok u)
  amend-all s u p room =
      let n : ℕ = length h.names in
      rw (no_bad_change n u, new_sheet_all n s u p.below, p.keeps)
