-- What holds of a counterparty that is enrolled.
use Rattle.std.proofs.Common.{◌≡◌, ℕ, suc, ◌+◌, true, not, leb, List, [], ◌∷◌, length, Some, None, Ok, Err, Option, Result, sym, refl, ap, ◌∙◌, subst, arith}
use Rattle.std.proofs.lemmas.Bool.{and_parts, not-false}
use Rattle.sheets.specs.declared.SheetSet.{SheetSet}
use Rattle.sheets.specs.Sets.{mem, meet}
use Rattle.sheets.proofs.Laws.{mem-meet}
use Rattle.sentences.specs.declared.cuts.CutList.{CutList}
use Rattle.sentences.specs.declared.faults.ListFault.{ListFault}
use Rattle.sentences.specs.declared.faults.ListKind.{ListKind}
use Rattle.sentences.specs.declared.faults.ListKind.TheVariants as kind
use Rattle.sentences.specs.declared.faults.SentenceFault.{SentenceFault}
use Rattle.sentences.specs.declared.reading.Meaning.{Meaning}
use Rattle.sentences.specs.Cuts.{pairs_fault, pieces, unless}
use Rattle.sentences.specs.Lists as lists
use Rattle.sentences.specs.Lists.{read_from, read_list}
use Rattle.sentences.specs.Machine.{reading}
use Rattle.sentences.specs.Names.{Word}
use Rattle.sentences.proofs.Pieces.{pieces-length, sound}
use Rattle.censors.specs.Laws.{Few, PartOf}
use Rattle.histories.specs.declared.data.BoxFault.TheVariants as fault
use Rattle.histories.specs.Calls.{Text, House, Party, as_sentence, as_list, lawful_sheets, start_from, newcomer, enrolling}
use Rattle.histories.proofs.Lookups.{never_ok, check-ok, and-then-ok, as_list_ok}

-- ---- the secrets are one to eight

unless_ok : {A : Type 0} (o : Option ListFault) (r : Result A ListFault) {a : A} → unless o r ≡ Ok a → (o ≡ None) × (r ≡ Ok a)
unless_ok (Some f) r e = absurd (never_ok e)
unless_ok None r e = (refl, e)

-- a sentence in front of n others
one_more : (i n : ℕ) (m : Result Meaning SentenceFault) (rest : Result (List SheetSet) ListFault) → ((ys : List SheetSet) → rest ≡ Ok ys → length ys ≡ n)
    → (xs : List SheetSet) → lists.and_then i m rest ≡ Ok xs → length xs ≡ suc n
one_more i n (Err f) rest k xs e = absurd (never_ok e)
one_more i n (Ok m) (Err f) k xs e = absurd (never_ok e)
one_more i n (Ok m) (Ok ys) k xs e = let same : m.sheets ∷ ys ≡ xs = cc in ap length (sym same) ∙ ap suc (k ys refl)

read_length : (ns : List Word) (i : ℕ) (ts : List (List ℕ)) (xs : List SheetSet) → read_from ns i ts ≡ Ok xs → length xs ≡ length ts
unfolding read_from
read_length ns i [] xs e = let same : [] ≡ xs = cc in ap length (sym same)
read_length ns i (t ∷ ts) xs e = one_more i (length ts) (reading ns t) (read_from ns (i + 1) ts) (read_length ns (i + 1) ts) xs e

few_read : (ns : List Word) (k : ListKind) (x : CutList) (xs : List SheetSet) → read_list ns k 1 x ≡ Ok xs → Few xs
unfolding read_list
few_read ns k x xs e =
    let both = unless_ok (pairs_fault k 1 x) (read_from ns 0 (pieces x)) e in
    let same = read_length ns 0 (pieces x) xs both.1 ∙ pieces-length x in
    let fits = sound x k 1 both.0 in
    record { some = omega (arith, fits.enough); most = omega (arith, fits.few) }

-- ---- the record to start from

module _ (h : House) where
  start-lawful : (prior : Option Text) (r : SheetSet) → start_from h prior ≡ Ok r → PartOf r (lawful_sheets h)
  start-lawful None r e s l m = let same : lawful_sheets h ≡ r = cc in subst (λ (x : SheetSet). mem x s ≡ true) (sym same) m
  start-lawful (Some t) r e s l m =
      let read = and-then-ok (as_sentence fault.Prior (reading h.names t)) (λ x. Ok (meet (lawful_sheets h) x)) e in
      let same : meet (lawful_sheets h) read.0 ≡ r = let f = read.2 in cc in
      (and_parts (mem (lawful_sheets h) s) (mem read.0 s) (sym (mem-meet (lawful_sheets h) read.0 s l) ∙ subst (λ (x : SheetSet). mem x s ≡ true) (sym same) m)).0

  -- a newcomer is what its enrolment reads as, and its record is good
  pub record Read (prior : Option Text) (list : CutList) (p : Party) : Type 0 where
    pub is-new : newcomer h p.start p.secrets ≡ p
    pub starts : start_from h prior ≡ Ok p.start
    pub says : read_list h.names kind.Secrets 1 list ≡ Ok p.secrets
    pub good : h.good p.start p.secrets ≡ true

  pub as_read : (n : ℕ) (prior : Option Text) (list : CutList) (p : Party) → enrolling h n prior list ≡ Ok p → Read prior list p
  as_read n prior list p e =
      let one = check-ok (leb 8 n) fault.Full _ e in
      let two = and-then-ok (start_from h _) _ one.1 in
      let three = and-then-ok (as_list fault.Secrets _) _ two.2 in
      let four = check-ok (not (h.good two.0 _)) fault.NotGood _ three.2 in
      let same : newcomer h two.0 three.0 ≡ p = let f = four.1 in cc in
      subst (Read prior list) same (record {
        is-new = refl;
        starts = two.1;
        says = as_list_ok fault.Secrets _ three.1;
        good = not-false (h.good two.0 three.0) four.0;
      })

  pub record Admitted (p : Party) : Type 0 where
    pub few : Few p.secrets
    pub good : h.good p.start p.secrets ≡ true
    pub lawful : PartOf p.start (lawful_sheets h)

  pub admitted : (n : ℕ) (prior : Option Text) (list : CutList) (p : Party) → enrolling h n prior list ≡ Ok p → Admitted p
  admitted n prior list p e =
      let r = as_read n prior list p e in
      record { few = few_read h.names kind.Secrets list p.secrets r.says; good = r.good; lawful = start-lawful prior p.start r.starts }
