-- What a call answers and leaves, by what its checks find.
use Rattle.std.proofs.Common.{◌≡◌, ℕ, Bool, false, leb, length, Some, Ok, Option, Result, sym, ap, ◌∙◌, ap₂}
use Rattle.sentences.specs.declared.faults.SentenceFault.{SentenceFault}
use Rattle.sentences.specs.declared.reading.Meaning.{Meaning}
use Rattle.sentences.specs.Machine.{reading}
use Rattle.censors.specs.declared.question.Question.{Question}
use Rattle.censors.specs.Questions.{question_of}
use Rattle.histories.specs.declared.data.BoxFault.{BoxFault}
use Rattle.histories.specs.declared.data.BoxFault.TheVariants as fault
use Rattle.histories.specs.Calls.{Text, House, Party, State, Call, Judge, Outcome, Judged, at, change, is_some, check, and_then, as_sentence, judging, next_place, asked, judge_outcome, after_judge, with_parties, outcome, next}

-- a call that answers o and leaves st'
pub record Does (h : House) (st : State) (x : Call) (o : Outcome) (st' : State) : Type 0 where
  pub answers : o ≡ outcome h st x
  pub leaves : st' ≡ next h st x

module _ (h : House) (st : State) (c : ℕ) (t : Text) where
  judge-as : (o : Option Party) (r : Result Question BoxFault) → at st.parties c ≡ o → judging h c o t ≡ r
      → Does h st (Judge c t) (judge_outcome h c (next_place h o) r) (after_judge h st c r)
  judge-as o r e f =
      let found : judging h c (at st.parties c) t ≡ r = ap (λ (p : Option Party). judging h c p t) e ∙ f in
      record {
        answers = sym (ap₂ (λ (p : Option Party) (x : Result Question BoxFault). judge_outcome h c (next_place h p) x) e found);
        leaves = sym (ap (after_judge h st c) found);
      }

  module _ (p : Party) (e : at st.parties c ≡ Some p) where
    judge-read : (r : Result Meaning SentenceFault) → is_some p.pending ≡ false → leb 64 (length p.log) ≡ false → r ≡ reading h.names t
        → judging h c (Some p) t ≡ and_then (as_sentence fault.Question r) (λ x. Ok (question_of x))
    judge-read r o l m =
        ap₂ (λ (a b : Bool). check a (fault.SlipOut c) (check b fault.LogFull (and_then (as_sentence fault.Question (reading h.names t)) (λ x. Ok (question_of x))))) o l
        ∙ ap (λ (x : Result Meaning SentenceFault). and_then (as_sentence fault.Question x) (λ y. Ok (question_of y))) (sym m)

    pub judge-kept : (m : Meaning) → is_some p.pending ≡ false → leb 64 (length p.log) ≡ false → Ok m ≡ reading h.names t
        → Does h st (Judge c t) (Judged (record { number = h.number; party = c; place = length p.log })) (with_parties h st (change (asked h st.sheet (question_of m.sheets)) st.parties c))
    judge-kept m o l k = judge-as (Some p) (Ok (question_of m.sheets)) e (judge-read (Ok m) o l k)
