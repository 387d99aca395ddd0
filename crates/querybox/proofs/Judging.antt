-- A question that is judged, by the entry of its counterparty.
use Rattle.std.proofs.Common.{◌≡◌, ℕ, ◌<◌, false, List, length, Some, None, Ok, Option, sym, refl, ap, ◌∙◌, ap₂}
use Rattle.std.proofs.lemmas.Bool.{lt-leb}
use Rattle.std.specs.Option as options
use Rattle.sheets.specs.declared.SheetSet.{SheetSet}
use Rattle.tables.specs.Entries.{entries}
use Rattle.sentences.specs.Lists.{sets_of}
use Rattle.sentences.specs.declared.reading.Meaning.{Meaning}
use Rattle.sentences.specs.Machine.{reading}
use Rattle.censors.specs.declared.question.Decision.{Decision}
use Rattle.censors.specs.declared.question.Question.{Question}
use Rattle.censors.specs.declared.question.Value.{Value}
use Rattle.censors.specs.Questions.{question_of, value_in}
use Rattle.histories.specs.Calls.{Text, House, State, Judge, Judged, at, change, is_some, asked, with_parties}
use Rattle.querybox.specs.declared.party.Party.{Party}
use Rattle.querybox.specs.Parties.{party_of}
use Rattle.querybox.proofs.Answering.{Does, judge-kept}

some_alike : {A : Type 0} (o : Option A) → options.is_some o ≡ is_some o
some_alike (Some a) = refl
some_alike None = refl

pub judged : (h : House) (st : State) (c : ℕ) (t : Text) (x : Party) → at st.parties c ≡ Some (party_of x)
    → options.is_some x.pending ≡ false → length (entries x.log) < 64 → (m : Meaning) → Ok m ≡ reading h.names t → (q : Question) → q ≡ question_of m.sheets
    → Does h st (Judge c t) (Judged (record { number = h.number; party = c; place = length (entries x.log) })) (with_parties h st (change (asked h st.sheet q) st.parties c))
judged h st c t x found out room m read q is =
    let does = judge-kept h st c t (party_of x) found m (sym (some_alike x.pending) ∙ out) (lt-leb 64 (length (entries x.log)) room) read in
    record {
      answers = does.answers;
      leaves = ap (λ (q : Question). with_parties h st (change (asked h st.sheet q) st.parties c)) is ∙ does.leaves;
    }

-- the decision, on what the entry holds
pub decided_on : (h : House) (p x : Party) (q : Question) (s : ℕ) (ys : List SheetSet) (v : Value) (d : Decision) → p ≡ x → ys ≡ sets_of p.secrets → v ≡ value_in q s
    → d ≡ h.decided p.known ys q v → d ≡ h.decided x.known (sets_of x.secrets) q (value_in q s)
decided_on h p x q s ys v d same secrets value is =
    is ∙ ap₂ (λ (zs : List SheetSet) (w : Value). h.decided p.known zs q w) secrets value ∙ ap (λ (y : Party). h.decided y.known (sets_of y.secrets) q (value_in q s)) same
