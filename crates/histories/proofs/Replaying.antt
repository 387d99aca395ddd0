-- Questions put one after the other: one more at the end, and the log that a box keeps of them.
use Rattle.std.proofs.Common.{◌≡◌, ℕ, List, [], ◌∷◌, ◌++◌, map, length, sym, refl, ap, ◌∙◌}
use Rattle.std.proofs.lemmas.List.{length-map}
use Rattle.sheets.specs.declared.SheetSet.{SheetSet}
use Rattle.censors.specs.declared.question.Decision.{Decision}
use Rattle.censors.specs.declared.question.Question.{Question}
use Rattle.censors.specs.declared.question.Reply.{Reply}
use Rattle.censors.specs.declared.question.Value.{Value}
use Rattle.censors.specs.Replay.{reply_to, record_after, replies, final}
use Rattle.histories.specs.declared.data.Entry.{Entry}
use Rattle.histories.specs.Calls.{House, evaluated, remaining}

-- each question with its reply
abbrev pub entries : List Question → List Reply → List Entry
entries [] rs = []
entries (q ∷ qs) [] = []
entries (q ∷ qs) (a ∷ rs) = record { question = q; reply = a } ∷ entries qs rs

module _ (decided : SheetSet → List SheetSet → Question → Value → Decision) (after : SheetSet → List SheetSet → Question → Reply → SheetSet) (xs : List SheetSet) where
  abbrev pub logged : SheetSet → List Question → ℕ → List Entry
  logged r qs s = entries qs (replies decided after xs r qs s)

  pub final-more : (r : SheetSet) (qs : List Question) (q : Question) (s : ℕ)
      → final decided after xs r (qs ++ q ∷ []) s ≡ record_after decided after xs (final decided after xs r qs s) q s
  final-more r [] q s = refl
  final-more r (p ∷ qs) q s = final-more (record_after decided after xs r p s) qs q s

  pub logged-more : (r : SheetSet) (qs : List Question) (q : Question) (s : ℕ)
      → logged r (qs ++ q ∷ []) s ≡ logged r qs s ++ record { question = q; reply = reply_to decided after xs (final decided after xs r qs s) q s } ∷ []
  logged-more r [] q s = refl
  logged-more r (p ∷ qs) q s =
      ap (λ (l : List Entry). record { question = p; reply = reply_to decided after xs r p s } ∷ l) (logged-more (record_after decided after xs r p s) qs q s)

  pub logged-questions : (r : SheetSet) (qs : List Question) (s : ℕ) → map (λ e. e.question) (logged r qs s) ≡ qs
  logged-questions r [] s = refl
  logged-questions r (q ∷ qs) s = ap (λ (l : List Question). q ∷ l) (logged-questions (record_after decided after xs r q s) qs s)

  pub length-logged : (r : SheetSet) (qs : List Question) (s : ℕ) → length (logged r qs s) ≡ length qs
  length-logged r qs s = sym (length-map (logged r qs s) (λ e. e.question)) ∙ ap length (logged-questions r qs s)

-- a box judges all questions again as a replay does
module _ (h : House) (xs : List SheetSet) where
  pub remaining-is : (r : SheetSet) (qs : List Question) (s : ℕ) → remaining h r xs qs s ≡ final h.decided h.after xs r qs s
  remaining-is r [] s = refl
  remaining-is r (q ∷ qs) s = remaining-is (record_after h.decided h.after xs r q s) qs s

  pub evaluated-is : (r : SheetSet) (qs : List Question) (s : ℕ) → evaluated h r xs qs s ≡ logged h.decided h.after xs r qs s
  evaluated-is r [] s = refl
  evaluated-is r (q ∷ qs) s =
      ap (λ (l : List Entry). record { question = q; reply = reply_to h.decided h.after xs r q s } ∷ l) (evaluated-is (record_after h.decided h.after xs r q s) qs s)
