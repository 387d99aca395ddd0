-- Questions put one after the other: the replies, and the record that is left.
use Rattle.std.specs.Prelude.{◌≡◌, ℕ, ◌<◌, Bool, true, false, List, [], ◌∷◌, length, slice_index_or}
use Rattle.sheets.specs.declared.SheetSet.{SheetSet}
use Rattle.sheets.specs.Sets.{mem}
use Rattle.censors.specs.declared.question.Decision.{Decision}
use Rattle.censors.specs.declared.question.Question.{Question}
use Rattle.censors.specs.declared.question.Reply.{Reply}
use Rattle.censors.specs.declared.question.Value.{Value}
use Rattle.censors.specs.Questions.{value_in}
use Rattle.censors.specs.Laws.{Few, no_sheet, PartOf}

module _ (decided : SheetSet → List SheetSet → Question → Value → Decision) (after : SheetSet → List SheetSet → Question → Reply → SheetSet) (xs : List SheetSet) where
  -- the reply to a question where s is the true sheet, and the record after it
  abbrev pub reply_to : SheetSet → Question → ℕ → Reply
  reply_to r q s = (decided r xs q (value_in q s)).reply

  abbrev pub record_after : SheetSet → Question → ℕ → SheetSet
  record_after r q s = after r xs q (reply_to r q s)

  abbrev pub replies : SheetSet → List Question → ℕ → List Reply
  replies r [] s = []
  replies r (q ∷ qs) s = reply_to r q s ∷ replies (record_after r q s) qs s

  abbrev pub final : SheetSet → List Question → ℕ → SheetSet
  final r [] s = r
  final r (q ∷ qs) s = final (record_after r q s) qs s

-- Whatever is asked from a good record r on, and whatever the true sheet s is, in r or not: the record that is left is good and a part of r, and each sheet of it would have brought the same replies and left the same record.
pub record Settles (good : SheetSet → List SheetSet → Bool) (decided : SheetSet → List SheetSet → Question → Value → Decision)
    (after : SheetSet → List SheetSet → Question → Reply → SheetSet) (xs : List SheetSet) (r : SheetSet) (qs : List Question) (s : ℕ) : Type 0 where
  pub good_end : good (final decided after xs r qs s) xs ≡ true
  pub part : PartOf (final decided after xs r qs s) r
  pub replies_alike : (t : ℕ) → t < 256 → mem (final decided after xs r qs s) t ≡ true → replies decided after xs r qs t ≡ replies decided after xs r qs s
  pub record_alike : (t : ℕ) → t < 256 → mem (final decided after xs r qs s) t ≡ true → final decided after xs r qs t ≡ final decided after xs r qs s

-- Another sheet of r, in which the secret x is untrue, brings the same replies.
pub record Untold (decided : SheetSet → List SheetSet → Question → Value → Decision) (after : SheetSet → List SheetSet → Question → Reply → SheetSet)
    (xs : List SheetSet) (r : SheetSet) (qs : List Question) (s : ℕ) (x : SheetSet) : Type 0 where
  pub other : ℕ
  pub small : other < 256
  pub inside : mem r other ≡ true
  pub untrue : mem x other ≡ false
  pub alike : replies decided after xs r qs other ≡ replies decided after xs r qs s

-- No secret is told by any questions, from any good record on, whatever the true sheet is.
pub record Hides (good : SheetSet → List SheetSet → Bool) (decided : SheetSet → List SheetSet → Question → Value → Decision)
    (after : SheetSet → List SheetSet → Question → Reply → SheetSet) : Type 0 where
  pub settles : (r : SheetSet) (xs : List SheetSet) → Few xs → good r xs ≡ true → (qs : List Question) (s : ℕ) → Settles good decided after xs r qs s
  pub untold : (r : SheetSet) (xs : List SheetSet) → Few xs → good r xs ≡ true → (qs : List Question) (s k : ℕ) → k < length xs
      → Untold decided after xs r qs s (slice_index_or xs k no_sheet)
