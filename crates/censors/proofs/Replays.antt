-- The replay lemma, for every censor that keeps the laws.
use Rattle.std.proofs.Common.{◌≡◌, ℕ, ◌+◌, ◌<◌, Bool, true, List, [], ◌∷◌, length, get_or, drop, sym, refl, ap, ◌∙◌, ap₂}
use Rattle.std.proofs.lemmas.List.{at_drop_more}
use Rattle.sheets.specs.declared.SheetSet.{SheetSet}
use Rattle.sheets.specs.Sets.{mem}
use Rattle.censors.specs.declared.question.Decision.{Decision}
use Rattle.censors.specs.declared.question.Question.{Question}
use Rattle.censors.specs.declared.question.Reply.{Reply}
use Rattle.censors.specs.declared.question.Value.{Value}
use Rattle.censors.specs.Questions.{value_in}
use Rattle.censors.specs.Laws.{Few, no_sheet, Laws}
use Rattle.censors.specs.Replay.{reply_to, record_after, replies, final, Settles, Untold, Hides}

module _ {good : SheetSet → List SheetSet → Bool} {decided : SheetSet → List SheetSet → Question → Value → Decision}
    {after : SheetSet → List SheetSet → Question → Reply → SheetSet} (laws : Laws good decided after) (xs : List SheetSet) (few : Few xs) where
  -- by induction on the questions: after the first, the rest is asked from a good part of the record
  settled : (r : SheetSet) → good r xs ≡ true → (qs : List Question) (s : ℕ) → Settles good decided after xs r qs s
  settled r g [] s = record { good_end = g; part = λ t h e. e; replies_alike = λ t h e. refl; record_alike = λ t h e. refl }
  settled r g (q ∷ qs) s =
      let rest = settled (record_after decided after xs r q s) (laws.stays r xs few g q (value_in q s)) qs s in
      let first : (t : ℕ) → t < 256 → mem (final decided after xs r (q ∷ qs) s) t ≡ true → reply_to decided after xs r q t ≡ reply_to decided after xs r q s =
      λ t h e. laws.same r xs few q (value_in q s) t h (rest.part t h e) in
      record {
        good_end = rest.good_end;
        part = λ t h e. laws.part r xs few q (value_in q s) t h (rest.part t h e);
        replies_alike = λ t h e.
            ap₂ (λ (a : Reply) (more : List Reply). a ∷ more) (first t h e)
            (ap (λ (a : Reply). replies decided after xs (after r xs q a) qs t) (first t h e) ∙ rest.replies_alike t h e);
        record_alike = λ t h e. ap (λ (a : Reply). final decided after xs (after r xs q a) qs t) (first t h e) ∙ rest.record_alike t h e;
      }

  hidden : (r : SheetSet) → good r xs ≡ true → (qs : List Question) (s k : ℕ) → k < length xs → Untold decided after xs r qs s (get_or xs k no_sheet)
  hidden r g qs s k h =
      let end = settled r g qs s in
      let out = laws.leaves (final decided after xs r qs s) xs few end.good_end k h in
      record {
        other = out.sheet;
        small = out.small;
        inside = end.part out.sheet out.small out.inside;
        untrue = out.outside;
        alike = end.replies_alike out.sheet out.small out.inside;
      }

pub hides : {good : SheetSet → List SheetSet → Bool} {decided : SheetSet → List SheetSet → Question → Value → Decision}
    {after : SheetSet → List SheetSet → Question → Reply → SheetSet} → Laws good decided after → Hides good decided after
hides laws = record { settles = λ r xs few g qs s. settled laws xs few r g qs s; untold = λ r xs few g qs s k h. hidden laws xs few r g qs s k h }

-- one question of a replay, as a loop takes it
pub replay_more : (decided : SheetSet → List SheetSet → Question → Value → Decision) (after : SheetSet → List SheetSet → Question → Reply → SheetSet) (xs : List SheetSet)
    (r new : SheetSet) (qs : List Question) (i s : ℕ) (d : Question) (v : Value) (made : Decision) → i < length qs
    → v ≡ value_in (get_or qs i d) s → made ≡ decided r xs (get_or qs i d) v → new ≡ after r xs (get_or qs i d) made.reply
    → final decided after xs new (drop (i + 1) qs) s ≡ final decided after xs r (drop i qs) s
replay_more decided after xs r new qs i s d v made h e f n =
    ap (λ (x : SheetSet). final decided after xs x (drop (i + 1) qs) s)
    (n ∙ ap (λ (x : Decision). after r xs (get_or qs i d) x.reply) (f ∙ ap (decided r xs (get_or qs i d)) e))
    ∙ sym (at_drop_more (λ zs. final decided after xs r zs s) qs i d h)
