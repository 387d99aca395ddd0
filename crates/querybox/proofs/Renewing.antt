-- The questions of a log judged again one after the other.
use Rattle.std.proofs.Common.{◌≡◌, ℕ, zero, suc, ◌+◌, ◌<◌, List, [], ◌∷◌, ◌++◌, map, length, get_or, take, drop, refl, ap, ◌∙◌, append_assoc, arith, length-set}
use Rattle.std.proofs.lemmas.List.{drop_more, take_more_set, length-map, get_or-map}
use Rattle.sheets.specs.declared.SheetSet.{SheetSet}
use Rattle.sentences.specs.Lists.{sets_of}
use Rattle.tables.specs.Entries.{entries}
use Rattle.censors.specs.declared.question.Question.{Question}
use Rattle.censors.specs.declared.question.Reply.{Reply}
use Rattle.censors.specs.Questions.{value_in}
use Rattle.histories.specs.declared.data.Entry.{Entry}
use Rattle.histories.specs.Calls.{House, Party, change, questions, evaluated, remaining, renewed}
use Rattle.querybox.specs.declared.party.Party.{Party as Stored}
use Rattle.querybox.specs.Parties.{blank_entry, party_of, rejudged}
use Rattle.querybox.proofs.Views.{change-set}

-- the questions from the place i on judged again, from the record that stands
abbrev pub judged_from : House → ℕ → ℕ → Party → Party
judged_from h s i p = record {
  start = p.start;
  secrets = p.secrets;
  log = take i p.log ++ evaluated h p.known p.secrets (drop i (questions h p)) s;
  known = remaining h p.known p.secrets (drop i (questions h p)) s;
  pending = p.pending;
}

abbrev replying : Reply → Entry → Entry
replying a e = record { question = e.question; reply = a }

-- a reply that is replaced leaves the questions as they are
replied_questions : (a : Reply) (log : List Entry) (i : ℕ) → map (λ e. e.question) (change (replying a) log i) ≡ map (λ e. e.question) log
replied_questions a [] i = refl
replied_questions a (e ∷ log) zero = refl
replied_questions a (e ∷ log) (suc i) = ap (λ qs. e.question ∷ qs) (replied_questions a log i)

evaluated_length : (h : House) (r : SheetSet) (xs : List SheetSet) (qs : List Question) (s : ℕ) → length (evaluated h r xs qs s) ≡ length qs
evaluated_length h r xs [] s = refl
evaluated_length h r xs (q ∷ qs) s = ap suc (evaluated_length h (h.after r xs q (h.decided r xs q (value_in q s)).reply) xs qs s)

module _ (h : House) (s : ℕ) where
  renewed-length : (p : Party) → length (renewed h s p).log ≡ length p.log
  renewed-length p = evaluated_length h p.start p.secrets (questions h p) s ∙ length-map p.log (λ (e : Entry). e.question)

  -- a counterparty that is renewed has as many replies
  pub renewed-long : (x y : Stored) → party_of y ≡ renewed h s (party_of x) → length (entries y.log) ≡ length (entries x.log)
  renewed-long x y e = ap (λ p. length p.log) e ∙ renewed-length (party_of x)

  judged-more : (p : Party) (i : ℕ) → i < length p.log → judged_from h s (i + 1) (rejudged h s i p) ≡ judged_from h s i p
  judged-more p i l =
      let q : Question = (get_or p.log i blank_entry).question in
      let a : Reply = (h.decided p.known p.secrets q (value_in q s)).reply in
      let next : drop i (questions h p) ≡ q ∷ drop (i + 1) (questions h p) =
      drop_more (questions h p) i blank_entry.question (omega (arith, length-map p.log (λ (e : Entry). e.question)))
      ∙ ap (λ q'. q' ∷ drop (i + 1) (questions h p)) (get_or-map (λ e. e.question) p.log i blank_entry blank_entry.question l) in
      rw (
        replied_questions a p.log i,
        change-set (replying a) p.log i blank_entry,
        take_more_set p.log i (record { question = q; reply = a }) l,
        append_assoc (take i p.log),
        next,
      )

  -- once the places before i have been judged again, what is left to judge takes the counterparty x where all of it takes p
  pub record Midway (i n : ℕ) (p : Party) (x : Stored) : Type 0 where
    pub left : judged_from h s i (party_of x) ≡ renewed h s p
    pub many : length (entries x.log) ≡ n

  pub midway-more : {i n : ℕ} {p : Party} {x y : Stored} → Midway i n p x → i < n → party_of y ≡ rejudged h s i (party_of x) → Midway (i + 1) n p y
  midway-more {i} {x = x} w b judged =
      let q : Question = (get_or (entries x.log) i blank_entry).question in
      let r : Reply = (h.decided x.known (sets_of x.secrets) q (value_in q s)).reply in
      let same : length (change (replying r) (entries x.log) i) ≡ length (entries x.log) = ap length (change-set (replying r) (entries x.log) i blank_entry) ∙ length-set (entries x.log) i _ in
      record {
        left = ap (judged_from h s (i + 1)) judged ∙ judged-more (party_of x) i (omega (arith, w.many)) ∙ w.left;
        many = ap (λ q. length q.log) judged ∙ same ∙ w.many;
      }
