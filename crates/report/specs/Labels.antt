-- The words that the labels are written with.
use Rattle.std.specs.Prelude.{◌≡◌, ◌≢◌, ℕ, List, Result, MatchResult, codes}
use Rattle.report.specs.declared.input.Label.{Label}
use Rattle.report.specs.declared.input.UnknownLabel.{UnknownLabel}
use Rattle.report.specs.declared.input.Label.TheVariants.{Rule, Secret, Prior, Question}

abbrev pub label_name : Label → List ℕ
label_name Rule = codes "rule"
label_name Secret = codes "secret"
label_name Prior = codes "prior"
label_name Question = codes "question"

-- the label with this name, or that none has it
abbrev pub NamedBy : List ℕ → Result Label UnknownLabel → Type 0
NamedBy word r = MatchResult r (λ x. word ≡ label_name x) (λ _. (x : Label) → word ≢ label_name x)
