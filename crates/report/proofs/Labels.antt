-- A label found by its name.
use Rattle.std.proofs.Common.{◌≡◌, ◌≢◌, ℕ, List, [], ◌∷◌, Option, Some, None, MatchOption, arith}
use Rattle.std.specs.List.{AllWithin}
use Rattle.std.specs.Option.{ok_or}
use Rattle.report.specs.declared.input.Label.{Label}
use Rattle.report.specs.declared.input.Label.TheVariants.{Rule, Secret, Prior, Question}
use Rattle.report.specs.Labels.{label_name, NamedBy}

abbrev pub four : List Label
four = Rule ∷ Secret ∷ Prior ∷ Question ∷ []

-- what holds of each of the four holds of every label
each : (P : Label → Type 0) → AllWithin P four 0 4 → (x : Label) → P x
each P all Rule = all 0 Rule (omega arith) (omega arith)
each P all Secret = all 1 Rule (omega arith) (omega arith)
each P all Prior = all 2 Rule (omega arith) (omega arith)
each P all Question = all 3 Rule (omega arith) (omega arith)

-- what a search through the four finds
pub named_by : (word : List ℕ) (found : Option Label) {Found : Label → Type 0} → ((x : Label) → Found x → word ≡ label_name x) → MatchOption found (AllWithin (λ x. word ≢ label_name x) four 0 4) Found → NamedBy word (ok_or found (record {}))
named_by word (Some x) f h = f x h
named_by word None f h = each (λ x. word ≢ label_name x) h
