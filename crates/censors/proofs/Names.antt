-- A censor found by its word.
use Rattle.std.proofs.Common.{◌≡◌, ◌≢◌, ℕ, List, [], ◌∷◌, Option, Some, None, MatchOption, arith}
use Rattle.std.specs.List.{AllWithin}
use Rattle.std.specs.Option.{ok_or}
use Rattle.censors.specs.declared.builtin.Builtin.{Builtin}
use Rattle.censors.specs.declared.builtin.Builtin.TheVariants.{Refusing, Lying, Combined}
use Rattle.censors.specs.Kinds.{builtin_word, NamedBy}

abbrev pub three : List Builtin
three = Refusing ∷ Lying ∷ Combined ∷ []

-- what holds of each of the three holds of every censor
each : (P : Builtin → Type 0) → AllWithin P three 0 3 → (k : Builtin) → P k
each P all Refusing = all 0 Refusing (omega arith) (omega arith)
each P all Lying = all 1 Refusing (omega arith) (omega arith)
each P all Combined = all 2 Refusing (omega arith) (omega arith)

-- what a search through the three finds
pub named_by : (word : List ℕ) (found : Option Builtin) {Found : Builtin → Type 0} → ((k : Builtin) → Found k → word ≡ builtin_word k)
    → MatchOption found (AllWithin (λ k. word ≢ builtin_word k) three 0 3) Found → NamedBy word (ok_or found (record {}))
named_by word (Some k) f h = f k h
named_by word None f h = each (λ k. word ≢ builtin_word k) h
