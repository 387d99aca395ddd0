use Rattle.std.proofs.Common.{◌≡◌, map, take, sym, Ok, rules, ℕ, ◌*◌, ◌%◌, ◌^◌, ◌≤◌, length, ap, ◌∙◌, subst, arith}
use mir.Facts.{Fits-below}
use Rattle.std.proofs.lemmas.Nat.{one_shl}
use Rattle.sentences.specs.declared.names.Names.{Names}
use Rattle.sentences.specs.declared.faults.ListKind.TheVariants as kind
use Rattle.sentences.specs.Lists.{read_list, sets_of}
use Rattle.sentences.specs.Naming.{words, naming}
use Rattle.querybox.specs.Parties.{party_of}
use Rattle.querybox.proofs.Boxes.{few_facts}
use Rattle.querybox.proofs.Happening.{promise-kept}
use Rattle.querybox.proofs.Openings.{open-past}
use Rattle.querybox.proofs.query_box.QueryBox.open.Goals as goal

-- the bound of the sheets, as it is computed
bound : (x : Names) (n : ℕ) → n ≡ length (words x) → (1 * 2 ^ n) % 2 ^ 16 ≡ 2 ^ length (words x)
bound x n e = let h : n ≤ 8 = few_facts x n e in one_shl n 16 (omega arith) ∙ ap (λ (k : ℕ). 2 ^ k) e

pub overflow_cast-count : goal.overflow_cast-count
overflow_cast-count g c = Fits-below tt (few_facts c.in_ok-names.names _ c.count.ensures)

pub overflow_shl-count : goal.overflow_shl-count
overflow_shl-count g c = omega (arith, few_facts c.in_ok-names.names _ c.count.ensures)

pub returns-then-sheet-count-clause-is : goal.returns-then-sheet-count-clause-is
returns-then-sheet-count-clause-is g c =
    let named : Ok (words c.in_ok-names.names) ≡ naming c.args.names.now = search rules in
    let ruled : Ok (sets_of c.in_ok-rules.rules) ≡ read_list (words c.in_ok-names.names) kind.HouseRules 0 c.args.rules.now = search rules in
    open-past _ _ _ _ _ _ _ _ named _ ruled (subst (λ (k : ℕ). k ≤ c.args.sheet) (bound c.in_ok-names.names _ c.count.ensures) c.if-sheet-count.true)

pub returns-clause-promise : goal.returns-clause-promise
returns-clause-promise g c = promise-kept g.C.Censor.good g.C.Censor.decided g.C.Censor.after _ (ap (λ (n : ℕ). map party_of (take n c.new.result.parties.items)) (sym c.new.ensures)) c.in_default.ensures (g.met.C.Censor.keeps c.args.censor)
