-- The censor that a program chooses keeps the laws, whichever it is.
use Rattle.censors.specs.declared.builtin.Builtin.{Builtin}
use Rattle.censors.specs.declared.builtin.Builtin.TheVariants.{Refusing, Lying, Combined}
use Rattle.censors.specs.Guarding.{singly, jointly}
use Rattle.censors.specs.Kinds.{good_of, table_of}
use Rattle.censors.specs.Laws.{Laws}
use Rattle.censors.specs.TableRules.{lawful, refusing_rules, speaking_rules}
use Rattle.censors.specs.Tables.{decided_by, entered}

pub chosen : (k : Builtin) → Laws (good_of k) (decided_by (good_of k) (table_of k)) (λ r _ q a. entered r q a)
chosen Refusing = lawful _ singly _ refusing_rules
chosen Lying = lawful _ jointly _ speaking_rules
chosen Combined = lawful _ singly _ speaking_rules
