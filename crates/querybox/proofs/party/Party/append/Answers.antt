use Rattle.std.proofs.Common.{◌≡◌, ◌++◌, [], ◌∷◌, ap, ◌∙◌, arith}
use Rattle.std.proofs.lemmas.List.{take_all, length-append}
use Rattle.tables.specs.Entries.{entries}
use Rattle.histories.specs.declared.data.Entry.{Entry}
use Rattle.querybox.specs.Room.{reserved}
use Rattle.querybox.proofs.party.Party.append.Goals as goal

pub returns-in-Some : goal.returns-in-Some
returns-in-Some c =
    let x = c.args.self.now in
    let e : Entry = record { question = c.in-Some.pending.question; reply = c.in-Some.pending.decision.reply } in
    let one : reserved x.pending ≡ 1 = ap reserved c.in-Some.is in
    let all : entries c.push.new.self ≡ entries x.log ++ e ∷ [] = c.push.ensures ∙ take_all 64 (entries x.log ++ e ∷ []) (omega (arith, length-append (entries x.log) (e ∷ []), x.room)) in
    λ h e is k. let same : c.in-Some.pending ≡ e = cc in rw (all, same, k)
