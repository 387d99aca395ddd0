use Rattle.std.proofs.Common.{◌≡◌, Ok, rules}
use Rattle.sentences.specs.Machine.{reading}
use Rattle.sentences.specs.Naming.{words}
use Rattle.querybox.proofs.Enrolments.{start-lawful, start-met}
use Rattle.querybox.proofs.query_box.QueryBox.start_from.Goals as goal

pub returns-in_default : goal.returns-in_default
returns-in_default g c = start-lawful _ _ c.lawful_sheets-lawful.ensures _ c.in_default.is

pub returns : goal.returns
returns g c =
    let read : Ok c.in_ok-meaning.meaning ≡ reading (words c.args.self.now.names) c.in-Some.text.now = search rules in
    start-met _ _ c.lawful_sheets-lawful.ensures _ _ _ _ c.in-Some.is read c.meet.ensures
