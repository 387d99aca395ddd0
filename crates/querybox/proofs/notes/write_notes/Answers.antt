use Rattle.std.proofs.Common.{◌≡◌, ◌+◌, ◌<◌, ◌++◌, ◌∷◌, [], min, length, ◌∙◌, ap₂, zero-add, arith, rules}
use Rattle.std.proofs.lemmas.Iterator.{YieldsList-from_slice, YieldsList-from_zip}
use Rattle.std.proofs.lemmas.Iterator.Consumers.{YieldsList-from_enumerate, YieldsList-turn}
use Rattle.std.proofs.lemmas.List.{length-append}
use Rattle.std.proofs.lemmas.List.FromFn.{length-enumerate_from, get_or-enumerate_from}
use Rattle.std.proofs.lemmas.Slice.Zip.{length-zip, get_or-zip}
use Rattle.std.specs.List.{zip}
use Rattle.querybox.proofs.Writing.{changed_next}
use Rattle.querybox.proofs.notes.write_notes.Goals as goal

pub loop-place-preserved : goal.loop-place-preserved
loop-place-preserved c =
    let old = c.args.old.now in
    let new = c.args.new.now in
    let i = length c.loop-place.yielded in
    let e = c.in-Some.before.now in
    let e' = c.in-Some.after.now in
    let turn = YieldsList-turn (YieldsList-from_enumerate (YieldsList-from_zip (YieldsList-from_slice old (cc)) (YieldsList-from_slice new (cc))) (cc))
    c.loop-place.yielded c.loop-place.place-iterator c.loop-place.yielded_by c.next.result c.next.new.self _ c.in-Some.is c.next.ensures.steps in
    let within : i < min (length old) (length new) = omega (arith, turn.0, length-enumerate_from 0 (zip old new), length-zip old new) in
    let is = turn.1 ∙ get_or-enumerate_from 0 (zip old new) i (c.in-Some.place, (e, e')) (omega (arith, length-zip old new)) in
    let both = is ∙ ap₂ (λ n p. (n, p)) (zero-add i) (get_or-zip old new i (e, e') (omega arith) (omega arith)) in
    let more : length (c.loop-place.yielded ++ (c.in-Some.place, (c.in-Some.before, c.in-Some.after)) ∷ []) ≡ i + 1 = length-append c.loop-place.yielded _ in (
      search rules,
      tt,
      rw more (changed_next c.args.counterparty i c.in-Some.place old new e e' (omega arith) (omega arith) both c.loop-place.invariant.2 c.write_note-end.ensures.writes),
      omega (arith, more),
    )
