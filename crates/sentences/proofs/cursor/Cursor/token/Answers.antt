use Rattle.std.proofs.Common.{◌≡◌, ◌+◌, ◌-◌, ◌∙◌, sym, ap, refl, arith}
use Rattle.std.proofs.lemmas.List.{length-drop}
use Rattle.sentences.specs.Scanning.{end, scan_at}
use Rattle.sentences.specs.Tokens.{class_of}
use Rattle.sentences.proofs.Scans.{rest-is, rest-at, scan-end, scan-blank, scan-stray, scan-letters, blanks-goes, sign-goes}
use Rattle.sentences.proofs.cursor.Cursor.token.Goals as goal

pub returns-in-Letter : goal.returns-in-Letter
returns-in-Letter c =
    let s = c.args.self.now.text.now in
    let i = c.args.self.now.at + c.loop-skipped.skipped in
    let here = ap class_of (sym (rest-at s c.args.self.now.at c.loop-skipped.skipped)) ∙ sym c.in-Letter.ensures in
    let same : i + 1 + c.word_len.result - i ≡ 1 + c.word_len.result = omega arith in
    rw (same, c.word_len.ensures.count, rest-is s (i + 1)) (blanks-goes s c.loop-skipped.invariant (omega arith) (scan-letters s i (omega (arith, length-drop c.args.self.now.at s)) here))

pub returns-in-Sign : goal.returns-in-Sign
returns-in-Sign c =
    let s = c.args.self.now.text.now in
    let i = c.args.self.now.at + c.loop-skipped.skipped in
    let here = ap class_of (sym (rest-at s c.args.self.now.at c.loop-skipped.skipped)) ∙ sym c.in-Sign.ensures in
    blanks-goes s c.loop-skipped.invariant (omega arith) (sign-goes s i _ (omega (arith, length-drop c.args.self.now.at s)) here)

pub returns-in-Other : goal.returns-in-Other
returns-in-Other c =
    let s = c.args.self.now.text.now in
    let i = c.args.self.now.at + c.loop-skipped.skipped in
    let here = ap class_of (sym (rest-at s c.args.self.now.at c.loop-skipped.skipped)) ∙ sym c.in-Other.ensures in
    (i, refl, c.loop-skipped.invariant ∙ scan-stray s i (omega (arith, length-drop c.args.self.now.at s)) here)

pub loop-skipped-preserved : goal.loop-skipped-preserved
loop-skipped-preserved c =
    let s = c.args.self.now.text.now in
    let i = c.args.self.now.at + c.loop-skipped.skipped in
    let here = ap class_of (sym (rest-at s c.args.self.now.at c.loop-skipped.skipped)) ∙ sym c.in-Blank.ensures in
    c.loop-skipped.invariant ∙ scan-blank s i (omega (arith, length-drop c.args.self.now.at s)) here ∙ ap (scan_at s) (omega arith)

pub returns : goal.returns
returns c =
    let s = c.args.self.now.text.now in
    let i = c.args.self.now.at + c.loop-skipped.skipped in
    c.loop-skipped.invariant ∙ scan-end s i (omega (arith, length-drop c.args.self.now.at s)) ∙ ap end (omega (arith, length-drop c.args.self.now.at s))
