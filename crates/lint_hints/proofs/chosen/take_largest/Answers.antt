use Rattle.std.proofs.Common.{arith}
use Rattle.lint_hints.proofs.Taken.{more_found, one_found}
use Rattle.lint_hints.proofs.chosen.take_largest.Goals as goal

pub returns-clause-chosen : goal.returns-clause-chosen
returns-clause-chosen c =
    let left = c.args.left.now in
    more_found c.args.task.now c.args.chosen.now.items c.push.new.self.items c.remove-one.result c.in_ok-push.ensures.items
    (one_found c.args.task.now left.items c.largest-place.result c.remove-one.result (omega (arith, c.if-place-len.false, c.len.ensures, left.ok.0)) c.remove-one.ensures.value c.requires.left)
    c.requires.chosen
