use Rattle.std.proofs.Common.{arith, drop}
use Rattle.std.proofs.lemmas.List.{take_all, length-drop}
use Rattle.lint_hints.proofs.pasting.after.Goals as goal

pub returns : goal.returns
returns c =
    take_all _ (drop c.args.start c.args.text.now) (omega (arith, length-drop c.args.start c.args.text.now))
