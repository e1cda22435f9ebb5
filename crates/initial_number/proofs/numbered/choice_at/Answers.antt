use Rattle.std.proofs.Common.{arith}
use Rattle.initial_number.proofs.ChoiceLemmas.{some_vectors}
use Rattle.initial_number.proofs.numbered.choice_at.Goals as goal

pub returns-else-number-count : goal.returns-else-number-count
returns-else-number-count c =
    (some_vectors c.args.task.now c.args.count c.requires.choices, omega (arith, c.requires.choices.sized, c.if-number-count.false))
