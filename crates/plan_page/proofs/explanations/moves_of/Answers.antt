use Rattle.std.proofs.Common.{◌≡◌, None, rules}
use Rattle.plan_page.specs.Explanations.{moves_of}
use Rattle.plan_page.proofs.Counted.{uneven}
use Rattle.plan_page.proofs.explanations.moves_of.Goals as goal

pub returns-then-rules-outcomes-clause-none : goal.returns-then-rules-outcomes-clause-none
returns-then-rules-outcomes-clause-none c =
    let none : moves_of c.args.rules.now c.args.outcomes.now ≡ None = uneven c.args.rules.now c.args.outcomes.now (search rules) in
    search (rules, none)
