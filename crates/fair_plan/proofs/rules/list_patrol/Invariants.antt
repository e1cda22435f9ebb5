use Rattle.std.proofs.Common.{◌≤◌}
use Rattle.fair_plan.specs.Boards.{IsThere, Origin}
use Rattle.fair_plan.specs.Rounds.{Lists}
use Rattle.fair_plan.proofs.rules.list_patrol.Given as goal

abbrev pub invariant-loop-visit : goal.invariant-loop-visit
invariant-loop-visit l = (origin : Origin) → IsThere origin (l.fn.enc, l.fn.board.slots.items)
    → IsThere origin (l.enc, l.board.slots.items) × Lists origin (λ contexts. l.fn.sizes.count ≤ contexts) l.fn.rules.items l.rules.items
