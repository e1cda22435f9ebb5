use Rattle.std.proofs.Common.{◌+◌, ◌≤◌}
use Rattle.fair_plan.specs.Boards.{IsThere, Origin}
use Rattle.fair_plan.specs.Rounds.{Lists}
use Rattle.fair_plan.proofs.rules.list_next.Given as goal

abbrev pub invariant-loop-a : goal.invariant-loop-a
invariant-loop-a l = (origin : Origin) → IsThere origin (l.fn.enc, l.fn.board.slots.items)
    → IsThere origin (l.enc, l.board.slots.items) × Lists origin (λ contexts. l.fn.sizes.count + 1 ≤ contexts) l.fn.rules.items l.rules.items
