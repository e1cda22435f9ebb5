-- With the groups that are left, the widest so far leads to the widest of all.
use Rattle.std.proofs.Common.{◌≡◌, drop}
use Rattle.lint_hints.specs.Sentences.{widest, widest_after}
use Rattle.lint_hints.proofs.sentences.widest.Given as goal

abbrev pub invariant-loop-group : goal.invariant-loop-group
invariant-loop-group l =
    widest_after l.count l.most.items (drop l.group-index l.groups) ≡ widest l.count l.groups
