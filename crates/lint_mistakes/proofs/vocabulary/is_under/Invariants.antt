use Rattle.std.proofs.Common.{◌≡◌, drop}
use Rattle.lint_mistakes.specs.Vocabularies.{reaches}
use Rattle.lint_mistakes.proofs.vocabulary.is_under.Given as goal

abbrev pub invariant-loop : goal.invariant-loop
invariant-loop l =
    reaches l.parents l.parents l.type_id l.other ≡ reaches l.parents (drop l.index l.parents) l.ancestor l.other
