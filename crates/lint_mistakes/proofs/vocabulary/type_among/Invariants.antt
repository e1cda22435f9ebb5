use Rattle.std.proofs.Common.{◌≡◌, drop}
use Rattle.lint_mistakes.specs.Vocabularies.{type_among}
use Rattle.lint_mistakes.proofs.vocabulary.type_among.Given as goal

abbrev pub invariant-loop-object : goal.invariant-loop-object
invariant-loop-object l = type_among l.objects l.name ≡ type_among (drop l.object-index l.objects) l.name
