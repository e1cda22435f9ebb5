use Rattle.std.proofs.Common.{◌≡◌, map, string_bytes, take}
use Rattle.lint_hints.specs.Sentences.{shape_text}
use Rattle.lint_hints.proofs.sentences.sentences.Given as goal

abbrev pub invariant-loop-one : goal.invariant-loop-one
invariant-loop-one l = map string_bytes l.told.items ≡ map (shape_text l.task) (take l.one-index l.found)
