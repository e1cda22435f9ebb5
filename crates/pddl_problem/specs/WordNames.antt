-- The names of a problem that is read are words.
use Rattle.std.specs.Prelude.{All}
use Rattle.pddl_ast.specs.declared.trees.Named.{Named}
use Rattle.pddl_ast.specs.Trees.{ProblemTree}
use Rattle.pddl_ast.specs.WordTexts.{IsWordText}

-- the names of the objects are words
abbrev pub HasWordObjects : ProblemTree → Type 0
HasWordObjects p = All (λ (n : Named). IsWordText n.name) p.objects
