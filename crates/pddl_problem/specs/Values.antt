-- Private: the plain trees that the code's values stand for.
use Rattle.std.specs.Prelude.{List, map}
use Rattle.std.specs.declared.vec.Vec.{Vec}
use Rattle.std.specs.declared.alloc.Global.{Global}
use Rattle.sexpr_text.specs.Forest.{forest_of}
use Rattle.pddl_ast.specs.declared.headed.HeadedList.{HeadedList}
use Rattle.pddl_ast.specs.declared.trees.InitialLiteral.{InitialLiteral}
use Rattle.pddl_ast.specs.Trees.{AtomTree, LiteralTree}
use Rattle.pddl_ast.specs.Values.{atom_value, literal_value}
use Rattle.pddl_problem.specs.declared.init.Initial.{Initial}
use Rattle.pddl_problem.specs.declared.definitions.Definition.{Definition}
use Rattle.pddl_problem.specs.Init.{AtomForm}
use Rattle.pddl_problem.specs.Problems.{Definition as ProblemDefinition}

abbrev pub form_value : HeadedList → AtomForm
form_value a =
    record {
      span = a.span;
      head_span = a.head_span;
      head = a.head.now;
      terms = forest_of
          a.rest.now;
    }

abbrev pub alternative_value : Vec InitialLiteral Global → List LiteralTree
alternative_value alternative = map literal_value alternative.items

abbrev pub entry_value : Vec (Vec InitialLiteral Global) Global → List (List LiteralTree)
entry_value entry = map alternative_value entry.items

abbrev pub facts_in : Initial → List AtomTree
facts_in initial = map atom_value initial.facts.items

abbrev pub entries_in : Initial → List (List (List LiteralTree))
entries_in initial = map entry_value initial.entries.items

abbrev pub definition_value : Definition → ProblemDefinition
definition_value d = record { span = d.span; name = d.name.now; items = forest_of d.items.now }
