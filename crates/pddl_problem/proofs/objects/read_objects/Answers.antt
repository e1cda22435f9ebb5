use Rattle.std.proofs.Common.{ℕ, List, ap, ◌∙◌}
use Rattle.sexpr_text.specs.Forest.{forest_of}
use Rattle.pddl_ast.specs.Environment.{known_value}
use Rattle.pddl_ast.specs.Known.{Known}
use Rattle.pddl_ast.specs.TypedLists.{names_of, typed_groups}
use Rattle.pddl_problem.proofs.ObjectLemmas.{seen-objects}
use Rattle.pddl_problem.proofs.objects.read_objects.Goals as goal

pub returns-clause-known : goal.returns-clause-known
returns-clause-known c =
    let before : Known = known_value c.args.known.now in
    let names = names_of (typed_groups (forest_of c.args.list.now)) in
    ap (λ (objects : List (List ℕ)). record before { objects = objects }) (c.in_ok-groups.ensures.seen ∙ seen-objects names before.objects)
