use Rattle.std.proofs.Common.{◌≡◌, ◌++◌, drop, map, not}
use Rattle.std.specs.List.{filter}
use Rattle.pddl_domain.specs.Types as specs
use Rattle.pddl_domain.proofs.types.push_for_each.Given as goal

abbrev pub invariant-loop-name : goal.invariant-loop-name
invariant-loop-name l =
    l.initial.parents.items ++ map (λ name. l.number) (filter (λ name. not (specs.is_object name)) l.names)
    ≡ l.parents.items ++ map (λ name. l.number) (filter (λ name. not (specs.is_object name)) (drop l.name-index l.names))
