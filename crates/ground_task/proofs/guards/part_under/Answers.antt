use Rattle.std.proofs.Common.{◌≡◌, ◌∷◌, map, ap, sym, ◌∙◌}
use Rattle.pddl_system.specs.Outcomes.{Condition, under}
use Rattle.ground_task.specs.Drafts.{change_tree, conditional, guard_of, guard_trees}
use Rattle.ground_task.proofs.PartTrees.{map_twice}
use Rattle.ground_task.proofs.guards.part_under.Goals as goal

pub returns : goal.returns
returns c =
    let gs = guard_trees c.args.part.guards.items in
    let chs = map change_tree c.args.part.changes.items in
    let k = guard_of c.args.formula.now c.args.scope.now in
    let first : c.insert.new.self.items ≡ c.in_ok-guarded_by.field-0 ∷ c.args.part.guards.items = c.in_ok-insert.ensures.items in
    ap (λ l. map (conditional (guard_trees l)) chs) first
    ∙ ap (λ (g : Condition). map (conditional (g ∷ gs)) chs) c.in_ok-guarded_by.ensures
    ∙ sym (map_twice (under k) (conditional gs) chs)
