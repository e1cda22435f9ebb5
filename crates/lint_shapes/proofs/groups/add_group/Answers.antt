use Rattle.std.proofs.lemmas.List.Elements.{All-push, All-same}
use Rattle.std.proofs.Common.{[], ◌∷◌, ◌++◌}
use Rattle.mutex_groups.specs.Groups.{IsInductive}
use Rattle.task_core.specs.States.{truth}
use Rattle.task_core.specs.declared.states.State.{State}
use Rattle.lint_shapes.proofs.groups.add_group.Goals as goal

pub returns-in_ok-push-in-Group-clause-groups : goal.returns-in_ok-push-in-Group-clause-groups
returns-in_ok-push-in-Group-clause-groups c =
    let task = c.args.world.now.task.now in
    let members = c.members_of-members.result in
    let old = c.args.groups.now.items in
    All-same (λ (m : State). IsInductive task (truth m)) c.push.new.self.items (old ++ members ∷ []) c.in_ok-push-in-Group.ensures.items
    (All-push (λ (m : State). IsInductive task (truth m)) old members c.requires (c.kind_of.ensures.group c.in-Group.is))
