use Rattle.std.proofs.Common.{◌+◌, ◌*◌, [], rules}
use Rattle.dd_sets.proofs.OwnedLemmas.{own_chain}
use Rattle.task_core.specs.Tasks.{action_count}
use Rattle.task_core.specs.declared.classes.Class.TheVariants.{Cyclic, Strong, Weak}
use Rattle.plan_command.proofs.SearchRooms.{room_after}
use Rattle.drill_command.proofs.drill_command.find_classes.Goals as goal

pub returns-in_err-weak-clause-full : goal.returns-in_err-weak-clause-full
returns-in_err-weak-clause-full c full = (
  Weak,
  record {
    no_room = λ w bounds. c.find_plan.ensures.full (search rules) w bounds;
    made = c.find_plan.ensures.still_made;
    slots = c.find_plan.ensures.slots;
  },
)

pub returns-in_err-strong-clause-full : goal.returns-in_err-strong-clause-full
returns-in_err-strong-clause-full c full =
    let most = 3 * action_count c.args.task.now + 32 in
    let weak = c.in_ok-weak.ensures.slots in (
      Strong,
      record {
        no_room = λ w bounds. room_after _ _ most 16 weak (c.find_plan-2.ensures.full (search rules) w bounds);
        made = c.find_plan-2.ensures.still_made;
        slots = own_chain _ _ _ [] [] weak c.find_plan-2.ensures.slots;
      },
    )

pub returns-in_err-cyclic-clause-full : goal.returns-in_err-cyclic-clause-full
returns-in_err-cyclic-clause-full c full =
    let most = 3 * action_count c.args.task.now + 32 in
    let both = own_chain _ _ _ [] [] c.in_ok-weak.ensures.slots c.in_ok-strong.ensures.slots in (
      Cyclic,
      record {
        no_room = λ w bounds. room_after _ _ most 16 both (c.find_plan-3.ensures.full (search rules) w bounds);
        made = c.find_plan-3.ensures.still_made;
        slots = own_chain _ _ _ [] [] both c.find_plan-3.ensures.slots;
      },
    )
