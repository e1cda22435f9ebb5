-- The next values are the sets that are listed.
use Rattle.std.proofs.Common.{◌≡◌, ◌∙◌, ◌<◌, sym, subst, ap, arith, length, map}
use Rattle.std.proofs.lemmas.Result.{IfOk-weaker}
use Rattle.dd_nodes.specs.Subfunctions.{Function, IsSubfunction}
use Rattle.task_core.specs.Tasks.{action_count, fluent_count, outcomes_at}
use Rattle.dd_sets.specs.Calls.{Adds}
use Rattle.dd_sets.specs.LiveSets.{IsLive, set_of}
use Rattle.dd_sets.specs.Rooms.{Small}
use Rattle.dd_sets.proofs.RoomSteps.{room_same}
use Rattle.encode_task.specs.Made.{MadeOf, HoldsOutcome}
use Rattle.encode_task.specs.Seen.{slots_of}
use Rattle.encode_task.specs.Slots.{Encoded, changed_in}
use Rattle.encode_task.specs.TaskSets.{after_values, led_into}
use Rattle.encode_task.proofs.LedLemmas.{led_by_sets, room_subst}
use Rattle.encode_task.proofs.MadeLemmas.{made_kept}
use Rattle.encode_task.proofs.enc.Enc.led_into.Goals as goal

pub returns-clause-added : goal.returns-clause-added
returns-clause-added c task made =
    let action : c.args.a.0 < action_count task = omega (arith, c.requires.action, made.actions) in
    let outcome : c.args.outcome < length (outcomes_at task c.args.a.0) = omega (arith, c.requires.outcome, made.outcomes c.args.a.0) in
    let inside = subst (MadeOf task) (sym c.self.view_is) made in
    let after = after_values task c.args.a.0 c.args.outcome in
    let held : HoldsOutcome c.self.inside.sets c.changed_by.result.now after =
    subst (λ changed. HoldsOutcome c.self.inside.sets changed after) (sym (c.changed_by.ensures ∙ ap (λ actions. changed_in (map slots_of actions) c.args.a.0 c.args.outcome) c.deref.ensures.value)) (inside.next c.args.a.0 c.args.outcome action outcome) in
    IfOk-weaker c.subst.result _ _
    (λ slot adds.
    subst (λ (enc : Encoded). Adds enc.sets c.subst.new.self slot.0 (led_into task c.args.a.0 c.args.outcome (set_of enc.sets c.args.x.0))) c.self.view_is
    (subst (λ (set : Function). Adds c.self.inside.sets c.subst.new.self slot.0 set) (led_by_sets c.self.inside.sets c.changed_by.result.now after held (set_of c.self.inside.sets c.args.x.0)) adds))
    c.subst.ensures.added

pub returns-clause-full : goal.returns-clause-full
returns-clause-full c full task made w wide small images =
    let action : c.args.a.0 < action_count task = omega (arith, c.requires.action, made.actions) in
    let outcome : c.args.outcome < length (outcomes_at task c.args.a.0) = omega (arith, c.requires.outcome, made.outcomes c.args.a.0) in
    let inside = subst (MadeOf task) (sym c.self.view_is) made in
    let after = after_values task c.args.a.0 c.args.outcome in
    let held : HoldsOutcome c.self.inside.sets c.changed_by.result.now after =
    subst (λ changed. HoldsOutcome c.self.inside.sets changed after) (sym (c.changed_by.ensures ∙ ap (λ actions. changed_in (map slots_of actions) c.args.a.0 c.args.outcome) c.deref.ensures.value)) (inside.next c.args.a.0 c.args.outcome action outcome) in
    let live : IsLive c.self.inside.sets c.args.x.0 = subst (λ (enc : Encoded). IsLive enc.sets c.args.x.0) (sym c.self.view_is) c.requires.live in
    let same = ap (λ (enc : Encoded). enc.sets) c.self.view_is in
    let vars : c.self.inside.sets.vars ≡ fluent_count task = inside.ready.vars ∙ inside.fluents in
    let set = set_of c.args.self.now.sets c.args.x.0 in
    room_same _ _ same 0 0 0 0 (omega arith) (omega arith)
    (room_subst w c.self.inside.sets c.subst.new.self c.args.x.0 c.changed_by.result.now after set c.subst.ensures.sound c.subst.ensures.kept live (ap (λ sets. set_of sets c.args.x.0) same) held (omega arith)
    (subst (λ v. Small v w set) (sym vars) small)
    (λ part of_set. subst (λ v. Small v w (λ values. part (after values))) (sym vars) (images part (subst (λ v. IsSubfunction v set part) vars of_set))) (c.subst.ensures.full full))

pub returns-clause-made : goal.returns-clause-made
returns-clause-made c task made = made_kept task _ c.subst.new.self c.subst.ensures.kept (subst (MadeOf task) (sym c.self.view_is) made)
