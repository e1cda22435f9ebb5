-- The slot that was found holds the next value.
use Rattle.std.proofs.Common.{◌≡◌, ◌<◌, Some, arith, length, rules}
use Rattle.std.proofs.lemmas.Grind.{common_steps}
use Rattle.task_core.specs.Tasks.{action_count, outcomes_at}
use Rattle.encode_task.specs.Slots.{next_slot}
use Rattle.encode_task.proofs.MadeLemmas.{next_holds}
use Rattle.encode_task.proofs.enc.Enc.next.Goals as goal

pub returns-in-Some-clause-holds : goal.returns-in-Some-clause-holds
returns-in-Some-clause-holds c task made =
    let action : c.args.a.0 < action_count task = omega (arith, c.requires.action, made.actions) in
    let outcome : c.args.outcome < length (outcomes_at task c.args.a.0) = omega (arith, c.requires.outcome, made.outcomes c.args.a.0) in
    let slot : next_slot c.args.self.now c.args.a.0 c.args.outcome c.args.f.0 ≡ Some c.in-Some.slot = first_of (search rules, grind (arith, common_steps)) in
    next_holds task c.args.self.now made c.args.a.0 c.args.outcome c.args.f.0 c.in-Some.slot action outcome slot

pub returns-in-None-clause-holds : goal.returns-in-None-clause-holds
returns-in-None-clause-holds c task made =
    let action : c.args.a.0 < action_count task = omega (arith, c.requires.action, made.actions) in
    let outcome : c.args.outcome < length (outcomes_at task c.args.a.0) = omega (arith, c.requires.outcome, made.outcomes c.args.a.0) in
    let slot : next_slot c.args.self.now c.args.a.0 c.args.outcome c.args.f.0 ≡ Some c.unwrap.result = first_of (search rules, grind (arith, common_steps)) in
    next_holds task c.args.self.now made c.args.a.0 c.args.outcome c.args.f.0 c.unwrap.result action outcome slot
