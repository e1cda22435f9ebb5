-- A plan with contexts that is a yes never ends.
use Rattle.list_laws.proofs.Elements.{some_element}
use Rattle.task_core.specs.Tasks.{system_of}
use Rattle.plan_check.specs.declared.verdicts.Reason.TheVariants.{Stuck, Unexecutable}
use Rattle.plan_rules.specs.Denoted.{denoted_contexts}
use Rattle.list_laws.proofs.Options.{some_value}
use Rattle.counterexamples.specs.Shown.{ContextPlansNeverEnd}

pub never_end : ContextPlansNeverEnd
never_end task contexts rules goal bound is x reached end =
    let sys = system_of task in
    let plan = denoted_contexts rules in
    let never = is.free Stuck in
    let a = some_value (plan.act x.state x.context) (never.acts x reached) in
    let t = some_element (sys.next x.state a.0) (is.free Unexecutable x a.0 reached a.1) in
    let next = some_value (plan.ctxt x.state x.context t.0) (never.contexts x a.0 t.0 reached a.1 t.1) in
    end (record { state = t.0; context = next.0 }) (record { action = a.0; acts = a.1; outcome = t.1; context = next.1 })
