use Rattle.task_sets.proofs.NoInitial.{empty_where_none}
use Rattle.task_sets.proofs.initial_sets.has_no_initial.Goals as goal

pub returns : goal.returns
returns c =
    let enc = c.args.enc.now in
    empty_where_none c.args.task.now enc.sets enc.initial c.is_none.result (λ s listed. (c.tasks_have_systems.ensures.system.initial s listed).vector) c.requires.made.initial (rw (c.sets.ensures, c.initial.ensures) at c.is_none.ensures.answer)
