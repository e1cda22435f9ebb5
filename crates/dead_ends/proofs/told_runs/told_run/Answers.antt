use Rattle.std.proofs.Common.{ℕ, subst}
use Rattle.std.specs.Prelude.{IfSome, Option}
use Rattle.dead_ends.specs.Started.{IsFirstStart}
use Rattle.dead_ends.proofs.Told.{told_map}
use Rattle.dead_ends.proofs.told_runs.told_run.Goals as goal

pub returns-in-Some-clause-told : goal.returns-in-Some-clause-told
returns-in-Some-clause-told g c =
    let P : Option ℕ → Type 0 = λ found. IfSome found (λ number. IsFirstStart c.args.wanted.now.class c.args.task.now number c.first_initial.new.task) in
    told_map c.args.wanted.now.class c.args.task.now c.first_initial.new.task c.in-Some.number c.told_from.result
    c.in_ok-number.ensures.like (subst P c.in-Some.is c.in_ok-number.ensures.first) c.told_from.ensures.told
