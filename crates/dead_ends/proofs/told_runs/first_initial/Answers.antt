use Rattle.std.proofs.Common.{map, subst}
use Rattle.std.specs.Prelude.{IfSome, Option}
use Rattle.dead_ends.specs.ToldRuns.{IsFirstDeadEnd}
use Rattle.task_core.specs.States.{vector}
use Rattle.task_core.specs.Tasks.{fluent_count, system_of}
use Rattle.task_core.specs.declared.states.State.{State}
use Rattle.std.proofs.Common.{List, ℕ}
use Rattle.dead_ends.proofs.Firsts.{first_start, place_within}
use Rattle.dead_ends.proofs.told_runs.first_initial.Goals as goal

pub returns-in-Some-clause-first : goal.returns-in-Some-clause-first
returns-in-Some-clause-first g c =
    let task = c.args.task.now in
    let n = fluent_count task in
    let class = c.args.wanted.now.class in
    let states = c.in_ok-states.states.items in
    let P : Option ℕ → Type 0 = λ found. IfSome found (IsFirstDeadEnd class (system_of task) (map (vector n) c.deref.result.now)) in
    let found : IsFirstDeadEnd class (system_of task) (map (vector n) c.deref.result.now) c.in-Some.number = subst P c.in-Some.is c.in_ok-number.ensures.dead in
    let Q : List State → Type 0 = λ xs. IsFirstDeadEnd class (system_of task) (map (vector n) xs) c.in-Some.number in
    let dead : IsFirstDeadEnd class (system_of task) (map (vector n) states) c.in-Some.number = subst Q c.deref.ensures.value found in
    first_start class task c.first_dead_end.new.task c.start_at.new.task states c.index.result.now c.in-Some.number c.in_ok-states.ensures.states dead
    (place_within class (system_of task) n states c.in-Some.number dead) c.index.ensures c.in_ok-number.ensures.like c.start_at.ensures.starts
