use Rattle.std.proofs.Common.{sym}
use Rattle.std.proofs.lemmas.Result.{err_from_is_err_and}
use Rattle.run_replay.proofs.RunLaws.{starts, one_more, ends, front_of, refuses, tallies_are_small, tallies_are_sums}
use Rattle.run_replay.proofs.runs.run_guide.Goals as goal

pub loop-end-init : goal.loop-end-init
loop-end-init g c = rw c.new.ensures.items (starts _ _ _ _ _ _ _ c.requires.within)

pub returns-in-Ends-clause-trace : goal.returns-in-Ends-clause-trace
returns-in-Ends-clause-trace g c = sym (ends c.loop-end.invariant c.in-Ends.ensures.turn)

pub returns-in-Ends-clause-tallies : goal.returns-in-Ends-clause-tallies
returns-in-Ends-clause-tallies g c = tallies_are_sums _ _ _ c.loop-end.invariant c.requires.untold

pub returns-in-Refuses-clause-refused : goal.returns-in-Refuses-clause-refused
returns-in-Refuses-clause-refused g c =
    let turned = c.in-Refuses.ensures.turn in (
      c.loop-end.run.steps.items,
      refuses _ _ _ _ _ _ _ turned.2 (ends c.loop-end.invariant turned.1),
      c.loop-end.invariant.in_task,
      c.loop-end.invariant.told,
    )

pub go_on-requires : goal.go_on-requires
go_on-requires g c = record { small = tallies_are_small _ _ _ c.loop-end.invariant c.requires.untold }

pub loop-end-preserved : goal.loop-end-preserved
loop-end-preserved g c =
    let made = c.in_ok-go_on-in-Goes.ensures in
    rw (made.steps, made.state, made.context)
    (one_more c.in-Goes.step c.loop-end.invariant c.in-Goes.ensures.turn c.in-Goes.ensures.in_task made.told)

pub returns-in_err-go_on-in-Goes-clause-refused : goal.returns-in_err-go_on-in-Goes-clause-refused
returns-in_err-go_on-in-Goes-clause-refused g c =
    let p = err_from_is_err_and c.from_residual.result c.from_residual.ensures.1 in
    let run = one_more c.in-Goes.step c.loop-end.invariant c.in-Goes.ensures.turn c.in-Goes.ensures.in_task c.in_err-go_on-in-Goes.ensures.told in
    rw (p.1, p.2) (_, front_of run, run.in_task, run.told)
