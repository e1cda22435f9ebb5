-- Where a run stops.
use Rattle.std.proofs.Common.{◌≡◌, ℕ, Bor, List, MatchOption, None, Option, Some, map, ap, subst}
use Rattle.std.specs.Prelude.{Vec}
use Rattle.std.specs.declared.alloc.Global.{Global}
use Rattle.task_core.specs.Vectors.{Vector}
use Rattle.task_core.specs.declared.conditions.Cond.{Cond}
use Rattle.task_core.specs.declared.tasks.Task.{Task}
use Rattle.counterexamples.specs.Findings.{HasFalseGoal, HasFalsePrecondition}
use Rattle.plan_rules.specs.Rules.{ContextRule}
use Rattle.trace.specs.RecordedRuns.{IsStop}
use Rattle.trace.specs.Turns.{IsRuledHalt, halt_ending}
use Rattle.trace.specs.Values.{stop_value}
use Rattle.trace.specs.declared.rules.Counting.{Counting}
use Rattle.trace.specs.declared.stops.Stop.TheVariants.{NoOutcome, NotExecutable, PlanEnds}
use Rattle.trace.specs.declared.turns.Halt.{Halt}
use Rattle.trace.specs.declared.turns.Halt.TheVariants.{NoOutcome as HaltNoOutcome, NotExecutable as HaltNotExecutable, PlanEnds as HaltPlanEnds}

pub at_plan_end : (task : Task) (rules : List ContextRule) (v : Vector) (c : Option ℕ) (number : ℕ) (halt : Halt) (found : Option (Vec (Bor Cond) Global)) → halt ≡ HaltPlanEnds
    → MatchOption found (task.goal ≡ None) (λ parts. HasFalseGoal task v (map (λ part. part.now) parts.items))
    → IsStop task rules v c (halt_ending number halt) (stop_value (PlanEnds found))
at_plan_end task rules v c number halt None at is = (ap (halt_ending number) at, is)
at_plan_end task rules v c number halt (Some parts) at is = (ap (halt_ending number) at, is)

pub at_no_outcome : (task : Task) (rules : List ContextRule) (v : Vector) (c : Option ℕ) (number : ℕ) (halt : Halt) (counting : Counting) (word outcomes : ℕ) → halt ≡ HaltNoOutcome counting word outcomes
    → IsRuledHalt rules v c halt → IsStop task rules v c (halt_ending number halt) (stop_value (NoOutcome counting word outcomes))
at_no_outcome task rules v c number halt counting word outcomes at ruled = (number, ap (halt_ending number) at, subst (IsRuledHalt rules v c) at ruled)

pub at_refusal : (task : Task) (rules : List ContextRule) (v : Vector) (c : Option ℕ) (number : ℕ) (halt : Halt) (counting : Counting) (parts : Vec (Bor Cond) Global) → halt ≡ HaltNotExecutable counting
    → HasFalsePrecondition task v counting.action.0 (map (λ part. part.now) parts.items)
    → IsRuledHalt rules v c halt → IsStop task rules v c (halt_ending number halt) (stop_value (NotExecutable counting parts))
at_refusal task rules v c number halt counting parts at is ruled = (number, ap (halt_ending number) at, subst (IsRuledHalt rules v c) at ruled, is)
