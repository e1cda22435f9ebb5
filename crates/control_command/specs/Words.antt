-- Which controller is wanted.
use Rattle.command_base.specs.Words.{Bytes, PlanOptions, PlanWords}
use Rattle.control_command.specs.declared.words.Shape.{Shape}

-- a controller from a plan, as `mbp plan` is asked for one; and whether its rules are guarded and how it
-- is shown
pub record ControlWords : Type 0 where
  pub plan : PlanWords
  pub shape : Shape

-- a controller for the goal in computation tree logic, whose actions may be tried again, for the domain
-- and the problem in the files of these names, with the options of `plan`; and whether its rules are
-- guarded and how it is shown
pub record FairWords : Type 0 where
  pub domain : Bytes
  pub problem : Bytes
  pub options : PlanOptions
  pub shape : Shape

pub data ControlRequest : Type 0 where
  to_plan : ControlWords → ControlRequest
  to_try : FairWords → ControlRequest

-- the files that are named
abbrev pub domain_of : ControlRequest → Bytes
domain_of (to_plan asked) = asked.plan.domain
domain_of (to_try asked) = asked.domain

abbrev pub problem_of : ControlRequest → Bytes
problem_of (to_plan asked) = asked.plan.problem
problem_of (to_try asked) = asked.problem
