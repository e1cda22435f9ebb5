use Rattle.std.proofs.Common.{inr, ap, ◌∙◌, ℕ, Vec}
use Rattle.std.specs.declared.alloc.Global.{Global}
use Rattle.pddl_ast.specs.Values.{domain_value, problem_value}
use Rattle.command_base.specs.Answers.{affirmed}
use Rattle.ground_command.proofs.Listings.{same_listing}
use Rattle.ground_command.proofs.ground_command.list_grounded.Goals as goal

pub returns : goal.returns
returns c =
    let same = same_listing (domain_value c.args.domain.now) (problem_value c.args.problem.now) c.in_ok-task.task c.in_ok-task.ensures.task in
    inr (inr (c.in_ok-task.ensures.within, ap affirmed (ap (λ (v : Vec ℕ Global). v.items) c.into_bytes.ensures.value ∙ (c.in_ok-list_task.ensures ∙ same))))
