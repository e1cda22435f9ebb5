-- The task that was grounded is that of the texts.
use Rattle.std.proofs.Common.{◌≡◌, ℕ, List}
use Rattle.std.specs.Prelude.{Err, IfOk, IfSome, None, Ok, Option, Result, Some}
use Rattle.domain_read.specs.Domains.{SpellsDomain}
use Rattle.lint_hints.specs.Hints.{IsTaskOfTexts}
use Rattle.pddl_ast.specs.Trees.{DomainTree, ProblemTree}
use Rattle.pddl_problem.specs.Problems.{SpellsProblem}
use Rattle.pddl_system.specs.Tasks.{task_of}
use Rattle.pddl_system.specs.Values.{task_value}
use Rattle.task_core.specs.declared.tasks.Task.{Task}

pub of_texts : {E : Type 0} (r : Result (Option Task) E) (domain_text problem_text : List ℕ) (domain : DomainTree) (problem : ProblemTree)
    → SpellsDomain domain_text domain → SpellsProblem problem_text domain problem
    → IfOk r (λ found. IfSome found (λ task. task_value task ≡ task_of domain problem))
    → IfOk r (λ found. IfSome found (λ task. IsTaskOfTexts domain_text problem_text task))
of_texts (Ok (Some task)) domain_text problem_text domain problem domain_is problem_is grounded =
    record { domain = domain; problem = problem; domain_spelled = domain_is; problem_spelled = problem_is; grounded = grounded }
of_texts (Ok None) domain_text problem_text domain problem domain_is problem_is grounded = tt
of_texts (Err e) domain_text problem_text domain problem domain_is problem_is grounded = tt
