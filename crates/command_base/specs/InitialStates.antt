-- What a command answers where a problem has no initial state: where none of the lists of truth
-- values that its uncertain entries leave open is a state.
use Rattle.std.specs.Prelude.{◌≡◌, ◌≢◌, ◌⊎◌, List, []}
use Rattle.pddl_ast.specs.Trees.{ProblemTree}
use Rattle.sexpr_text.specs.declared.faults.FaultKind.TheVariants.{EmptyInit}
use Rattle.task_core.specs.Vectors.{Vector}
use Rattle.command_base.specs.Answers.{Answer, Refusal, refused, text_fault}
use Rattle.command_base.specs.Words.{Bytes}

-- the problem in the file of this name has no initial state, which is a fault at its definition
abbrev pub empty_init : Bytes → ProblemTree → Refusal
empty_init name problem =
    text_fault name (record { kind = EmptyInit; place = problem.place })

-- there is no initial state, and this refusal (`empty`) is the answer; or there is one, and then
-- comes what Then says
abbrev pub InitialThen : Refusal → List Vector → (Answer → Type 0) → Answer → Type 0
InitialThen empty states Then answer =
    ((states ≡ []) × (answer ≡ refused empty))
    ⊎ ((states ≢ []) × Then answer)
