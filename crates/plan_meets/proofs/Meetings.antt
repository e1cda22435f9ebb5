-- What rules denote is a table, and what a plan means meets a problem.
use Rattle.std.proofs.Common.{ℕ, List, [], ◌∷◌, refl, subst}
use Rattle.plan_rules.proofs.DenotedPairs.{can_execute-Exec, denoted-pair}
use Rattle.pddl_ast.specs.Trees.{DomainTree, ProblemTree}
use Rattle.pddl_system.specs.Systems.{system}
use Rattle.pddl_system.proofs.States.{they_have_a_system}
use Rattle.plan_check.specs.Verdicts.{CanFollowRules}
use Rattle.plan_rules.specs.Denoted.{denoted, denoted_contexts}
use Rattle.plan_rules.specs.Rules.{ContextRule, PlanRule, table, automaton}
use Rattle.task_core.specs.Paths.{IsPath, last_of}
use Rattle.task_core.specs.Solutions.{IsSolution}
use Rattle.task_core.specs.Systems.{IsState, IsSystem, System}
use Rattle.task_core.specs.Tables.{IsTable, Leads, Table}
use Rattle.task_core.specs.Vectors.{Vector}
use Rattle.task_core.specs.declared.classes.Class.{Class}
use Rattle.plan_meets.specs.Meets.{Meaning, Meets, PlanMeets, contextual, pairs}
use Rattle.command_base.specs.Words.{of_class, with_contexts}

-- whatever the rules, what they denote is a table
denoted_table : (sys : System) (rules : List PlanRule) → IsSystem sys → IsTable sys (denoted sys rules)
denoted_table sys rules ok s a pair =
    let d = denoted-pair sys rules s a pair in
    let executable = can_execute-Exec sys s a d.executable in
    (record { vector = d.vector; inside = ok.inside s a executable }, executable)

-- what a table reaches are states
pub end_is_state : (sys : System) (rows : Table) (s : Vector) (rest : List Vector) → IsSystem sys → IsState sys s → IsPath (Leads sys rows) s rest → IsState sys (last_of s rest)
end_is_state sys rows s [] ok is path = is
end_is_state sys rows s (t ∷ rest) ok is path = end_is_state sys rows t rest ok (ok.next s path.0.action t path.0.outcome) path.1

-- a table that is a solution, as read
pub table_meets : (class written : Class) (d : DomainTree) (p : ProblemTree) (rules : List PlanRule) → CanFollowRules (system d p) rules
    → IsSolution class (system d p) (denoted (system d p) rules) → PlanMeets (of_class class) d p (table written rules)
table_meets class written d p rules follow solves =
    (pairs (denoted (system d p) rules), (follow, refl), (denoted_table (system d p) rules (they_have_a_system d p), solves))

pub table_solves : (class written : Class) (d : DomainTree) (p : ProblemTree) (rules : List PlanRule) → PlanMeets (of_class class) d p (table written rules)
    → CanFollowRules (system d p) rules × IsSolution class (system d p) (denoted (system d p) rules)
table_solves class written d p rules met =
    let meets : Meets (of_class class) d p (pairs (denoted (system d p) rules)) = subst (λ (m : Meaning). Meets (of_class class) d p m) met.1.1 met.2 in
    (met.1.0, meets.1)

-- a plan with contexts, as read
pub contexts_meet : (d : DomainTree) (p : ProblemTree) (contexts : ℕ) (rules : List ContextRule) → Meets with_contexts d p (contextual (denoted_contexts rules))
    → PlanMeets with_contexts d p (automaton contexts rules)
contexts_meet d p contexts rules meets = (contextual (denoted_contexts rules), refl, meets)

pub meaning_meets : (d : DomainTree) (p : ProblemTree) (contexts : ℕ) (rules : List ContextRule) → PlanMeets with_contexts d p (automaton contexts rules)
    → Meets with_contexts d p (contextual (denoted_contexts rules))
meaning_meets d p contexts rules met = subst (λ (m : Meaning). Meets with_contexts d p m) met.1 met.2
