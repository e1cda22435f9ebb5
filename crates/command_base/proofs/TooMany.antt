-- A task has too many initial states exactly where its domain and problem have.
use Rattle.std.proofs.Common.{◌≡◌, ◌≤◌, ◌<◌, ℕ, List, length, map, take, subst, sym, ap, ◌∙◌}
use Rattle.pddl_ast.specs.Trees.{DomainTree, ProblemTree}
use Rattle.pddl_system.specs.Fluents.{fluents}
use Rattle.pddl_system.specs.Settings.{setting}
use Rattle.pddl_system.specs.Systems.{entry_over, facts_of}
use Rattle.pddl_system.specs.Tasks.{TaskTree, task_of}
use Rattle.pddl_system.specs.Values.{task_value}
use Rattle.task_core.specs.Initial.{Entry, after_entries}
use Rattle.task_core.specs.Initials.{HasTooManyInitial}
use Rattle.task_core.specs.Tasks.{states_after_entries}
use Rattle.task_core.specs.Vectors.{Vector}
use Rattle.task_core.specs.declared.tasks.Task.{Task}
use Rattle.command_base.specs.Following.{HasTooManyStates, most_followed}
use Rattle.command_base.proofs.TaskNames.{same_count, same_entries}

-- the states after the first entries
pub same_states : (d : DomainTree) (p : ProblemTree) (t : Task) (k : ℕ) → task_value t ≡ task_of d p
    → states_after_entries t k
    ≡ after_entries (length (fluents d p)) (facts_of (setting d p) (fluents d p)) (take k (map (entry_over (fluents d p)) p.entries))
same_states d p t k is =
    let n = length t.fluents.items in
    let facts = (task_value t).facts in
    ap (λ (es : List Entry). after_entries n facts (take k es)) (ap (λ (x : TaskTree). x.entries) is)
    ∙ (ap (λ (v : Vector). after_entries n v (take k (map (entry_over (fluents d p)) p.entries))) (ap (λ (x : TaskTree). x.facts) is)
    ∙ ap (λ m. after_entries m (facts_of (setting d p) (fluents d p)) (take k (map (entry_over (fluents d p)) p.entries))) (same_count d p t is))

pub too_many : (d : DomainTree) (p : ProblemTree) (t : Task) → task_value t ≡ task_of d p → HasTooManyInitial t most_followed → HasTooManyStates d p
too_many d p t is many = record {
  entries = many.entries;
  first = subst (λ n. many.entries ≤ n) (same_entries d p t is) many.first;
  more = subst (λ (vs : List Vector). most_followed < length vs) (same_states d p t many.entries is) many.more;
}

pub too_many_back : (d : DomainTree) (p : ProblemTree) (t : Task) → task_value t ≡ task_of d p → HasTooManyStates d p → HasTooManyInitial t most_followed
too_many_back d p t is many = record {
  entries = many.entries;
  first = subst (λ n. many.entries ≤ n) (sym (same_entries d p t is)) many.first;
  more = subst (λ (vs : List Vector). most_followed < length vs) (sym (same_states d p t many.entries is)) many.more;
}
