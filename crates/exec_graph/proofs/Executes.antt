-- Whether an action can be executed, and lists of outcomes taken one by one.
use Rattle.std.proofs.Common.{◌≡◌, ◌≢◌, ℕ, ◌+◌, ◌≤◌, Bool, true, false, cond, not, ◌||◌, List, [], ◌∷◌, length, take, take_all, slice_get, Some, refl, sym, ap, ◌∙◌, subst, arith}
use Rattle.std.specs.List.{filter, fold, list_any}
use Rattle.std.proofs.lemmas.List.{length-map}
use Rattle.std.proofs.lemmas.List.Sums.{fold_more}
use Rattle.std.proofs.lemmas.Option.{slice_get_within, get_or_from_slice_get}
use Rattle.task_core.specs.Vectors.{Vector}
use Rattle.task_core.specs.Systems.{System, Exec}
use Rattle.task_core.specs.Actions.{after}
use Rattle.task_core.specs.Tasks.{fluent_count, in_space, is_allowed, outcomes_at, states_after, system_of}
use Rattle.task_core.specs.declared.tasks.Task.{Task}
use Rattle.plan_rules.specs.Denoted.{can_execute}
use Rattle.plan_rules.specs.Rules.{PlanNext}
use Rattle.plan_rules.specs.Advices.{Advised}
use Rattle.exec_graph.specs.Counting.{Moved, with_if_state, with_outcome, with_rule}
use Rattle.list_laws.proofs.Booleans.{or_true}

-- a rule whose action can't be executed adds nothing but that it was refused
abbrev pub refused_in : Moved → Moved
refused_in m = record { next = m.next; refused = true; lost = m.lost }

none_added : (m : Moved) (next : PlanNext) (ts : List Vector) → list_any (λ (t : Vector). true) ts ≡ false
    → refused_in m ≡ (let all = fold (with_outcome next) m ts in record {
      next = all.next;
      refused = all.refused || not (list_any (λ (t : Vector). true) ts);
      lost = all.lost;
    })
none_added m next [] e = ap (λ b. let moved : Moved = record { next = m.next; refused = b; lost = m.lost } in moved) (sym (or_true m.refused))
none_added m next (t ∷ ts) e = absurd cc

pub only_refused : (sys : System) (s : Vector) (m : Moved) (a : Advised) → can_execute sys s a.action ≡ false → refused_in m ≡ with_rule sys s m a
only_refused sys s m a e = none_added m a.next (sys.next s a.action) e

-- one element more
pub fold_one : {X Y : Type 0} (f : Y → X → Y) (y : Y) (xs : List X) (i : ℕ) (x : X) → slice_get xs i ≡ Some x
    → fold f y (take (i + 1) xs) ≡ f (fold f y (take i xs)) x
fold_one f y xs i x e =
    fold_more f y xs i x (slice_get_within xs i x e) ∙ ap (f (fold f y (take i xs))) (get_or_from_slice_get xs i x x e)

-- where an action can be executed, its next states are those after its outcomes that are states
some_of : {X : Type 0} (b : Bool) (xs : List X) → cond b xs [] ≢ [] → cond b xs [] ≡ xs
some_of true xs some = refl
some_of false xs some = absurd (some refl)

next_is : (task : Task) (v : Vector) (a : ℕ) → Exec (system_of task) v a → (system_of task).next v a ≡ filter (in_space task) (states_after task v a)
next_is task v a exec = some_of (is_allowed task v a) (filter (in_space task) (states_after task v a)) exec

-- with the outcomes that are states, or with each outcome where it is one
fold_kept : (inside : Vector → Bool) (next : PlanNext) (m : Moved) (ts : List Vector) → fold (with_if_state inside next) m ts ≡ fold (with_outcome next) m (filter inside ts)
fold_kept inside next m [] = refl
fold_kept inside next m (t ∷ ts) = go (inside t) (λ w. fold_kept inside next w ts)
  where
    go : (b : Bool) → ((w : Moved) → fold (with_if_state inside next) w ts ≡ fold (with_outcome next) w (filter inside ts))
        → fold (with_if_state inside next) (cond b (with_outcome next m t) m) ts ≡ fold (with_outcome next) m (cond b (t ∷ filter inside ts) (filter inside ts))
    go true rest = rest (with_outcome next m t)
    go false rest = rest m

pub fold_all : (next : PlanNext) (m : Moved) (task : Task) (v : Vector) (a k : ℕ) → Exec (system_of task) v a → k ≡ length (outcomes_at task a)
    → fold (with_if_state (in_space task) next) m (take k (states_after task v a)) ≡ fold (with_outcome next) m ((system_of task).next v a)
fold_all next m task v a k exec e =
    let count : length (states_after task v a) ≡ length (outcomes_at task a) = length-map (outcomes_at task a) (λ o. after (fluent_count task) o v) in
    ap (fold (with_if_state (in_space task) next) m) (take_all k (states_after task v a) (subst (λ n. n ≤ k) (sym count) (subst (λ n. n ≤ k) e (omega arith))))
    ∙ fold_kept (in_space task) next m (states_after task v a)
    ∙ ap (fold (with_outcome next) m) (sym (next_is task v a exec))
