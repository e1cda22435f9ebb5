-- Which actions are spent: what is found grows, so they stay so.
use Rattle.std.proofs.Common.{Result, Ok, Err, IfOk, ◌≡◌, ◌≢◌, ℕ, ◌<◌, Bool, true, false, List, length, sym, ap, subst, ◌∙◌, ⊎_elim, arith}
use Rattle.std.specs.Prelude.{get_or, slice_index_or, slice_set}
use Rattle.std.specs.List.{list_any, range_with_len}
use Rattle.std.proofs.lemmas.Bool.{cases_eq, false≢true, or_left}
use Rattle.std.proofs.lemmas.List.{get_or-set_other, get_or-set_same, length-set}
use Rattle.dd_sets.specs.declared.errors.SetErr.{SetErr}
use Rattle.task_core.specs.Cubes.{SetOfVectors}
use Rattle.task_core.specs.Systems.{IsVector}
use Rattle.task_core.specs.Tasks.{action_count}
use Rattle.task_core.specs.Vectors.{Vector}
use Rattle.plan_theory.specs.Layers.{must_lead}
use Rattle.slot_board.specs.Board.{Scene}
use Rattle.context_plan.specs.Scenes.{Start, states_at, sys_in}
use Rattle.context_plan.specs.Steps.{AddsHits, AreSpent, IsSpent, Leads, OnlyHits}
use Rattle.context_plan.specs.declared.rounds.Way.{Way}
use Rattle.context_plan.specs.declared.rounds.Way.TheVariants.{Growing, Shrinking}
use Rattle.context_plan.proofs.SceneSteps.{low}

-- more states are found
more_found : (way : Way) (start : Start) (f g : SetOfVectors) (a : ℕ) → ((v : Vector) → IsVector (sys_in start) v → f v ≡ true → g v ≡ true) → IsSpent way start f a → IsSpent way start g a
more_found Shrinking start f g a up spent = spent
more_found Growing start f g a up spent = λ set v is leads. up v is (spent set v is leads)

pub spent_kept : (way : Way) (start : Start) (f g : SetOfVectors) (marks : List Bool) → ((v : Vector) → IsVector (sys_in start) v → f v ≡ true → g v ≡ true) → AreSpent way start f marks → AreSpent way start g marks
spent_kept way start f g marks up h = record { long = h.long; each = λ a within marked. more_found way start f g a up (h.each a within marked) }

-- none is marked yet, and one more
pub none_marked : (way : Way) (start : Start) (found : SetOfVectors) (marks : List Bool) (n : ℕ) → n ≡ action_count start.task → length marks ≡ n → ((a : ℕ) → a < n → slice_index_or marks a false ≡ false) → AreSpent way start found marks
none_marked way start found marks n is_n long none = record { long = long ∙ is_n; each = λ a within marked. absurd (false≢true (sym (none a (omega (arith, is_n))) ∙ marked)) }

pub spent_noted : (start : Start) (found : SetOfVectors) (marks : List Bool) (a : ℕ) (now : Bool) → a < action_count start.task → AreSpent Growing start found marks → (now ≡ true → IsSpent Growing start found a) → AreSpent Growing start found (slice_set marks a now)
spent_noted start found marks a now within h if_now = record {
  long = length-set marks a now ∙ h.long;
  each = λ b below marked.
      ⊎_elim
      (λ (same : b ≡ a).
      subst (IsSpent Growing start found) (sym same)
      (if_now (sym (get_or-set_same marks a now false (let e = h.long in omega arith)) ∙ ap (λ x. get_or (slice_set marks a now) x false) (sym same) ∙ marked)))
      (λ (differs : b ≢ a). h.each b below (sym (get_or-set_other marks a b now false differs) ∙ marked))
      (cases_eq b a);
}

-- a round begins, and an action is looked at
pub spent_begun : (way : Way) (start : Start) (x y : Scene) (marks : List Bool) → Leads way start x y 0 → AreSpent way start (states_at x 0) marks → AreSpent way start (states_at y 1) marks
spent_begun Shrinking start x y marks h spent = record { long = spent.long; each = λ a within marked. spent.each a within marked }
spent_begun Growing start x y marks h spent =
    spent_kept Growing start (states_at x 0) (states_at y 1) marks
    (λ v is e. h.next v is ∙ or_left (states_at x 0 v) (list_any (must_lead (sys_in start) (states_at x 0) v) (range_with_len 0 0)) e) spent

pub hits_spent : (way : Way) (start : Start) (x y : Scene) (marks : List Bool) → OnlyHits start x y → AreSpent way start (states_at x 1) marks → AreSpent way start (states_at y 1) marks
hits_spent way start x y marks h spent =
    subst (λ (f : SetOfVectors). AreSpent way start f marks) (sym (h.kept 1 (low start y h.ready.at 1 (omega arith)) (λ e. absurd (omega arith)) (λ e. absurd (omega arith)))) spent

pub adds_spent : (way : Way) (start : Start) (x y : Scene) (a : ℕ) (marks : List Bool) → AddsHits way start x y a → AreSpent way start (states_at x 1) marks → AreSpent way start (states_at y 1) marks
adds_spent way start x y a marks adds spent =
    spent_kept way start (states_at x 1) (states_at y 1) marks (λ v is e. adds.next v is ∙ or_left (states_at x 1 v) _ e) spent

-- a fact of what was answered
pub if_joined : (P Q : Type 0) (result : Result Bool SetErr) → (P → Q) → IfOk result (λ joined. joined ≡ true → P) → IfOk result (λ joined. joined ≡ true → Q)
if_joined P Q (Ok joined) f h = λ e. f (h e)
if_joined P Q (Err e) f h = h
