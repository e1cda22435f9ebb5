-- The states of rules that are put on the board for a context and a next one.
use Rattle.std.proofs.Common.{◌≡◌, ◌≢◌, ℕ, suc, ◌+◌, ◌<◌, ◌≤◌, ◌&&◌, length, refl, sym, ap, subst, ◌∙◌, inl, ⊎_elim, arith}
use Rattle.std.proofs.lemmas.Bool.{cases_eq}
use Rattle.dd_ops.specs.Operations.{and_of}
use Rattle.slot_board.specs.Board.{Scene, set_at}
use Rattle.plan_theory.specs.UntilChains.{UntilSets}
use Rattle.task_core.specs.Cubes.{SetOfVectors}
use Rattle.task_core.specs.Tasks.{action_count}
use Rattle.task_core.specs.Vectors.{Vector}
use Rattle.context_plan.specs.Scenes.{IsReady, Moved, Start, rules_place, states_at, takers_place}
use Rattle.context_plan.specs.Steps.{Chooses}
use Rattle.context_plan.specs.Tables.{HasRuleStates, HasTurning}
use Rattle.context_plan.proofs.RuleSteps.{has_beside, rule_taken}
use Rattle.context_plan.proofs.SceneSteps.{changed_chain, met_states, moved_changed, moved_low, moved_other, same_length}

-- the states of no action's rules, of one more, and of all
pub chooses_none : (start : Start) (x : Scene) (takers place : ℕ) → IsReady start x → Chooses start x x takers place 0
chooses_none start x takers place ready = record {
  changed = record { ready = ready; kept = λ k high within out. refl };
  chosen = refl;
  sets = λ a within below. absurd (omega arith);
}

pub chooses_more : (start : Start) (x y z : Scene) (takers place n : ℕ) → 8 ≤ takers → takers + action_count start.task ≤ place → place + action_count start.task ≤ length x.1 → n < action_count start.task → IsReady start x → Chooses start x y takers place n
    → Moved start y z (place + n) (and_of (set_at y.0.sets y.1 4) (set_at y.0.sets y.1 (takers + n))) → Chooses start x z takers place (n + 1)
chooses_more start x y z takers place n high apart fits below ready h m =
    let long : length y.1 ≡ length x.1 = same_length start x y ready.at h.changed.ready.at in
    let longer : length z.1 ≡ length x.1 = same_length start x z ready.at m.at in
    record {
      changed = changed_chain start x y z place (place + action_count start.task) h.changed (moved_changed start y z (place + n) _ m place (place + action_count start.task) (omega arith) (omega arith));
      chosen = moved_low start y z (place + n) _ m 4 (omega arith) (λ e. absurd (omega arith)) ∙ h.chosen;
      sets = λ a within less.
          ⊎_elim
          (λ (same : a ≡ n).
          subst (λ k. states_at z (place + k) ≡ (λ v. states_at x 4 v && states_at x (takers + k) v)) (sym same)
          (met_states start y z (place + n) 4 (takers + n) m
          ∙ ap {B = SetOfVectors} (λ (f : SetOfVectors) (v : Vector). f v && states_at y (takers + n) v) h.chosen
          ∙ ap {B = SetOfVectors} (λ (f : SetOfVectors) (v : Vector). states_at x 4 v && f v) (h.changed.kept (takers + n) (omega arith) (omega arith) (inl (let l : takers + n < place = omega arith in l)))))
          (λ (differs : a ≢ n).
          moved_other start y z (place + n) _ m (place + a) (omega arith) (λ e. differs (omega arith))
          ∙ h.sets a within (omega (arith, differs)))
          (cases_eq a n);
    }

pub chooses_all : (start : Start) (x y : Scene) (takers place n m : ℕ) → n ≡ m → Chooses start x y takers place n → Chooses start x y takers place m
chooses_all start x y takers place n m e h = subst (Chooses start x y takers place) e h

pub has_rule_states : (start : Start) (x y : Scene) (chain : UntilSets) (c j : ℕ) → HasTurning start x chain c j → Chooses start x y (takers_place (action_count start.task) start.stages j) (rules_place (action_count start.task) start.stages) (action_count start.task) → HasRuleStates start y chain c j
has_rule_states start x y chain c j h more = record {
  table = record {
    stages = h.table.stages;
    takers = has_beside start x y chain (suc start.stages) h.table.takers more.changed;
    covered = h.table.covered;
  };
  sets = λ a below v is. ap (λ (f : SetOfVectors). f v) (more.sets a below below) ∙ rule_taken start x chain c j h a below v is;
}

-- as the code has it: by the places that it computed
pub rule_states_made : (start : Start) (x y : Scene) (chain : UntilSets) (c j takers place n : ℕ) → takers ≡ takers_place (action_count start.task) start.stages j → place ≡ rules_place (action_count start.task) start.stages → n ≡ action_count start.task
    → HasTurning start x chain c j → Chooses start x y takers place n → HasRuleStates start y chain c j
rule_states_made start x y chain c j takers place n is_takers is_place is_n h more =
    has_rule_states start x y chain c j h
    (subst (λ k. Chooses start x y (takers_place (action_count start.task) start.stages j) (rules_place (action_count start.task) start.stages) k) is_n
    (subst (λ k. Chooses start x y (takers_place (action_count start.task) start.stages j) k n) is_place
    (subst (λ k. Chooses start x y k place n) is_takers more)))
