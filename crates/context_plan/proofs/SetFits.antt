-- By a width of the sets that are made of a set within a guard, a round on it makes small sets alone.
use Rattle.std.proofs.Common.{◌≡◌, ℕ, zero, suc, ◌+◌, ◌<◌, ◌≤◌, Bool, not, ◌&&◌, ◌||◌, List, length, map, refl, sym, ap, ◌∙◌, arith}
use Rattle.std.specs.List.{list_all, list_any, range_with_len}
use Rattle.std.proofs.lemmas.List.{take_all}
use Rattle.dd_nodes.specs.Subfunctions.{DependsOnly, Function}
use Rattle.dd_ops.specs.Operations.{and_of, or_of}
use Rattle.dd_sets.specs.Rooms.{Small}
use Rattle.encode_task.specs.TaskSets.{exec_set, space_set}
use Rattle.encode_task.proofs.StateVectors.{own_values}
use Rattle.preimage.proofs.Leads.{any_more, strong_agrees}
use Rattle.preimage.proofs.SizeLemmas.{every_fits}
use Rattle.preimage.specs.WorkingSets.{IsMadeByRound, first_every, hits_at, some_below}
use Rattle.preimage.specs.WorkingSets.IsMadeByRound.{hit, itself, joined, part}
use Rattle.plan_theory.specs.GuardedSets.{anywhere}
use Rattle.plan_theory.specs.Layers.{must_lead}
use Rattle.task_core.specs.Actions.{after_value}
use Rattle.task_core.specs.Cubes.{SetOfVectors}
use Rattle.task_core.specs.Systems.{IsVector, System}
use Rattle.task_core.specs.Tasks.{action_count, fluent_count, outcomes_at}
use Rattle.task_core.specs.Vectors.{Vector, value_of}
use Rattle.task_core.specs.declared.actions.Outcome.{Outcome}
use Rattle.context_plan.specs.Rounds.{turn_by}
use Rattle.context_plan.specs.Scenes.{Start, guarded, sys_in, sys_of}
use Rattle.context_plan.specs.Sizes.{IsSmall, RoundFits}
use Rattle.context_plan.specs.WorkingSets.{function_of, hits_inside}
use Rattle.context_plan.specs.declared.rounds.Way.{Way}
use Rattle.context_plan.specs.declared.rounds.Way.TheVariants.{Growing, Shrinking}
use Rattle.context_plan.proofs.Guards.{must_inside}
use Rattle.context_plan.proofs.SizeSteps.{small_states}

-- a set of states depends on the first values alone
same_values : (p q : ℕ → Bool) (first n : ℕ) → ((u : ℕ) → first ≤ u → u < first + n → p u ≡ q u) → map p (range_with_len first n) ≡ map q (range_with_len first n)
same_values p q first zero same = refl
same_values p q first (suc n) same =
    let here : p first ≡ q first = same first (omega arith) (omega arith) in
    let rest : map p (range_with_len (first + 1) n) ≡ map q (range_with_len (first + 1) n) = same_values p q (first + 1) n (λ u low high. same u (omega arith) (omega arith)) in
    cc

pub function_depends : (n : ℕ) (set : SetOfVectors) → DependsOnly 0 n (function_of n set)
function_depends n set s t same = ap set (same_values s t 0 n (λ u low high. same u low (omega arith)))

module _ (start : Start) (guard set : SetOfVectors)
    (made : (f : Function) → IsMadeByRound start.task first_every (hits_inside start.task guard (function_of (fluent_count start.task) set)) (function_of (fluent_count start.task) set) f → Small (fluent_count start.task) start.width f)
    (space : (f : Function) → IsMadeByRound start.task first_every (hits_inside start.task anywhere (space_set start.task)) (space_set start.task) f → Small (fluent_count start.task) start.width f) where
  abbrev n : ℕ
  n = fluent_count start.task

  abbrev inside : Start
  inside = guarded start guard

  abbrev sub : System
  sub = sys_in (guarded start guard)

  abbrev own : Function
  own = function_of n set

  abbrev hits : ℕ → Function
  hits = hits_inside start.task guard own

  hits_states : (a : ℕ) (v : Vector) → IsVector sub v → hits a (value_of v) ≡ must_lead sub set v a
  hits_states a v is =
      ap (λ b. b && hits_at first_every start.task own a (value_of v)) (ap guard (own_values n v is))
      ∙ ap (λ (outcomes : List Outcome). guard v && (exec_set start.task a (value_of v) && list_all (λ o. not (space_set start.task (after_value o (value_of v))) || own (after_value o (value_of v))) outcomes))
      (take_all (length (outcomes_at start.task a)) (outcomes_at start.task a) (omega arith))
      ∙ ap (λ b. guard v && b) (strong_agrees start.task a own set (function_depends n set) (λ u at. ap set (own_values n u at)) v is)
      ∙ sym (must_inside (sys_of start) guard set v a)

  below_states : (j : ℕ) (v : Vector) → IsVector sub v → some_below hits j (value_of v) ≡ list_any (must_lead sub set v) (range_with_len 0 j)
  below_states zero v is = refl
  below_states (suc j) v is =
      ap (λ b. b || hits j (value_of v)) (below_states j v is)
      ∙ ap (λ b. list_any (must_lead sub set v) (range_with_len 0 j) || b) (hits_states j v is)
      ∙ any_more (must_lead sub set v) j
      ∙ ap (λ k. list_any (must_lead sub set v) (range_with_len 0 k)) (let e : j + 1 ≡ suc j = omega arith in e)

  turned_fits : (way : Way) (j : ℕ) → j ≤ action_count start.task → IsSmall inside (turn_by way sub set j)
  turned_fits Shrinking j few =
      let below = some_below hits j in
      small_states inside (and_of own below) (turn_by Shrinking sub set j) (made (and_of own below) (part j few))
      (λ v at.
      ap (λ b. b && below (value_of v)) (ap set (own_values n v at))
      ∙ ap (λ b. set v && b) (below_states j v at))
  turned_fits Growing j few =
      let below = some_below hits j in
      small_states inside (or_of own below) (turn_by Growing sub set j) (made (or_of own below) (joined j few))
      (λ v at.
      ap (λ b. b || below (value_of v)) (ap set (own_values n v at))
      ∙ ap (λ b. set v || b) (below_states j v at))

  pub rounds_fit : RoundFits inside set
  rounds_fit = record {
    itself = made own itself;
    lead = λ a within. every_fits start.width start.task a own hits (hits_inside start.task anywhere (space_set start.task)) start.wide within made space;
    hits = λ a within. small_states inside (hits a) (λ v. must_lead sub set v a) (made (hits a) (hit a within)) (λ v at. hits_states a v at);
    turned = turned_fits;
  }
