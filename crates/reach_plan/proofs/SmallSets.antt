-- The sets that a search makes are working sets, or are made of two of these.
use Rattle.std.proofs.Common.{◌≡◌, ℕ, zero, suc, ◌+◌, ◌<◌, ◌≤◌, Bool, true, false, ◌&&◌, ◌||◌, not, ◌^◌, List, [], ◌∷◌, length, take, take_all, nat_lt, refl, sym, ap, subst, ◌∙◌, ⊎_elim, arith}
use Rattle.std.specs.List.{list_all, list_any, range_with_len}
use Rattle.std.proofs.Math.Path.{fun_ext}
use Rattle.std.proofs.lemmas.Bool.{cases_lt, cond-false, cond-true, lt-ltb, ltb-true, false_from_ne_true}
use Rattle.std.proofs.lemmas.List.Folds.{list_any-append}
use Rattle.list_laws.proofs.Booleans.{or_false}
use Rattle.dd_nodes.specs.NodeList.{Values}
use Rattle.dd_nodes.specs.Subfunctions.{Function}
use Rattle.dd_ops.specs.Operations.{minus_of, or_of}
use Rattle.dd_sets.specs.Rooms.{Small}
use Rattle.dd_sets.proofs.OperationSizes.{agreeing_sized}
use Rattle.dd_sets.proofs.SizeLemmas.{every_small}
use Rattle.encode_task.specs.TaskSets.{exec_set, first_values, initial_set, space_set, states_in}
use Rattle.encode_task.proofs.StateVectors.{at_state, length_first, own_values}
use Rattle.preimage.proofs.OutcomeLemmas.{strong_leads, weak_leads}
use Rattle.preimage.proofs.SizeLemmas.{every_fits, some_fits}
use Rattle.preimage.specs.WorkingSets.{IsMadeByRound, PreimageFits, first_every, first_some, hits_at, some_below}
use Rattle.preimage.specs.WorkingSets.IsMadeByRound.{itself, hit, joined}
use Rattle.task_core.specs.Actions.{after_value}
use Rattle.task_core.specs.Tasks.{action_count, fluent_count, outcomes_at, system_of}
use Rattle.task_core.specs.Vectors.{value_of}
use Rattle.task_core.specs.declared.actions.Outcome.{Outcome}
use Rattle.task_core.specs.declared.classes.Class.{Class}
use Rattle.task_core.specs.declared.classes.Class.TheVariants.{Weak, Strong, Cyclic}
use Rattle.task_core.specs.declared.tasks.Task.{Task}
use Rattle.plan_theory.specs.Layers.{IsLastLayer, layer}
use Rattle.plan_theory.specs.LayerPlans.{takers}
use Rattle.list_laws.proofs.Numbers.{below_power_two}
use Rattle.list_laws.proofs.Ranges.{range-more}
use Rattle.reach_plan.specs.LayerSets.{AreTakers, IsLayerSet, class_preimage, grown, taken_by}
use Rattle.reach_plan.specs.Steps.{IsTaken, IsWithinRound, Progress}
use Rattle.reach_plan.specs.WorkingSets.{BoundsReachSets, first_of}
use Rattle.reach_plan.specs.WorkingSets.IsRoundSet.{initial_round, layer_round, space_round}
use Rattle.reach_plan.specs.WorkingSets.IsWorkingSet.{by_rounds, taken}
use Rattle.reach_plan.proofs.SetLayers.{next_takers}

-- an action's preimage is its hits
pub preimage_hits : (class : Class) (task : Task) (set : Function) (a : ℕ) → class_preimage class task a set ≡ hits_at (first_of class) task set a
preimage_hits class task set a = go class
  where
    all : take (length (outcomes_at task a)) (outcomes_at task a) ≡ outcomes_at task a
    all = take_all (length (outcomes_at task a)) (outcomes_at task a) (omega arith)

    some : (values : Values) (outcomes : List Outcome) → Bool
    some values outcomes = exec_set task a values && list_any (λ o. space_set task (after_value o values) && set (after_value o values)) outcomes

    every : (values : Values) (outcomes : List Outcome) → Bool
    every values outcomes = exec_set task a values && list_all (λ o. not (space_set task (after_value o values)) || set (after_value o values)) outcomes

    go : (class : Class) → class_preimage class task a set ≡ hits_at (first_of class) task set a
    go Weak = fun_ext (λ values. sym (ap (some values) all))
    go Strong = fun_ext (λ values. sym (ap (every values) all))
    go Cyclic = fun_ext (λ values. sym (ap (some values) all))

-- a set with the hits of the first actions
hits_below : (class : Class) (task : Task) (set : Function) (values : Values) (m : ℕ) → list_any (λ a. class_preimage class task a set values) (range_with_len 0 m) ≡ some_below (hits_at (first_of class) task set) m values
hits_below class task set values zero = refl
hits_below class task set values (suc m) =
    let p : ℕ → Bool = λ a. class_preimage class task a set values in
    let one_more : suc m ≡ m + 1 = omega arith in
    ap (λ n. list_any p (range_with_len 0 n)) one_more ∙ ap (list_any p) (range-more m) ∙ list_any-append p (range_with_len 0 m) (m ∷ [])
    ∙ ap (λ b. list_any p (range_with_len 0 m) || b) (or_false (p m))
    ∙ ap (λ b. b || p m) (hits_below class task set values m)
    ∙ ap (λ (f : Function). some_below (hits_at (first_of class) task set) m values || f values) (preimage_hits class task set m)

pub grown_none : (class : Class) (task : Task) (set : Function) → set ≡ grown class task set 0
grown_none class task set = fun_ext (λ values. sym (or_false (set values)))

pub grown_joined : (class : Class) (task : Task) (set : Function) (m : ℕ) → grown class task set m ≡ or_of set (some_below (hits_at (first_of class) task set) m)
grown_joined class task set m = fun_ext (λ values. ap (λ b. set values || b) (hits_below class task set values m))

-- a layer's set is the function of its states
layer_function : (class : Class) (task : Task) (k : ℕ) (set : Function) → IsLayerSet class task k set → set ≡ states_in task (layer class (system_of task) k)
layer_function class task k set is = fun_ext (λ values.
    at_state (fluent_count task) set is.depends values ∙ is.agrees (first_values (fluent_count task) values) (length_first (fluent_count task) values))

-- what a preimage of a set makes is small, where all that belongs to the set and to the states is
fits_by : (class : Class) (width : ℕ) (task : Task) (a : ℕ) (set : Function) → a < action_count task → fluent_count task + 2 ≤ width
    → ((f : Function) → IsMadeByRound task (first_of class) (hits_at (first_of class) task set) set f → Small (fluent_count task) width f)
    → ((f : Function) → IsMadeByRound task (first_of class) (hits_at (first_of class) task (space_set task)) (space_set task) f → Small (fluent_count task) width f)
    → PreimageFits width task a (first_of class) set
fits_by Weak width task a set within wide own states = some_fits width task a set (hits_at first_some task set) (hits_at first_some task (space_set task)) wide within own states
fits_by Strong width task a set within wide own states = every_fits width task a set (hits_at first_every task set) (hits_at first_every task (space_set task)) wide within own states
fits_by Cyclic width task a set within wide own states = some_fits width task a set (hits_at first_some task set) (hits_at first_some task (space_set task)) wide within own states

module _ (width : ℕ) (class : Class) (task : Task) (wide : BoundsReachSets width class task) where
  -- what belongs to the states is small
  pub space_small : (f : Function) → IsMadeByRound task (first_of class) (hits_at (first_of class) task (space_set task)) (space_set task) f → Small (fluent_count task) width f
  space_small f made = wide.each f (by_rounds f (space_set task, space_round, made))

  pub initial_small : Small (fluent_count task) width (initial_set task)
  initial_small = wide.each (initial_set task) (by_rounds (initial_set task) (initial_set task, initial_round, itself))

  -- what an action takes is small
  pub taken_small : (layers a : ℕ) (set : Function) → IsLastLayer class (system_of task) layers → a < action_count task → IsTaken class task layers a set → Small (fluent_count task) width set
  taken_small layers a set last within is =
      let sys = system_of task in
      let n = fluent_count task in
      (agreeing_sized n (states_in task (takers class sys is.rank a)) set (λ v long. ap (takers class sys is.rank a) (own_values n v long) ∙ sym (is.takes v long)) width).0
      (wide.each (states_in task (takers class sys is.rank a)) (taken layers is.rank a last is.low within))

  -- what belongs to a layer is small
  module _ (k : ℕ) (set : Function) (is : IsLayerSet class task k set) where
    pub round_small : (f : Function) → IsMadeByRound task (first_of class) (hits_at (first_of class) task set) set f → Small (fluent_count task) width f
    round_small f made =
        let own = states_in task (layer class (system_of task) k) in
        wide.each f (by_rounds f (own, layer_round k, subst (λ (x : Function). IsMadeByRound task (first_of class) (hits_at (first_of class) task x) x f) (layer_function class task k set is) made))

    pub layer_small : Small (fluent_count task) width set
    layer_small = round_small set itself

    pub hits_small : (a : ℕ) → a < action_count task → Small (fluent_count task) width (class_preimage class task a set)
    hits_small a within = subst (Small (fluent_count task) width) (sym (preimage_hits class task set a)) (round_small (hits_at (first_of class) task set a) (hit a within))

    pub grown_small : (m : ℕ) → m ≤ action_count task → Small (fluent_count task) width (grown class task set m)
    grown_small m few = subst (Small (fluent_count task) width) (sym (grown_joined class task set m)) (round_small (or_of set (some_below (hits_at (first_of class) task set) m)) (joined m few))

    pub layer_fits : (a : ℕ) → a < action_count task → PreimageFits width task a (first_of class) set
    layer_fits a within = fits_by class width task a set within wide.wide round_small space_small

-- where a search is within a round
module _ (class : Class) (task : Task) (k : ℕ) (set : Function) (is : IsLayerSet class task k set) (before : ℕ → Function) (taken : AreTakers class task k before) (m : ℕ) (few : m ≤ action_count task) where
  taken_at : (a : ℕ) → a < action_count task → IsTaken class task (suc k) a (taken_by class task set before m a)
  taken_at a within = ⊎_elim
      (λ (low : a < m). record {
        rank = suc k;
        low = omega arith;
        takes = λ v long. ap (λ (f : Function). f (value_of v)) (new m low ∙ sym (new (action_count task) within)) ∙ (next_takers weak_leads strong_leads task k set class is before taken).takes a v within long;
      })
      (λ (high : m ≤ a). record {
        rank = k;
        low = omega arith;
        takes = λ v long. ap (λ (f : Function). f (value_of v)) (cond-false (nat_lt a m) more (before a) (false_from_ne_true (nat_lt a m) (λ lt. let l : a < m = ltb-true a m lt in absurd (omega arith)))) ∙ taken.takes a v within long;
      })
      (cases_lt a m)
    where
      more : Function
      more = or_of (before a) (minus_of (class_preimage class task a set) (grown class task set a))

      new : (n : ℕ) → a < n → taken_by class task set before n a ≡ more
      new n low = cond-true (nat_lt a n) more (before a) (lt-ltb a n low)

  pub within_round : IsWithinRound class task (suc k) (record { layer = set; taken = taken_by class task set before m; next = grown class task set m })
  within_round = record {
    rank = k;
    is_layer = is;
    grown_by = m;
    few = few;
    is_grown = refl;
    is_taken = taken_at;
  }

-- or at a layer, with no action done
pub at_layer : (class : Class) (task : Task) (k : ℕ) (set : Function) (h : ℕ → Function) → IsLayerSet class task k set → AreTakers class task k h → IsWithinRound class task k (record { layer = set; taken = h; next = set })
at_layer class task k set h is takes = record {
  rank = k;
  is_layer = is;
  grown_by = 0;
  few = omega arith;
  is_grown = grown_none class task set;
  is_taken = λ a within. record { rank = k; low = omega arith; takes = λ v long. takes.takes a v within long };
}

-- from within a round, what a search makes next is small
module _ (width : ℕ) (class : Class) (task : Task) (wide : BoundsReachSets width class task) (here : Progress) (layers : ℕ) (last : IsLastLayer class (system_of task) layers) (at : IsWithinRound class task layers here) where
  pub now_small : Small (fluent_count task) width here.layer
  now_small = layer_small width class task wide at.rank here.layer at.is_layer

  pub next_small : Small (fluent_count task) width here.next
  next_small = subst (Small (fluent_count task) width) (sym at.is_grown) (grown_small width class task wide at.rank here.layer at.is_layer at.grown_by at.few)

  pub takes_small : (a : ℕ) → a < action_count task → Small (fluent_count task) width (here.taken a)
  takes_small a within = taken_small width class task wide layers a (here.taken a) last within (at.is_taken a within)

-- every set is small by a large enough width
pub wide_enough : (class : Class) (task : Task) → BoundsReachSets (2 ^ fluent_count task + 1) class task
wide_enough class task = record { wide = below_power_two (fluent_count task); each = λ set made. every_small (fluent_count task) set }
