-- The printed plan of the class Strong is a strong solution; and how long its paths are.
use Rattle.std.proofs.Common.{◌≡◌, ℕ, zero, suc, ◌<◌, ◌≤◌, Bool, true, false, List, [], ◌∷◌, refl, sym, ◌∙◌, ap, subst, arith, ⊎_elim}
use Rattle.std.specs.List.{list_all}
use Rattle.std.proofs.lemmas.Bool.{false≢true, true≢false, and_parts, cases_lt}
use Rattle.task_core.specs.Vectors.{Vector}
use Rattle.task_core.specs.Systems.{System, IsSystem, IsVector}
use Rattle.task_core.specs.Tables.{Table, Leads}
use Rattle.task_core.specs.Paths.{IsPath, last_of}
use Rattle.task_core.specs.Solutions.{EndsInGoal, HasNoCycle, IsReached, IsStrongSolution}
use Rattle.task_core.specs.declared.classes.Class.TheVariants.{Strong, Weak}
use Rattle.plan_rules.specs.Denoted.{denoted}
use Rattle.plan_theory.specs.Bounds.{PathsAreWithin, ReachesGoalWithin}
use Rattle.plan_theory.specs.Layers.{IsLastLayer, layer, may_lead}
use Rattle.plan_theory.specs.LayerPlans.{printed_rules}
use Rattle.plan_theory.proofs.ClassLayers.{first_layer, goal_terminal, layer-grows, layer-zero_goal, leads_outcome, pair_at, pair_ranked}
use Rattle.list_laws.proofs.Elements.{list_all-at}

module _ (sys : System) (ok : IsSystem sys) (K : ℕ) where
  -- the table of the printed strong plan
  abbrev printed : Table
  printed = denoted sys (printed_rules Strong sys K)

  -- a step goes from a layer to one before it
  pub record Descends (s t : Vector) : Type 0 where
    pub rank : ℕ
    pub outside : layer Strong sys rank s ≡ false
    pub inside : layer Strong sys rank t ≡ true

  step_descends : (s t : Vector) → Leads sys printed s t → Descends s t
  step_descends s t lead =
      let r = pair_ranked Strong sys K s lead.action lead.pair in
      record {
        rank = r.rank;
        outside = r.outside;
        inside = list_all-at (layer Strong sys r.rank) (sys.next s lead.action) t (and_parts (may_lead sys (layer Strong sys r.rank) s lead.action) (list_all (layer Strong sys r.rank) (sys.next s lead.action)) r.leads).1 lead.outcome;
      }

  -- a layer that misses a state is before each that holds it
  before : (s : Vector) (j k : ℕ) → layer Strong sys j s ≡ false → layer Strong sys k s ≡ true → j < k
  before s j k miss hold =
      ⊎_elim (λ (l : j < k). l)
      (λ (l : k ≤ j). absurd (true≢false (sym (layer-grows Strong sys s k j l hold) ∙ miss)))
      (cases_lt j k)

  -- no path leaves a layer
  stays : (k : ℕ) (s : Vector) (rest : List Vector) → layer Strong sys k s ≡ true → IsPath (Leads sys printed) s rest → layer Strong sys k (last_of s rest) ≡ true
  stays k s [] h path = h
  stays k s (t ∷ rest) h path =
      let d = step_descends s t path.0 in
      let l = before s d.rank k d.outside h in
      stays k t rest (layer-grows Strong sys t d.rank k (omega arith) d.inside) path.1

  -- a path from a state of layer k has at most k steps
  pub printed_short : (k : ℕ) (s : Vector) → layer Strong sys k s ≡ true → PathsAreWithin sys printed s k
  printed_short k s h [] path = omega arith
  printed_short k s h (t ∷ rest) path =
      let d = step_descends s t path.0 in
      let l = before s d.rank k d.outside h in
      let later = printed_short d.rank t d.inside rest path.1 in
      omega arith

  no_cycle : HasNoCycle sys printed
  no_cycle s t rest reached path ends =
      let d = step_descends s t path.0 in
      let again = stays d.rank t rest d.inside path.1 in
      false≢true (sym d.outside ∙ (ap (layer Strong sys d.rank) (sym ends) ∙ again))

  -- every state that is reached is a state
  end_is_state : (s : Vector) (rest : List Vector) → IsVector sys s → IsPath (Leads sys printed) s rest → IsVector sys (last_of s rest)
  end_is_state s [] is path = is
  end_is_state s (t ∷ rest) is path = end_is_state t rest (ok.next s path.0.action t path.0.outcome).vector path.1

  module _ (last : IsLastLayer Strong sys K) where
    in_last : (s : Vector) → IsReached sys printed s → layer Strong sys K s ≡ true
    in_last s r =
        subst (λ v. layer Strong sys K v ≡ true) r.path.ends
        (stays K r.start r.path.rest (list_all-at (layer Strong sys K) sys.initial r.start last.covered r.initial) r.path.path)

    is_state : (s : Vector) → IsReached sys printed s → IsVector sys s
    is_state s r = subst (IsVector sys) r.path.ends (end_is_state r.start r.path.rest (ok.initial r.start r.initial).vector r.path.path)

    ends_in_goal : EndsInGoal sys printed
    ends_in_goal s reached terminal =
        ⊎_elim (λ h. layer-zero_goal Strong sys s h)
        (λ w. let pair = pair_at Strong sys K w.0 w.1 s (is_state s reached) w.2 w.3 in absurd (terminal pair.0 pair.1))
        (first_layer Strong sys K s (in_last s reached))

    strong_solves : IsStrongSolution sys printed
    strong_solves = record { no_cycle = no_cycle; ends_in_goal = ends_in_goal }

pub printed_strong_solves : (sys : System) (K : ℕ) → IsSystem sys → IsLastLayer Strong sys K → IsStrongSolution sys (denoted sys (printed_rules Strong sys K))
printed_strong_solves sys K ok last = strong_solves sys ok K last

-- the printed plan of the class Weak: a state of layer k reaches the goal in k steps
module _ (sys : System) (ok : IsSystem sys) (K : ℕ) where
  goal_at_once : (k : ℕ) (v : Vector) → layer Weak sys zero v ≡ true → ReachesGoalWithin sys (denoted sys (printed_rules Weak sys K)) v k
  goal_at_once k v h = record { rest = []; path = tt; short = omega arith; terminal = goal_terminal Weak sys K v h; goal = layer-zero_goal Weak sys v h }

  pub reaches_within : (k : ℕ) → k ≤ K → (v : Vector) → IsVector sys v → layer Weak sys k v ≡ true → ReachesGoalWithin sys (denoted sys (printed_rules Weak sys K)) v k
  reaches_within zero l v is h = goal_at_once zero v h
  reaches_within (suc k) l v is h = go (layer Weak sys k v) refl (reaches_within k (omega arith))
    where
      longer : ReachesGoalWithin sys (denoted sys (printed_rules Weak sys K)) v k → ReachesGoalWithin sys (denoted sys (printed_rules Weak sys K)) v (suc k)
      longer r = record { rest = r.rest; path = r.path; short = (let s = r.short in omega arith); terminal = r.terminal; goal = r.goal }

      go : (b : Bool) → layer Weak sys k v ≡ b → ((t : Vector) → IsVector sys t → layer Weak sys k t ≡ true → ReachesGoalWithin sys (denoted sys (printed_rules Weak sys K)) t k) → ReachesGoalWithin sys (denoted sys (printed_rules Weak sys K)) v (suc k)
      go true e after = longer (after v is e)
      go false e after =
          let pair = pair_at Weak sys K k l v is h e in
          let t = leads_outcome Weak sys (layer Weak sys k) v pair.0 pair.2 in
          let r = after t.0 (ok.next v pair.0 t.0 t.1).vector t.2 in
          record { rest = t.0 ∷ r.rest; path = (record { action = pair.0; pair = pair.1; outcome = t.1 }, r.path); short = (let s = r.short in omega arith); terminal = r.terminal; goal = r.goal }
