-- The printed rules denote a strong cyclic solution. They are the weak plan of the system in which
-- only the pairs of the set can be executed, so that wherever it leads the goal may still be
-- reached.
use Rattle.std.proofs.Common.{◌≡◌, ℕ, zero, ◌^◌, true, List, [], ◌∷◌, refl, sym, ◌∙◌, subst, arith, ⊎_elim}
use Rattle.std.specs.List.{Contains}
use Rattle.std.proofs.lemmas.Bool.{or_cases}
use Rattle.task_core.specs.Vectors.{Vector}
use Rattle.task_core.specs.Systems.{System, IsVector, IsSystem, goal_states}
use Rattle.task_core.specs.Tables.{IsTerminal, Table, Leads}
use Rattle.task_core.specs.Paths.{IsPath, last_of}
use Rattle.task_core.specs.Solutions.{IsReached, IsStrongCyclicSolution, MayReachGoal}
use Rattle.task_core.specs.declared.classes.Class.TheVariants.{Weak}
use Rattle.plan_rules.specs.Denoted.{IsExecutable, denoted}
use Rattle.plan_theory.specs.Layers.{action_numbers, layer}
use Rattle.plan_theory.proofs.ClassLayers.{advised_chosen, chosen_leads, layer-grows, leads_outcome, printed_executable}
use Rattle.plan_rules.proofs.DenotedPairs.{can_execute-Exec, can_execute-outcome, denoted-from, denoted-pair}
use Rattle.list_laws.proofs.Elements.{list_all-at, list_any-witness}
use Rattle.plan_theory.proofs.WeakPrinted.{printed_reaches}
use Rattle.plan_theory.specs.LargestSets.{IsStrongCyclicSet, covers, goal_or_pair}
use Rattle.plan_theory.specs.Pairs.{Pairs, has_pair, is_goal, restricted}
use Rattle.plan_theory.specs.CyclicPlans.{cyclic_rules}
use Rattle.plan_theory.specs.PairRounds.{connected}
use Rattle.plan_theory.proofs.Restricted.{outcome_of_pair, pair_of_exec, progress_connected, restricted_system}
use Rattle.list_laws.proofs.Elements.{some_element}

pub cyclic_executable : (sys : System) (pairs : Pairs) → IsExecutable sys (cyclic_rules sys pairs)
cyclic_executable sys pairs rule v c is m =
    (pair_of_exec sys pairs v rule.action (printed_executable Weak (restricted sys pairs) (2 ^ sys.fluents) rule v c is m)).1

module _ (sys : System) (pairs : Pairs) where
  abbrev sub : System
  sub = restricted sys pairs

  abbrev printed : Table
  printed = denoted sys (cyclic_rules sys pairs)

  abbrev printed_below : Table
  printed_below = denoted sub (cyclic_rules sys pairs)

  -- the rules denote the same table in the restricted system
  to_sub : (v : Vector) (a : ℕ) → Contains printed (v, a) → Contains printed_below (v, a)
  to_sub v a c =
      let d = denoted-pair sys (cyclic_rules sys pairs) v a c in
      let w = chosen_leads Weak sub v a (2 ^ sys.fluents) (advised_chosen Weak sub (2 ^ sys.fluents) v a d.vector d.advised) in
      let t = leads_outcome Weak sub (layer Weak sub w.0) v a w.1 in
      denoted-from sub (cyclic_rules sys pairs) v a (record { vector = d.vector; below = d.below; advised = d.advised; executable = can_execute-outcome sub v a t.0 t.1 })

  from_sub : (v : Vector) (a : ℕ) → Contains printed_below (v, a) → Contains printed (v, a)
  from_sub v a c =
      let d = denoted-pair sub (cyclic_rules sys pairs) v a c in
      let t = some_element (sub.next v a) (can_execute-Exec sub v a d.executable) in
      denoted-from sys (cyclic_rules sys pairs) v a (record { vector = d.vector; below = d.below; advised = d.advised; executable = can_execute-outcome sys v a t.0 (outcome_of_pair sys pairs v a t.0 t.1).1 })

  path_from_sub : (v : Vector) (rest : List Vector) → IsPath (Leads sub printed_below) v rest → IsPath (Leads sys printed) v rest
  path_from_sub v [] path = tt
  path_from_sub v (t ∷ rest) path =
      let lead = path.0 in
      (record { action = lead.action; pair = from_sub v lead.action lead.pair; outcome = (outcome_of_pair sys pairs v lead.action t lead.outcome).1 }, path_from_sub t rest path.1)

  reaches_goal : (v : Vector) → MayReachGoal sub printed_below v → MayReachGoal sys printed v
  reaches_goal v m = record {
    end = m.end;
    reached = record { rest = m.reached.rest; path = path_from_sub v m.reached.rest m.reached.path; ends = m.reached.ends };
    terminal = λ a c. m.terminal a (to_sub m.end a c);
    goal = m.goal;
  }

  -- each pair of the printed table is one of the set
  printed_pair : (v : Vector) (a : ℕ) → Contains printed (v, a) → pairs v a ≡ true
  printed_pair v a c =
      let d = denoted-pair sub (cyclic_rules sys pairs) v a (to_sub v a c) in
      (pair_of_exec sys pairs v a (can_execute-Exec sub v a d.executable)).0

  module _ (ok : IsSystem sys) (is : IsStrongCyclicSet sys pairs) where
    pub near : (v : Vector) → IsVector sys v → goal_or_pair sys pairs v ≡ true → connected sys pairs v ≡ true
    near v s h =
        ⊎_elim (λ g. layer-grows Weak sub v zero (2 ^ sys.fluents) (omega arith) g)
        (λ p. let w = list_any-witness (pairs v) (action_numbers sys) p in let k = is.connected v w.0 s w.2 in progress_connected sys pairs ok k.0 v s k.1)
        (or_cases (is_goal sys v) (has_pair sys pairs v) h)

    -- a state of which each execution may still reach the goal
    record IsNear (v : Vector) : Type 0 where
      state : IsVector sys v
      connects : connected sys pairs v ≡ true

    near_along : (v : Vector) (rest : List Vector) → IsNear v → IsPath (Leads sys printed) v rest → IsNear (last_of v rest)
    near_along v [] n path = n
    near_along v (t ∷ rest) n path =
        let lead = path.0 in
        let s = (ok.next v lead.action t lead.outcome).vector in
        near_along t rest (record { state = s; connects = near t s (is.stays v lead.action t n.state (printed_pair v lead.action lead.pair) lead.outcome) }) path.1

    reaches_from : (v : Vector) → IsNear v → MayReachGoal sys printed v
    reaches_from v n =
        reaches_goal v (printed_reaches sub (restricted_system sys pairs ok) (2 ^ sys.fluents) (2 ^ sys.fluents) (omega arith) v n.state n.connects)

    module _ (covered : covers sys pairs ≡ true) where
      near_reached : (v : Vector) → IsReached sys printed v → IsNear v
      near_reached v reached =
          let s = (ok.initial reached.start reached.initial).vector in
          subst IsNear reached.path.ends
          (near_along reached.start reached.path.rest (record { state = s; connects = near reached.start s (list_all-at (goal_or_pair sys pairs) sys.initial reached.start covered reached.initial) }) reached.path.path)

      at_end : (v : Vector) (rest : List Vector) → IsPath (Leads sys printed) v rest → IsTerminal printed v → last_of v rest ≡ v
      at_end v [] path terminal = refl
      at_end v (t ∷ rest) path terminal = absurd (terminal path.0.action path.0.pair)

      pub cyclic_solves : IsStrongCyclicSolution sys printed
      cyclic_solves = record {
        ends_in_goal = λ v reached terminal.
            let m = reaches_from v (near_reached v reached) in
            let e = at_end v m.reached.rest m.reached.path terminal in
            subst (Contains (goal_states sys)) (sym m.reached.ends ∙ e) m.goal;
        may_end = λ v reached.
            let m = reaches_from v (near_reached v reached) in
            record { end = m.end; reached = m.reached; terminal = m.terminal };
      }
