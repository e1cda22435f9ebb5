-- The walks of a table plan's graph are the paths of its table, and what follows from it for
-- verdicts.
use Rattle.std.proofs.Common.{◌≡◌, ◌&&◌, ℕ, ◌+◌, ◌<◌, ◌≤◌, true, List, [], ◌∷◌, ◌++◌, length, map, refl, sym, ap, ◌∙◌, subst, arith, ⊎_elim, inl, inr}
use Rattle.std.specs.List.{Contains, filter, flat_map, list_any, range_with_len}
use Rattle.std.proofs.lemmas.Bool.{false≢true, and_parts}
use Rattle.std.proofs.lemmas.List.{length-append, length-map}
use Rattle.std.proofs.lemmas.List.Elements.{Contains-append_cases}
use Rattle.list_laws.proofs.Elements.{Contains-nil}
use Rattle.task_core.proofs.Paths.{last_append, path_append}
use Rattle.task_core.specs.Vectors.{Vector, all_vectors}
use Rattle.task_core.specs.Systems.{System, HasOutcome}
use Rattle.task_core.specs.Tables.{IsTerminal, Leads, Table}
use Rattle.task_core.specs.Paths.{IsPath, last_of}
use Rattle.task_core.specs.Solutions.{HasNoCycle, IsReached}
use Rattle.task_core.specs.ContextPlans.{Configuration, first_context}
use Rattle.task_core.specs.declared.classes.Class.{Class}
use Rattle.task_core.proofs.Vectors.{Contains-map_image, Contains-filter_cases}
use Rattle.plan_rules.specs.Rules.{PlainPlan, PlanRule, table}
use Rattle.plan_rules.specs.Denoted.{advises, can_execute, denoted, denoted_at}
use Rattle.exec_graph.specs.Graphs.{IsGraphOf, PlainGraph}
use Rattle.plan_check.specs.Walks.{ComesRound, HasWalk, IsLongestWalk, IsWalk, last_number}
use Rattle.plan_check.specs.Verdicts.{HasExecution, IsLongest, MayComeRound}

-- a state that follows one which the table may reach
reached_next : (sys : System) (pairs : Table) (s t : Vector) → IsReached sys pairs s → Leads sys pairs s t → IsReached sys pairs t
reached_next sys pairs s t r leads =
    record {
      start = r.start;
      initial = r.initial;
      path = record {
        rest = r.path.rest ++ t ∷ [];
        path = path_append (Leads sys pairs) r.start r.path.rest (t ∷ []) r.path.path (subst (λ u. Leads sys pairs u t) (sym r.path.ends) leads, tt);
        ends = last_append r.start r.path.rest (t ∷ []);
      };
    }

-- each pair of the table that rules denote has an outcome
flat_map_witness : {X Y : Type 0} (f : X → List Y) (xs : List X) (y : Y) → Contains (flat_map f xs) y → (x : X) × Contains (f x) y
flat_map_witness f [] y (k, l, is) = absurd (omega arith)
flat_map_witness f (x ∷ xs) y c = ⊎_elim (λ d. (x, d)) (λ d. flat_map_witness f xs y d) (Contains-append_cases (f x) (flat_map f xs) y c)

some_element : (xs : List Vector) → list_any (λ (_ : Vector). true) xs ≡ true → (t : Vector) × Contains xs t
some_element [] e = absurd (false≢true e)
some_element (t ∷ ts) e = (t, (0, omega arith, refl))

pair_outcome : (sys : System) (rules : List PlanRule) (s : Vector) (a : ℕ) → Contains (denoted sys rules) (s, a) → (t : Vector) × HasOutcome sys s a t
pair_outcome sys rules s a c =
    let at = flat_map_witness (denoted_at sys rules) (all_vectors sys.fluents) (s, a) c in
    let v = at.0 in
    let test = λ (b : ℕ). advises rules v b && can_execute sys v b in
    let image = Contains-map_image (λ (b : ℕ). (v, b)) (filter test (range_with_len 0 sys.actions)) (s, a) at.1 in
    let passes = Contains-filter_cases test (range_with_len 0 sys.actions) image.from image.within in
    let can = (and_parts (advises rules v image.from) (can_execute sys v image.from) passes.1).1 in
    subst (λ (p : Vector × ℕ). (t : Vector) × HasOutcome sys p.0 p.1 t) image.is (some_element (sys.next v image.from) can)

-- a walk ends at a number of the graph
pub last_node : (sys : System) (plan : PlainPlan) (graph : PlainGraph) → IsGraphOf sys plan graph → (i : ℕ) (rest : List ℕ) → i < graph.size → IsWalk graph.next i rest → last_number i rest < graph.size
last_node sys plan graph h i [] l w = l
last_node sys plan graph h i (j ∷ rest) l w = last_node sys plan graph h j rest (h.next_below i j l w.0) w.1

module _ (sys : System) (word : Class) (rules : List PlanRule) (graph : PlainGraph) (h : IsGraphOf sys (table word rules) graph) where
  -- the state of a number
  abbrev state : ℕ → Vector
  state i = (graph.configuration i).state

  pub state_reached : (i : ℕ) → i < graph.size → IsReached sys (denoted sys rules) (state i)
  state_reached i l = (h.reached i l).0

  -- the number of a state
  pub record IsNodeOf (s : Vector) (i : ℕ) : Type 0 where
    pub below : i < graph.size
    pub is : state i ≡ s

  pub node_of : (s : Vector) → IsReached sys (denoted sys rules) s → (i : ℕ) × IsNodeOf s i
  node_of s r =
      let x = h.listed (record { state = s; context = first_context }) (r, refl) in
      (x.number, record { below = x.below; is = ap (λ (c : Configuration). c.state) x.is })

  pub same_number : (i j : ℕ) → i < graph.size → j < graph.size → state i ≡ state j → i ≡ j
  same_number i j li lj e =
      let c : (graph.configuration i).context ≡ (graph.configuration j).context = (h.reached i li).1 ∙ sym (h.reached j lj).1 in
      h.once i j li lj (λ k. record { state = e k; context = c k })

  -- one step
  pub step_leads : (i j : ℕ) → i < graph.size → Contains (graph.next i) j → Leads sys (denoted sys rules) (state i) (state j)
  step_leads i j l c = ((h.next i j l (h.next_below i j l c)).0 c).0

  pub step_of : (i : ℕ) (t : Vector) → i < graph.size → Leads sys (denoted sys rules) (state i) t → (j : ℕ) × IsNodeOf t j × Contains (graph.next i) j
  step_of i t l leads =
      let at = node_of t (reached_next sys (denoted sys rules) (state i) t (state_reached i l) leads) in
      let j = at.0 in
      let is = at.1.is in
      (j, at.1, (h.next i j l at.1.below).1 (subst (Leads sys (denoted sys rules) (state i)) (sym is) leads, (h.reached j at.1.below).1))

  -- walks are paths
  pub path_of : (i : ℕ) (rest : List ℕ) → i < graph.size → IsWalk graph.next i rest → IsPath (Leads sys (denoted sys rules)) (state i) (map state rest)
  path_of i [] l w = tt
  path_of i (j ∷ rest) l w = (step_leads i j l w.0, path_of j rest (h.next_below i j l w.0) w.1)

  pub last_of_path : (i : ℕ) (rest : List ℕ) → last_of (state i) (map state rest) ≡ state (last_number i rest)
  last_of_path i [] = refl
  last_of_path i (j ∷ rest) = last_of_path j rest

  -- paths are walks
  pub record IsWalkOf (i : ℕ) (rest : List Vector) : Type 0 where
    pub numbers : List ℕ
    pub walk : IsWalk graph.next i numbers
    pub states : map state numbers ≡ rest

  pub walk_of : (i : ℕ) (rest : List Vector) → i < graph.size → IsPath (Leads sys (denoted sys rules)) (state i) rest → IsWalkOf i rest
  walk_of i [] l p = record { numbers = []; walk = tt; states = refl }
  walk_of i (t ∷ rest) l p =
      let at = step_of i t l p.0 in
      let j = at.0 in
      let is = at.1.is in
      let more = walk_of j rest at.1.below (subst (λ s. IsPath (Leads sys (denoted sys rules)) s rest) (sym is) p.1) in
      record { numbers = j ∷ more.numbers; walk = (at.2, more.walk); states = ap (λ s. s ∷ map state more.numbers) is ∙ ap (λ ss. t ∷ ss) more.states }

  pub length_walk : (i : ℕ) (rest : List Vector) (w : IsWalkOf i rest) → length w.numbers ≡ length rest
  length_walk i rest w = sym (length-map w.numbers state) ∙ ap length w.states

  -- where that walk ends
  pub end_of_walk : (i : ℕ) (rest : List Vector) (w : IsWalkOf i rest) → state (last_number i w.numbers) ≡ last_of (state i) rest
  end_of_walk i rest w = sym (last_of_path i w.numbers) ∙ ap (last_of (state i)) w.states

  -- a number without a follower is that of a terminal state
  pub end_terminal : (i : ℕ) → i < graph.size → graph.next i ≡ [] → IsTerminal (denoted sys rules) (state i)
  end_terminal i l none a c =
      let out = pair_outcome sys rules (state i) a c in
      let at = step_of i out.0 l (record { action = a; pair = c; outcome = out.1 }) in
      Contains-nil at.0 (subst (λ xs. Contains xs at.0) none at.2)

  pub terminal_end : (i : ℕ) → i < graph.size → IsTerminal (denoted sys rules) (state i) → graph.next i ≡ []
  terminal_end i l terminal = go (graph.next i) refl
    where
      go : (xs : List ℕ) → graph.next i ≡ xs → xs ≡ []
      go [] e = refl
      go (j ∷ xs) e =
          let c : Contains (graph.next i) j = subst (λ ys. Contains ys j) (sym e) (0, omega arith, refl) in
          let leads = step_leads i j l c in
          absurd (terminal leads.action leads.pair)

  -- a walk that comes round
  pub round_path : ComesRound graph.size graph.next → MayComeRound sys (denoted sys rules)
  round_path r =
      record {
        state = state r.number;
        reached = state_reached r.number r.below;
        next = state r.follower;
        rest = map state r.rest;
        path = path_of r.number (r.follower ∷ r.rest) r.below r.walk;
        round = last_of_path r.follower r.rest ∙ ap state r.round;
      }

  pub no_cycle : (ComesRound graph.size graph.next → ⊥) → HasNoCycle sys (denoted sys rules)
  no_cycle never s t rest reached path e =
      let at = node_of s reached in
      let i = at.0 in
      let li = at.1.below in
      let is = at.1.is in
      let step = step_of i t li (subst (λ u. Leads sys (denoted sys rules) u t) (sym is) path.0) in
      let j = step.0 in
      let lj = step.1.below in
      let ts = step.1.is in
      let more = walk_of j rest lj (subst (λ u. IsPath (Leads sys (denoted sys rules)) u rest) (sym ts) path.1) in
      let l = last_number j more.numbers in
      let ends : state l ≡ state i = end_of_walk j rest more ∙ ap (λ u. last_of u rest) ts ∙ e ∙ sym is in
      never (record {
        number = i;
        below = li;
        follower = j;
        rest = more.numbers;
        walk = (step.2, more.walk);
        round = same_number l i (last_node sys (table word rules) graph h j more.numbers lj more.walk) li ends;
      })

  -- the longest walk is as long as the longest execution
  execution_walk : (n : ℕ) → HasExecution sys (denoted sys rules) n → HasWalk graph.size graph.next n
  execution_walk n x =
      let at = node_of x.start (record { start = x.start; initial = x.initial; path = record { rest = []; path = tt; ends = refl } }) in
      let is = at.1.is in
      let w = walk_of at.0 x.rest at.1.below (subst (λ u. IsPath (Leads sys (denoted sys rules)) u x.rest) (sym is) x.path) in
      record { start = at.0; below = at.1.below; rest = w.numbers; walk = w.walk; long = length_walk at.0 x.rest w ∙ x.long }

  -- what comes before a walk, from an initial state on
  record IsLonger (steps : ℕ) : Type 0 where
    more : ℕ
    enough : steps ≤ more
    execution : HasExecution sys (denoted sys rules) more

  walk_execution : (steps : ℕ) → HasWalk graph.size graph.next steps → IsLonger steps
  walk_execution steps w =
      let r = state_reached w.start w.below in
      let path = path_of w.start w.rest w.below w.walk in
      let len : length (r.path.rest ++ map state w.rest) ≡ length r.path.rest + steps = length-append r.path.rest (map state w.rest) ∙ ap (λ k. length r.path.rest + k) (length-map w.rest state ∙ w.long) in
      record {
        more = length (r.path.rest ++ map state w.rest);
        enough = omega arith;
        execution = record {
          start = r.start;
          initial = r.initial;
          rest = r.path.rest ++ map state w.rest;
          path = path_append (Leads sys (denoted sys rules)) r.start r.path.rest (map state w.rest) r.path.path (subst (λ u. IsPath (Leads sys (denoted sys rules)) u (map state w.rest)) (sym r.path.ends) path);
          long = refl;
        };
      }

  pub longest : (steps : ℕ) → IsLongestWalk graph.size graph.next steps → IsLongest sys (denoted sys rules) steps
  longest steps x =
      record {
        most = most_steps;
        attained = ⊎_elim (λ w. inl (exactly w)) (λ none. inr (none.0, λ s initial. no_start none.1 s initial)) x.attained;
      }
    where
      most_steps : (n : ℕ) → HasExecution sys (denoted sys rules) n → n ≤ steps
      most_steps n e = x.most n (execution_walk n e)

      exactly : HasWalk graph.size graph.next steps → HasExecution sys (denoted sys rules) steps
      exactly w =
          let longer = walk_execution steps w in
          let bound = most_steps longer.more longer.execution in
          let enough = longer.enough in
          let same : longer.more ≡ steps = omega arith in
          subst (HasExecution sys (denoted sys rules)) same longer.execution

      no_start : graph.size ≡ 0 → (s : Vector) → Contains sys.initial s → ⊥
      no_start none s initial =
          let at = node_of s (record { start = s; initial = initial; path = record { rest = []; path = tt; ends = refl } }) in
          let l = at.1.below in
          omega arith
