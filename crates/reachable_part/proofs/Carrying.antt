-- Tables of a system and of its reachable part that mean the same have the same paths.
use Rattle.std.proofs.Common.{◌≡◌, ◌↔◌, ℕ, List, [], ◌∷◌, map, refl, sym, ◌∙◌, ap, subst}
use Rattle.std.specs.List.{Contains}
use Rattle.task_core.specs.Paths.{IsPath, last_of}
use Rattle.task_core.specs.Solutions.{EndsInGoal, HasNoCycle, IsReached, IsSolution, IsStrongCyclicSolution, IsStrongSolution, IsWeakSolution, MayEnd, MayReachGoal}
use Rattle.task_core.specs.Systems.{HasOutcome, IsVector, System}
use Rattle.task_core.specs.Tables.{IsTerminal, Leads, Reaches, Table}
use Rattle.task_core.specs.Vectors.{Vector}
use Rattle.task_core.specs.declared.classes.Class.{Class}
use Rattle.task_core.specs.declared.classes.Class.TheVariants.{Weak, Strong, Cyclic}
use Rattle.task_core.proofs.Vectors.{Contains-map, Contains-map_image}
use Rattle.reachable_part.specs.Carried.{IsCarried}
use Rattle.reachable_part.specs.Laws.{ReachedCarriesOver, SolutionsCarryOver}
use Rattle.reachable_part.specs.Parts.{IsReachablePart, Part}

module _ (large small : System) (part : Part) (ok : IsReachablePart large small part) where
  abbrev wide : Vector → Vector
  wide = part.widened

  -- vectors that stand for one are one
  pub same_vector_wide : (v w : Vector) → IsVector small v → IsVector small w → wide v ≡ wide w → v ≡ w
  same_vector_wide v w h k e = sym (ok.back v h) ∙ ap part.narrowed e ∙ ok.back w k

  -- a vector of the larger system for which one of the smaller system stands, with a property
  pub record Stands (P : Vector → Type 0) (v : Vector) : Type 0 where
    pub narrow : Vector
    pub vector : IsVector small narrow
    pub is : wide narrow ≡ v
    pub has : P narrow

  pub vector_next : (w : Vector) (i : ℕ) (t : Vector) → HasOutcome small w i t → IsVector small t
  vector_next w i t outcome = (ok.small_system.next w i t outcome).vector

  pub vector_initial : (w : Vector) → Contains small.initial w → IsVector small w
  vector_initial w c = (ok.small_system.initial w c).vector

  pub initial_up : (w : Vector) → Contains small.initial w → Contains large.initial (wide w)
  initial_up w c = subst (λ vs. Contains vs (wide w)) (sym ok.initial) (Contains-map wide small.initial w c)

  pub initial_down : (v : Vector) → Contains large.initial v → Stands (Contains small.initial) v
  initial_down v c =
      let image = Contains-map_image wide small.initial v (subst (λ vs. Contains vs v) ok.initial c) in
      record { narrow = image.from; vector = vector_initial image.from image.within; is = image.is; has = image.within }

  module _ (narrow wider : Table) (carried : IsCarried small part narrow wider) where
    leads_up : (w t : Vector) → IsVector small w → Leads small narrow w t → Leads large wider (wide w) (wide t)
    leads_up w t h leads =
        let pair = carried.to w leads.action h leads.pair in
        record {
          action = pair.0;
          pair = pair.2;
          outcome = subst (λ vs. Contains vs (wide t)) (sym (ok.next w leads.action pair.0 h pair.1)) (Contains-map wide (small.next w leads.action) t leads.outcome);
        }

    leads_down : (w v : Vector) → IsVector small w → Leads large wider (wide w) v → Stands (Leads small narrow w) v
    leads_down w v h leads =
        let pair = carried.from w leads.action h leads.pair in
        let image = Contains-map_image wide (small.next w pair.0) v (subst (λ vs. Contains vs v) (ok.next w pair.0 leads.action h pair.1) leads.outcome) in
        record {
          narrow = image.from;
          vector = vector_next w pair.0 image.from image.within;
          is = image.is;
          has = record { action = pair.0; pair = pair.2; outcome = image.within };
        }

    leads_vector : (w t : Vector) → Leads small narrow w t → IsVector small t
    leads_vector w t leads = vector_next w leads.action t leads.outcome

    path_up : (w : Vector) (rest : List Vector) → IsVector small w → IsPath (Leads small narrow) w rest → IsPath (Leads large wider) (wide w) (map wide rest)
    path_up w [] h path = tt
    path_up w (t ∷ rest) h path = (leads_up w t h path.0, path_up t rest (leads_vector w t path.0) path.1)

    path_vector : (w : Vector) (rest : List Vector) → IsVector small w → IsPath (Leads small narrow) w rest → IsVector small (last_of w rest)
    path_vector w [] h path = h
    path_vector w (t ∷ rest) h path = path_vector t rest (leads_vector w t path.0) path.1

    last_up : (w : Vector) (rest : List Vector) → last_of (wide w) (map wide rest) ≡ wide (last_of w rest)
    last_up w [] = refl
    last_up w (t ∷ rest) = last_up t rest

    -- a path of the larger system is one of the smaller system
    record Down (w : Vector) (vs : List Vector) : Type 0 where
      pub rest : List Vector
      pub are : map wide rest ≡ vs
      pub path : IsPath (Leads small narrow) w rest

    path_down : (w : Vector) (vs : List Vector) → IsVector small w → IsPath (Leads large wider) (wide w) vs → Down w vs
    path_down w [] h path = record { rest = []; are = refl; path = tt }
    path_down w (v ∷ vs) h path =
        let one = leads_down w v h path.0 in
        let more = path_down one.narrow vs one.vector (subst (λ u. IsPath (Leads large wider) u vs) (sym one.is) path.1) in
        record { rest = one.narrow ∷ more.rest; are = λ i. one.is i ∷ more.are i; path = (one.has, more.path) }

    -- where a path that is one of the smaller system ends
    down_last : (w : Vector) (vs : List Vector) (down : Down w vs) → wide (last_of w down.rest) ≡ last_of (wide w) vs
    down_last w vs down = sym (last_up w down.rest) ∙ ap (last_of (wide w)) down.are

    reaches_up : (w t : Vector) → IsVector small w → Reaches small narrow w t → Reaches large wider (wide w) (wide t)
    reaches_up w t h reaches = record {
      rest = map wide reaches.rest;
      path = path_up w reaches.rest h reaches.path;
      ends = last_up w reaches.rest ∙ ap wide reaches.ends;
    }

    reaches_vector : (w t : Vector) → IsVector small w → Reaches small narrow w t → IsVector small t
    reaches_vector w t h reaches = subst (IsVector small) reaches.ends (path_vector w reaches.rest h reaches.path)

    reaches_down : (w v : Vector) → IsVector small w → Reaches large wider (wide w) v → Stands (Reaches small narrow w) v
    reaches_down w v h reaches =
        let down = path_down w reaches.rest h reaches.path in
        record {
          narrow = last_of w down.rest;
          vector = path_vector w down.rest h down.path;
          is = down_last w reaches.rest down ∙ reaches.ends;
          has = record { rest = down.rest; path = down.path; ends = refl };
        }

    pub reached_vector : (w : Vector) → IsReached small narrow w → IsVector small w
    reached_vector w r = reaches_vector r.start w (vector_initial r.start r.initial) r.path

    pub reached_up : (w : Vector) → IsReached small narrow w → IsReached large wider (wide w)
    reached_up w r = record {
      start = wide r.start;
      initial = initial_up r.start r.initial;
      path = reaches_up r.start w (vector_initial r.start r.initial) r.path;
    }

    pub reached_down : (v : Vector) → IsReached large wider v → Stands (IsReached small narrow) v
    reached_down v r =
        let first = initial_down r.start r.initial in
        let end = reaches_down first.narrow v first.vector (subst (λ u. Reaches large wider u v) (sym first.is) r.path) in
        record {
          narrow = end.narrow;
          vector = end.vector;
          is = end.is;
          has = record { start = first.narrow; initial = first.has; path = end.has };
        }

    terminal_up : (w : Vector) → IsVector small w → IsTerminal narrow w → IsTerminal wider (wide w)
    terminal_up w h none a pair = let at = carried.from w a h pair in none at.0 at.2

    terminal_down : (w : Vector) → IsVector small w → IsTerminal wider (wide w) → IsTerminal narrow w
    terminal_down w h none i pair = let at = carried.to w i h pair in none at.0 at.2

    weak_up : IsWeakSolution small narrow → IsWeakSolution large wider
    weak_up solves v c =
        let first = initial_down v c in
        let goal = solves first.narrow first.has in
        let h = reaches_vector first.narrow goal.end first.vector goal.reached in
        subst (MayReachGoal large wider) first.is (record {
          end = wide goal.end;
          reached = reaches_up first.narrow goal.end first.vector goal.reached;
          terminal = terminal_up goal.end h goal.terminal;
          goal = (ok.goal goal.end h).0 goal.goal;
        })

    weak_down : IsWeakSolution large wider → IsWeakSolution small narrow
    weak_down solves w c =
        let goal = solves (wide w) (initial_up w c) in
        let end = reaches_down w goal.end (vector_initial w c) goal.reached in
        record {
          end = end.narrow;
          reached = end.has;
          terminal = terminal_down end.narrow end.vector (subst (IsTerminal wider) (sym end.is) goal.terminal);
          goal = (ok.goal end.narrow end.vector).1 (subst (Contains _) (sym end.is) goal.goal);
        }

    ends_up : EndsInGoal small narrow → EndsInGoal large wider
    ends_up ends v r terminal =
        let at = reached_down v r in
        subst (Contains _) at.is
        ((ok.goal at.narrow at.vector).0 (ends at.narrow at.has (terminal_down at.narrow at.vector (subst (IsTerminal wider) (sym at.is) terminal))))

    ends_down : EndsInGoal large wider → EndsInGoal small narrow
    ends_down ends w r terminal =
        let h = reached_vector w r in
        (ok.goal w h).1 (ends (wide w) (reached_up w r) (terminal_up w h terminal))

    no_cycle_up : HasNoCycle small narrow → HasNoCycle large wider
    no_cycle_up none v t rest r path e =
        let at = reached_down v r in
        let one = leads_down at.narrow t at.vector (subst (λ u. Leads large wider u t) (sym at.is) path.0) in
        let more = path_down one.narrow rest one.vector (subst (λ u. IsPath (Leads large wider) u rest) (sym one.is) path.1) in
        none at.narrow one.narrow more.rest at.has (one.has, more.path)
        (same_vector_wide (last_of one.narrow more.rest) at.narrow (path_vector one.narrow more.rest one.vector more.path) at.vector
        (down_last one.narrow rest more ∙ ap (λ u. last_of u rest) one.is ∙ e ∙ sym at.is))

    no_cycle_down : HasNoCycle large wider → HasNoCycle small narrow
    no_cycle_down none w t rest r path e =
        none (wide w) (wide t) (map wide rest) (reached_up w r) (path_up w (t ∷ rest) (reached_vector w r) path)
        (last_up t rest ∙ ap wide e)

    may_end_up : (w : Vector) → IsVector small w → MayEnd small narrow w → MayEnd large wider (wide w)
    may_end_up w h may = record {
      end = wide may.end;
      reached = reaches_up w may.end h may.reached;
      terminal = terminal_up may.end (reaches_vector w may.end h may.reached) may.terminal;
    }

    may_end_down : (w : Vector) → IsVector small w → MayEnd large wider (wide w) → MayEnd small narrow w
    may_end_down w h may =
        let end = reaches_down w may.end h may.reached in
        record {
          end = end.narrow;
          reached = end.has;
          terminal = terminal_down end.narrow end.vector (subst (IsTerminal wider) (sym end.is) may.terminal);
        }

    strong_up : IsStrongSolution small narrow → IsStrongSolution large wider
    strong_up solves = record { no_cycle = no_cycle_up solves.no_cycle; ends_in_goal = ends_up solves.ends_in_goal }

    strong_down : IsStrongSolution large wider → IsStrongSolution small narrow
    strong_down solves = record { no_cycle = no_cycle_down solves.no_cycle; ends_in_goal = ends_down solves.ends_in_goal }

    cyclic_up : IsStrongCyclicSolution small narrow → IsStrongCyclicSolution large wider
    cyclic_up solves = record {
      ends_in_goal = ends_up solves.ends_in_goal;
      may_end = λ v r. let at = reached_down v r in subst (MayEnd large wider) at.is (may_end_up at.narrow at.vector (solves.may_end at.narrow at.has));
    }

    cyclic_down : IsStrongCyclicSolution large wider → IsStrongCyclicSolution small narrow
    cyclic_down solves = record {
      ends_in_goal = ends_down solves.ends_in_goal;
      may_end = λ w r. may_end_down w (reached_vector w r) (solves.may_end (wide w) (reached_up w r));
    }

    pub solution_over : (class : Class) → IsSolution class small narrow ↔ IsSolution class large wider
    solution_over Weak = (weak_up, weak_down)
    solution_over Strong = (strong_up, strong_down)
    solution_over Cyclic = (cyclic_up, cyclic_down)

pub solutions_over : SolutionsCarryOver
solutions_over class large small part narrow wide ok table carried = solution_over large small part ok narrow wide carried class

pub reached_over : ReachedCarriesOver
reached_over large small part narrow wide v ok table carried = (
  λ r. let at = reached_down large small part ok narrow wide carried v r in (at.narrow, at.has, at.is),
  λ at. subst (IsReached large wide) at.2 (reached_up large small part ok narrow wide carried at.0 at.1),
)
