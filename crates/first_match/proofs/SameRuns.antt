-- Tables that have the same pairs wherever one of them may come are solutions together.
use Rattle.std.proofs.Common.{ℕ, List, [], ◌∷◌, ◌++◌, refl, sym, subst}
use Rattle.std.specs.List.{Contains}
use Rattle.task_core.proofs.Paths.{last_onward, path_onward}
use Rattle.task_core.specs.Paths.{IsPath, last_of}
use Rattle.task_core.specs.Solutions.{EndsInGoal, IsReached, IsSolution, IsStrongSolution, IsWeakSolution, MayEnd}
use Rattle.task_core.specs.Systems.{System}
use Rattle.task_core.specs.Tables.{IsTerminal, Leads, Reaches, Table}
use Rattle.task_core.specs.Vectors.{Vector}
use Rattle.task_core.specs.declared.classes.Class.{Class}
use Rattle.task_core.specs.declared.classes.Class.TheVariants.{Weak, Strong, Cyclic}

module _ (sys : System) where
  pub reached_onward : (pairs : Table) (s t : Vector) → IsReached sys pairs s → Leads sys pairs s t → IsReached sys pairs t
  reached_onward pairs s t r leads = record {
    start = r.start;
    initial = r.initial;
    path = record {
      rest = r.path.rest ++ t ∷ [];
      path = path_onward (Leads sys pairs) r.start r.path.rest t r.path.path (subst (λ u. Leads sys pairs u t) (sym r.path.ends) leads);
      ends = last_onward r.start r.path.rest t;
    };
  }

  -- an initial state is reached
  pub reached_start : (pairs : Table) (s : Vector) → Contains sys.initial s → IsReached sys pairs s
  reached_start pairs s first = record { start = s; initial = first; path = record { rest = []; path = tt; ends = refl } }

  reached_end : (pairs : Table) (s : Vector) (rest : List Vector) → IsReached sys pairs s → IsPath (Leads sys pairs) s rest → IsReached sys pairs (last_of s rest)
  reached_end pairs s [] r path = r
  reached_end pairs s (t ∷ rest) r path = reached_end pairs t rest (reached_onward pairs s t r path.0) path.1

  -- a table with more pairs may come to more states
  wider_path : (one other : Table) → ((s : Vector) (a : ℕ) → Contains one (s, a) → Contains other (s, a)) → (s : Vector) (rest : List Vector) → IsPath (Leads sys one) s rest → IsPath (Leads sys other) s rest
  wider_path one other part s [] path = tt
  wider_path one other part s (t ∷ rest) path = (record { action = path.0.action; pair = part s path.0.action path.0.pair; outcome = path.0.outcome }, wider_path one other part t rest path.1)

  pub reached_wider : (one other : Table) → ((s : Vector) (a : ℕ) → Contains one (s, a) → Contains other (s, a)) → (s : Vector) → IsReached sys one s → IsReached sys other s
  reached_wider one other part s r = record {
    start = r.start;
    initial = r.initial;
    path = record { rest = r.path.rest; path = wider_path one other part r.start r.path.rest r.path.path; ends = r.path.ends };
  }

  -- where one table may come, both have the same pairs
  module _ (one other : Table) (to : (s : Vector) (a : ℕ) → IsReached sys one s → Contains one (s, a) → Contains other (s, a))
      (from : (s : Vector) (a : ℕ) → IsReached sys one s → Contains other (s, a) → Contains one (s, a)) where
    leads_to : (s t : Vector) → IsReached sys one s → Leads sys one s t → Leads sys other s t
    leads_to s t r leads = record { action = leads.action; pair = to s leads.action r leads.pair; outcome = leads.outcome }

    leads_from : (s t : Vector) → IsReached sys one s → Leads sys other s t → Leads sys one s t
    leads_from s t r leads = record { action = leads.action; pair = from s leads.action r leads.pair; outcome = leads.outcome }

    path_to : (s : Vector) (rest : List Vector) → IsReached sys one s → IsPath (Leads sys one) s rest → IsPath (Leads sys other) s rest
    path_to s [] r path = tt
    path_to s (t ∷ rest) r path = (leads_to s t r path.0, path_to t rest (reached_onward one s t r path.0) path.1)

    path_from : (s : Vector) (rest : List Vector) → IsReached sys one s → IsPath (Leads sys other) s rest → IsPath (Leads sys one) s rest
    path_from s [] r path = tt
    path_from s (t ∷ rest) r path =
        let leads = leads_from s t r path.0 in
        (leads, path_from t rest (reached_onward one s t r leads) path.1)

    pub also_reached : (s : Vector) → IsReached sys other s → IsReached sys one s
    also_reached s r = record {
      start = r.start;
      initial = r.initial;
      path = record {
        rest = r.path.rest;
        path = path_from r.start r.path.rest (reached_start one r.start r.initial) r.path.path;
        ends = r.path.ends;
      };
    }

    reaches_to : (s t : Vector) → IsReached sys one s → Reaches sys one s t → Reaches sys other s t
    reaches_to s t r reaches = record { rest = reaches.rest; path = path_to s reaches.rest r reaches.path; ends = reaches.ends }

    -- the end of a path of a state that may be reached may be reached
    end_reached : (s t : Vector) → IsReached sys one s → Reaches sys one s t → IsReached sys one t
    end_reached s t r reaches = subst (IsReached sys one) reaches.ends (reached_end one s reaches.rest r reaches.path)

    terminal_to : (s : Vector) → IsReached sys one s → IsTerminal one s → IsTerminal other s
    terminal_to s r none a pair = none a (from s a r pair)

    terminal_from : (s : Vector) → IsReached sys one s → IsTerminal other s → IsTerminal one s
    terminal_from s r none a pair = none a (to s a r pair)

    weak_to : IsWeakSolution sys one → IsWeakSolution sys other
    weak_to solves s first =
        let r = reached_start one s first in
        let goal = solves s first in
        record {
          end = goal.end;
          reached = reaches_to s goal.end r goal.reached;
          terminal = terminal_to goal.end (end_reached s goal.end r goal.reached) goal.terminal;
          goal = goal.goal;
        }

    ends_to : EndsInGoal sys one → EndsInGoal sys other
    ends_to ends s r terminal = ends s (also_reached s r) (terminal_from s (also_reached s r) terminal)

    strong_to : IsStrongSolution sys one → IsStrongSolution sys other
    strong_to solves = record {
      no_cycle = λ s t rest r path. solves.no_cycle s t rest (also_reached s r) (path_from s (t ∷ rest) (also_reached s r) path);
      ends_in_goal = ends_to solves.ends_in_goal;
    }

    may_end_to : (s : Vector) → IsReached sys one s → MayEnd sys one s → MayEnd sys other s
    may_end_to s r may = record {
      end = may.end;
      reached = reaches_to s may.end r may.reached;
      terminal = terminal_to may.end (end_reached s may.end r may.reached) may.terminal;
    }

    pub solution_to : (class : Class) → IsSolution class sys one → IsSolution class sys other
    solution_to Weak solves = weak_to solves
    solution_to Strong solves = strong_to solves
    solution_to Cyclic solves = record {
      ends_in_goal = ends_to solves.ends_in_goal;
      may_end = λ s r. may_end_to s (also_reached s r) (solves.may_end s (also_reached s r));
    }
