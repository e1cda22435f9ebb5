-- Where a certificate is accepted, no table is a solution of its class. Weak: no path leaves the set
-- of the initial state. Strong: some path goes on in it, and so comes back to a state at last.
-- Cyclic: by the number of the set; no reached state lies in an earlier one, so that from one in
-- this set no path leaves it, and none ends.
use Rattle.std.proofs.Common.{◌≡◌, ℕ, zero, suc, ◌+◌, ◌<◌, ◌≤◌, ◌^◌, Bool, true, false, List, [], ◌∷◌, ◌++◌, take, length, refl, sym, ap, subst, ◌∙◌, arith, ⊎_elim}
use Rattle.std.specs.List.{Contains, list_all, list_any}
use Rattle.std.proofs.lemmas.Bool.{false≢true, true≢false, or_cases}
use Rattle.std.proofs.lemmas.List.{take_all}
use Rattle.task_core.specs.Vectors.{Vector, all_vectors, same_vector}
use Rattle.task_core.specs.Systems.{System, IsSystem, IsVector, goal_states}
use Rattle.task_core.specs.Tables.{Table, IsTable, Leads, Reaches}
use Rattle.task_core.specs.Paths.{IsPath, last_of}
use Rattle.task_core.proofs.Paths.{last_append, path_append, path_keeps}
use Rattle.task_core.proofs.Vectors.{length-all_vectors}
use Rattle.task_core.specs.Solutions.{HasNoSolution, IsReached, IsStrongSolution, IsStrongCyclicSolution, IsWeakSolution}
use Rattle.task_core.specs.declared.classes.Class.{Class}
use Rattle.task_core.specs.declared.classes.Class.TheVariants.{Weak, Strong, Cyclic}
use Rattle.plan_certs.specs.Certificates.{CubeSet, PlainCertificate, CanAct, HasNoWayOut, IsAccepted, holds_state, set_at, some_holds}
use Rattle.plan_certs.proofs.Lists.{number_of_set, some_holds-at, some_holds-last}
use Rattle.plan_theory.proofs.Cubes.{all_vectors-holds}
use Rattle.plan_theory.proofs.NoStrong.{reach_more, here, reached_more}
use Rattle.plan_theory.proofs.Tests.{same_vector-itself, same_vector-true}
use Rattle.list_laws.proofs.Elements.{Contains-cases, Contains-nil, list_all-at, list_any-from, list_any-witness}
use Rattle.list_laws.proofs.Distinct.{Apart, Apart-few}
use Rattle.plan_theory.proofs.LeastBounds.{pair_or_terminal}

-- what is reached from a reached state is reached
reached_on : (sys : System) (table : Table) (s t : Vector) → IsReached sys table s → Reaches sys table s t → IsReached sys table t
reached_on sys table s t reached on =
    let before = reached.path in
    record {
      start = reached.start;
      initial = reached.initial;
      path = record {
        rest = before.rest ++ on.rest;
        path = path_append (Leads sys table) reached.start before.rest on.rest before.path (subst (λ v. IsPath (Leads sys table) v on.rest) (sym before.ends) on.path);
        ends = last_append reached.start before.rest on.rest ∙ (ap (λ v. last_of v on.rest) before.ends ∙ on.ends);
      };
    }

-- what holds of a state, and stays along each step of the table, holds of what is reached from it
reaches-keeps : (sys : System) (table : Table) (P : Vector → Type 0) → ((s t : Vector) → P s → Leads sys table s t → P t) → (s t : Vector) → P s → Reaches sys table s t → P t
reaches-keeps sys table P next s t holds r = subst P r.ends (path_keeps (Leads sys table) P next s r.rest holds r.path)

module _ (sys : System) (ok : IsSystem sys) (sets : List CubeSet) (no_goal : (s : Vector) → Contains (goal_states sys) s → some_holds sets s ≡ false) (table : Table) (is_table : IsTable sys table) where
  -- no state of a set is a goal state
  not_goal : (i : ℕ) (s : Vector) → i < length sets → holds_state (set_at sets i) s ≡ true → Contains (goal_states sys) s → ⊥
  not_goal i s within held goal = true≢false (sym (some_holds-at sets i s within held) ∙ no_goal s goal)

  acting : (class : Class) (i : ℕ) (s : Vector) (a : ℕ) → i < length sets → holds_state (set_at sets i) s ≡ true → Contains table (s, a) → CanAct sys (record { class = class; sets = sets }) i s a
  acting class i s a within held pair =
      let at = is_table s a pair in
      record { set = within; state = at.0; held = held; executable = at.1 }

  -- weak: each step stays in the set
  module _ (no_way : HasNoWayOut sys (record { class = Weak; sets = sets })) (i : ℕ) (within : i < length sets) where
    weak-step : (s t : Vector) → holds_state (set_at sets i) s ≡ true → Leads sys table s t → holds_state (set_at sets i) t ≡ true
    weak-step s t held lead =
        list_all-at (holds_state (set_at sets i)) (sys.next s lead.action) t (no_way i s lead.action (acting Weak i s lead.action within held lead.pair)) lead.outcome

    weak-none : (s : Vector) → Contains sys.initial s → holds_state (set_at sets i) s ≡ true → IsWeakSolution sys table → ⊥
    weak-none s initial held solves =
        let may = solves s initial in
        not_goal i may.end within (reaches-keeps sys table (λ v. holds_state (set_at sets i) v ≡ true) weak-step s may.end held may.reached) may.goal

  -- strong: some step stays in the set, since no state of it is terminal
  module _ (no_way : HasNoWayOut sys (record { class = Strong; sets = sets })) (i : ℕ) (within : i < length sets) (solves : IsStrongSolution sys table) where
    -- a reached state of the set
    record IsInside (s : Vector) : Type 0 where
      state : IsVector sys s
      reached : IsReached sys table s
      held : holds_state (set_at sets i) s ≡ true

    goes_on : (s : Vector) → IsInside s → (t : Vector) × Leads sys table s t × IsInside t
    goes_on s inside = ⊎_elim (λ pair. by_pair pair.0 pair.1) (λ terminal. absurd (not_goal i s within inside.held (solves.ends_in_goal s inside.reached terminal))) (pair_or_terminal table s)
      where
        by_pair : (a : ℕ) → Contains table (s, a) → (t : Vector) × Leads sys table s t × IsInside t
        by_pair a pair =
            let w = list_any-witness (holds_state (set_at sets i)) (sys.next s a) (no_way i s a (acting Strong i s a within inside.held pair)) in
            let lead : Leads sys table s w.0 = record { action = a; pair = pair; outcome = w.1 } in
            (w.0, lead, record { state = (ok.next s a w.0 w.1).vector; reached = reached_more sys table s w.0 inside.reached lead; held = w.2 })

    -- different states, from each of which the path leads to s
    record IsWalk (seen : List Vector) (s : Vector) : Type 0 where
      apart : Apart seen
      states : (x : Vector) → Contains seen x → IsVector sys x
      leads_here : (x : Vector) → Contains seen x → Reaches sys table x s
      now : IsInside s

    cycle : (s t : Vector) → IsInside s → Leads sys table s t → Reaches sys table t s → ⊥
    cycle s t inside lead back = solves.no_cycle s t back.rest inside.reached (lead, back.path) back.ends

    walks : (fuel : ℕ) (seen : List Vector) (s : Vector) → fuel + length seen ≡ suc (2 ^ sys.fluents) → IsWalk seen s → ⊥
    walks zero seen s count walk =
        let few = Apart-few seen (all_vectors sys.fluents) walk.apart (λ x h. all_vectors-holds sys.fluents x (walk.states x h)) in
        let all = length-all_vectors sys.fluents in
        omega arith
    walks (suc fuel) seen s count walk =
        let next = goes_on s walk.now in
        by_seen next.0 next.1 next.2 (list_any (same_vector next.0) seen) refl (λ more. walks fuel (next.0 ∷ seen) next.0 (omega arith) more)
      where
        by_seen : (t : Vector) → Leads sys table s t → IsInside t → (b : Bool) → list_any (same_vector t) seen ≡ b → (IsWalk (t ∷ seen) t → ⊥) → ⊥
        by_seen t lead inside true e more =
            let w = list_any-witness (same_vector t) seen e in
            cycle s t walk.now lead (subst (λ x. Reaches sys table x s) (sym (same_vector-true t w.0 w.2)) (walk.leads_here w.0 w.1))
        by_seen t lead inside false e more = more (record {
          apart = ((λ h. false≢true (sym e ∙ list_any-from (same_vector t) seen t h (same_vector-itself t))), walk.apart);
          states = λ x h. ⊎_elim (λ is. subst (IsVector sys) is inside.state) (λ k. walk.states x k) (Contains-cases t seen x h);
          leads_here = λ x h. ⊎_elim (λ is. subst (λ y. Reaches sys table y t) is (here sys table t)) (λ k. reach_more sys table x s t (walk.leads_here x k) lead) (Contains-cases t seen x h);
          now = inside;
        })

    strong-none : (s : Vector) → Contains sys.initial s → holds_state (set_at sets i) s ≡ true → ⊥
    strong-none s initial held =
        let start : IsInside s = record { state = (ok.initial s initial).vector; reached = record { start = s; initial = initial; path = here sys table s }; held = held } in
        walks (2 ^ sys.fluents) (s ∷ []) s (omega arith) (record {
          apart = ((λ h. Contains-nil s h), tt);
          states = λ x h. ⊎_elim (λ is. subst (IsVector sys) is start.state) (λ c. absurd (Contains-nil x c)) (Contains-cases s [] x h);
          leads_here = λ x h. ⊎_elim (λ is. subst (λ y. Reaches sys table y s) is (here sys table s)) (λ c. absurd (Contains-nil x c)) (Contains-cases s [] x h);
          now = start;
        })

  -- cyclic: no reached state lies in one of the first sets, however many these are
  module _ (no_way : HasNoWayOut sys (record { class = Cyclic; sets = sets })) (solves : IsStrongCyclicSolution sys table) where
    NoneBefore : ℕ → Type 0
    NoneBefore i = (s : Vector) → IsReached sys table s → some_holds (take i sets) s ≡ true → ⊥

    -- a reached state of set i, where none lies in an earlier set
    record IsKept (i : ℕ) (s : Vector) : Type 0 where
      reached : IsReached sys table s
      held : holds_state (set_at sets i) s ≡ true

    cyclic-step : (i : ℕ) → i < length sets → NoneBefore i → (s t : Vector) → IsKept i s → Leads sys table s t → IsKept i t
    unfolding NoneBefore
    cyclic-step i within none s t kept lead =
        let reached = reached_more sys table s t kept.reached lead in
        let stays = no_way i s lead.action (acting Cyclic i s lead.action within kept.held lead.pair) in
        let next = sys.next s lead.action in
        ⊎_elim (λ earlier. let w = list_any-witness (some_holds (take i sets)) next earlier in
        absurd (none w.0 (reached_more sys table s w.0 kept.reached (record { action = lead.action; pair = lead.pair; outcome = w.1 })) w.2))
        (λ all. ⊎_elim (λ before. absurd (none t reached before)) (λ held. record { reached = reached; held = held })
        (some_holds-last sets i t (list_all-at (some_holds (take (suc i) sets)) next t all lead.outcome)))
        (or_cases (list_any (some_holds (take i sets)) next) (list_all (some_holds (take (suc i) sets)) next) stays)

    none_in : (i : ℕ) → i < length sets → NoneBefore i → (s : Vector) → IsReached sys table s → holds_state (set_at sets i) s ≡ true → ⊥
    none_in i within none s reached held =
        let may = solves.may_end s reached in
        let kept = reaches-keeps sys table (IsKept i) (cyclic-step i within none) s may.end (record { reached = reached; held = held }) may.reached in
        not_goal i may.end within kept.held (solves.ends_in_goal may.end kept.reached may.terminal)

    none_before : (i : ℕ) → i ≤ length sets → NoneBefore i
    unfolding NoneBefore
    none_before zero le s reached h = false≢true h
    none_before (suc i) le s reached h =
        let none = none_before i (omega arith) in
        ⊎_elim (λ before. none s reached before) (λ held. none_in i (omega arith) none s reached held) (some_holds-last sets i s h)

    cyclic-none : (s : Vector) → Contains sys.initial s → some_holds sets s ≡ true → ⊥
    unfolding NoneBefore
    cyclic-none s initial held =
        none_before (length sets) (omega arith) s (record { start = s; initial = initial; path = here sys table s })
        (ap (λ some. some_holds some s) (take_all (length sets) sets (omega arith)) ∙ held)

by_class : (class : Class) (sys : System) (sets : List CubeSet) → IsSystem sys → IsAccepted sys (record { class = class; sets = sets }) → HasNoSolution class sys
by_class Weak sys sets ok accepted table is_table solves =
    let start = accepted.initial in
    let w = number_of_set sets accepted.start start.held in
    weak-none sys ok sets accepted.goal table is_table accepted.actions w.0 w.1 accepted.start start.initial w.2 solves
by_class Strong sys sets ok accepted table is_table solves =
    let start = accepted.initial in
    let w = number_of_set sets accepted.start start.held in
    strong-none sys ok sets accepted.goal table is_table accepted.actions w.0 w.1 solves accepted.start start.initial w.2
by_class Cyclic sys sets ok accepted table is_table solves =
    let start = accepted.initial in
    cyclic-none sys ok sets accepted.goal table is_table accepted.actions solves accepted.start start.initial start.held

pub no_solution : (sys : System) (certificate : PlainCertificate) → IsSystem sys → IsAccepted sys certificate → HasNoSolution certificate.class sys
no_solution sys certificate ok accepted = by_class certificate.class sys certificate.sets ok accepted
