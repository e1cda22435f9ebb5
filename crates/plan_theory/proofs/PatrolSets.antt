-- The rounds of a patrol goal shrink and stand still; so what is left is the largest set within which
-- every visit can be made, and each of its states has an action nearer to a visit, or one that stays.
use Rattle.std.proofs.Common.{◌≡◌, ℕ, zero, suc, ◌-◌, ◌≤◌, ◌^◌, Bool, true, false, List, length, Some, refl, sym, ◌∙◌, arith, ⊎_elim}
use Rattle.std.specs.Prelude.{◌&&◌}
use Rattle.std.specs.List.{Contains, list_all}
use Rattle.std.proofs.lemmas.Bool.{and_from, and_parts, cond-false, cond-true, or_cases, or_left, or_right, false_from_ne_true, true≢false}
use Rattle.std.proofs.lemmas.List.Elements.{Contains-get_or}
use Rattle.task_core.specs.Cubes.{SetOfVectors}
use Rattle.task_core.specs.Vectors.{Vector}
use Rattle.task_core.specs.Systems.{System, IsVector, IsSystem}
use Rattle.plan_theory.specs.Layers.{action_numbers, must_lead}
use Rattle.plan_theory.specs.Patrols.{IsLargestPatrolSet, IsLastPatrolRound, IsPatrolSet, patrol_round, patrol_set, visit_near, visit_set, visited}
use Rattle.plan_theory.specs.PatrolPrinted.{patrol_action, patrol_stay, patrol_towards, visit_in}
use Rattle.plan_theory.specs.Safe.{some_must_lead}
use Rattle.plan_theory.proofs.GuardedSets.{guarded_acts, near-grows}
use Rattle.plan_theory.proofs.Leading.{leads_at, leads_exec, leads_more, some_leads_from, some_leads_more}
use Rattle.plan_theory.proofs.Shrinking.{stands_still}
use Rattle.plan_theory.proofs.Steps.{along}
use Rattle.list_laws.proofs.Elements.{find-Some, find-found, list_all-at, list_all-from}
use Rattle.list_laws.proofs.Booleans.{same_truth}

module _ (sys : System) (set visit : SetOfVectors) where
  visited_parts : (v : Vector) → visited sys set visit v ≡ true → (set v ≡ true) × (visit v ≡ true) × (some_must_lead sys set v ≡ true)
  visited_parts v h =
      let first = and_parts (set v) (visit v && some_must_lead sys set v) h in
      let both = and_parts (visit v) (some_must_lead sys set v) first.1 in
      (first.0, both.0, both.1)

  -- the visit is made there
  pub made_in : (v : Vector) → visited sys set visit v ≡ true → visit v ≡ true
  made_in v h = (visited_parts v h).1

  pub visited_from : (v : Vector) → set v ≡ true → visit v ≡ true → some_must_lead sys set v ≡ true → visited sys set visit v ≡ true
  visited_from v inside here stays = and_from (set v) (visit v && some_must_lead sys set v) inside (and_from (visit v) (some_must_lead sys set v) here stays)

  -- a visit is made within a set from states of it alone
  pub near_inside : (k : ℕ) (v : Vector) → visit_near sys set visit k v ≡ true → set v ≡ true
  near_inside zero v h = (visited_parts v h).0
  near_inside (suc k) v h =
      ⊎_elim (λ e. near_inside k v e)
      (λ e. (and_parts (set v) (some_must_lead sys (visit_near sys set visit k) v) e).0)
      (or_cases (visit_near sys set visit k v) _ h)

  -- and from each of them one can stay in the set
  pub near_stays : (k : ℕ) (v : Vector) → visit_near sys set visit k v ≡ true → some_must_lead sys set v ≡ true
  near_stays zero v h = (visited_parts v h).2
  near_stays (suc k) v h =
      ⊎_elim (λ e. near_stays k v e)
      (λ e. some_leads_more sys (visit_near sys set visit k) set v (λ a t o near. near_inside k t near) (and_parts (set v) (some_must_lead sys (visit_near sys set visit k) v) e).1)
      (or_cases (visit_near sys set visit k v) _ h)

-- what can be visited within a set can be visited within a larger one
module _ (sys : System) (ok : IsSystem sys) (f g visit : SetOfVectors) (more : (v : Vector) → IsVector sys v → f v ≡ true → g v ≡ true) where
  pub near_more : (k : ℕ) (v : Vector) → IsVector sys v → visit_near sys f visit k v ≡ true → visit_near sys g visit k v ≡ true
  near_more zero v is h =
      let parts = visited_parts sys f visit v h in
      visited_from sys g visit v (more v is parts.0) parts.1 (some_leads_more sys f g v (λ a t o inside. more t (ok.next v a t o).vector inside) parts.2)
  near_more (suc k) v is h =
      ⊎_elim (λ e. or_left (visit_near sys g visit k v) _ (near_more k v is e))
      (λ e.
      let both = and_parts (f v) (some_must_lead sys (visit_near sys f visit k) v) e in
      or_right (visit_near sys g visit k v) _
      (and_from (g v) (some_must_lead sys (visit_near sys g visit k) v) (more v is both.0)
      (some_leads_more sys (visit_near sys f visit k) (visit_near sys g visit k) v (λ a t o near. near_more k t (ok.next v a t o).vector near) both.1)))
      (or_cases (visit_near sys f visit k v) _ h)

module _ (sys : System) (visits : List SetOfVectors) where
  -- each visit can be made within a set
  abbrev each_within : SetOfVectors → Vector → Bool
  each_within set v = list_all (λ visit. visit_set sys set visit v) visits

  round_parts : (r : ℕ) (v : Vector) → patrol_round sys visits (suc r) v ≡ true → (patrol_round sys visits r v ≡ true) × (each_within (patrol_round sys visits r) v ≡ true)
  round_parts r v h = and_parts (patrol_round sys visits r v) (each_within (patrol_round sys visits r) v) h

  pub rounds_shrink : (v : Vector) (k m : ℕ) → k ≤ m → patrol_round sys visits m v ≡ true → patrol_round sys visits k v ≡ true
  rounds_shrink v k m l = along (λ n. patrol_round sys visits n v ≡ true → patrol_round sys visits k v ≡ true) k (λ h. h) (λ n from before h. before (round_parts n v h).0) m l

  pub rounds_end : (j : ℕ) × (j ≤ 2 ^ sys.fluents) × IsLastPatrolRound sys visits j
  rounds_end = stands_still sys.fluents (patrol_round sys visits) (λ r v h. (round_parts r v h).0)

  module _ (ok : IsSystem sys) where
    abbrev Stays : ℕ → Type 0
    Stays r = (v : Vector) → IsVector sys v → patrol_round sys visits r v ≡ true → patrol_round sys visits (suc r) v ≡ true

    within_more : (f g : SetOfVectors) → ((v : Vector) → IsVector sys v → f v ≡ true → g v ≡ true) → (v : Vector) → IsVector sys v → each_within f v ≡ true → each_within g v ≡ true
    within_more f g more v is h =
        list_all-from (λ visit. visit_set sys g visit v) visits
        (λ visit among. near_more sys ok f g visit more (2 ^ sys.fluents) v is (list_all-at (λ visit. visit_set sys f visit v) visits visit h among))

    stays_on : (r : ℕ) → Stays r → Stays (suc r)
    stays_on r stays v is h =
        and_from (patrol_round sys visits (suc r) v) (each_within (patrol_round sys visits (suc r)) v) h
        (within_more (patrol_round sys visits r) (patrol_round sys visits (suc r)) stays v is (round_parts r v h).1)

    -- where a round is the next one, every visit can be made within its states
    round-patrol : (r : ℕ) → Stays r → IsPatrolSet sys visits (patrol_round sys visits r)
    round-patrol r stays = record {
      inside = λ v is h. rounds_shrink v 0 r (omega arith) h;
      each = λ v visit is h among. list_all-at (λ visit. visit_set sys (patrol_round sys visits r) visit v) visits visit (round_parts r v (stays v is h)).1 among;
    }

    -- a set within which every visit can be made is in each round
    pub within_rounds : (other : SetOfVectors) → IsPatrolSet sys visits other → (r : ℕ) (v : Vector) → IsVector sys v → other v ≡ true → patrol_round sys visits r v ≡ true
    within_rounds other patrol zero v is h = patrol.inside v is h
    within_rounds other patrol (suc r) v is h =
        and_from (patrol_round sys visits r v) (each_within (patrol_round sys visits r) v) (within_rounds other patrol r v is h)
        (within_more other (patrol_round sys visits r) (within_rounds other patrol r) v is
        (list_all-from (λ visit. visit_set sys other visit v) visits (λ visit among. patrol.each v visit is h among)))

    pub patrol_set-largest : IsLargestPatrolSet sys visits (patrol_set sys visits)
    patrol_set-largest =
        let last = rounds_end in
        let stays = along Stays last.0 (λ v is h. last.2 v is ∙ h) (λ k from. stays_on k) (2 ^ sys.fluents) last.1 in
        record {
          patrol = round-patrol (2 ^ sys.fluents) stays;
          largest = λ other patrol v is h. within_rounds other patrol (2 ^ sys.fluents) v is h;
        }

    -- so a round that is the next one is the largest set
    pub last_round : (r : ℕ) → IsLastPatrolRound sys visits r → (v : Vector) → IsVector sys v → patrol_set sys visits v ≡ patrol_round sys visits r v
    last_round r last v is =
        same_truth (patrol_set sys visits v) (patrol_round sys visits r v)
        (λ h. within_rounds (patrol_set sys visits) patrol_set-largest.patrol r v is h)
        (λ h. within_rounds (patrol_round sys visits r) (round-patrol r (λ w long inside. last w long ∙ inside)) (2 ^ sys.fluents) v is h)

-- the visit of a context is one of them
pub visit_among : (visits : List SetOfVectors) (c : ℕ) → 1 ≤ c → c ≤ length visits → Contains visits (visit_in visits c)
visit_among visits c first last = Contains-get_or visits (c - 1) (λ v. false) (omega arith)

-- the action of a state in a context
pub record ActsInPatrol (sys : System) (visits : List SetOfVectors) (c : ℕ) (v : Vector) : Type 0 where
  pub action : ℕ
  pub chosen : patrol_action sys visits c v ≡ Some action
  pub leads : must_lead sys (patrol_set sys visits) v action ≡ true

module _ (sys : System) (ok : IsSystem sys) (visits : List SetOfVectors) where
  abbrev plan_set : SetOfVectors
  plan_set = patrol_set sys visits

  each_visit : (c : ℕ) → 1 ≤ c → c ≤ length visits → (v : Vector) → IsVector sys v → plan_set v ≡ true → visit_set sys plan_set (visit_in visits c) v ≡ true
  each_visit c first last v is h = (patrol_set-largest sys visits ok).patrol.each v (visit_in visits c) is h (visit_among visits c first last)

  -- where the visit isn't made yet, the action leads nearer
  pub record NearsVisit (c : ℕ) (v : Vector) (a : ℕ) : Type 0 where
    pub chosen : patrol_action sys visits c v ≡ Some a
    pub leads : (m : ℕ) → visit_near sys plan_set (visit_in visits c) (suc m) v ≡ true → must_lead sys (visit_near sys plan_set (visit_in visits c) m) v a ≡ true

  unmade : (c : ℕ) (v : Vector) → visit_in visits c v ≡ false → visited sys plan_set (visit_in visits c) v ≡ false
  unmade c v e = false_from_ne_true (visited sys plan_set (visit_in visits c) v) (λ h. true≢false (sym (visited_parts sys plan_set (visit_in visits c) v h).1 ∙ e))

  pub nears_visit : (c : ℕ) → 1 ≤ c → c ≤ length visits → (v : Vector) → IsVector sys v → plan_set v ≡ true → visit_in visits c v ≡ false → (a : ℕ) × NearsVisit c v a
  nears_visit c first last v is h e =
      let visit = visit_in visits c in
      let a = guarded_acts sys plan_set (visited sys plan_set visit) v (each_visit c first last v is h) (unmade c v e) in (
        a.0,
        record {
          chosen = cond-false (visit v) (patrol_stay sys visits v) (patrol_towards sys visits visit v) e ∙ a.1.chosen;
          leads = λ m near. a.1.leads m near;
        },
      )

  pub acts_in_patrol : (c : ℕ) → 1 ≤ c → c ≤ length visits → (v : Vector) → IsVector sys v → plan_set v ≡ true → ActsInPatrol sys visits c v
  acts_in_patrol c first last v is h = go (visit_in visits c v) refl
    where
      go : (b : Bool) → visit_in visits c v ≡ b → ActsInPatrol sys visits c v
      go true e =
          let visit = visit_in visits c in
          let a = find-Some (must_lead sys plan_set v) (action_numbers sys) (near_stays sys plan_set visit (2 ^ sys.fluents) v (each_visit c first last v is h)) in
          record {
            action = a.0;
            chosen = cond-true (visit v) (patrol_stay sys visits v) (patrol_towards sys visits visit v) e ∙ a.1;
            leads = (find-found (must_lead sys plan_set v) (action_numbers sys) a.0 a.1).1;
          }
      go false e =
          let visit = visit_in visits c in
          let K = 2 ^ sys.fluents in
          let a = nears_visit c first last v is h e in
          record {
            action = a.0;
            chosen = a.1.chosen;
            leads = leads_more sys (visit_near sys plan_set visit K) plan_set v a.0 (λ t o near. near_inside sys plan_set visit K t near) (a.1.leads K (near-grows sys plan_set (visited sys plan_set visit) v K (suc K) (omega arith) (each_visit c first last v is h)));
          }

  -- so a visit is made in each state of the plan in which its set holds
  pub made_where_held : 1 ≤ length visits → (visit : SetOfVectors) (v : Vector) → IsVector sys v → visited sys plan_set visit v ≡ plan_set v && visit v
  made_where_held some visit v is =
      same_truth (visited sys plan_set visit v) (plan_set v && visit v)
      (λ h. let parts = visited_parts sys plan_set visit v h in and_from (plan_set v) (visit v) parts.0 parts.1)
      (λ h.
      let both = and_parts (plan_set v) (visit v) h in
      let acts = acts_in_patrol 1 (omega arith) some v is both.0 in
      visited_from sys plan_set visit v both.0 both.1 (some_leads_from sys ok plan_set v acts.action (leads_exec sys plan_set v acts.action acts.leads) (leads_at sys plan_set v acts.action acts.leads)))
