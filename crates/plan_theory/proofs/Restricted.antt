-- The system in which only the pairs of a set can be executed, and its layers: the states from
-- which the goal is reached by these pairs.
use Rattle.std.proofs.Common.{◌≡◌, ℕ, zero, suc, ◌<◌, ◌≤◌, ◌^◌, Bool, true, false, cond, [], refl, sym, ◌∙◌, subst, arith, ⊎_elim}
use Rattle.std.specs.List.{Contains}
use Rattle.std.proofs.lemmas.Bool.{cases_lt, or_cases, or_left, or_right}
use Rattle.task_core.specs.Vectors.{Vector}
use Rattle.task_core.specs.Systems.{System, Exec, HasOutcome, IsState, IsVector, IsSystem}
use Rattle.task_core.specs.declared.classes.Class.TheVariants.{Weak}
use Rattle.plan_theory.specs.Layers.{action_numbers, layer, may_lead}
use Rattle.plan_theory.proofs.ClassLayers.{layer-grows, layer-stable}
use Rattle.plan_theory.proofs.LeastBounds.{stands_still}
use Rattle.plan_theory.proofs.Weak.{HasOutcome-Exec}
use Rattle.list_laws.proofs.Elements.{Contains-nil, Contains-range_with_len, list_any-from, list_any-witness}
use Rattle.plan_theory.specs.Pairs.{Pairs, restricted}
use Rattle.plan_theory.specs.PairRounds.{connected, progress}

-- an outcome in the restricted system is one of a pair of the set, and the other way round
pub outcome_of_pair : (sys : System) (pairs : Pairs) (v : Vector) (a : ℕ) (t : Vector) → HasOutcome (restricted sys pairs) v a t → (pairs v a ≡ true) × HasOutcome sys v a t
outcome_of_pair sys pairs v a t o = go (pairs v a) refl o
  where
    go : (b : Bool) → pairs v a ≡ b → Contains (cond b (sys.next v a) []) t → (pairs v a ≡ true) × HasOutcome sys v a t
    go true e h = (e, h)
    go false e h = absurd (Contains-nil t h)

pub pair_outcome : (sys : System) (pairs : Pairs) (v : Vector) (a : ℕ) (t : Vector) → pairs v a ≡ true → HasOutcome sys v a t → HasOutcome (restricted sys pairs) v a t
pair_outcome sys pairs v a t p o = subst (λ b. Contains (cond b (sys.next v a) []) t) (sym p) o

-- a pair that can be executed in the restricted system
pub pair_of_exec : (sys : System) (pairs : Pairs) (v : Vector) (a : ℕ) → Exec (restricted sys pairs) v a → (pairs v a ≡ true) × Exec sys v a
pair_of_exec sys pairs v a x = go (pairs v a) refl x
  where
    go : (b : Bool) → pairs v a ≡ b → (cond b (sys.next v a) [] ≡ [] → ⊥) → (pairs v a ≡ true) × Exec sys v a
    go true e h = (e, h)
    go false e h = absurd (h refl)

-- its states are those of the system
same_state : (sys : System) (pairs : Pairs) (v : Vector) → IsState sys v → IsState (restricted sys pairs) v
same_state sys pairs v is = record { vector = is.vector; inside = is.inside }

pub restricted_system : (sys : System) (pairs : Pairs) → IsSystem sys → IsSystem (restricted sys pairs)
restricted_system sys pairs ok = record {
  initial = λ s among. same_state sys pairs s (ok.initial s among);
  goal = λ s among. same_state sys pairs s (ok.goal s among);
  next = λ s a t o. same_state sys pairs t (ok.next s a t (outcome_of_pair sys pairs s a t o).1);
  inside = λ s a x. ok.inside s a (pair_of_exec sys pairs s a x).1;
  actions = λ s a x. ok.actions s a (pair_of_exec sys pairs s a x).1;
}

-- from a state with a pair that leads to a state nearer to the goal
pub progress_step : (sys : System) (pairs : Pairs) → IsSystem sys → (k : ℕ) (v : Vector) (a : ℕ) (t : Vector) → pairs v a ≡ true → HasOutcome sys v a t → progress sys pairs k t ≡ true → progress sys pairs (suc k) v ≡ true
progress_step sys pairs ok k v a t p o h =
    let x : Exec sys v a = HasOutcome-Exec sys v a t o in
    or_right (progress sys pairs k v) _
    (list_any-from (may_lead (restricted sys pairs) (progress sys pairs k) v) (action_numbers sys) a (Contains-range_with_len sys.actions a (ok.actions v a x))
    (list_any-from (progress sys pairs k) ((restricted sys pairs).next v a) t (pair_outcome sys pairs v a t p o) h))

-- no way to the goal is longer than there are states
pub progress_connected : (sys : System) (pairs : Pairs) → IsSystem sys → (k : ℕ) (v : Vector) → IsVector sys v → progress sys pairs k v ≡ true → connected sys pairs v ≡ true
progress_connected sys pairs ok k v is h =
    let sub = restricted sys pairs in
    let still = stands_still Weak sub in
    let at_still : layer Weak sub still.0 v ≡ true =
    ⊎_elim (λ (l : k < still.0). layer-grows Weak sub v k still.0 (omega arith) h)
    (λ (l : still.0 ≤ k). sym (layer-stable Weak sub (restricted_system sys pairs ok) still.0 still.2 k l v is) ∙ h)
    (cases_lt k still.0) in
    layer-grows Weak sub v still.0 (2 ^ sys.fluents) still.1 at_still

-- where the states of D have in g each pair that they have in f, and no outcome leaves D, they are
-- no farther from the goal by pairs of g
module _ (sys : System) (D : Vector → Type 0) (f g : Pairs) (each : (v : Vector) (a : ℕ) → D v → f v a ≡ true → g v a ≡ true) (closed : (v : Vector) (a : ℕ) (t : Vector) → D v → HasOutcome sys v a t → D t) where
  pub more_pairs : (k : ℕ) (v : Vector) → D v → progress sys f k v ≡ true → progress sys g k v ≡ true
  more_pairs zero v d h = h
  more_pairs (suc k) v d h =
      ⊎_elim (λ (e : progress sys f k v ≡ true). or_left (progress sys g k v) _ (more_pairs k v d e))
      (λ e.
      let w = list_any-witness (may_lead (restricted sys f) (progress sys f k) v) (action_numbers sys) e in
      let t = list_any-witness (progress sys f k) ((restricted sys f).next v w.0) w.2 in
      let o = outcome_of_pair sys f v w.0 t.0 t.1 in
      or_right (progress sys g k v) _
      (list_any-from (may_lead (restricted sys g) (progress sys g k) v) (action_numbers sys) w.0 w.1
      (list_any-from (progress sys g k) ((restricted sys g).next v w.0) t.0 (pair_outcome sys g v w.0 t.0 (each v w.0 d o.0) o.1)
      (more_pairs k t.0 (closed v w.0 t.0 d o.1) t.2))))
      (or_cases (progress sys f k v) _ h)
