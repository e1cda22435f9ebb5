-- The sets and the actions of a stage: they look at states alone, and each new state of a round
-- takes the least-numbered action that leads one step nearer.
use Rattle.std.proofs.Common.{◌≡◌, ℕ, zero, suc, ◌+◌, ◌^◌, Bool, true, false, not, ◌&&◌, ◌||◌, Option, refl, sym, ap, ◌∙◌}
use Rattle.std.specs.List.{find, range_with_len}
use Rattle.std.specs.Option.{option_and_then}
use Rattle.std.proofs.Math.Path.{fun_ext}
use Rattle.std.proofs.lemmas.Bool.{or_left, or_parts, true≢false}
use Rattle.plan_theory.specs.Safe.{some_must_lead}
use Rattle.plan_theory.specs.StageSets.{action_at_rank, near, stage_action, stage_rank, stage_set}
use Rattle.plan_theory.proofs.StageSets.{action-next, no_action-met}
use Rattle.list_laws.proofs.Booleans.{and_false, or_false}
use Rattle.list_laws.proofs.Elements.{find-None}
use Rattle.plan_theory.specs.Layers.{action_numbers, must_lead}
use Rattle.plan_theory.specs.LayerPlans.{is_action}
use Rattle.task_core.specs.Cubes.{SetOfVectors}
use Rattle.task_core.specs.Systems.{IsVector, IsSystem, System}
use Rattle.task_core.specs.Vectors.{Vector}
use Rattle.context_plan.specs.Scenes.{SameStates, Start, sys_in}
use Rattle.context_plan.proofs.SceneSteps.{leads_same, some_leads_same}

pub near_same : (start : Start) (f g : SetOfVectors) → SameStates start f g → (k : ℕ) → SameStates start (near (sys_in start) f k) (near (sys_in start) g k)
near_same start f g same zero v is = same v is
near_same start f g same (suc k) v is =
    let before = near_same start f g same k in
    ap (λ b. b || some_must_lead (sys_in start) (near (sys_in start) f k) v) (before v is)
    ∙ ap (λ b. near (sys_in start) g k v || b) (some_leads_same start (near (sys_in start) f k) (near (sys_in start) g k) before v is)

pub stage_set_same : (start : Start) (f g : SetOfVectors) → SameStates start f g → SameStates start (stage_set (sys_in start) f) (stage_set (sys_in start) g)
stage_set_same start f g same = near_same start f g same (2 ^ (sys_in start).fluents)

-- the least-numbered action that leads into a set
pub first_same : (start : Start) (f g : SetOfVectors) → SameStates start f g → (v : Vector) → IsVector (sys_in start) v
    → find (must_lead (sys_in start) f v) (action_numbers (sys_in start)) ≡ find (must_lead (sys_in start) g v) (action_numbers (sys_in start))
first_same start f g same v is = ap (λ (p : ℕ → Bool). find p (action_numbers (sys_in start))) (fun_ext (λ a. leads_same start f g same v a is))

at_rank_same : (start : Start) (f g : SetOfVectors) → SameStates start f g → (v : Vector) → IsVector (sys_in start) v → (k : ℕ) → action_at_rank (sys_in start) f v k ≡ action_at_rank (sys_in start) g v k
at_rank_same start f g same v is zero = refl
at_rank_same start f g same v is (suc k) = first_same start (near (sys_in start) f k) (near (sys_in start) g k) (near_same start f g same k) v is

pub stage_action_same : (start : Start) (f g : SetOfVectors) → SameStates start f g → (v : Vector) → IsVector (sys_in start) v → stage_action (sys_in start) f v ≡ stage_action (sys_in start) g v
stage_action_same start f g same v is =
    ap (λ (h : ℕ → Option ℕ). option_and_then h (stage_rank (sys_in start) f v)) (fun_ext (at_rank_same start f g same v is))
    ∙ ap (λ (p : ℕ → Bool). option_and_then (action_at_rank (sys_in start) g v) (find p (range_with_len 0 (2 ^ (sys_in start).fluents + 1)))) (fun_ext (λ k. near_same start f g same k v is))

-- what is taken up to k steps, and by one more
pub none_taken : (sys : System) (met : SetOfVectors) (v : Vector) (a : ℕ) (b : Bool) → b ≡ (b || (near sys met 0 v && is_action a (stage_action sys met v)))
none_taken sys met v a b = sym (ap (λ c. b || c) (go (met v) refl) ∙ or_false b)
  where
    go : (m : Bool) → met v ≡ m → (met v && is_action a (stage_action sys met v)) ≡ false
    go true e = ap (λ o. met v && is_action a o) (no_action-met sys met v e) ∙ and_false (met v)
    go false e = ap (λ c. c && is_action a (stage_action sys met v)) e

-- no action leads into a set where none is the first
no_first : (sys : System) (set : SetOfVectors) (v : Vector) (a : ℕ) → some_must_lead sys set v ≡ false → is_action a (find (must_lead sys set v) (action_numbers sys)) ≡ false
no_first sys set v a none = ap (is_action a) (find-None (must_lead sys set v) (action_numbers sys) none)

pub more_taken : (sys : System) (met : SetOfVectors) (v : Vector) (a k : ℕ) (b : Bool) → IsSystem sys → IsVector sys v
    → ((b || (near sys met k v && is_action a (stage_action sys met v))) || (not (near sys met k v) && is_action a (find (must_lead sys (near sys met k) v) (action_numbers sys))))
    ≡ (b || (near sys met (suc k) v && is_action a (stage_action sys met v)))
more_taken sys met v a k b ok is = go (near sys met k v) (near sys met (suc k) v) refl refl
  where
    i : Bool
    i = is_action a (stage_action sys met v)

    j : Bool
    j = is_action a (find (must_lead sys (near sys met k) v) (action_numbers sys))

    put : (n m : Bool) → near sys met k v ≡ n → near sys met (suc k) v ≡ m → ((b || (n && i)) || (not n && j)) ≡ (b || (m && i)) → ((b || (near sys met k v && i)) || (not (near sys met k v) && j)) ≡ (b || (near sys met (suc k) v && i))
    put n m e f h = ap (λ x. (b || (x && i)) || (not x && j)) e ∙ h ∙ ap (λ x. b || (x && i)) (sym f)

    go : (n m : Bool) → near sys met k v ≡ n → near sys met (suc k) v ≡ m → ((b || (near sys met k v && i)) || (not (near sys met k v) && j)) ≡ (b || (near sys met (suc k) v && i))
    go true true e f = put true true e f (or_false (b || i))
    go true false e f = absurd (true≢false (sym (or_left (near sys met k v) _ e) ∙ f))
    go false false e f =
        put false false e f
        (ap (λ x. (b || false) || x) (no_first sys (near sys met k) v a (or_parts (near sys met k v) _ f).1) ∙ or_false (b || false))
    go false true e f =
        put false true e f
        (ap (λ x. x || j) (or_false b) ∙ ap (λ o. b || is_action a o) (sym (action-next sys met ok k v is f e)))
