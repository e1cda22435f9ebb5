-- The certificate: the states outside the last layer, and their cubes.
use Rattle.std.proofs.Common.{inl, inr, ◌≡◌, ℕ, zero, suc, ◌+◌, ◌<◌, ◌≤◌, ◌^◌, Bool, true, false, not, ◌&&◌, List, [], ◌∷◌, length, map, Option, Some, None, Result, Ok, Err, IfOk, refl, sym, ap, subst, ◌∙◌, ⊎_elim, arith, All}
use Rattle.std.specs.Prelude.{Contains, Vec}
use Rattle.std.specs.declared.alloc.Global.{Global}
use Rattle.std.proofs.lemmas.Bool.{cases_lt}
use Rattle.std.proofs.lemmas.List.Elements.{All-cons, All-nil}
use Rattle.dd_nodes.specs.Subfunctions.{Function}
use Rattle.dd_ops.specs.Operations.{minus_of}
use Rattle.dd_sets.specs.LiveSets.{set_of}
use Rattle.dd_sets.specs.declared.errors.SetErr.{SetErr}
use Rattle.dd_sets.specs.declared.slots.SetId.{SetId}
use Rattle.dd_sets.proofs.OperationSizes.{difference_rough}
use Rattle.encode_task.specs.Made.{MadeOf}
use Rattle.encode_task.specs.Slots.{Encoded}
use Rattle.encode_task.specs.TaskSets.{space_set}
use Rattle.encode_task.proofs.StateVectors.{cubes_agree}
use Rattle.plan_theory.specs.Classes.{IsFoundByLayers, IsStable}
use Rattle.plan_theory.specs.Layers.{IsLastLayer, layer}
use Rattle.plan_theory.specs.LayerPlans.{printed_rules}
use Rattle.plan_theory.proofs.PrintedWithin.{cubes_below}
use Rattle.plan_rules.proofs.DenotedPairs.{denoted-table}
use Rattle.plan_theory.proofs.ClassLayers.{layer-stable}
use Rattle.plan_theory.proofs.LeastBounds.{solves_by_class, stands_still}
use Rattle.preimage.specs.WorkingSets.IsMadeByRound.{itself}
use Rattle.slot_board.specs.Board.{At, Ends, Fits, Moved, Start, set_at}
use Rattle.slot_board.proofs.BoardSlots.{made_at}
use Rattle.task_core.specs.Cubes.{Cube, cubes_of}
use Rattle.task_core.specs.Systems.{IsSystem, IsVector, System}
use Rattle.task_core.specs.Tasks.{fluent_count, in_space, system_of}
use Rattle.task_core.specs.Vectors.{Vector, value_of}
use Rattle.task_core.specs.declared.classes.Class.{Class}
use Rattle.task_core.specs.declared.classes.Class.TheVariants.{Weak, Strong, Cyclic}
use Rattle.task_core.specs.declared.literals.Lit.{Lit}
use Rattle.task_core.specs.declared.tasks.Task.{Task}
use Rattle.task_core.proofs.TaskSystem.{is_system}
use Rattle.plan_certs.specs.Named.{IsCertificateOf, IsPlainCertificateOf, IsSetOf, MayHave, cube_of, plain_certificate}
use Rattle.plan_certs.specs.Printed.{IsPrinted, outside_layers}
use Rattle.plan_certs.specs.declared.certificates.Certificate.{Certificate}
use Rattle.plan_rules.specs.Denoted.{denoted}
use Rattle.reach_plan.specs.Certs.{AreCubesLeft, HasRest, HasSolution, IsLeft}
use Rattle.reach_plan.specs.Searches.{FoundNone}
use Rattle.reach_plan.specs.WorkingSets.{BoundsReachSets}
use Rattle.reach_plan.proofs.PlanSteps.{start_of}
use Rattle.reach_plan.proofs.PlaceFits.{fits_small}
use Rattle.reach_plan.proofs.SmallSets.{layer_small, space_small}

-- a layer that is the same as the next one is the last of all
last_layer : (class : Class) (sys : System) → IsSystem sys → (k : ℕ) → IsStable class sys k → (v : Vector) → IsVector sys v → layer class sys k v ≡ layer class sys (2 ^ sys.fluents) v
last_layer class sys ok k stable v long =
    let other = stands_still class sys in
    let all : layer class sys (2 ^ sys.fluents) v ≡ layer class sys other.0 v = layer-stable class sys ok other.0 other.2 (2 ^ sys.fluents) other.1 v long in
    ⊎_elim
    (λ (l : k < other.0). sym (layer-stable class sys ok k stable other.0 (omega arith) v long) ∙ sym all)
    (λ (l : other.0 ≤ k). layer-stable class sys ok other.0 other.2 k l v long ∙ sym all)
    (cases_lt k other.0)

-- all states fit at their place
pub space_fits : (class : Class) (start : Start) (x : Encoded) (slots : List SetId) (slot : SetId) (place : ℕ) → At start x slots → BoundsReachSets start.width class start.task → slot ≡ x.space → Fits start place (set_of x.sets slot.0)
space_fits class start x slots slot place at wide is =
    fits_small start place _ (space_set start.task) (ap (λ (s : SetId). set_of x.sets s.0) is ∙ (made_at start x slots at).space.holds) (space_small start.width class start.task wide (space_set start.task) itself)

module _ (class : Class) (start : Start) (x mid : Encoded) (old half : List SetId) (slot : SetId) (long : length old ≡ 4) (found : FoundNone class start x old) (is : slot ≡ x.space) (m : Moved start x.sets old mid half 1 (set_of x.sets slot.0)) where
  half_long : length half ≡ 4
  half_long = let a : length old ≡ start.places = found.at.long in let b : length half ≡ start.places = m.at.long in omega arith

  space_there : set_at mid.sets half 1 ≡ space_set start.task
  space_there = m.here ∙ ap (λ (s : SetId). set_of x.sets s.0) is ∙ (made_at start x old found.at).space.holds

  layer_there : set_at mid.sets half 0 ≡ set_at x.sets old 0
  layer_there = m.others 0 (let l : length half ≡ 4 = half_long in omega arith) (λ e. absurd (omega arith))

  rest_is : minus_of (set_at mid.sets half 1) (set_at mid.sets half 0) ≡ minus_of (space_set start.task) (set_at x.sets old 0)
  rest_is = ap (λ (s : Function). minus_of s (set_at mid.sets half 0)) space_there ∙ ap (minus_of (space_set start.task)) layer_there

  -- so does what the layer leaves of them
  pub rest_fits : BoundsReachSets start.width class start.task → Contains start.rough 2 → Fits start 2 (minus_of (set_at mid.sets half 1) (set_at mid.sets half 0))
  rest_fits wide rough =
      subst (Fits start 2) (sym rest_is)
      (inr (
        rough,
        difference_rough (fluent_count start.task) start.width (space_set start.task) (set_at x.sets old 0) (space_small start.width class start.task wide (space_set start.task) itself)
            (layer_small start.width class start.task wide found.rank (set_at x.sets old 0) found.is_layer),
      ))

  pub rest_there : (now : Encoded) (new : List SetId) → Moved start mid.sets half now new 2 (minus_of (set_at mid.sets half 1) (set_at mid.sets half 0)) → HasRest class start now new
  rest_there now new w = record {
    at = w.at;
    none = found.none;
    holds = λ v within.
        ap (λ (s : Function). s (value_of v)) (w.here ∙ rest_is)
        ∙ ap (λ b. in_space start.task v && not b) (found.is_layer.agrees v within ∙ last_layer class (system_of start.task) (is_system start.task) found.rank found.stable v within);
  }

-- their cubes
pub cubes_left : (class : Class) (start : Start) (now : Encoded) (slots : List SetId) (cubes : Vec (Vec Lit Global) Global) → HasRest class start now slots → map cube_of cubes.items ≡ cubes_of now.sets.vars (λ state. set_at now.sets slots 2 (value_of state)) → AreCubesLeft class start now slots (Some cubes)
cubes_left class start now slots cubes has are =
    let made = made_at start now slots has.at in
    let vars : now.sets.vars ≡ fluent_count start.task = made.ready.vars ∙ made.fluents in
    record {
      at = has.at;
      are_left = (
        has.none,
        are ∙ ap (λ (n : ℕ). cubes_of n (λ state. set_at now.sets slots 2 (value_of state))) vars ∙ cubes_agree (fluent_count start.task) 0 (λ state. set_at now.sets slots 2 (value_of state)) (outside_layers class (system_of start.task)) has.holds,
      );
    }

-- what a search for them answers
pub left_by : (class : Class) (start : Start) (now : Encoded) (slots : List SetId) (result : Result (Option (Vec (Vec Lit Global) Global)) SetErr) → Ends start now slots (AreCubesLeft class start now slots) result → IfOk result (IsLeft class start.task)
left_by class start now slots (Ok found) ends = ends.are_left
left_by class start now slots (Err e) ends = tt

-- where it begins
abbrev pub cert_pass : (task : Task) (enc : Encoded) → MadeOf task enc → ℕ → (width : ℕ) → fluent_count task + 2 ≤ width → Start
cert_pass task enc made actions width wide = start_of task enc made 4 (actions + 12) width wide (2 ∷ [])

-- a last layer means a solution
pub solution : (class : Class) → IsFoundByLayers class → (task : Task) (layers : ℕ) → IsLastLayer class (system_of task) layers → HasSolution class (system_of task)
solution class by_layers task layers last =
    let sys = system_of task in
    record {
      table = denoted sys (printed_rules class sys layers);
      is_table = denoted-table sys (is_system task) (printed_rules class sys layers);
      solves = solves_by_class class by_layers sys layers (is_system task) last;
    }

-- what is left makes a certificate
pub printed : (class : Class) → IsFoundByLayers class → (task : Task) (cubes : Vec (Vec Lit Global) Global) (certificate : Certificate) → IsLeft class task (Some cubes) → plain_certificate certificate ≡ record { class = class; sets = map cube_of cubes.items ∷ [] } → IsPrinted class (system_of task) (plain_certificate certificate)
printed Weak by_layers task cubes certificate left made = made ∙ ap (λ (set : List Cube). record { class = Weak; sets = set ∷ [] }) left.1
printed Strong by_layers task cubes certificate left made = made ∙ ap (λ (set : List Cube). record { class = Strong; sets = set ∷ [] }) left.1
printed Cyclic by_layers task cubes certificate left made = absurd by_layers

may_have : (class : Class) → IsFoundByLayers class → MayHave class 1
may_have Weak by_layers = refl
may_have Strong by_layers = refl
may_have Cyclic by_layers = absurd by_layers

pub in_task : (class : Class) → IsFoundByLayers class → (task : Task) (cubes : Vec (Vec Lit Global) Global) (certificate : Certificate) → IsLeft class task (Some cubes) → plain_certificate certificate ≡ record { class = class; sets = map cube_of cubes.items ∷ [] } → IsCertificateOf (fluent_count task) certificate
in_task class by_layers task cubes certificate left made =
    let n = fluent_count task in
    let set = cubes_of n (outside_layers class (system_of task)) in
    let is = made ∙ ap (λ (set : List Cube). record { class = class; sets = set ∷ [] }) left.1 in
    subst (IsPlainCertificateOf n) (sym is) (record { sets = All-cons (IsSetOf n) set [] (cubes_below 0 n n (outside_layers class (system_of task)) (omega arith)) (All-nil (IsSetOf n)); number = may_have class by_layers })
