-- A run that is told, and the first outcome that leaves it to a dead end.
use Rattle.std.proofs.Common.{◌≡◌, ◌≢◌, ◌<◌, ◌++◌, ℕ, zero, suc, List, [], ◌∷◌, None, Option, Some, length, map, refl, subst, sym, ap, ◌∙◌, slice_get, take, drop, arith}
use Rattle.std.specs.List.{Contains}
use Rattle.std.specs.Option.{option_map}
use Rattle.std.specs.Prelude.{IfOk, IfSome, Vec, Result, Ok, Err}
use Rattle.std.specs.declared.alloc.AllocError.{AllocError}
use Rattle.std.specs.declared.alloc.Global.{Global}
use Rattle.std.specs.declared.rc.RcStr.{RcStr}
use Rattle.std.proofs.lemmas.List.{map-append, take-append-drop}
use Rattle.std.proofs.lemmas.Option.{slice_get-map, slice_get_within}
use Rattle.dead_ends.specs.DeadEnds.{from_state}
use Rattle.dead_ends.specs.Started.{IsFirstStart, IsFrontOf, IsLike}
use Rattle.dead_ends.specs.ToldFrom.{IsToldFrom}
use Rattle.dead_ends.specs.declared.told_runs.Told.{Told}
use Rattle.dead_ends.specs.Strays.{PlainStray, run_strays}
use Rattle.dead_ends.specs.Texts.{run_text}
use Rattle.dead_ends.specs.ToldRuns.{IsFirstDeadEnd, IsLostIf, IsTold, IsWeakRun, note_text, stray_states}
use Rattle.dead_ends.specs.Values.{stray_value}
use Rattle.dead_ends.specs.declared.strays.Stray.{Stray}
use Rattle.dead_ends.proofs.Starts.{like_count, start_system}
use Rattle.plan_witness.specs.Runs.{PlainRun}
use Rattle.plan_witness.specs.Values.{run_value}
use Rattle.plan_witness.specs.declared.runs.Run.{Run}
use Rattle.task_core.specs.Names.{name_bytes, name_of}
use Rattle.task_core.specs.States.{vector}
use Rattle.task_core.specs.Systems.{System}
use Rattle.task_core.specs.Tasks.{action_names, fluent_count, fluent_names, initial_states, system_of}
use Rattle.task_core.specs.Vectors.{Vector}
use Rattle.task_core.specs.declared.actions.GroundAction.{GroundAction}
use Rattle.task_core.specs.declared.classes.Class.{Class}
use Rattle.task_core.specs.declared.states.State.{State}
use Rattle.task_core.specs.declared.tasks.Task.{Task}

-- the same in a system and in one with other initial states
first_dead : (class : Class) (sys : System) (s : Vector) (states : List Vector) (place : ℕ) → IsFirstDeadEnd class (from_state sys s) states place → IsFirstDeadEnd class sys states place
first_dead class sys s states place is = record {
  state = is.state;
  placed = is.placed;
  dead = is.dead;
  first = λ k other below at. let has = is.first k other below at in record { rows = has.rows; table = has.table; solves = has.solves };
}

lost_from : (class : Class) (sys : System) (s : Vector) (run : PlainRun) (lost : Option PlainStray) → IsLostIf class (from_state sys s) run lost → IsLostIf class sys run lost
lost_from class sys s run None is = tt
lost_from class sys s run (Some stray) is =
    record { place = is.place; placed = is.placed; first = first_dead class sys s (stray_states sys run) is.place is.first }

nonempty : (xs : List Vector) (x : Vector) → Contains xs x → xs ≢ []
nonempty xs x has e = absurd (omega (arith, has.1, ap (length {A = Vector}) e))

only_one : (v w : Vector) → Contains (v ∷ []) w → v ≡ w
only_one v w (zero, below, at) = at
only_one v w (suc k, below, at) = absurd (omega (arith, below))

-- what is told
pub told_is : (class : Class) (task other : Task) (number : ℕ) (run : Run) (lost : Option Stray)
    → IsLike task other → IsFirstStart class task number other
    → IsWeakRun (system_of other) (run_value (fluent_count other) run)
    → IsLostIf class (system_of other) (run_value (fluent_count other) run) (option_map (stray_value (fluent_count other)) lost)
    → IsTold class (system_of task) number (run_value (fluent_count task) run)
    × IsLostIf class (system_of task) (run_value (fluent_count task) run) (option_map (stray_value (fluent_count task)) lost)
told_is class task other number run lost like first weak is_lost =
    let n = fluent_count task in
    let sys = system_of task in
    let v : Vector = first.first.state in
    let plain = run_value n run in
    let start : Vector = plain.start.state in
    let counts = like_count task other like in
    let weak' : IsWeakRun (system_of other) plain = subst (λ (k : ℕ). IsWeakRun (system_of other) (run_value k run)) counts weak in
    let lost' : IsLostIf class (system_of other) plain (option_map (stray_value n) lost) = subst (λ (k : ℕ). IsLostIf class (system_of other) (run_value k run) (option_map (stray_value k) lost)) counts is_lost in
    let some : initial_states other ≢ [] = nonempty (initial_states other) start weak'.shortest.initial.state in
    let same : system_of other ≡ from_state sys v = start_system task other v like first.starts some in
    let weak'' : IsWeakRun (from_state sys v) plain = subst (λ (s : System). IsWeakRun s plain) same weak' in
    let begins : v ≡ start = only_one v start weak''.shortest.initial.state in (
      record { first = first.first; begins = begins; weak = subst (λ (s : Vector). IsWeakRun (from_state sys s) plain) begins weak'' },
      lost_from class sys v plain (option_map (stray_value n) lost) (subst (λ (s : System). IsLostIf class s plain (option_map (stray_value n) lost)) same lost'),
    )

-- the first of the states to which outcomes lead
pub lost_is : (class : Class) (sys : System) (n : ℕ) (run : PlainRun) (strays : List Stray) (stray : Stray) (place : ℕ)
    → map (stray_value n) strays ≡ run_strays sys run
    → IsFirstDeadEnd class sys (map (vector n) (map (λ (s : Stray). s.state) strays)) place
    → slice_get strays place ≡ Some stray
    → IsLostIf class sys run (option_map (stray_value n) (Some stray))
lost_is class sys n run strays stray place are dead at = record {
  place = place;
  placed = ap (λ (xs : List PlainStray). slice_get xs place) (sym are) ∙ slice_get-map (stray_value n) strays place ∙ ap (option_map (stray_value n)) at;
  first = subst (λ (states : List Vector). IsFirstDeadEnd class sys states place) (states_are n strays ∙ ap (map (λ (s : PlainStray). s.after)) are) dead;
} where
  states_are : (n : ℕ) (strays : List Stray) → map (vector n) (map (λ (s : Stray). s.state) strays) ≡ map (λ (s : PlainStray). s.after) (map (stray_value n) strays)
  states_are n [] = refl
  states_are n (s ∷ strays) = ap (λ xs. vector n s.state ∷ xs) (states_are n strays)

-- the first of the first states of a list
front_get : (front rest : List Vector) (k : ℕ) → k < length front → slice_get (front ++ rest) k ≡ slice_get front k
front_get [] rest k below = absurd (omega (arith, below))
front_get (x ∷ front) rest zero below = refl
front_get (x ∷ front) rest (suc k) below = front_get front rest k (omega (arith, below))

pub front_dead : (class : Class) (sys : System) (all front : List Vector) (place : ℕ) → IsFrontOf all front → (dead : IsFirstDeadEnd class sys front place)
    → (whole : IsFirstDeadEnd class sys all place) × (whole.state ≡ dead.state)
front_dead class sys all front place (rest, is) dead =
    let within = slice_get_within front place dead.state dead.placed in
    let whole : IsFirstDeadEnd class sys all place = record {
      state = dead.state;
      placed = ap (λ (xs : List Vector). slice_get xs place) is ∙ front_get front rest place within ∙ dead.placed;
      dead = dead.dead;
      first = λ k other below at. dead.first k other below
          (sym (front_get front rest k (omega (arith, below, within))) ∙ sym (ap (λ (xs : List Vector). slice_get xs k) is) ∙ at);
    } in (whole, refl)

-- the text, with the names of a task that is alike
pub told_text : (class : Class) (task other : Task) (number : ℕ) (run : Run) (lost : Option Stray) (text : List ℕ) → IsLike task other
    → text ≡ run_text (fluent_names other) (action_names other) number (run_value (fluent_count other) run) ++ note_text (fluent_names other) class (option_map (stray_value (fluent_count other)) lost)
    → text ≡ run_text (fluent_names task) (action_names task) number (run_value (fluent_count task) run) ++ note_text (fluent_names task) class (option_map (stray_value (fluent_count task)) lost)
told_text class task other number run lost text like is = is ∙ (λ i. written (like.fluents i) (like.actions i)) where
  written : Vec (Vec (RcStr Global) Global) Global → Vec GroundAction Global → List ℕ
  written fluents actions =
      run_text (map name_bytes fluents.items) (map name_of actions.items) number (run_value (length fluents.items) run)
      ++ note_text (map name_bytes fluents.items) class (option_map (stray_value (length fluents.items)) lost)

-- the first of some states by their vectors
pub first_of : (n k : ℕ) (states : List State) (all : List Vector) → map (vector n) states ≡ all → IsFrontOf all (map (vector n) (take k states))
first_of n k states all are = (
  map (vector n) (drop k states),
  sym are ∙ ap (map (vector n)) (sym (take-append-drop k states)) ∙ map-append (vector n) (take k states) (drop k states),
)

-- the same of what a search told
pub told_map : (class : Class) (task other : Task) (number : ℕ) (r : Result (Option Told) AllocError) → IsLike task other → IsFirstStart class task number other
    → IfOk r (λ found. IfSome found (IsToldFrom class other number))
    → IfOk r (λ found. IfSome found (λ told. IsTold class (system_of task) told.number (run_value (fluent_count task) told.run)
    × IsLostIf class (system_of task) (run_value (fluent_count task) told.run) (option_map (stray_value (fluent_count task)) told.lost)))
told_map class task other number (Ok (Some told)) like first is =
    let made = told_is class task other number told.run told.lost like first is.weak is.lost in
    (subst (λ (k : ℕ). IsTold class (system_of task) k (run_value (fluent_count task) told.run)) (sym is.is_number) made.0, made.1)
told_map class task other number (Ok None) like first is = tt
told_map class task other number (Err e) like first is = tt
