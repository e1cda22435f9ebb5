-- The list of the outcomes that leave a run, step by step and outcome by outcome.
use Rattle.std.proofs.Common.{◌≡◌, ◌<◌, ◌++◌, ◌+◌, ◌≤◌, ◌||◌, ℕ, suc, Bool, drop, get_or, List, [], ◌∷◌, None, Option, Some, length, map, refl, subst, sym, ap, ◌∙◌, append_assoc, arith}
use Rattle.std.specs.List.{All, filter_map, list_any, range_with_len}
use Rattle.std.specs.Option.{option_map}
use Rattle.std.specs.Prelude.{IfSome}
use Rattle.std.proofs.Math.Seq.{drop-cons}
use Rattle.std.proofs.lemmas.List.{append-nil, drop_all, map-append}
use Rattle.std.proofs.lemmas.List.Elements.{All-cons, All-map, All-push, filter_map-append}
use Rattle.list_laws.proofs.Ranges.{range-more}
use Rattle.plan_witness.specs.Runs.{PlainStep}
use Rattle.plan_witness.specs.Values.{run_value, step_value, steps_value}
use Rattle.plan_witness.specs.Within.{IsRunWithin}
use Rattle.plan_witness.specs.declared.runs.Run.{Run}
use Rattle.plan_witness.specs.declared.runs.RunStep.{RunStep}
use Rattle.task_core.specs.Systems.{System}
use Rattle.task_core.specs.Vectors.{Vector, same_vector}
use Rattle.task_core.proofs.StateLists.{same_as_vectors, state_eq}
use Rattle.dead_ends.specs.Strays.{PlainStray, run_states, strays_at, strays_from}
use Rattle.dead_ends.specs.Values.{AreWithin, listed_if, stray_value}
use Rattle.dead_ends.specs.declared.strays.Stray.{Stray}
use Rattle.task_core.specs.States.{IsWithin, vector}
use Rattle.task_core.specs.declared.states.State.{State}

one_value : (n : ℕ) (f : ℕ → Option PlainStray) (k : ℕ) (found : Option Stray) → option_map (stray_value n) found ≡ f k
    → map (stray_value n) (listed_if found) ≡ filter_map f (k ∷ [])
one_value n f k None is = rw (sym is) refl
one_value n f k (Some stray) is = rw (sym is) refl

-- the list with one outcome more, if there is one
pub found_more : (n : ℕ) (f : ℕ → Option PlainStray) (k : ℕ) (first now after : List Stray) (found : Option Stray)
    → map (stray_value n) now ≡ map (stray_value n) first ++ filter_map f (range_with_len 0 k)
    → after ≡ now ++ listed_if found → option_map (stray_value n) found ≡ f k
    → map (stray_value n) after ≡ map (stray_value n) first ++ filter_map f (range_with_len 0 (k + 1))
found_more n f k first now after found so_far is value =
    ap (map (stray_value n)) is ∙ map-append (stray_value n) now (listed_if found)
    ∙ ap (λ xs. xs ++ map (stray_value n) (listed_if found)) so_far
    ∙ append_assoc (map (stray_value n) first) (filter_map f (range_with_len 0 k)) (map (stray_value n) (listed_if found))
    ∙ ap (λ xs. map (stray_value n) first ++ xs)
    (ap (λ xs. filter_map f (range_with_len 0 k) ++ xs) (one_value n f k found value)
    ∙ sym (filter_map-append f (range_with_len 0 k) (k ∷ []))
    ∙ ap (filter_map f) (sym (range-more k)))

-- each of them leads to a state of the task's fluents
pub within_more : (n : ℕ) (now after : List Stray) (found : Option Stray) → after ≡ now ++ listed_if found
    → IfSome found (λ stray. IsWithin n stray.state) → AreWithin n now → AreWithin n after
within_more n now after None is within each = subst (AreWithin n) (sym (is ∙ append-nil now)) each
within_more n now after (Some stray) is within each =
    subst (AreWithin n) (sym is) (All-push (λ (s : Stray). IsWithin n s.state) now stray each within)

-- whether a state is one of some, by their vectors
pub any_same : (n : ℕ) (state : State) (states : List State) → IsWithin n state → All (IsWithin n) states
    → list_any (state_eq state) states ≡ list_any (same_vector (vector n state)) (map (vector n) states)
any_same n state [] ws wk = refl
any_same n state (k ∷ states) ws wk =
    ap (λ b. b || list_any (state_eq state) states) (same_as_vectors n state k ws (wk 0 k (omega arith)))
    ∙ ap (λ b. same_vector (vector n state) (vector n k) || b) (any_same n state states ws (λ i e h. wk (suc i) e (omega arith)))

-- the states of a run
pub states_plain : (n : ℕ) (run : Run) → map (vector n) (run.start ∷ map (λ (step : RunStep). step.state) run.steps.items) ≡ run_states (run_value n run)
states_plain n run = ap (λ xs. vector n run.start ∷ xs) (of_steps run.steps.items) where
  of_steps : (steps : List RunStep) → map (vector n) (map (λ (step : RunStep). step.state) steps) ≡ map (λ (step : PlainStep). step.after.state) (steps_value n steps)
  of_steps [] = refl
  of_steps (step ∷ steps) = ap (λ xs. vector n step.state ∷ xs) (of_steps steps)

pub states_within : (n : ℕ) (run : Run) → IsRunWithin n run → All (IsWithin n) (run.start ∷ map (λ (step : RunStep). step.state) run.steps.items)
states_within n run within = All-cons (IsWithin n) run.start (map (λ (step : RunStep). step.state) run.steps.items) within.start (All-map (IsWithin n) (λ (step : RunStep). step.state) run.steps.items within.steps)

-- one step more
pub steps_more : (sys : System) (states : List Vector) (back : Bool) (n number : ℕ) (before : Vector) (now after whole : List PlainStray) (items : List RunStep) (step : RunStep)
    → number < length items → step ≡ get_or items number step
    → after ≡ now ++ strays_at sys states back number before (step_value n step)
    → now ++ strays_from sys states back number before (steps_value n (drop number items)) ≡ whole
    → after ++ strays_from sys states back (number + 1) (vector n step.state) (steps_value n (drop (number + 1) items)) ≡ whole
steps_more sys states back n number before now after whole items step below is added so_far =
    let next : suc number ≡ number + 1 = omega arith in
    let split : drop number items ≡ step ∷ drop (number + 1) items =
    drop-cons items number step below ∙ ap (λ x. x ∷ drop (suc number) items) (sym is) ∙ ap (λ k. step ∷ drop k items) next in
    ap (λ xs. xs ++ strays_from sys states back (number + 1) (vector n step.state) (steps_value n (drop (number + 1) items))) added
    ∙ append_assoc now (strays_at sys states back number before (step_value n step)) (strays_from sys states back (number + 1) (vector n step.state) (steps_value n (drop (number + 1) items)))
    ∙ ap (λ xs. now ++ strays_from sys states back number before (steps_value n xs)) (sym split)
    ∙ so_far

-- after the last step
pub steps_end : (sys : System) (states : List Vector) (back : Bool) (n number : ℕ) (before : Vector) (now whole : List PlainStray) (items : List RunStep)
    → length items ≤ number
    → now ++ strays_from sys states back number before (steps_value n (drop number items)) ≡ whole → now ≡ whole
steps_end sys states back n number before now whole items past so_far =
    sym (append-nil now)
    ∙ ap (λ xs. now ++ strays_from sys states back number before (steps_value n xs)) (sym (drop_all number items past))
    ∙ so_far
