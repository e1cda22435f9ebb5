-- The steps towards each visit: of one visit more, and of the last round.
use Rattle.std.proofs.Common.{◌≡◌, ◌≢◌, ℕ, ◌+◌, ◌<◌, List, [], ◌∷◌, ◌++◌, Vec, Option, Some, None, Result, Ok, length, refl, sym, ap, subst, ◌∙◌, ⊎_elim, arith, length-append}
use Rattle.std.specs.Prelude.{false}
use Rattle.std.specs.declared.alloc.Global.{Global}
use Rattle.std.proofs.lemmas.Bool.{cases_eq}
use Rattle.dd_sets.specs.declared.errors.SetErr.{SetErr}
use Rattle.slot_board.specs.Board.{Ends, Scene, set_at}
use Rattle.slot_board.specs.declared.steps.Step.{Step}
use Rattle.plan_theory.specs.Patrols.{covers_patrol, patrol_set}
use Rattle.task_core.specs.declared.conditions.Cond.{Cond}
use Rattle.context_plan.specs.Chains.{visit_sets}
use Rattle.context_plan.specs.Noted.{AreStepsFrom, FoundNotes, NotedLast, NotedVisits, steps_at}
use Rattle.context_plan.specs.PatrolSizes.{made_in, round_of, within_round}
use Rattle.context_plan.specs.PatrolSteps.{HasPatrol, HasVisits, made_at_last, visit_place}
use Rattle.context_plan.specs.PatrolWorkingSets.{visit_at}
use Rattle.context_plan.specs.Scenes.{IsAt, SameStates, Start, board_of, guarded, states_at, sys_of}
use Rattle.context_plan.proofs.HandedSteps.{steps_also, steps_before, steps_last}
use Rattle.context_plan.proofs.VisitSteps.{round_stays, visited_same}

pub visits_noted_none : (start : Start) (conds : List Cond) (r : ℕ) (notes : List (Vec Step Global)) → notes ≡ [] → NotedVisits start conds r 0 notes
visits_noted_none start conds r notes none = (ap length none, λ i less. absurd (omega arith))

pub visits_noted_more : (start : Start) (conds : List Cond) (r n : ℕ) (before after : List (Vec Step Global)) (steps : Vec Step Global) → NotedVisits start conds r n before → after ≡ before ++ steps ∷ []
    → AreStepsFrom (within_round start conds r) (made_in start conds r n) 0 0 steps.items → NotedVisits start conds r (n + 1) after
visits_noted_more start conds r n before after steps noted done found =
    let long : length before ≡ n = noted.0 in
    subst (NotedVisits start conds r (n + 1)) (sym done) (
      let more : length (before ++ steps ∷ []) ≡ length before + 1 = length-append before (steps ∷ []) in omega arith,
      λ i less.
          ⊎_elim
          (λ (same : i ≡ n).
          subst (λ k. AreStepsFrom (within_round start conds r) (made_in start conds r k) 0 0 (steps_at (before ++ steps ∷ []) k)) (sym same)
          (subst (AreStepsFrom (within_round start conds r) (made_in start conds r n) 0 0) (sym (steps_last before steps n (sym long))) found))
          (λ (differs : i ≢ n).
          let under : i < n = omega (arith, differs) in
          subst (AreStepsFrom (within_round start conds r) (made_in start conds r i) 0 0) (sym (steps_before before steps i (omega arith))) (noted.1 i under))
          (cases_eq i n),
    )

-- those that a round found, where the visit is made
pub visit_steps : (start : Start) (conds : List Cond) (m : Scene) (r i place : ℕ) (steps : List Step) → place ≡ visit_place i → SameStates start (states_at m (visit_place i)) (made_in start conds r i)
    → AreStepsFrom (within_round start conds r) (states_at m place) 0 0 steps → AreStepsFrom (within_round start conds r) (made_in start conds r i) 0 0 steps
visit_steps start conds m r i place steps is met found =
    steps_also start (round_of start conds r) (round_of start conds r) (states_at m place) (made_in start conds r i) (λ v at. refl) (λ v at. ap (λ k. states_at m k v) is ∙ met v at) 0 0 steps found

-- of the last round they are those in the states of the plan
pub noted_made : (start : Start) (conds : List Cond) (y : Scene) (r : ℕ) (notes : List (Vec Step Global)) → HasVisits start conds y r (length conds) → set_at y.0.sets y.1 10 ≡ set_at y.0.sets y.1 8 → NotedVisits start conds r (length conds) notes → NotedLast start conds notes
noted_made start conds y r notes h same noted =
    let sys = sys_of start in
    let visits = visit_sets conds in
    let last = round_stays start conds y r h same in (
      noted.0,
      λ i less.
          steps_also start (round_of start conds r) (patrol_set sys visits) (made_in start conds r i) (made_at_last start conds i) last
          (visited_same start (round_of start conds r) (patrol_set sys visits) (visit_at visits i) last)
          0 0 (steps_at notes i) (noted.1 i less),
    )

-- the steps in the place where a visit is made
pub visit_follows : (start : Start) (conds : List Cond) (y : Scene) (i place : ℕ) (steps : List Step) → place ≡ visit_place i → SameStates start (states_at y (visit_place i)) (made_at_last start conds i)
    → AreStepsFrom (guarded start (patrol_set (sys_of start) (visit_sets conds))) (made_at_last start conds i) 0 0 steps → AreStepsFrom (guarded start (patrol_set (sys_of start) (visit_sets conds))) (states_at y place) 0 0 steps
visit_follows start conds y i place steps is met found =
    let set = patrol_set (sys_of start) (visit_sets conds) in
    steps_also start set set (made_at_last start conds i) (states_at y place) (λ v at. refl) (λ v at. sym (met v at) ∙ ap (λ k. states_at y k v) (sym is)) 0 0 steps found

-- whether a round lost an initial state
pub notes_found : (start : Start) (conds : List Cond) (x : Scene) (result : Result (Option (Vec (Vec Step Global) Global)) SetErr) (notes : Vec (Vec Step Global) Global) → result ≡ Ok (Some notes) → Ends (board_of start) x.0 x.1 (FoundNotes start conds x) result → HasPatrol start conds x 0 × NotedLast start conds notes.items
notes_found start conds x result notes was ends = subst (Ends (board_of start) x.0 x.1 (FoundNotes start conds x)) was ends

pub notes_lost : (start : Start) (conds : List Cond) (x : Scene) (result : Result (Option (Vec (Vec Step Global) Global)) SetErr) → result ≡ Ok None → Ends (board_of start) x.0 x.1 (FoundNotes start conds x) result → IsAt start x × (covers_patrol (sys_of start) (visit_sets conds) ≡ false)
notes_lost start conds x result was ends = subst (Ends (board_of start) x.0 x.1 (FoundNotes start conds x)) was ends

-- those of a visit, where the code looks them up
pub followed_at : (start : Start) (conds : List Cond) (i : ℕ) (steps : List Step) (notes : List (Vec Step Global)) → steps ≡ steps_at notes i → i < length conds → NotedLast start conds notes → AreStepsFrom (guarded start (patrol_set (sys_of start) (visit_sets conds))) (made_at_last start conds i) 0 0 steps
followed_at start conds i steps notes is less noted =
    subst (AreStepsFrom (guarded start (patrol_set (sys_of start) (visit_sets conds))) (made_at_last start conds i) 0 0) (sym is) (noted.1 i less)
