-- The sets that a search puts at its places fit there.
use Rattle.std.proofs.Common.{inl, inr, ◌≡◌, ℕ, ◌+◌, ◌<◌, ◌≤◌, ◌==◌, get_or, Bool, List, length, take, Some, refl, sym, ap, subst, ◌∙◌, arith}
use Rattle.std.proofs.lemmas.Bool.{cond-true, eq-eqb}
use Rattle.std.proofs.lemmas.List.{take_more}
use Rattle.dd_nodes.specs.Subfunctions.{Function}
use Rattle.dd_ops.specs.Operations.{minus_of, or_of}
use Rattle.dd_sets.specs.LiveSets.{set_of}
use Rattle.dd_sets.specs.declared.slots.SetId.{SetId}
use Rattle.dd_sets.proofs.OperationSizes.{difference_rough}
use Rattle.encode_task.specs.Made.{MadeOf}
use Rattle.encode_task.specs.Slots.{Encoded}
use Rattle.encode_task.specs.TaskSets.{goal_set}
use Rattle.encode_task.specs.WorkingSets.IsMadeByEncode.{goal_states}
use Rattle.encode_task.proofs.MadeLemmas.{goal_slot}
use Rattle.preimage.specs.WorkingSets.{PreimageFits}
use Rattle.slot_board.specs.Board.{Fits, IsSmall, LeadFits, Moved, Start, TestFits, set_at}
use Rattle.slot_board.proofs.BoardSlots.{action_within}
use Rattle.slot_board.specs.declared.board.Outcomes.{Outcomes}
use Rattle.task_core.specs.Tasks.{action_count, fluent_count}
use Rattle.task_core.specs.declared.classes.Class.{Class}
use Rattle.task_core.specs.declared.literals.ActionId.{ActionId}
use Rattle.reach_plan.specs.LayerSets.{IsLayerSet, class_preimage, grown}
use Rattle.reach_plan.specs.Searches.{HasGrown, HasHits, HasLayer, HasProgress, IsKnown, MayRetrace, MayStep, MayTake}
use Rattle.reach_plan.specs.Steps.{IsWithinRound, Progress, after_step, after_steps, at_goal, untaken}
use Rattle.reach_plan.specs.WorkingSets.{BoundsReachSets, first_of}
use Rattle.reach_plan.specs.WorkingSets.IsWorkingSet.{by_task}
use Rattle.slot_board.specs.declared.steps.Step.{Step}
use Rattle.slot_board.specs.declared.steps.Step.TheVariants.{Advance, Grow}
use Rattle.reach_plan.proofs.SearchSteps.{after_one_more, grown_more, hits_still}
use Rattle.reach_plan.proofs.SmallSets.{grown_small, hits_small, initial_small, layer_fits, layer_small, next_small, now_small, takes_small}

-- a set that is a small one fits at every place
pub fits_small : (start : Start) (place : ℕ) (set small : Function) → set ≡ small → IsSmall start small → Fits start place set
fits_small start place set small is few = inl (subst (IsSmall start) (sym is) few)

-- an action may be led into a layer
pub lead_fits : (class : Class) (start : Start) (x : Encoded) (slots : List SetId) (n k a : ℕ) (f : Function) (h : ℕ → Function) (outcomes : Outcomes)
    → ((start : Start) (a : ℕ) (set : Function) → PreimageFits start.width start.task a (first_of class) set → LeadFits start outcomes a set)
    → HasLayer start x slots n f h → BoundsReachSets start.width class start.task → IsLayerSet class start.task k f → a < action_count start.task → LeadFits start outcomes a (set_at x.sets slots n)
lead_fits class start x slots n k a f h outcomes give has wide is within =
    give start a (set_at x.sets slots n) (subst (PreimageFits start.width start.task a (first_of class)) (sym has.holds_layer) (layer_fits start.width class start.task wide k f is a within))

-- the hits of an action joined to what the actions before it add
pub joined_small : {k : ℕ} (class : Class) (start : Start) (f : Function) (h : ℕ → Function) (a : ℕ) → IsKnown class start k f h → a < action_count start.task → IsSmall start (or_of (grown class start.task f a) (class_preimage class start.task a f))
joined_small {k} class start f h a known within =
    subst (IsSmall start) (sym (grown_more class start.task f a)) (grown_small start.width class start.task known.wide k f known.is_layer (a + 1) (omega arith))

hits_joined : (start : Start) (x : Encoded) (slots : List SetId) (n : ℕ) (f : Function) (h : ℕ → Function) (g hits : Function) → HasHits start x slots n f h g hits → or_of (set_at x.sets slots (n + 1)) (set_at x.sets slots (n + 2)) ≡ or_of g hits
hits_joined start x slots n f h g hits has = ap (λ (s : Function). or_of s (set_at x.sets slots (n + 2))) has.by_next.holds_next ∙ ap (or_of g) has.holds_hits

pub joined_fits : (start : Start) (x : Encoded) (slots : List SetId) (n place : ℕ) (f : Function) (h : ℕ → Function) (g hits : Function) → HasHits start x slots n f h g hits → Fits start place (or_of (set_at x.sets slots (n + 1)) (set_at x.sets slots (n + 2)))
joined_fits start x slots n place f h g hits has = fits_small start place _ (or_of g hits) (hits_joined start x slots n f h g hits has) has.joined

-- and a copy of that
pub grown_fits : (start : Start) (x mid : Encoded) (old half : List SetId) (place : ℕ) (f g hits : Function) → HasHits start x old 0 f untaken g hits → Moved start x.sets old mid half 3 (or_of (set_at x.sets old 1) (set_at x.sets old 2)) → Fits start place (set_at mid.sets half 3)
grown_fits start x mid old half place f g hits has m = fits_small start place _ (or_of g hits) (m.here ∙ hits_joined start x old 0 f untaken g hits has) has.joined

-- a copy of the layer
pub layer_copy_fits : {k : ℕ} (class : Class) (start : Start) (x : Encoded) (slots : List SetId) (n place : ℕ) (f : Function) (h t : ℕ → Function) → HasLayer start x slots n f h → IsKnown class start k f t → Fits start place (set_at x.sets slots n)
layer_copy_fits {k} class start x slots n place f h t has known = fits_small start place _ f has.holds_layer (layer_small start.width class start.task known.wide k f known.is_layer)

-- the initial states may be looked up in the layer
pub test_fits : {k : ℕ} (class : Class) (start : Start) (x : Encoded) (slots : List SetId) (f : Function) (h : ℕ → Function) (t : ℕ → Function) → HasLayer start x slots 0 f h → IsKnown class start k f t → TestFits start (set_at x.sets slots 0)
test_fits {k} class start x slots f h t has known =
    (initial_small start.width class start.task known.wide, subst (IsSmall start) (sym has.holds_layer) (layer_small start.width class start.task known.wide k f known.is_layer))

-- the next layer once all actions are done
pub next_layer_small : {k : ℕ} (class : Class) (start : Start) (f : Function) (h : ℕ → Function) (m : ℕ) → IsKnown class start k f h → m ≤ action_count start.task → IsSmall start (grown class start.task f m)
next_layer_small {k} class start f h m known few = grown_small start.width class start.task known.wide k f known.is_layer m few

-- the goal's states
pub goal_fits : (class : Class) (start : Start) (x : Encoded) (slot : SetId) (place : ℕ) → BoundsReachSets start.width class start.task → MadeOf start.task x → x.goal ≡ Some slot → Fits start place (set_of x.sets slot.0)
goal_fits class start x slot place wide made is =
    let goal = goal_slot start.task x slot made is in
    fits_small start place _ (goal_set start.task goal.0) goal.2.holds (wide.each (goal_set start.task goal.0) (by_task (goal_set start.task goal.0) (goal_states goal.0 goal.1)))

-- and a copy of them
pub goal_copy_fits : (class : Class) (start : Start) (x mid : Encoded) (old half : List SetId) (slot : SetId) (n place : ℕ) → BoundsReachSets start.width class start.task → MadeOf start.task x → x.goal ≡ Some slot → Moved start x.sets old mid half n (set_of x.sets slot.0) → Fits start place (set_at mid.sets half n)
goal_copy_fits class start x mid old half slot n place wide made is m = subst (Fits start place) (sym m.here) (goal_fits class start x slot place wide made is)

-- what is new of the hits, and what an action takes with that
pub new_fits : (start : Start) (x : Encoded) (slots : List SetId) (n a : ℕ) (f : Function) (h : ℕ → Function) (g hits : Function) → HasHits start x slots n f h g hits → MayTake start n a (h a) g hits → Fits start (n + 3) (minus_of (set_at x.sets slots (n + 2)) (set_at x.sets slots (n + 1)))
new_fits start x slots n a f h g hits has may =
    subst (Fits start (n + 3)) (sym (ap (λ (s : Function). minus_of s (set_at x.sets slots (n + 1))) has.holds_hits ∙ ap (minus_of hits) has.by_next.holds_next)) may.new

pub taken_fits : (start : Start) (x mid : Encoded) (old half : List SetId) (n a : ℕ) (f : Function) (h : ℕ → Function) (g hits : Function) → length old ≡ n + 4 → a < n → HasHits start x old n f h g hits → MayTake start n a (h a) g hits
    → Moved start x.sets old mid half (n + 3) (minus_of (set_at x.sets old (n + 2)) (set_at x.sets old (n + 1))) → Fits start a (or_of (set_at mid.sets half a) (set_at mid.sets half (n + 3)))
taken_fits start x mid old half n a f h g hits long low has may m =
    let begun = hits_still start x mid old half n (n + 3) _ long has.by_next.by_layer.at m (omega arith) f h g hits has in
    let fresh : set_at mid.sets half (n + 3) ≡ minus_of hits g = m.here ∙ ap (λ (s : Function). minus_of s (set_at x.sets old (n + 1))) has.holds_hits ∙ ap (minus_of hits) has.by_next.holds_next in
    subst (Fits start a) (sym (ap (λ (s : Function). or_of s (set_at mid.sets half (n + 3))) (begun.by_next.by_layer.holds_taken a low) ∙ ap (or_of (h a)) fresh)) may.taken

-- a step of the second pass
module _ (class : Class) (start : Start) (n : ℕ) (here : Progress) where
  pub step_joined : (a : ActionId) → MayStep class start n here (Grow a) → IsSmall start (or_of here.next (class_preimage class start.task a.0 here.layer))
  step_joined a may = next_small start.width class start.task may.wide (after_step class start.task here (Grow a)) may.layers may.last may.into

  pub step_takes : (a : ActionId) → a.0 < action_count start.task → MayStep class start n here (Grow a) → MayTake start n a.0 (here.taken a.0) here.next (class_preimage class start.task a.0 here.layer)
  step_takes a within may =
      let hits = class_preimage class start.task a.0 here.layer in
      let more = or_of (here.taken a.0) (minus_of hits here.next) in
      let after = takes_small start.width class start.task may.wide (after_step class start.task here (Grow a)) may.layers may.last may.into a.0 within in
      record {
        new = inr
            (may.rough, difference_rough (fluent_count start.task) start.width hits here.next (hits_small start.width class start.task may.wide may.from.rank here.layer may.from.is_layer a.0 within) (next_small start.width class start.task may.wide here may.layers may.last may.from));
        taken = inl (subst (IsSmall start) (cond-true (a.0 == a.0) more (here.taken a.0) (eq-eqb a.0 a.0 refl)) after);
      }

  pub step_advances : MayStep class start n here Advance → IsSmall start here.next
  step_advances may = now_small start.width class start.task may.wide (after_step class start.task here Advance) may.layers may.last may.into

-- the steps in turn
pub may_step : (class : Class) (start : Start) (n : ℕ) (steps : List Step) (i : ℕ) (d : Step) → i < length steps → MayRetrace class start n steps → MayStep class start n (after_steps class start.task (at_goal start.task) (take i steps)) (get_or steps i d)
may_step class start n steps i d within may = record {
  wide = may.wide;
  rough = may.rough;
  layers = may.layers;
  last = may.last;
  from = may.along i;
  into = subst (IsWithinRound class start.task may.layers) (sym (after_one_more class start.task (at_goal start.task) (take i steps) (take (i + 1) steps) (get_or steps i d) (take_more steps i d within))) (may.along (i + 1));
}

-- an action of the first pass, and one of a step of the second, may be led into the layer
pub grow_leads : {k : ℕ} (class : Class) (start : Start) (x : Encoded) (slots : List SetId) (f : Function) (h : ℕ → Function) (a : ℕ) (steps : List Step) (spent : List Bool) (outcomes : Outcomes)
    → ((start : Start) (a : ℕ) (set : Function) → PreimageFits start.width start.task a (first_of class) set → LeadFits start outcomes a set)
    → HasGrown class start x slots k f h a steps spent → a < length x.actions → LeadFits start outcomes a (set_at x.sets slots 0)
grow_leads {k} class start x slots f h a steps spent outcomes give has within =
    lead_fits class start x slots 0 k a f untaken outcomes give has.by_next.by_layer has.known.wide has.known.is_layer (action_within start x slots a has.by_next.by_layer.at within)

pub step_leads : (class : Class) (start : Start) (x : Encoded) (slots : List SetId) (n : ℕ) (here : Progress) (step : Step) (a : ℕ) (outcomes : Outcomes)
    → ((start : Start) (a : ℕ) (set : Function) → PreimageFits start.width start.task a (first_of class) set → LeadFits start outcomes a set)
    → HasProgress start x slots n here → MayStep class start n here step → a < action_count start.task → LeadFits start outcomes a (set_at x.sets slots n)
step_leads class start x slots n here step a outcomes give has may within =
    lead_fits class start x slots n may.from.rank a here.layer here.taken outcomes give has.by_layer may.wide may.from.is_layer within
