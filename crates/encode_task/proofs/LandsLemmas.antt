-- What outcomes lead to states, one outcome more, and where some outcome does.
use Rattle.std.proofs.Common.{◌≡◌, ℕ, zero, suc, ◌+◌, ◌<◌, ◌^◌, ◌==◌, Bool, true, false, ◌&&◌, ◌||◌, ⊎_elim, List, [], ◌∷◌, ◌++◌, Vec, Contains, map, length, get_or, take, ltb, refl, sym, ap, subst, ◌∙◌, arith}
use Rattle.std.specs.declared.alloc.Global.{Global}
use Rattle.std.specs.List.{list_all, list_any}
use Rattle.std.proofs.Math.Bool.{and-or_distrib_left}
use Rattle.std.proofs.lemmas.Bool.{and_parts, false≢true, ltb-true}
use Rattle.std.proofs.lemmas.List.{take_all, take_more}
use Rattle.std.proofs.lemmas.List.Folds.{list_any_more}
use Rattle.list_laws.proofs.Booleans.{and_false, and_one}
use Rattle.dd_nodes.specs.NodeList.{Values}
use Rattle.dd_nodes.specs.Subfunctions.{Function}
use Rattle.dd_ops.specs.Operations.{and_of, or_of}
use Rattle.task_core.specs.Actions.{action_within, after_value, outcome_within}
use Rattle.task_core.specs.Conditions.{AlwaysHolds, holds, ids_below}
use Rattle.task_core.specs.declared.actions.GroundAction.{GroundAction}
use Rattle.task_core.specs.declared.actions.Outcome.{Outcome}
use Rattle.task_core.specs.declared.conditions.Cond.{Cond}
use Rattle.task_core.specs.declared.literals.FluentId.{FluentId}
use Rattle.dd_sets.specs.Calls.{Adds, KeepsSets}
use Rattle.dd_sets.specs.LiveSets.{LiveSets, AllLive, IsLive, set_of, subst_set}
use Rattle.dd_sets.specs.declared.slots.SetId.{SetId}
use Rattle.encode_task.specs.Made.{Holds, HoldsOutcome}
use Rattle.encode_task.specs.Tables.{AllPaired, LandsMade, OutcomeMade}
use Rattle.encode_task.proofs.LedLemmas.{led_by_sets}
use Rattle.encode_task.proofs.MadeLemmas.{holds_kept, outcome_kept}
use Rattle.encode_task.proofs.TableLemmas.{paired_length, paired_more, paired_weaker}
use Rattle.encode_task.specs.TaskSets.{exec_of, lands_of}

-- the outcome whose slots are at a place
pub made_at : (sets : LiveSets) (changed : List (Vec (FluentId × SetId) Global)) (outcomes : List Outcome) (i : ℕ) (x : Vec (FluentId × SetId) Global)
    → AllPaired (OutcomeMade sets) (map (λ (c : Vec (FluentId × SetId) Global). c.items) changed) outcomes → i < length changed → x ≡ get_or changed i x
    → (o : Outcome) × (i < length outcomes) × (get_or outcomes i o ≡ o) × OutcomeMade sets x.items o
made_at sets [] outcomes i x all within at = absurd (omega arith)
made_at sets (c ∷ changed) [] i x all within at = absurd all
made_at sets (c ∷ changed) (o ∷ outcomes) zero x all within at = (o, omega arith, refl, subst (λ (y : Vec (FluentId × SetId) Global). OutcomeMade sets y.items o) (sym at) all.0)
made_at sets (c ∷ changed) (o ∷ outcomes) (suc i) x all within at =
    let found = made_at sets changed outcomes i x all.1 (omega arith) at in
    (found.0, omega (arith, found.1), found.2, found.3)

-- one outcome more
pub lands_more : (first before after : LiveSets) (space slot : SetId) (invariant : Cond) (lands all : List SetId) (changed : List (Vec (FluentId × SetId) Global)) (outcomes : List Outcome) (i : ℕ)
    (x : Vec (FluentId × SetId) Global) (listed : List (FluentId × SetId)) → KeepsSets first before → KeepsSets before after → Holds first space (holds invariant)
    → AllPaired (OutcomeMade first) (map (λ (c : Vec (FluentId × SetId) Global). c.items) changed) outcomes → i < length changed → x ≡ get_or changed i x → listed ≡ x.items
    → Adds before after slot.0 (subst_set before listed (set_of before space.0)) → all ≡ lands ++ slot ∷ []
    → AllPaired (λ slot o. Holds before slot (lands_of invariant o)) lands (take i outcomes) → AllPaired (λ slot o. Holds after slot (lands_of invariant o)) all (take (i + 1) outcomes)
lands_more first before after space slot invariant lands all changed outcomes i x listed kept step held made within at is adds whole each =
    let found = made_at first changed outcomes i x made within at in
    let outcome : HoldsOutcome before listed (after_value found.0) = subst (λ l. HoldsOutcome before l (after_value found.0)) (sym is) (outcome_kept first before kept x.items (after_value found.0) found.3) in
    let space_is : set_of before space.0 ≡ holds invariant = (holds_kept first before kept space (holds invariant) held).holds in
    let one : Holds after slot (lands_of invariant found.0) = record {
      live = adds.live;
      holds = adds.holds ∙ led_by_sets before listed (after_value found.0) outcome (set_of before space.0) ∙ ap (λ (set : Function). (λ (values : Values). set (after_value found.0 values))) space_is;
    } in
    let more : take (i + 1) outcomes ≡ take i outcomes ++ found.0 ∷ [] = take_more outcomes i found.0 found.1 ∙ ap (λ o. take i outcomes ++ o ∷ []) found.2 in
    subst (λ l. AllPaired (λ slot o. Holds after slot (lands_of invariant o)) l (take (i + 1) outcomes)) (sym whole)
    (subst (AllPaired (λ slot o. Holds after slot (lands_of invariant o)) (lands ++ slot ∷ [])) (sym more)
    (paired_more (λ slot o. Holds after slot (lands_of invariant o)) lands (take i outcomes) slot found.0
    (paired_weaker (λ slot o. Holds before slot (lands_of invariant o)) (λ slot o. Holds after slot (lands_of invariant o)) (λ slot o. holds_kept before after step slot (lands_of invariant o)) lands (take i outcomes) each) one))

-- the set of the slot that an outcome more takes, and the outcome
pub landed : (first before : LiveSets) (space : SetId) (invariant : Cond) (changed : List (Vec (FluentId × SetId) Global)) (outcomes : List Outcome) (i : ℕ) (x : Vec (FluentId × SetId) Global) (listed : List (FluentId × SetId))
    → KeepsSets first before → Holds first space (holds invariant) → AllPaired (OutcomeMade first) (map (λ (c : Vec (FluentId × SetId) Global). c.items) changed) outcomes → i < length changed → x ≡ get_or changed i x → listed ≡ x.items
    → (o : Outcome) × Contains outcomes o × HoldsOutcome before listed (after_value o) × (subst_set before listed (set_of before space.0) ≡ lands_of invariant o)
landed first before space invariant changed outcomes i x listed kept held made within at is =
    let found = made_at first changed outcomes i x made within at in
    let outcome : HoldsOutcome before listed (after_value found.0) = subst (λ l. HoldsOutcome before l (after_value found.0)) (sym is) (outcome_kept first before kept x.items (after_value found.0) found.3) in
    let space_is : set_of before space.0 ≡ holds invariant = (holds_kept first before kept space (holds invariant) held).holds in (
      found.0,
      (i, found.1, found.2),
      outcome,
      led_by_sets before listed (after_value found.0) outcome (set_of before space.0) ∙ ap (λ (set : Function). (λ (values : Values). set (after_value found.0 values))) space_is,
    )

-- the lists of the outcomes are live
pub list_live : (first before : LiveSets) (changed : List (Vec (FluentId × SetId) Global)) (outcomes : List Outcome) (i : ℕ) (x : Vec (FluentId × SetId) Global) (listed : List (FluentId × SetId))
    → KeepsSets first before → AllPaired (OutcomeMade first) (map (λ (c : Vec (FluentId × SetId) Global). c.items) changed) outcomes → i < length changed → x ≡ get_or changed i x → listed ≡ x.items → AllLive before listed
list_live first before changed outcomes i x listed kept made within at is =
    let found = made_at first changed outcomes i x made within at in
    (subst (λ l. HoldsOutcome before l (after_value found.0)) (sym is) (outcome_kept first before kept x.items (after_value found.0) found.3)).live

-- an action has an outcome
has_outcome : (n : ℕ) (action : GroundAction) → action_within n action ≡ true → 0 < length action.outcomes.items
has_outcome n action within =
    ltb-true 0 (length action.outcomes.items)
    (and_parts (ids_below n action.exec && list_all (outcome_within n) action.outcomes.items) (ltb 0 (length action.outcomes.items))
    (and_parts ((ids_below n action.exec && list_all (outcome_within n) action.outcomes.items) && ltb 0 (length action.outcomes.items)) (ltb (length action.outcomes.items) (2 ^ 32)) within).0).1

-- without slots every outcome leads to a state
every_lands : (invariant : Cond) (outcomes : List Outcome) (values : Values) → AlwaysHolds invariant → 0 < length outcomes → list_any (λ o. lands_of invariant o values) outcomes ≡ true
every_lands invariant [] values always some = absurd (omega arith)
every_lands invariant (o ∷ outcomes) values always some = ap (λ b. b || list_any (λ o. lands_of invariant o values) outcomes) (always (after_value o values))

pub exec_always : (sets : LiveSets) (n : ℕ) (invariant : Cond) (action : GroundAction) (lands : List SetId) → action_within n action ≡ true → LandsMade sets invariant lands action.outcomes.items → length lands ≡ 0
    → and_of (holds invariant) (holds action.exec) ≡ exec_of invariant action
exec_always sets n invariant action lands within made none = ⊎_elim
    (λ (always : AlwaysHolds invariant × (lands ≡ [])). λ i values.
    (and_one (holds invariant values && holds action.exec values) ∙ ap (λ b. (holds invariant values && holds action.exec values) && b) (sym (every_lands invariant action.outcomes.items values always.0 (has_outcome n action within)))) i)
    (λ (each : AllPaired (λ slot o. Holds sets slot (lands_of invariant o)) lands action.outcomes.items). absurd (no_pairs lands action.outcomes.items each none (has_outcome n action within)))
    made
  where
    no_pairs : (lands : List SetId) (outcomes : List Outcome) → AllPaired (λ slot o. Holds sets slot (lands_of invariant o)) lands outcomes → length lands ≡ 0 → 0 < length outcomes → ⊥
    no_pairs [] [] each none some = omega arith
    no_pairs [] (o ∷ outcomes) each none some = each
    no_pairs (x ∷ lands) outcomes each none some = omega arith

-- some slots are not none
pub some_slots : (lands : List SetId) → (length lands == 0) ≡ false → 0 < length lands
some_slots [] some = absurd (false≢true (sym some))
some_slots (x ∷ lands) some = omega arith

-- one slot more
pub landing_more : (first now : LiveSets) (allowed : ℕ) (lands : List SetId) (i : ℕ) (d : SetId) → KeepsSets first now → IsLive first allowed → IsLive first (get_or lands i d).0 → i < length lands
    → or_of (λ (values : Values). list_any (λ slot. set_of first allowed values && set_of first slot.0 values) (take i lands)) (and_of (set_of now allowed) (set_of now (get_or lands i d).0))
    ≡ (λ (values : Values). list_any (λ slot. set_of first allowed values && set_of first slot.0 values) (take (i + 1) lands))
landing_more first now allowed lands i d kept live slot_live within =
    (λ j values. list_any (λ slot. set_of first allowed values && set_of first slot.0 values) (take i lands) || (kept.sets allowed live j values && kept.sets (get_or lands i d).0 slot_live j values))
    ∙ (λ j values. (sym (list_any_more (λ slot. set_of first allowed values && set_of first slot.0 values) lands i d within)) j)

-- with slots the action can be executed where one of them has what is allowed
pub lands_live : (before after : LiveSets) (invariant : Cond) (outcomes : List Outcome) (lands : List SetId) → KeepsSets before after → LandsMade before invariant lands outcomes → (i : ℕ) (d : SetId) → i < length lands → IsLive after (get_or lands i d).0
lands_live before after invariant outcomes lands kept made i d within = ⊎_elim
    (λ (always : AlwaysHolds invariant × (lands ≡ [])). absurd (let none : length lands ≡ 0 = ap length always.1 in omega arith))
    (λ (each : AllPaired (λ slot o. Holds before slot (lands_of invariant o)) lands outcomes). kept.live _ (at lands outcomes each i within))
    made
  where
    at : (lands : List SetId) (outcomes : List Outcome) → AllPaired (λ slot o. Holds before slot (lands_of invariant o)) lands outcomes → (i : ℕ) → i < length lands → IsLive before (get_or lands i d).0
    at [] outcomes each i within = absurd (omega arith)
    at (x ∷ lands) [] each i within = absurd each
    at (x ∷ lands) (o ∷ outcomes) each zero within = each.0.live
    at (x ∷ lands) (o ∷ outcomes) each (suc i) within = at lands outcomes each.1 i (omega arith)

-- what is in a set and in one of some slots, and what is in it and led to a state by one of some
-- outcomes
abbrev pub in_slots : LiveSets → Function → List SetId → Function
in_slots sets allowed lands values = list_any (λ slot. allowed values && set_of sets slot.0 values) lands

abbrev pub led_by : Cond → Function → List Outcome → Function
led_by invariant allowed outcomes values = allowed values && list_any (λ o. lands_of invariant o values) outcomes

-- what is allowed and in one of the first slots is what is allowed and led to a state by one of the
-- first outcomes
pub first_lands : (before sets : LiveSets) (invariant : Cond) (outcomes : List Outcome) (lands : List SetId) (allowed : Function) (j : ℕ) → KeepsSets before sets → AllPaired (λ slot o. Holds before slot (lands_of invariant o)) lands outcomes
    → in_slots sets allowed (take j lands) ≡ led_by invariant allowed (take j outcomes)
first_lands before sets invariant outcomes lands allowed j kept each = λ i values. spread (allowed values) values j lands outcomes each i
  where
    spread : (a : Bool) (values : Values) (j : ℕ) (lands : List SetId) (outcomes : List Outcome) → AllPaired (λ slot o. Holds before slot (lands_of invariant o)) lands outcomes
        → list_any (λ slot. a && set_of sets slot.0 values) (take j lands) ≡ (a && list_any (λ o. lands_of invariant o values) (take j outcomes))
    spread a values zero lands outcomes each = sym (and_false a)
    spread a values (suc j) [] [] each = sym (and_false a)
    spread a values (suc j) [] (o ∷ outcomes) each = absurd each
    spread a values (suc j) (x ∷ lands) [] each = absurd each
    spread a values (suc j) (x ∷ lands) (o ∷ outcomes) each =
        let same = (holds_kept before sets kept x (lands_of invariant o) each.0).holds in
        (λ i. (a && same i values) || spread a values j lands outcomes each.1 i) ∙ sym (and-or_distrib_left a (lands_of invariant o values) (list_any (λ o. lands_of invariant o values) (take j outcomes)))

-- with slots there is one for each outcome
pub each_lands : (sets : LiveSets) (invariant : Cond) (outcomes : List Outcome) (lands : List SetId) → LandsMade sets invariant lands outcomes → 0 < length lands → AllPaired (λ slot o. Holds sets slot (lands_of invariant o)) lands outcomes
each_lands sets invariant outcomes lands made some = ⊎_elim
    (λ (always : AlwaysHolds invariant × (lands ≡ [])). absurd (let none : length lands ≡ 0 = ap length always.1 in omega arith))
    (λ (each : AllPaired (λ slot o. Holds sets slot (lands_of invariant o)) lands outcomes). each)
    made

pub exec_lands : (before sets : LiveSets) (invariant : Cond) (action : GroundAction) (lands : List SetId) (allowed : Function) → KeepsSets before sets → LandsMade before invariant lands action.outcomes.items → 0 < length lands
    → allowed ≡ and_of (holds invariant) (holds action.exec) → (λ (values : Values). list_any (λ slot. allowed values && set_of sets slot.0 values) lands) ≡ exec_of invariant action
exec_lands before sets invariant action lands allowed kept made some is =
    let each = each_lands before invariant action.outcomes.items lands made some in
    let long = paired_length (λ slot o. Holds before slot (lands_of invariant o)) lands action.outcomes.items each in
    ap (in_slots sets allowed) (sym (take_all (length lands) lands (omega arith)))
    ∙ first_lands before sets invariant action.outcomes.items lands allowed (length lands) kept each
    ∙ ap (led_by invariant allowed) (take_all (length lands) action.outcomes.items (omega arith))
    ∙ ap (λ (set : Function). led_by invariant set action.outcomes.items) is

-- a slot's set, of one of the outcomes
pub land_at : (before sets : LiveSets) (invariant : Cond) (outcomes : List Outcome) (lands : List SetId) (slot : SetId) → KeepsSets before sets → AllPaired (λ slot o. Holds before slot (lands_of invariant o)) lands outcomes → Contains lands slot
    → (o : Outcome) × Contains outcomes o × (set_of sets slot.0 ≡ lands_of invariant o)
land_at before sets invariant [] [] slot kept each (k, within, at) = absurd (omega arith)
land_at before sets invariant (o ∷ outcomes) [] slot kept each has = absurd each
land_at before sets invariant [] (x ∷ lands) slot kept each has = absurd each
land_at before sets invariant (o ∷ outcomes) (x ∷ lands) slot kept each (zero, within, at) =
    (o, (zero, omega arith, refl), ap (λ (s : SetId). set_of sets s.0) (sym at) ∙ (holds_kept before sets kept x (lands_of invariant o) each.0).holds)
land_at before sets invariant (o ∷ outcomes) (x ∷ lands) slot kept each (suc k, within, at) =
    let rest = land_at before sets invariant outcomes lands slot kept each.1 (k, omega arith, at) in
    (rest.0, (suc rest.1.0, omega (arith, rest.1.1), rest.1.2), rest.2)
