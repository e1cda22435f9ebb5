-- What an outcome leads into a set is a substitution of the next values.
use Rattle.std.proofs.Common.{◌≡◌, inr, ℕ, ◌+◌, ◌≤◌, is_some, Some, None, List, refl, sym, ap, subst}
use Rattle.std.specs.Option.{option_map_or}
use Rattle.dd_nodes.specs.NodeList.{Values}
use Rattle.dd_nodes.specs.Subfunctions.{Function, DependsOnly, IsSubfunction}
use Rattle.dd_ops.specs.Growth.{subst_pieces}
use Rattle.task_core.specs.declared.literals.FluentId.{FluentId}
use Rattle.dd_sets.specs.Calls.{KeepsSets}
use Rattle.dd_sets.specs.LiveSets.{LiveSets, IsLive, IsSets, set_of, listed_set, values_by_sets, subst_set}
use Rattle.dd_sets.specs.Rooms.{IsFull, NoRoom, Small}
use Rattle.dd_sets.specs.declared.slots.SetId.{SetId}
use Rattle.dd_sets.proofs.NoRoomLemmas.{no_room_of_call}
use Rattle.dd_sets.proofs.SetLemmas.{set_depends}
use Rattle.dd_sets.proofs.SubstSizes.{subst_rough}
use Rattle.encode_task.specs.Made.{HoldsOutcome}

-- each fluent's next value, whether it is listed or not
value_of_listed : (sets : LiveSets) (changed : List (FluentId × SetId)) (after : Values → Values) → HoldsOutcome sets changed after → (values : Values) (f : ℕ)
    → values_by_sets sets changed values f ≡ after values f
value_of_listed sets changed after holds values f =
    elim (listed_set changed f) as (λ found. listed_set changed f ≡ found → option_map_or (λ set. set_of sets set.0 values) found (values f) ≡ after values f) [
      | Some slot ↦ λ listed. ap (λ set. set values) (holds.listed f slot listed).holds
      | None ↦ λ unlisted. sym (holds.unlisted f unlisted values)
    ] refl

pub led_by_sets : (sets : LiveSets) (changed : List (FluentId × SetId)) (after : Values → Values) → HoldsOutcome sets changed after → (set : Function) → subst_set sets changed set ≡ (λ values. set (after values))
led_by_sets sets changed after holds set = λ i values. set (λ f. value_of_listed sets changed after holds values f i)

-- a substitution that found no room
pub room_subst : (w : ℕ) (before after : LiveSets) (x : ℕ) (changed : List (FluentId × SetId)) (next : Values → Values) (set : Function) → IsSets after → KeepsSets before after → IsLive before x → set_of before x ≡ set
    → HoldsOutcome before changed next → before.vars + 2 ≤ w → Small before.vars w set → ((part : Function) → IsSubfunction before.vars set part → Small before.vars w (λ values. part (next values)))
    → IsFull before after (subst_pieces before.vars (set_of before x) (λ v. is_some (listed_set changed v)) (values_by_sets before changed)) → NoRoom w 0 0 before after
room_subst w before after x changed next set sound kept live is holds wide small images full =
    no_room_of_call w before after (subst_pieces before.vars (set_of before x) (λ v. is_some (listed_set changed v)) (values_by_sets before changed)) full
    (inr (record { set = set_of before x; fluents = depends; is_listed = λ v. is_some (listed_set changed v); replaced = values_by_sets before changed; are = refl })) kept.vars kept.limit
    (subst_rough before.vars w (set_of before x) (λ v. is_some (listed_set changed v)) (values_by_sets before changed) wide depends (subst (Small before.vars w) (sym is) small)
    (λ part of_set. subst (Small before.vars w) (sym (led_by_sets before changed next holds part)) (images part (subst (λ (f : Function). IsSubfunction before.vars f part) is of_set))))
  where
    depends : DependsOnly 0 before.vars (set_of before x)
    depends = subst (λ v. DependsOnly 0 v (set_of before x)) kept.vars (subst (DependsOnly 0 after.vars) (kept.sets x live) (set_depends after sound x))
