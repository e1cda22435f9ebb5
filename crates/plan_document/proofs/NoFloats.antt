-- No document has a float.
use Rattle.std.proofs.Common.{◌≡◌, ℕ, List, [], ◌∷◌, map, false, Bool, refl, Option, None, Some, slice_get, Ordering, Less, Equal, Greater}
use Rattle.std.proofs.lemmas.Bool.{or_parts}
use Rattle.std.specs.List.{fold}
use Rattle.std.specs.Option.{option_map_or}
use Rattle.std.specs.Cmp.Lexicographic.{slice_cmp}
use Rattle.std.specs.Ordering.{nat_cmp, match_ordering}
use Rattle.serde_json.specs.Data.{Members, member, no_members, boolean, null, put}
use Rattle.serde_json.specs.View.{items_of}
use Rattle.serde_json.specs.Written.{has_float, items_have_float, members_have_float}
use Rattle.task_core.specs.Cubes.{Cube}
use Rattle.task_core.specs.Names.{Name, name_of}
use Rattle.plan_rules.specs.Rules.{ContextRule, PlainPlan, PlanNext, PlanRule, always, automaton, by_cases, table}
use Rattle.task_core.specs.declared.actions.GroundAction.{GroundAction}
use Rattle.plan_document.specs.Documents.{context_rule_data, cube_data, document, name_data, next_data, rule_object, table_rule_data, with_literal}
use Rattle.plan_document.proofs.NoFloatsInActions.{condition_free, items_free, outcomes_free}

by_order : (o : Ordering) (a b c : Members) → members_have_float a ≡ false → members_have_float b ≡ false → members_have_float c ≡ false → members_have_float (match_ordering o a b c) ≡ false
by_order Less a b c ea eb ec = ea
by_order Equal a b c ea eb ec = eb
by_order Greater a b c ea eb ec = ec

put_free : (key : List ℕ) (value : Bool) (members : Members) → members_have_float members ≡ false → members_have_float (put key (boolean value) members) ≡ false
put_free key value no_members free = refl
put_free key value (member k d members) free =
    let first = (or_parts (has_float d) (members_have_float members) free).0 in
    let rest = (or_parts (has_float d) (members_have_float members) free).1 in
    by_order (slice_cmp nat_cmp key k) _ _ _ free rest (rw first (put_free key value members rest))

literals_free : (fluents : List Name) (cube : Cube) (so_far : Members) → members_have_float so_far ≡ false → members_have_float (fold (with_literal fluents) so_far cube) ≡ false
literals_free fluents [] so_far free = free
literals_free fluents (lit ∷ cube) so_far free = literals_free fluents cube (with_literal fluents so_far lit) (put_free _ lit.positive so_far free)

next_free : (next : PlanNext) → has_float (next_data next) ≡ false
next_free (always context) = refl
next_free (by_cases cases) = refl

object_free : (fluents : List Name) (action : GroundAction) (context : ℕ) (cube : Cube) (next : PlanNext) → has_float (rule_object fluents action context (cube_data fluents cube) (next_data next)) ≡ false
object_free fluents action context cube next =
    rw (literals_free fluents cube no_members refl, next_free next, outcomes_free fluents action.outcomes.items, condition_free fluents action.exec) refl

found_free : (fluents : List Name) (found : Option GroundAction) (context : ℕ) (cube : Cube) (next : PlanNext) → has_float (option_map_or (λ action. rule_object fluents action context (cube_data fluents cube) (next_data next)) found null) ≡ false
found_free fluents None context cube next = refl
found_free fluents (Some action) context cube next = object_free fluents action context cube next

table_rule_free : (fluents : List Name) (actions : List GroundAction) (rule : PlanRule) → has_float (table_rule_data fluents actions rule) ≡ false
table_rule_free fluents actions rule = found_free fluents (slice_get actions rule.action) 1 rule.cube (always 1)

context_rule_free : (fluents : List Name) (actions : List GroundAction) (rule : ContextRule) → has_float (context_rule_data fluents actions rule) ≡ false
context_rule_free fluents actions rule = found_free fluents (slice_get actions rule.action) rule.context rule.cube rule.next

names_free : (names : List Name) → items_have_float (items_of (map name_data names)) ≡ false
names_free = items_free name_data (λ name. refl)

pub document_free : (fluents : List Name) (actions : List GroundAction) (plan : PlainPlan) → has_float (document fluents actions plan) ≡ false
document_free fluents actions (table class rules) =
    rw (names_free (map name_of actions), names_free fluents, items_free (table_rule_data fluents actions) (table_rule_free fluents actions) rules) refl
document_free fluents actions (automaton contexts rules) =
    rw (names_free (map name_of actions), names_free fluents, items_free (context_rule_data fluents actions) (context_rule_free fluents actions) rules) refl
