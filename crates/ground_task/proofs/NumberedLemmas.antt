-- Instances by the numbers of their actions.
use Rattle.std.proofs.Common.{◌≡◌, ℕ, zero, suc, ◌+◌, ◌<◌, Bool, true, false, ◌&&◌, List, [], ◌∷◌, map, length, get_or, drop, Some, ap, sym, ◌∙◌, arith, add-one}
use Rattle.std.specs.Prelude.{nat_le, slice_get}
use Rattle.std.specs.List.{list_all}
use Rattle.std.specs.Option.{option_map}
use Rattle.std.proofs.lemmas.List.{get_or-map, length-map}
use Rattle.pddl_ast.specs.Trees.{SchemaTree, DomainTree}
use Rattle.pddl_system.specs.Instances.{Instance as InstanceTree}
use Rattle.pddl_system.specs.Outcomes.{outcomes_of}
use Rattle.pddl_system.specs.Settings.{Setting}
use Rattle.pddl_system.specs.Sizes.{most_outcomes_of_one}
use Rattle.pddl_system.proofs.Counts.{outcomes_are_counted}
use Rattle.ground_instances.specs.Kept.{instance_of}
use Rattle.ground_instances.specs.declared.instances.Instance.{Instance}
use Rattle.ground_task.specs.Capped.{has_few}

schema_is : (a b : InstanceTree) → Some a ≡ Some b → b.schema ≡ a.schema
schema_is a b e = cc

-- the instance that is found by its action's number has that action
pub picked : (objects : List ℕ) (schemas : List SchemaTree) (n : ℕ) (k : InstanceTree)
    → option_map (λ (s : SchemaTree). let i : InstanceTree = record { schema = s; objects = objects } in i) (slice_get schemas n) ≡ Some k
    → (n < length schemas) × (k.schema ≡ get_or schemas n k.schema)
picked objects [] n k is = cc
picked objects (s ∷ schemas) zero k is = (omega arith, schema_is (record { schema = s; objects = objects }) k is)
picked objects (s ∷ schemas) (suc n) k is = let rest = picked objects schemas n k is in (omega (arith, rest.0), rest.1)

-- what is known of the action, at its number
pub read_at_action : (d : DomainTree) (at : Setting) (few : List Bool) (item : Instance) (k : InstanceTree) (r : Bool)
    → few ≡ map (has_few at) d.actions → instance_of d item ≡ Some k
    → (item.action < length few) × (r ≡ get_or few item.action r → r ≡ nat_le (length (outcomes_of at k)) most_outcomes_of_one)
read_at_action d at few item k r made is =
    let there = picked item.objects.items d.actions item.action k is in
    let n : length few ≡ length d.actions = ap length made ∙ length-map d.actions (has_few at) in (
      omega (arith, there.0),
      λ read. read ∙ ap (λ l. get_or l item.action r) made
          ∙ get_or-map (has_few at) d.actions item.action k.schema r there.0
          ∙ ap (has_few at) (sym there.1)
          ∙ ap (λ c. nat_le c most_outcomes_of_one) (sym (outcomes_are_counted at.objects k.schema.effect k.objects)),
    )

pub all_fails : {X : Type 0} (test : X → Bool) (xs : List X) (i : ℕ) (x : X) (whole : Bool) → drop i xs ≡ x ∷ drop (suc i) xs → test x ≡ false → list_all test (drop i xs) ≡ whole → false ≡ whole
all_fails test xs i x whole here fails so_far = sym (ap (list_all test) here ∙ ap (λ b. b && list_all test (drop (suc i) xs)) fails) ∙ so_far

pub all_passes : {X : Type 0} (test : X → Bool) (xs : List X) (i : ℕ) (x : X) (whole : Bool) → drop i xs ≡ x ∷ drop (suc i) xs → test x ≡ true → list_all test (drop i xs) ≡ whole → list_all test (drop (i + 1) xs) ≡ whole
all_passes test xs i x whole here passes so_far =
    ap (λ n. list_all test (drop n xs)) (add-one i)
    ∙ sym (ap (list_all test) here ∙ ap (λ b. b && list_all test (drop (suc i) xs)) passes) ∙ so_far
