-- Bindings and outcomes are as many as is counted.
use Rattle.std.proofs.Common.{◌≡◌, ℕ, ◌+◌, ◌*◌, ◌^◌, List, [], ◌∷◌, ◌++◌, map, length, refl, sym, ◌∙◌, ap}
use Rattle.std.proofs.lemmas.List.{length-append, length-map}
use Rattle.std.proofs.Math.Nat.{mul_comm, pow-suc, pow-zero}
use Rattle.pddl_ast.specs.Trees.{EffectTree, EffectTrees, add, delete, both, one_of, only_when, each, no_effect, effect_then}
use Rattle.pddl_system.specs.Laws.{BindingsAreCounted, OutcomesAreCounted}
use Rattle.pddl_system.specs.Objects.{bindings}
use Rattle.pddl_system.specs.Outcomes.{OutcomeTree, outcomes, outcomes_of_both, outcomes_of_either, products, product_of_all}
use Rattle.pddl_system.specs.Sizes.{binding_count, outcome_count, product_of_counts, sum_of_counts}
use Rattle.pddl_system.proofs.Lists.{length-flat_map_of}

pub bindings_are_counted : BindingsAreCounted
bindings_are_counted objects [] = refl
bindings_are_counted objects (t ∷ ts) =
    length-flat_map_of (λ o. map (λ rest. o ∷ rest) (bindings objects ts)) (binding_count objects ts)
    (λ o. length-map (bindings objects ts) (λ rest. o ∷ rest) ∙ bindings_are_counted objects ts) (objects t)

length-products : (firsts seconds : List OutcomeTree) → length (products firsts seconds) ≡ length firsts * length seconds
length-products firsts seconds =
    length-flat_map_of (λ first. map (λ second. first ++ second) seconds) (length seconds)
    (λ first. length-map seconds (λ second. first ++ second)) firsts

-- the product of n lists, each of c outcomes
length-product_of : {X : Type 0} (f : X → List OutcomeTree) (c : ℕ) → ((x : X) → length (f x) ≡ c) → (xs : List X)
    → length (product_of_all (map f xs)) ≡ c ^ length xs
length-product_of f c same [] = sym (pow-zero c)
length-product_of f c same (x ∷ xs) =
    length-products (f x) (product_of_all (map f xs))
    ∙ ap (λ n. n * length (product_of_all (map f xs))) (same x)
    ∙ ap (λ n. c * n) (length-product_of f c same xs)
    ∙ (mul_comm c (c ^ length xs) ∙ sym (pow-suc c (length xs)))

module _ (objects : ℕ → List ℕ) where
  mutual
    outcomes_counted : (e : EffectTree) (scope : List ℕ) → length (outcomes objects e scope) ≡ outcome_count objects e
    outcomes_counted (add predicate terms) scope = refl
    outcomes_counted (delete predicate terms) scope = refl
    outcomes_counted (both parts) scope = both_counted parts scope
    outcomes_counted (one_of parts) scope = either_counted parts scope
    outcomes_counted (only_when formula part) scope =
        length-map (outcomes objects part scope) _ ∙ outcomes_counted part scope
    outcomes_counted (each types part) scope =
        length-product_of (λ chosen. outcomes objects part (scope ++ chosen)) (outcome_count objects part)
        (λ chosen. outcomes_counted part (scope ++ chosen)) (bindings objects types)
        ∙ ap (λ n. outcome_count objects part ^ n) (bindings_are_counted objects types)

    both_counted : (es : EffectTrees) (scope : List ℕ) → length (outcomes_of_both objects es scope) ≡ product_of_counts objects es
    both_counted no_effect scope = refl
    both_counted (effect_then e es) scope =
        length-products (outcomes objects e scope) (outcomes_of_both objects es scope)
        ∙ ap (λ n. n * length (outcomes_of_both objects es scope)) (outcomes_counted e scope)
        ∙ ap (λ n. outcome_count objects e * n) (both_counted es scope)

    either_counted : (es : EffectTrees) (scope : List ℕ) → length (outcomes_of_either objects es scope) ≡ sum_of_counts objects es
    either_counted no_effect scope = refl
    either_counted (effect_then e es) scope =
        length-append (outcomes objects e scope) (outcomes_of_either objects es scope)
        ∙ ap (λ n. n + length (outcomes_of_either objects es scope)) (outcomes_counted e scope)
        ∙ ap (λ n. outcome_count objects e + n) (either_counted es scope)

pub outcomes_are_counted : OutcomesAreCounted
outcomes_are_counted objects e scope = outcomes_counted objects e scope
