-- The domain of the tests fits.
use Rattle.std.proofs.Common.{◌≡◌, ℕ, zero, suc, ◌<◌, List, [], ◌∷◌, codes, refl, sym, subst, arith, true, false}
use Rattle.std.proofs.lemmas.List.Elements.{All-from_recursion, All-nil}
use Rattle.std.specs.Prelude.{length}
use Rattle.sexpr_text.specs.Parts.{is_name}
use Rattle.pddl_ast.specs.declared.trees.Named.{Named}
use Rattle.pddl_ast.specs.declared.trees.Predicate.{Predicate}
use Rattle.pddl_ast.specs.Fits.{FitsDomain, FitsSchema, ancestor, known_in}
use Rattle.pddl_ast.specs.Formulas.{always}
use Rattle.pddl_ast.specs.Trees.{DomainTree, SchemaTree, FormulaTree}
use Rattle.pddl_ast.specs.Words.{is_dash, is_reserved, keyword_of}

abbrev pub town_types : List (List ℕ)
town_types = codes "object" ∷ codes "place" ∷ []

abbrev pub town_parents : List ℕ
town_parents = 0 ∷ 0 ∷ []

abbrev pub town_constants : List Named
town_constants = record { name = codes "hub"; type_id = 1 } ∷ []

abbrev pub town_predicates : List Predicate
town_predicates = record { name = codes "p"; arity = 0 } ∷ record { name = codes "at"; arity = 1 } ∷ record { name = codes "road"; arity = 2 } ∷ record { name = codes "af"; arity = 1 } ∷ []

abbrev pub town_of : List ℕ → List (List ℕ) → List ℕ → List Named → List Predicate → List SchemaTree → FormulaTree → DomainTree
town_of name types parents constants predicates actions invariant =
    record { name = name; type_names = types; parents = parents; constants = constants; predicates = predicates; actions = actions; invariant = invariant }

abbrev pub town_tree : DomainTree
town_tree = town_of (codes "d") town_types town_parents town_constants town_predicates [] always

town-rooted : (t : ℕ) → t < length town_types → ancestor town_parents 2 t ≡ 0
town-rooted zero h = refl
town-rooted (suc zero) h = refl
town-rooted (suc (suc n)) h = refl

town-fits : FitsDomain town_tree
unfolding is_dash keyword_of
town-fits = record {
  name = refl;
  type_words = All-from_recursion (λ w. is_dash w ≡ false) town_types (refl, (refl, tt));
  types_differ = (refl, (refl, tt));
  some_type = omega arith;
  one_parent = refl;
  parents = All-from_recursion (λ t. t < 2) town_parents (omega arith, (omega arith, tt));
  rooted = town-rooted;
  constants = All-from_recursion (λ (n : Named). (is_name n.name ≡ true) × (n.type_id < 2)) town_constants ((refl, omega arith), tt);
  constants_differ = (refl, tt);
  predicate_names = All-from_recursion (λ (p : Predicate). (is_name p.name ≡ true) × (is_reserved p.name ≡ false)) town_predicates ((refl, refl), ((refl, refl), ((refl, refl), ((refl, refl), tt))));
  predicates_differ = (refl, (refl, (refl, (refl, tt))));
  actions = All-nil (FitsSchema (known_in town_tree));
  actions_differ = tt;
  invariant = tt;
  invariant_depth = omega arith;
}

-- a domain of these parts
pub town-made : (name : List ℕ) (types : List (List ℕ)) (parents : List ℕ) (constants : List Named) (predicates : List Predicate) (actions : List SchemaTree) (invariant : FormulaTree)
    → name ≡ codes "d" → types ≡ town_types → parents ≡ town_parents → constants ≡ town_constants → predicates ≡ town_predicates → actions ≡ []
    → invariant ≡ always → FitsDomain (town_of name types parents constants predicates actions invariant)
town-made name types parents constants predicates actions invariant a b c d e f g =
    subst (λ x. FitsDomain (town_of x types parents constants predicates actions invariant)) (sym a)
    (subst (λ x. FitsDomain (town_of (codes "d") x parents constants predicates actions invariant)) (sym b)
    (subst (λ x. FitsDomain (town_of (codes "d") town_types x constants predicates actions invariant)) (sym c)
    (subst (λ x. FitsDomain (town_of (codes "d") town_types town_parents x predicates actions invariant)) (sym d)
    (subst (λ x. FitsDomain (town_of (codes "d") town_types town_parents town_constants x actions invariant)) (sym e)
    (subst (λ x. FitsDomain (town_of (codes "d") town_types town_parents town_constants town_predicates x invariant)) (sym f)
    (subst (λ x. FitsDomain (town_of (codes "d") town_types town_parents town_constants town_predicates [] x)) (sym g) town-fits))))))
