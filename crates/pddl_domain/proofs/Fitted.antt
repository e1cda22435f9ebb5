-- A domain that is read fits.
use Rattle.std.proofs.Common.{◌≡◌, ℕ, ◌≤◌, Bool, true, false, not, ◌&&◌, List, [], ◌++◌, refl, sym, ◌∙◌, ap, subst, arith, All, codes}
use Rattle.std.specs.Prelude.{Result, Ok, Err, IfOk, OnOk}
use Rattle.std.proofs.lemmas.List.{append-nil, length-map}
use Rattle.std.proofs.lemmas.List.Elements.{All-nil}
use Rattle.sexpr_text.specs.declared.faults.ReadErr.{ReadErr}
use Rattle.sexpr_text.specs.Forest.{Forest, nothing, word, group}
use Rattle.sexpr_text.specs.Formed.{nesting_of}
use Rattle.sexpr_text.specs.Parts.{is_name, is_definition}
use Rattle.pddl_ast.specs.declared.trees.Domain.{Domain}
use Rattle.pddl_ast.specs.declared.trees.Predicate.{Predicate}
use Rattle.pddl_ast.specs.declared.typed_lists.Declares.{Declares}
use Rattle.pddl_ast.specs.declared.typed_lists.Declares.TheVariants.{Types, Objects}
use Rattle.pddl_ast.specs.Words.{is_dash}
use Rattle.pddl_ast.specs.Known.{Known}
use Rattle.pddl_ast.specs.Depth.{formula_depth}
use Rattle.pddl_ast.specs.Fits.{AreDistinct, FitsDomain, FitsFormula, FitsSchema, IsKnown, known_in, names_of_objects}
use Rattle.pddl_ast.specs.Values.{domain_value}
use Rattle.pddl_ast.specs.TypedLists.{names_of, typed_groups, typed_list_flaws, all_seen, is_wanted}
use Rattle.pddl_ast.proofs.Fitting.{no_first, no_second}
use Rattle.pddl_ast.proofs.TreeFitting.{formula-fits}
use Rattle.pddl_ast.proofs.Objects.{names-objects, objects-fit}
use Rattle.pddl_domain.specs.Sections.{defined_name, sections_of, definition_flaws, sections_flaws, none_came}
use Rattle.pddl_domain.specs.Types.{type_names, type_parents, types_flaws, loop_flaws}
use Rattle.pddl_domain.specs.Constants.{constants_flaws, constants_of, predicates_flaws, predicates_of}
use Rattle.pddl_domain.specs.Invariant.{invariant_flaws, invariant_of}
use Rattle.pddl_domain.specs.Actions.{schemas_of}
use Rattle.pddl_domain.specs.ActionParts.{actions_flaws}
use Rattle.pddl_domain.specs.Domains.{domain_tree, types_section, constants_section, predicates_section, invariant_section, types_in, known_of}
use Rattle.pddl_domain.specs.Reading.{typed_flaws, declared_flaws, vocabulary_flaws, stated_flaws, contents_flaws, all_section_flaws, domain_flaws, tree_of}
use Rattle.pddl_domain.proofs.ListLemmas.{all_objects}
use Rattle.pddl_domain.proofs.TypeLemmas.{some_type, parents_below}
use Rattle.pddl_domain.proofs.PassLemmas.{actions_in_turn, tree_is}
use Rattle.pddl_domain.proofs.FitTypes.{types-differ, types-no_dash, group-words, one_parent, NoDash}
use Rattle.pddl_domain.proofs.FitLoops.{rooted, names-unlooped, NoLoop}
use Rattle.pddl_domain.proofs.FitNames.{name-fits, predicates-fit, predicates-differ}
use Rattle.pddl_domain.proofs.FitActions.{TreeLaws, ActionsFit, actions-fit, nest-section, nest-sections_of}

-- what is known of typed lists without flaws
pub record ListLaws : Type 0 where
  pub different : (declares : Declares) (types before : List (List ℕ)) (list : Forest) → AreDistinct before → typed_list_flaws declares types before list ≡ []
      → AreDistinct (all_seen declares (names_of (typed_groups list)) before)
  pub wanted : (declares : Declares) (types before : List (List ℕ)) (list : Forest) → AreDistinct before → typed_list_flaws declares types before list ≡ []
      → All (λ name. is_wanted declares name ≡ true) (names_of (typed_groups list))

-- no pass over the sections has a flaw
pub record Flawless (sections : Forest) : Type 0 where
  pub types : types_flaws (types_section sections) ≡ []
  pub loops : loop_flaws (types_section sections) ≡ []
  pub constants : constants_flaws (types_in sections) (constants_section sections) ≡ []
  pub predicates : predicates_flaws (types_in sections) [] (predicates_section sections) ≡ []
  pub invariant : invariant_flaws (known_of sections) (invariant_section sections) ≡ []
  pub actions : actions_flaws (known_of sections) [] sections ≡ []

pub flawless : (forms : Forest) → domain_flaws forms ≡ [] → Flawless (sections_of forms)
unfolding domain_flaws all_section_flaws contents_flaws stated_flaws vocabulary_flaws declared_flaws typed_flaws
flawless forms h =
    let sections = sections_of forms in
    let t = types_flaws (types_section sections) in
    let l = loop_flaws (types_section sections) in
    let c = constants_flaws (types_in sections) (constants_section sections) in
    let p = predicates_flaws (types_in sections) [] (predicates_section sections) in
    let i = invariant_flaws (known_of sections) (invariant_section sections) in
    let a = actions_flaws (known_of sections) [] sections in
    let s = sections_flaws none_came sections in
    let all : s ++ (((t ++ l) ++ (c ++ p)) ++ (i ++ a)) ≡ [] = no_second (definition_flaws forms) (s ++ (((t ++ l) ++ (c ++ p)) ++ (i ++ a))) h in
    let contents : ((t ++ l) ++ (c ++ p)) ++ (i ++ a) ≡ [] = no_second s (((t ++ l) ++ (c ++ p)) ++ (i ++ a)) all in
    let vocabulary : (t ++ l) ++ (c ++ p) ≡ [] = no_first ((t ++ l) ++ (c ++ p)) (i ++ a) contents in
    let stated : i ++ a ≡ [] = no_second ((t ++ l) ++ (c ++ p)) (i ++ a) contents in
    let typed : t ++ l ≡ [] = no_first (t ++ l) (c ++ p) vocabulary in
    let declared : c ++ p ≡ [] = no_second (t ++ l) (c ++ p) vocabulary in
    record {
      types = no_first t l typed;
      loops = no_second t l typed;
      constants = no_first c p declared;
      predicates = no_second c p declared;
      invariant = no_first i a stated;
      actions = no_second i a stated;
    }

known-is : (forms : Forest) → known_in (domain_tree forms) ≡ known_of (sections_of forms)
known-is forms =
    let sections = sections_of forms in
    let constants = constants_of (types_in sections) (constants_section sections) in
    ap (λ (objects : List (List ℕ)). record (known_of sections) { objects = objects })
    (ap names_of_objects (append-nil constants) ∙ names-objects (types_in sections) (typed_groups (constants_section sections)))

left_of : (a b : Bool) → (a && b) ≡ true → a ≡ true
left_of true b h = refl
left_of false b h = absurd (cc)

not_dash : (b : Bool) → not b ≡ true → b ≡ false
not_dash true h = absurd (cc)
not_dash false h = refl

name-no_dash : (w : List ℕ) → is_name w ≡ true → NoDash w
unfolding is_dash
name-no_dash w h = not_dash _ (left_of _ _ (left_of _ _ h))

-- the invariant, and how deep it is
pub record InvariantFits (known : Known) (row : Forest) : Type 0 where
  pub formula : FitsFormula known (invariant_of known row) 0
  pub depth : formula_depth (invariant_of known row) ≤ 200

invariant-fits : (known : Known) (row : Forest) → IsKnown known → nesting_of row ≤ 200 → invariant_flaws known row ≡ [] → InvariantFits known row
invariant-fits known nothing ok nest none = record { formula = tt; depth = omega arith }
invariant-fits known (word span w rest) ok nest none = record { formula = tt; depth = omega arith }
invariant-fits known (group span parts rest) ok nest none =
    let fits = formula-fits known parts span [] ok none in
    let deep = fits.1 in
    record { formula = fits.0; depth = omega (arith, deep, nest) }

pub fits : ListLaws → TreeLaws → (forms : Forest) → nesting_of forms ≤ 200 → domain_flaws forms ≡ [] → FitsDomain (domain_tree forms)
fits lists trees forms nest none =
    let sections = sections_of forms in
    let clean = flawless forms none in
    let list = types_section sections in
    let groups = typed_groups list in
    let differ : AreDistinct (all_seen Types (names_of groups) []) = lists.different Types [] [] list tt clean.types in
    let wanted = lists.wanted Types [] [] list tt clean.types in
    let unlooped : All (NoLoop (type_names groups) (type_parents groups)) (names_of groups) =
    names-unlooped (type_names groups) (type_parents groups) list [] false [] clean.loops clean.types (All-nil (NoLoop (type_names groups) (type_parents groups))) in
    let known = known_of sections in
    let objects = names_of (typed_groups (constants_section sections)) in
    let objects_differ : AreDistinct objects = subst AreDistinct (all_objects objects) (lists.different Objects (types_in sections) [] (constants_section sections) tt clean.constants) in
    let ok : IsKnown known = record {
      some_type = some_type groups;
      arities = length-map (predicates_of (predicates_section sections)) (λ (p : Predicate). p.arity) ∙ sym (length-map (predicates_of (predicates_section sections)) (λ (p : Predicate). p.name));
    } in
    let shallow : nesting_of sections ≤ 200 = nest-sections_of (is_definition (codes "domain")) forms 200 nest in
    let invariant : InvariantFits known (invariant_section sections) =
    invariant-fits known (invariant_section sections) ok (nest-section (codes ":invariant") sections 200 shallow) clean.invariant in
    let actions : ActionsFit known [] sections =
    actions-fit trees sections known [] ok shallow (sym (actions_in_turn known sections []) ∙ clean.actions) in
    record {
      name = name-fits forms;
      type_words = types-no_dash groups (group-words list clean.types) (λ k d lt. name-no_dash _ (wanted k d lt));
      types_differ = types-differ groups;
      some_type = some_type groups;
      one_parent = one_parent groups differ;
      parents = parents_below groups;
      rooted = rooted groups differ unlooped;
      constants = objects-fit (types_in sections) (typed_groups (constants_section sections)) (some_type groups)
          (lists.wanted Objects (types_in sections) [] (constants_section sections) tt clean.constants);
      constants_differ = subst AreDistinct (sym (names-objects (types_in sections) (typed_groups (constants_section sections)))) objects_differ;
      predicate_names = predicates-fit (predicates_section sections) (types_in sections) [] clean.predicates;
      predicates_differ = predicates-differ (predicates_section sections) (types_in sections) [] clean.predicates tt;
      actions = subst (λ (k : Known). All (FitsSchema k) (schemas_of known sections)) (sym (known-is forms)) actions.schemas;
      actions_differ = actions.distinct tt;
      invariant = subst (λ (k : Known). FitsFormula k (invariant_of known (invariant_section sections)) 0) (sym (known-is forms)) invariant.formula;
      invariant_depth = invariant.depth;
    }

pub read_fits : ListLaws → TreeLaws → (forms : Forest) → nesting_of forms ≤ 200 → (r : Result Domain ReadErr)
    → OnOk r (domain_flaws forms ≡ []) → IfOk r (λ d. domain_value d ≡ tree_of (defined_name forms) (sections_of forms))
    → IfOk r (λ d. FitsDomain (domain_value d))
read_fits lists trees forms nest (Ok d) sound read = subst FitsDomain (sym (read ∙ tree_is forms)) (fits lists trees forms nest sound)
read_fits lists trees forms nest (Err e) sound read = tt
