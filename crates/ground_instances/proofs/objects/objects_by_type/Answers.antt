use Rattle.std.proofs.Common.{◌≡◌, ◌∙◌, ◌<◌, ℕ, List, ap, get_or, length, map, subst, sym}
use Rattle.std.specs.Prelude.{All}
use Rattle.pddl_ast.specs.Values.{domain_value, problem_value}
use Rattle.pddl_system.specs.Objects.{all_objects}
use Rattle.ground_instances.specs.Entering.{entered, list_of}
use Rattle.ground_instances.specs.Groups.{AreGroups}
use Rattle.ground_instances.proofs.EnteringLemmas.{all_entered, types_known}
use Rattle.ground_instances.proofs.objects.objects_by_type.Goals as goal

pub groups_of-requires-clause-types : goal.groups_of-requires-clause-types
groups_of-requires-clause-types c =
    let types = c.in_ok-types.types.items in
    let parents = c.as_slice.result.now in
    let known : All (λ t. t < length c.args.domain.now.parents.items) types =
    subst (λ (xs : List ℕ). All (λ t. t < length c.args.domain.now.parents.items) xs) (sym c.in_ok-types.ensures)
    (types_known (domain_value c.args.domain.now) (problem_value c.args.problem.now) c.requires.fits_domain c.requires.fits_problem) in
    subst (λ (xs : List ℕ). All (λ t. t < length parents) xs) (sym c.deref.ensures.value)
    (subst (λ (ps : List ℕ). All (λ t. t < length ps) types) (sym c.as_slice.ensures.value) known)

pub lists_by_top-requires-clause-types : goal.lists_by_top-requires-clause-types
lists_by_top-requires-clause-types c =
    let types = c.in_ok-types.types.items in
    let above = c.deref-3.result.now in
    let known : All (λ t. t < length c.args.domain.now.parents.items) types =
    subst (λ (xs : List ℕ). All (λ t. t < length c.args.domain.now.parents.items) xs) (sym c.in_ok-types.ensures)
    (types_known (domain_value c.args.domain.now) (problem_value c.args.problem.now) c.requires.fits_domain c.requires.fits_problem) in
    let many : length c.args.domain.now.parents.items ≡ length above =
    ap (λ xs. length xs) (sym c.as_slice.ensures.value) ∙ sym c.in_ok-groups.ensures.all_above ∙ ap (λ xs. length xs) (sym c.deref-3.ensures.value) in
    subst (λ (xs : List ℕ). All (λ t. t < length above) xs) (sym c.deref-4.ensures.value) (subst (λ n. All (λ t. t < n) types) many known)

pub returns : goal.returns
returns c = λ t.
    let d = domain_value c.args.domain.now in
    let p = problem_value c.args.problem.now in
    let parents = c.args.domain.now.parents.items in
    let types = c.in_ok-types.types.items in
    let tops = c.in_ok-groups.groups.tops.items in
    let above = c.in_ok-groups.groups.parents.items in
    let lists = c.in_ok-lists.lists.items in
    let made : (u : ℕ) → u < length above → list_of lists u ≡ entered above (map (λ k. get_or tops k 0) types) 0 u =
    λ u h. c.in_ok-lists.ensures u (subst (λ (xs : List ℕ). u < length xs) (sym c.deref-3.ensures.value) h)
    ∙ ap (λ (xs : List ℕ). entered xs (map (λ k. get_or c.deref-2.result.now k 0) c.deref-4.result.now) 0 u) c.deref-3.ensures.value
    ∙ ap (λ (xs : List ℕ). entered above (map (λ k. get_or xs k 0) c.deref-4.result.now) 0 u) c.deref-2.ensures.value
    ∙ ap (λ (xs : List ℕ). entered above (map (λ k. get_or tops k 0) xs) 0 u) c.deref-4.ensures.value in
    let groups : AreGroups parents types tops above =
    subst (λ (ps : List ℕ). AreGroups ps types tops above) c.as_slice.ensures.value
    (subst (λ (xs : List ℕ). AreGroups c.as_slice.result.now xs tops above) c.deref.ensures.value c.in_ok-groups.ensures) in
    all_entered parents tops above types (all_objects d p) lists t c.in_ok-types.ensures
    (λ k e h. subst (λ n. get_or parents k e < n) (sym c.requires.fits_domain.one_parent) (c.requires.fits_domain.parents k e h))
    (subst (λ (xs : List ℕ). All (λ u. u < length parents) xs) (sym c.in_ok-types.ensures) (types_known d p c.requires.fits_domain c.requires.fits_problem))
    groups made
