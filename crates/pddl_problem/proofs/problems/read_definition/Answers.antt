use Rattle.std.proofs.Common.{◌≡◌, [], ◌∷◌, Some, None, codes, map, ap, sym, subst, ◌∙◌}
use Rattle.std.proofs.lemmas.Result.{err_from_is_err_and}
use Rattle.sexpr_text.specs.Flaws.{first_listed}
use Rattle.sexpr_text.specs.Forest.{Forest}
use Rattle.sexpr_text.specs.Passes.{IfFault}
use Rattle.pddl_ast.specs.declared.typed_lists.Declares.TheVariants.{Objects}
use Rattle.pddl_ast.specs.Environment.{known_value}
use Rattle.pddl_ast.specs.Known.{Known}
use Rattle.pddl_ast.specs.TypedLists.{objects_of, typed_list_flaws, typed_groups}
use Rattle.pddl_ast.specs.Values.{problem_value, atom_value, formula_value, temporal_value}
use Rattle.pddl_ast.specs.declared.trees.Named.{Named}
use Rattle.pddl_ast.specs.declared.trees.GroundAtom.{GroundAtom}
use Rattle.pddl_ast.specs.declared.trees.InitialLiteral.{InitialLiteral}
use Rattle.std.specs.declared.vec.Vec.{Vec}
use Rattle.std.specs.declared.alloc.Global.{Global}
use Rattle.std.specs.Option.{option_map}
use Rattle.pddl_problem.specs.Init.{init_facts, init_entries}
use Rattle.pddl_problem.specs.Listed.{listed_fault}
use Rattle.pddl_problem.specs.Problems.{Definition, problem_of, goal_of, ctl_of, domain_flaws, object_list, with_objects, body_passes}
use Rattle.pddl_problem.specs.Sections.{none_seen, sections_flaws, items_of}
use Rattle.pddl_problem.specs.Values.{definition_value, entry_value}
use Rattle.pddl_problem.proofs.PassLemmas.{problem-parts, listed-skip, fault-skip, fault-first}
use Rattle.pddl_problem.proofs.problems.read_definition.Goals as goal

pub returns-in_err-objects-clause-fault : goal.returns-in_err-objects-clause-fault
returns-in_err-objects-clause-fault c =
    let d : Definition = definition_value c.args.definition.now in
    let before : Known = known_value c.args.known.now in
    let objects = typed_list_flaws Objects before.types before.objects (object_list d) in
    let domain = domain_flaws c.args.domain.now (items_of (codes ":domain") d.items) in
    let body = body_passes (with_objects before (object_list d)) d in
    let no_domain : domain ≡ [] = ap (domain_flaws c.args.domain.now) (sym c.items_of.ensures) ∙ c.in_ok-check_domain.ensures.sound in
    let x = c.in_err-objects in
    let P : Forest → Type 0 = λ list. IfFault x.field-0.0 (λ f. first_listed (typed_list_flaws Objects before.types before.objects list) ≡ Some f) in
    let here : P (object_list d) = subst P c.items_of-2.ensures x.ensures.fault in
    let p = err_from_is_err_and c.from_residual-in_err-objects.result c.from_residual-in_err-objects.ensures.1 in
    rw (p.1, p.2)
    (fault-skip (sections_flaws none_seen d.items) (domain ∷ objects ∷ body) x.field-0.0 c.in_ok-check_sections.ensures.clean
    (fault-skip domain (objects ∷ body) x.field-0.0 no_domain
    (fault-first objects body x.field-0.0 here)))

pub returns-in_err-body-clause-fault : goal.returns-in_err-body-clause-fault
returns-in_err-body-clause-fault c =
    let d : Definition = definition_value c.args.definition.now in
    let before : Known = known_value c.args.known.now in
    let objects = typed_list_flaws Objects before.types before.objects (object_list d) in
    let domain = domain_flaws c.args.domain.now (items_of (codes ":domain") d.items) in
    let body = body_passes (with_objects before (object_list d)) d in
    let no_domain : domain ≡ [] = ap (domain_flaws c.args.domain.now) (sym c.items_of.ensures) ∙ c.in_ok-check_domain.ensures.sound in
    let no_objects : objects ≡ [] = ap (typed_list_flaws Objects before.types before.objects) (sym c.items_of-2.ensures) ∙ c.in_ok-objects.ensures.sound in
    let after : known_value c.read_objects.new.known ≡ with_objects before (object_list d) =
    c.in_ok-objects.ensures.known ∙ ap (with_objects before) c.items_of-2.ensures in
    let x = c.in_err-body in
    let P : Known → Type 0 = λ known. IfFault x.field-0.0 (λ f. listed_fault (body_passes known d) ≡ Some f) in
    let here : P (with_objects before (object_list d)) = subst P after x.ensures.fault in
    let p = err_from_is_err_and c.from_residual-in_err-body.result c.from_residual-in_err-body.ensures.1 in
    rw (p.1, p.2)
    (fault-skip (sections_flaws none_seen d.items) (domain ∷ objects ∷ body) x.field-0.0 c.in_ok-check_sections.ensures.clean
    (fault-skip domain (objects ∷ body) x.field-0.0 no_domain
    (fault-skip objects body x.field-0.0 no_objects here)))

pub returns-clause-sound : goal.returns-clause-sound
returns-clause-sound c =
    let d : Definition = definition_value c.args.definition.now in
    let before : Known = known_value c.args.known.now in
    let objects = typed_list_flaws Objects before.types before.objects (object_list d) in
    let domain = domain_flaws c.args.domain.now (items_of (codes ":domain") d.items) in
    let body = body_passes (with_objects before (object_list d)) d in
    let no_domain : domain ≡ [] = ap (domain_flaws c.args.domain.now) (sym c.items_of.ensures) ∙ c.in_ok-check_domain.ensures.sound in
    let no_objects : objects ≡ [] = ap (typed_list_flaws Objects before.types before.objects) (sym c.items_of-2.ensures) ∙ c.in_ok-objects.ensures.sound in
    let after : known_value c.read_objects.new.known ≡ with_objects before (object_list d) =
    c.in_ok-objects.ensures.known ∙ ap (with_objects before) c.items_of-2.ensures in
    let here : listed_fault body ≡ None = ap (λ known. listed_fault (body_passes known d)) (sym after) ∙ c.in_ok-body.ensures.sound in
    listed-skip (sections_flaws none_seen d.items) (domain ∷ objects ∷ body) c.in_ok-check_sections.ensures.clean
    ∙ (listed-skip domain (objects ∷ body) no_domain ∙ (listed-skip objects body no_objects ∙ here))

pub returns-clause-read : goal.returns-clause-read
returns-clause-read c =
    let d : Definition = definition_value c.args.definition.now in
    let before : Known = known_value c.args.known.now in
    let after : known_value c.read_objects.new.known ≡ with_objects before (object_list d) =
    c.in_ok-objects.ensures.known ∙ ap (with_objects before) c.items_of-2.ensures in
    let j = c.in_ok-joined.ensures in
    let b = c.in_ok-body.ensures in
    problem-parts (problem_value c.in_ok-joined.field-0) (problem_of before d)
    j.name
    (ap (λ (v : Vec Named Global). v.items) j.objects ∙ (c.in_ok-objects.ensures.read ∙ ap (λ list. objects_of before.types (typed_groups list)) c.items_of-2.ensures))
    (ap (λ (v : Vec GroundAtom Global). map atom_value v.items) j.facts ∙ (b.facts ∙ ap (λ known. init_facts known (items_of (codes ":init") d.items)) after))
    (ap (λ (v : Vec (Vec (Vec InitialLiteral Global) Global) Global). map entry_value v.items) j.entries ∙ (b.entries ∙ ap (λ known. init_entries known (items_of (codes ":init") d.items)) after))
    (ap (option_map formula_value) j.goal ∙ (b.goal ∙ ap (λ known. goal_of known (items_of (codes ":goal") d.items)) after))
    (ap (option_map temporal_value) j.ctl ∙ (b.ctl ∙ ap (λ known. ctl_of known (items_of (codes ":ctl-goal") d.items)) after))
    j.place
    j.ctl_place
