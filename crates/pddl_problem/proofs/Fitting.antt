-- A problem whose passes list no flaw fits its domain.
use Rattle.std.proofs.Common.{◌≡◌, ℕ, ◌+◌, ◌<◌, ◌≤◌, Bool, true, false, List, [], ◌∷◌, ◌++◌, length, ap, sym, refl, subst, ◌∙◌, arith, codes, Some, None}
use Rattle.std.proofs.lemmas.List.{append-nil, map-append, length-map}
use Rattle.std.proofs.lemmas.List.Elements.{All-nil, All-cons, All-append}
use Rattle.std.specs.Prelude.{All, Option, if◌then◌else◌, ◌&&◌, max, IfSome}
use Rattle.std.specs.Option.{option_map, option_map_or, option_and_then, is_some, unwrap_or}
use Rattle.std.specs.Str.{bytes_eq}
use Rattle.sexpr_text.specs.declared.forms.Span.{Span}
use Rattle.sexpr_text.specs.declared.faults.FaultKind.TheVariants.{EmptyOneof}
use Rattle.sexpr_text.specs.Flaws.{Flaw, flaw_at}
use Rattle.sexpr_text.specs.Forest.{Forest, nothing, word, group}
use Rattle.sexpr_text.specs.Formed.{nesting_of}
use Rattle.sexpr_text.specs.Parts.{is_nothing, is_name, is_titled, is_definition, begins_with, after_first, after_word, first_group_with, flaws_of_groups, each_group}
use Rattle.pddl_ast.specs.declared.keywords.Keyword.{Keyword}
use Rattle.pddl_ast.specs.declared.keywords.Keyword.TheVariants.{And, Or, Not, Imply, Exists, Forall, Equals, When, Oneof, Unknown, Other}
use Rattle.pddl_ast.specs.declared.trees.Named.{Named}
use Rattle.pddl_ast.specs.declared.trees.Predicate.{Predicate}
use Rattle.pddl_ast.specs.declared.typed_lists.Declares.TheVariants.{Objects}
use Rattle.pddl_ast.specs.Atoms.{ground_atom}
use Rattle.pddl_ast.specs.Depth.{formula_depth, temporal_depth}
use Rattle.pddl_ast.specs.Fits.{AreDistinct, FitsDomain, FitsEntry, FitsFormula, FitsGroundAtom, FitsLiterals, FitsProblem, FitsTemporal, IsKnown, deepest, known_in, known_with, names_of_objects}
use Rattle.pddl_ast.specs.Known.{Known}
use Rattle.pddl_ast.specs.Trees.{AtomTree, LiteralTree, DomainTree}
use Rattle.pddl_ast.specs.TypedLists.{is_wanted, names_of, objects_of, typed_groups, typed_list_flaws}
use Rattle.pddl_ast.specs.Words.{keyword_of}
use Rattle.pddl_ast.proofs.Fitting.{no_first, no_second, ground_atom-fits, where_false}
use Rattle.pddl_ast.proofs.Objects.{names-objects, objects-fit}
use Rattle.pddl_ast.proofs.ListFitting.{names-fine, objects-seen}
use Rattle.pddl_ast.proofs.TreeFitting.{formula-fits}
use Rattle.pddl_ast.proofs.GoalFitting.{temporal-fits}
use Rattle.pddl_problem.specs.Init.{AtomForm, atom_under, form_atom, form_flaws, under_atom, bad_form, left_out, positive, negative, part_flaws_by, part_flaws, part_literal_by, part_literal, alternative_flaws_by, alternative_flaws, alternative_by, alternative, entry_flaws_by, entry_flaws, facts_by, uncertain_by, entry_facts, entry_uncertain, either_way, each_entry, init_flaws, init_facts, init_entries}
use Rattle.pddl_problem.specs.Listed.{listed_fault}
use Rattle.pddl_ast.specs.Definitions.{title_of}
use Rattle.pddl_problem.specs.Problems.{Definition, definition_in, defined, object_list, with_objects, goal_flaws, goal_of, ctl_flaws, ctl_of, body_passes, definition_passes, problem_of, domain_flaws, missing_flaws}
use Rattle.pddl_problem.specs.Sections.{none_seen, sections_flaws, section, items_of}
use Rattle.list_laws.proofs.Booleans.{and_first, and_second}

-- passes without a flaw: the first has none, and neither have the others
no_listed : (flaws : List Flaw) (passes : List (List Flaw)) → listed_fault (flaws ∷ passes) ≡ None → (flaws ≡ []) × (listed_fault passes ≡ None)
no_listed [] passes h = (refl, h)
no_listed (f ∷ fs) passes h = cc

-- objects
before-names : (d : DomainTree) → (known_in d).objects ≡ names_of_objects d.constants
before-names d = ap names_of_objects (append-nil d.constants)

added-names : (d : DomainTree) (list : Forest) → let objects = objects_of d.type_names (typed_groups list) in
    (known_with d objects).objects ≡ (known_in d).objects ++ names_of (typed_groups list)
added-names d list =
    let groups = typed_groups list in
    map-append (λ (n : Named). n.name) d.constants (objects_of d.type_names groups)
    ∙ (ap (λ ns. names_of_objects d.constants ++ ns) (names-objects d.type_names groups)
    ∙ ap (λ ns. ns ++ names_of groups) (sym (before-names d)))

same-known : (d : DomainTree) (list : Forest) → with_objects (known_in d) list ≡ known_with d (objects_of d.type_names (typed_groups list))
same-known d list =
    let before : Known = known_in d in
    ap (λ (objects : List (List ℕ)). record before { objects = objects }) (sym (added-names d list))

known-fits : (d : DomainTree) (objects : List Named) → FitsDomain d → IsKnown (known_with d objects)
known-fits d objects h = record {
  some_type = h.some_type;
  arities = length-map d.predicates (λ (p : Predicate). p.arity) ∙ sym (length-map d.predicates (λ (p : Predicate). p.name));
}

-- atoms, parts, alternatives and entries
under-fits : (known : Known) (span : Span) → IsKnown known → (o : Option AtomForm) → option_map_or (form_flaws known) o (bad_form span) ≡ []
    → FitsGroundAtom known (option_map_or (form_atom known) o (record { predicate = 0; objects = [] }))
under-fits known span k None h = cc
under-fits known span k (Some a) h = ground_atom-fits known a.span a.head_span a.head a.terms k h

never_empty : (span : Span) (w : List ℕ) (b : Bool) → (if b then left_out span w else bad_form span) ≡ [] → ⊥
never_empty span w true h = cc
never_empty span w false h = cc

part_by-fits : (known : Known) (span s : Span) (w : List ℕ) (rest : Forest) (keyword : Keyword) → IsKnown known → part_flaws_by known span s w rest keyword ≡ []
    → FitsGroundAtom known (part_literal_by known w rest keyword).atom
part_by-fits known span s w rest Other k h = ground_atom-fits known span s w rest k h
part_by-fits known span s w rest Not k h = under-fits known span k (atom_under rest) h
part_by-fits known span s w rest Unknown k h = absurd (never_empty span w (is_some (atom_under rest)) h)
part_by-fits known span s w rest And k h = absurd (cc)
part_by-fits known span s w rest Or k h = absurd (cc)
part_by-fits known span s w rest Imply k h = absurd (cc)
part_by-fits known span s w rest Exists k h = absurd (cc)
part_by-fits known span s w rest Forall k h = absurd (cc)
part_by-fits known span s w rest Equals k h = absurd (cc)
part_by-fits known span s w rest When k h = absurd (cc)
part_by-fits known span s w rest Oneof k h = absurd (cc)

part-fits : (known : Known) → IsKnown known → (span : Span) (parts : Forest) → part_flaws known span parts ≡ [] → FitsGroundAtom known (part_literal known parts).atom
part-fits known k span nothing h = absurd (cc)
part-fits known k span (group s ps rest) h = absurd (cc)
part-fits known k span (word s w rest) h = part_by-fits known span s w rest (keyword_of w) k h

groups-fit : {X : Type 0} (P : X → Type 0) (flaws : Span → Forest → List Flaw) (tree : Forest → X) → ((span : Span) (parts : Forest) → flaws span parts ≡ [] → P (tree parts))
    → (row : Forest) → flaws_of_groups flaws row ≡ [] → All P (each_group tree row)
groups-fit P flaws tree each nothing h = All-nil P
groups-fit P flaws tree each (word span w rest) h = absurd (cc)
groups-fit P flaws tree each (group span parts rest) h =
    All-cons P (tree parts) (each_group tree rest) (each span parts (no_first (flaws span parts) (flaws_of_groups flaws rest) h))
    (groups-fit P flaws tree each rest (no_second (flaws span parts) (flaws_of_groups flaws rest) h))

some-groups : {X : Type 0} (flaws : Span → Forest → List Flaw) (tree : Forest → X) (row : Forest) → is_nothing row ≡ false → flaws_of_groups flaws row ≡ []
    → 0 < length (each_group tree row)
some-groups flaws tree nothing n h = absurd (cc)
some-groups flaws tree (word span w rest) n h = absurd (cc)
some-groups flaws tree (group span parts rest) n h = grind arith

one_literal : (known : Known) (l : LiteralTree) → FitsGroundAtom known l.atom → FitsLiterals known (l ∷ [])
one_literal known l h = All-cons (λ (l : LiteralTree). FitsGroundAtom known l.atom) l [] h (All-nil (λ (l : LiteralTree). FitsGroundAtom known l.atom))

alternative_by-fits : (known : Known) (span s : Span) (w : List ℕ) (rest : Forest) (keyword : Keyword) → IsKnown known → alternative_flaws_by known span s w rest keyword ≡ []
    → FitsLiterals known (alternative_by known w rest keyword)
alternative_by-fits known span s w rest And k h =
    groups-fit (λ (l : LiteralTree). FitsGroundAtom known l.atom) (part_flaws known) (part_literal known) (part-fits known k) rest h
alternative_by-fits known span s w rest Not k h = one_literal known (part_literal_by known w rest Not) (part_by-fits known span s w rest Not k h)
alternative_by-fits known span s w rest Other k h = one_literal known (part_literal_by known w rest Other) (part_by-fits known span s w rest Other k h)
alternative_by-fits known span s w rest Unknown k h = one_literal known (part_literal_by known w rest Unknown) (part_by-fits known span s w rest Unknown k h)
alternative_by-fits known span s w rest Or k h = absurd (cc)
alternative_by-fits known span s w rest Imply k h = absurd (cc)
alternative_by-fits known span s w rest Exists k h = absurd (cc)
alternative_by-fits known span s w rest Forall k h = absurd (cc)
alternative_by-fits known span s w rest Equals k h = absurd (cc)
alternative_by-fits known span s w rest When k h = absurd (cc)
alternative_by-fits known span s w rest Oneof k h = absurd (cc)

alternative-fits : (known : Known) → IsKnown known → (span : Span) (parts : Forest) → alternative_flaws known span parts ≡ [] → FitsLiterals known (alternative known parts)
alternative-fits known k span nothing h = All-nil (λ (l : LiteralTree). FitsGroundAtom known l.atom)
alternative-fits known k span (group s ps rest) h = absurd (cc)
alternative-fits known k span (word s w rest) h = alternative_by-fits known span s w rest (keyword_of w) k h

facts_by-fit : (known : Known) (span s : Span) (w : List ℕ) (rest : Forest) (keyword : Keyword) → IsKnown known → entry_flaws_by known span s w rest keyword ≡ []
    → All (FitsGroundAtom known) (facts_by known w rest keyword)
facts_by-fit known span s w rest Other k h =
    All-cons (FitsGroundAtom known) (ground_atom known w rest) [] (ground_atom-fits known span s w rest k h) (All-nil (FitsGroundAtom known))
facts_by-fit known span s w rest _ k h = All-nil (FitsGroundAtom known)

one_entry : (known : Known) (entry : List (List LiteralTree)) → FitsEntry known entry → All (FitsEntry known) (entry ∷ [])
one_entry known entry h = All-cons (FitsEntry known) entry [] h (All-nil (FitsEntry known))

either_way-fits : (known : Known) (a : AtomTree) → FitsGroundAtom known a → FitsEntry known (either_way a)
either_way-fits known a h = (
  grind arith,
  All-cons (FitsLiterals known) (positive a ∷ []) ((negative a ∷ []) ∷ []) (one_literal known (positive a) h)
      (All-cons (FitsLiterals known) (negative a ∷ []) [] (one_literal known (negative a) h) (All-nil (FitsLiterals known))),
)

uncertain_by-fits : (known : Known) (span s : Span) (w : List ℕ) (rest : Forest) (keyword : Keyword) → IsKnown known → entry_flaws_by known span s w rest keyword ≡ []
    → All (FitsEntry known) (uncertain_by known rest keyword)
uncertain_by-fits known span s w rest Oneof k h =
    let p = where_false (flaw_at span EmptyOneof) (flaws_of_groups (alternative_flaws known) rest) (is_nothing rest) h in
    one_entry known (each_group (alternative known) rest)
    (some-groups (alternative_flaws known) (alternative known) rest p.0 p.1, groups-fit (FitsLiterals known) (alternative_flaws known) (alternative known) (alternative-fits known k) rest p.1)
uncertain_by-fits known span s w rest Unknown k h =
    one_entry known (either_way (under_atom known rest)) (either_way-fits known (under_atom known rest) (under-fits known span k (atom_under rest) h))
uncertain_by-fits known span s w rest _ k h = All-nil (FitsEntry known)

-- whatever fits of each list's items fits of all entries
either-fits : {X : Type 0} (P : X → Type 0) (known : Known) (of_list : Span → Forest → List X) (span : Span) (parts inner : Forest) (b : Bool)
    → (init_flaws known inner ≡ [] → All P (each_entry (λ span. []) of_list inner)) → (entry_flaws known span parts ≡ [] → All P (of_list span parts))
    → (if b then init_flaws known inner else entry_flaws known span parts) ≡ [] → All P (if b then each_entry (λ span. []) of_list inner else of_list span parts)
either-fits P known of_list span parts inner true f g h = f h
either-fits P known of_list span parts inner false f g h = g h

entries-fit : {X : Type 0} (P : X → Type 0) (known : Known) (of_list : Span → Forest → List X)
    → ((span : Span) (parts : Forest) → entry_flaws known span parts ≡ [] → All P (of_list span parts))
    → (row : Forest) → init_flaws known row ≡ [] → All P (each_entry (λ span. []) of_list row)
entries-fit P known of_list each nothing h = All-nil P
entries-fit P known of_list each (word span w rest) h = absurd (cc)
entries-fit P known of_list each (group span nothing rest) h = absurd (cc)
entries-fit P known of_list each (group span (group s ps qs) rest) h = absurd (cc)
entries-fit P known of_list each (group span (word s w inner) rest) h =
    let parts = word s w inner in
    let now = if bytes_eq w (codes "and") then init_flaws known inner else entry_flaws known span parts in
    All-append P (if bytes_eq w (codes "and") then each_entry (λ span. []) of_list inner else of_list span parts) (each_entry (λ span. []) of_list rest)
    (either-fits P known of_list span parts inner (bytes_eq w (codes "and")) (entries-fit P known of_list each inner) (each span parts) (no_first now (init_flaws known rest) h))
    (entries-fit P known of_list each rest (no_second now (init_flaws known rest) h))

entry_facts-fit : (known : Known) → IsKnown known → (span : Span) (parts : Forest) → entry_flaws known span parts ≡ [] → All (FitsGroundAtom known) (entry_facts known parts)
entry_facts-fit known k span nothing h = absurd (cc)
entry_facts-fit known k span (group s ps rest) h = absurd (cc)
entry_facts-fit known k span (word s w rest) h = facts_by-fit known span s w rest (keyword_of w) k h

entry_uncertain-fits : (known : Known) → IsKnown known → (span : Span) (parts : Forest) → entry_flaws known span parts ≡ [] → All (FitsEntry known) (entry_uncertain known parts)
entry_uncertain-fits known k span nothing h = absurd (cc)
entry_uncertain-fits known k span (group s ps rest) h = absurd (cc)
entry_uncertain-fits known k span (word s w rest) h = uncertain_by-fits known span s w rest (keyword_of w) k h

-- the goal, and how deep it is
goal-fits : (known : Known) → IsKnown known → (row : Forest) → goal_flaws known row ≡ [] → IfSome (goal_of known row) (λ goal. FitsFormula known goal 0)
goal-fits known k nothing h = tt
goal-fits known k (word s w rest) h = tt
goal-fits known k (group s parts rest) h = (formula-fits known parts s [] k h).0

goal-depth : (known : Known) → IsKnown known → (row : Forest) → goal_flaws known row ≡ [] → nesting_of row ≤ deepest → IfSome (goal_of known row) (λ goal. formula_depth goal ≤ deepest)
goal-depth known k nothing h n = tt
goal-depth known k (word s w rest) h n = tt
goal-depth known k (group s parts rest) h n = let p = (formula-fits known parts s [] k h).1 in omega (arith, p, n)

ctl-fits : (known : Known) → IsKnown known → (row : Forest) → ctl_flaws known row ≡ [] → IfSome (ctl_of known row) (λ goal. FitsTemporal known goal 0)
ctl-fits known k nothing h = tt
ctl-fits known k (word s w rest) h = tt
ctl-fits known k (group s parts rest) h = (temporal-fits known parts s k h).0

-- a formula is counted once more as a part of the goal
ctl-depth : (known : Known) → IsKnown known → (row : Forest) → ctl_flaws known row ≡ [] → 1 + nesting_of row ≤ deepest → IfSome (ctl_of known row) (λ goal. temporal_depth goal ≤ deepest)
ctl-depth known k nothing h n = tt
ctl-depth known k (word s w rest) h n = tt
ctl-depth known k (group s parts rest) h n = let p = (temporal-fits known parts s k h).1 in omega (arith, p, n)

found_or-nesting : (test : Forest → Bool) (s : Span) (ps rest : Forest) (span : Span) (parts : Forest) (t : Bool)
    → (first_group_with test rest ≡ Some (span, parts) → 1 + nesting_of parts ≤ nesting_of rest)
    → (if t then Some (s, ps) else first_group_with test rest) ≡ Some (span, parts) → 1 + nesting_of parts ≤ max (1 + nesting_of ps) (nesting_of rest)
found_or-nesting test s ps rest span parts true later e =
    let same : ps ≡ parts = ap (λ (o : Option (Span × Forest)). (unwrap_or o (s, ps)).1) e in
    let n : nesting_of ps ≡ nesting_of parts = ap nesting_of same in
    omega (arith, n)
found_or-nesting test s ps rest span parts false later e = let h = later e in omega (arith, h)

found-nesting : (test : Forest → Bool) (row : Forest) (span : Span) (parts : Forest) → first_group_with test row ≡ Some (span, parts) → 1 + nesting_of parts ≤ nesting_of row
found-nesting test nothing span parts e = absurd (cc)
found-nesting test (word s w rest) span parts e = found-nesting test rest span parts e
found-nesting test (group s ps rest) span parts e = found_or-nesting test s ps rest span parts (test ps) (found-nesting test rest span parts) e

after_first-nesting : (row : Forest) → nesting_of (after_first row) ≤ nesting_of row
after_first-nesting nothing = omega arith
after_first-nesting (word s w rest) = omega arith
after_first-nesting (group s ps rest) = omega arith

after_word-nesting : (parts row : Forest) (t : Bool) → (if t then Some (after_first parts) else None) ≡ Some row → nesting_of row ≤ nesting_of parts
after_word-nesting parts row true e =
    let same : after_first parts ≡ row = ap (λ o. unwrap_or o (after_first parts)) e in
    subst (λ r. nesting_of r ≤ nesting_of parts) same (after_first-nesting parts)
after_word-nesting parts row false e = absurd (cc)

section-nesting : (w : List ℕ) (items row : Forest) (g : Option (Span × Forest)) → first_group_with (begins_with w) items ≡ g
    → option_and_then (λ s. after_word w s.1) g ≡ Some row → nesting_of row ≤ nesting_of items
section-nesting w items row None e f = absurd (cc)
section-nesting w items row (Some (span, parts)) e f =
    let a = found-nesting (begins_with w) items span parts e in
    let b = after_word-nesting parts row (begins_with w parts) f in
    omega (arith, a, b)

items-nesting : (w : List ℕ) (items : Forest) (o : Option Forest) → section w items ≡ o → nesting_of (unwrap_or o nothing) ≤ nesting_of items
items-nesting w items None e = omega arith
items-nesting w items (Some row) e = section-nesting w items row (first_group_with (begins_with w) items) refl e

-- what holds of a definition that was found: its name is a name, and its sections are less deep
-- than the forms
pub record IsFound (forest : Forest) (d : Definition) : Type 0 where
  pub name : is_name d.name ≡ true
  pub shallow : 1 + nesting_of d.items ≤ nesting_of forest

title-name : (ps : Forest) (name : List ℕ) → is_titled (codes "problem") ps ≡ true → title_of ps ≡ Some name → is_name name ≡ true
title-name nothing name h e = absurd (cc)
title-name (group s qs rest) name h e = absurd (cc)
title-name (word s w nothing) name h e = absurd (cc)
title-name (word s w (group s' qs rest)) name h e = absurd (cc)
title-name (word s w (word s' text rest)) name h e =
    let same : text ≡ name = cc in
    subst (λ n. is_name n ≡ true) same
    (and_second (bytes_eq w (codes "problem")) (is_name text) (and_first (bytes_eq w (codes "problem") && is_name text) (is_nothing rest) h))

named-found : (span : Span) (ps rest : Forest) (d : Definition) (o : Option (List ℕ)) → title_of ps ≡ o → is_titled (codes "problem") ps ≡ true
    → option_map (λ name. record { span = span; name = name; items = rest }) o ≡ Some d → (is_name d.name ≡ true) × (nesting_of d.items ≤ nesting_of rest)
named-found span ps rest d None t h e = absurd (cc)
named-found span ps rest d (Some name) t h e =
    let made : Definition = record { span = span; name = name; items = rest } in
    let same : made ≡ d = cc in
    subst (λ (x : Definition). (is_name x.name ≡ true) × (nesting_of x.items ≤ nesting_of rest)) same (title-name ps name h t, omega arith)

defined-found : (span : Span) (parts : Forest) (d : Definition) → is_definition (codes "problem") parts ≡ true → defined span parts ≡ Some d
    → (is_name d.name ≡ true) × (nesting_of d.items ≤ nesting_of parts)
defined-found span nothing d h e = absurd (cc)
defined-found span (group s ps rest) d h e = absurd (cc)
defined-found span (word s w nothing) d h e = absurd (cc)
defined-found span (word s w (word s' text rest)) d h e = absurd (cc)
defined-found span (word s w (group s' ps rest)) d h e =
    let p = named-found span ps rest d (title_of ps) refl (and_second (bytes_eq w (codes "define")) (is_titled (codes "problem") ps) h) e in
    let n = p.1 in
    (p.0, omega (arith, n))

test_or-passes : (test : Forest → Bool) (s : Span) (ps rest : Forest) (span : Span) (parts : Forest) (t : Bool) → test ps ≡ t
    → (first_group_with test rest ≡ Some (span, parts) → test parts ≡ true)
    → (if t then Some (s, ps) else first_group_with test rest) ≡ Some (span, parts) → test parts ≡ true
test_or-passes test s ps rest span parts true p later e =
    let same : ps ≡ parts = ap (λ (o : Option (Span × Forest)). (unwrap_or o (s, ps)).1) e in
    subst (λ x. test x ≡ true) same p
test_or-passes test s ps rest span parts false p later e = later e

found-passes : (test : Forest → Bool) (row : Forest) (span : Span) (parts : Forest) → first_group_with test row ≡ Some (span, parts) → test parts ≡ true
found-passes test nothing span parts e = absurd (cc)
found-passes test (word s w rest) span parts e = found-passes test rest span parts e
found-passes test (group s ps rest) span parts e = test_or-passes test s ps rest span parts (test ps) refl (found-passes test rest span parts) e

found-is : (forest : Forest) (d : Definition) (g : Option (Span × Forest)) → first_group_with (is_definition (codes "problem")) forest ≡ g
    → option_and_then (λ g. defined g.0 g.1) g ≡ Some d → IsFound forest d
found-is forest d None e f = absurd (cc)
found-is forest d (Some (span, parts)) e f =
    let p = defined-found span parts d (found-passes (is_definition (codes "problem")) forest span parts e) f in
    let a = found-nesting (is_definition (codes "problem")) forest span parts e in
    let b = p.1 in
    record { name = p.0; shallow = omega (arith, a, b) }

pub definition-found : (forest : Forest) (d : Definition) → definition_in forest ≡ Some d → IsFound forest d
definition-found forest d e = found-is forest d (first_group_with (is_definition (codes "problem")) forest) refl e

-- a problem of passes without flaws fits
pub problem-fits : (domain : DomainTree) (forest : Forest) (d : Definition) → FitsDomain domain → IsFound forest d → nesting_of forest ≤ deepest
    → listed_fault (definition_passes domain.name (known_in domain) d) ≡ None → FitsProblem domain (problem_of (known_in domain) d)
problem-fits domain forest d fits found shallow none =
    let before : Known = known_in domain in
    let list = object_list d in
    let groups = typed_groups list in
    let objects = objects_of domain.type_names groups in
    let init = items_of (codes ":init") d.items in
    let goal = items_of (codes ":goal") d.items in
    let ctl = items_of (codes ":ctl-goal") d.items in
    let missing = missing_flaws d.span (section (codes ":goal") d.items) (section (codes ":ctl-goal") d.items) in
    let after : Known = known_with domain objects in
    let same : with_objects before list ≡ after = same-known domain list in
    let k : IsKnown after = known-fits domain objects fits in
    let typed = typed_list_flaws Objects before.types before.objects list in
    let body = body_passes (with_objects before list) d in
    let a = no_listed (sections_flaws none_seen d.items) (domain_flaws domain.name (items_of (codes ":domain") d.items) ∷ typed ∷ body) none in
    let b = no_listed (domain_flaws domain.name (items_of (codes ":domain") d.items)) (typed ∷ body) a.1 in
    let c = no_listed typed body b.1 in
    let e = no_listed (init_flaws (with_objects before list) init) (goal_flaws (with_objects before list) goal ∷ ctl_flaws (with_objects before list) ctl ∷ missing ∷ []) c.1 in
    let g = no_listed (goal_flaws (with_objects before list) goal) (ctl_flaws (with_objects before list) ctl ∷ missing ∷ []) e.1 in
    let t = no_listed (ctl_flaws (with_objects before list) ctl) (missing ∷ []) g.1 in
    let no_init : init_flaws after init ≡ [] = ap (λ (x : Known). init_flaws x init) (sym same) ∙ e.0 in
    let no_goal : goal_flaws after goal ≡ [] = ap (λ (x : Known). goal_flaws x goal) (sym same) ∙ g.0 in
    let no_ctl : ctl_flaws after ctl ≡ [] = ap (λ (x : Known). ctl_flaws x ctl) (sym same) ∙ t.0 in
    let different : AreDistinct before.objects = subst AreDistinct (sym (before-names domain)) fits.constants_differ in
    let fine = names-fine Objects before.types list before.objects before.objects [] false refl different (All-nil (λ name. is_wanted Objects name ≡ true)) c.0 in
    let deep : nesting_of goal ≤ nesting_of d.items = items-nesting (codes ":goal") d.items (section (codes ":goal") d.items) refl in
    let ctl_deep : nesting_of ctl ≤ nesting_of d.items = items-nesting (codes ":ctl-goal") d.items (section (codes ":ctl-goal") d.items) refl in
    let low = found.shallow in
    record {
      name = found.name;
      objects = objects-fit domain.type_names groups fits.some_type fine.1;
      objects_differ = subst AreDistinct (objects-seen (names_of groups) before.objects ∙ sym (added-names domain list)) fine.0;
      facts = subst (λ (x : Known). All (FitsGroundAtom after) (init_facts x init)) (sym same)
          (entries-fit (FitsGroundAtom after) after (λ span. entry_facts after) (entry_facts-fit after k) init no_init);
      entries = subst (λ (x : Known). All (FitsEntry after) (init_entries x init)) (sym same)
          (entries-fit (FitsEntry after) after (λ span. entry_uncertain after) (entry_uncertain-fits after k) init no_init);
      goal = subst (λ (x : Known). IfSome (goal_of x goal) (λ goal. FitsFormula after goal 0)) (sym same) (goal-fits after k goal no_goal);
      goal_depth = subst (λ (x : Known). IfSome (goal_of x goal) (λ goal. formula_depth goal ≤ deepest)) (sym same)
          (goal-depth after k goal no_goal (omega (arith, deep, low, shallow)));
      ctl = subst (λ (x : Known). IfSome (ctl_of x ctl) (λ goal. FitsTemporal after goal 0)) (sym same) (ctl-fits after k ctl no_ctl);
      ctl_depth = subst (λ (x : Known). IfSome (ctl_of x ctl) (λ goal. temporal_depth goal ≤ deepest)) (sym same)
          (ctl-depth after k ctl no_ctl (omega (arith, ctl_deep, low, shallow)));
    }
