-- The sixth and the seventh pass over a domain's text: its constants, and its predicates.
use Rattle.std.specs.Prelude.{ℕ, if◌then◌else◌, List, [], ◌∷◌, ◌++◌}
use Rattle.std.specs.Prelude.{length}
use Rattle.std.specs.List.{list_any}
use Rattle.std.specs.Str.{bytes_eq}
use Rattle.sexpr_text.specs.declared.forms.Span.{Span}
use Rattle.sexpr_text.specs.declared.faults.FaultKind.TheVariants.{BadForm, DoubleName}
use Rattle.sexpr_text.specs.declared.faults.FaultKind.TheVariants.{ReservedName}
use Rattle.sexpr_text.specs.Forest.{Forest, nothing, word, group}
use Rattle.sexpr_text.specs.Flaws.{Flaw, flaw_at}
use Rattle.sexpr_text.specs.Parts.{is_name}
use Rattle.pddl_ast.specs.declared.trees.Named.{Named}
use Rattle.pddl_ast.specs.declared.trees.Predicate.{Predicate}
use Rattle.pddl_ast.specs.declared.typed_lists.Declares.TheVariants.{Objects, PredicateVariables}
use Rattle.pddl_ast.specs.Words.{is_reserved}
use Rattle.pddl_ast.specs.TypedLists.{typed_list_flaws, typed_groups, names_of, objects_of}

-- what is wrong in the `:constants` section, as a typed list over these types
abbrev pub constants_flaws : List (List ℕ) → Forest → List Flaw
constants_flaws types list = typed_list_flaws Objects types [] list

-- the constants
abbrev pub constants_of : List (List ℕ) → Forest → List Named
constants_of types list = objects_of types (typed_groups list)

-- what is wrong with a predicate's name, where these were declared before
abbrev pub predicate_name_flaws : List (List ℕ) → Span → List ℕ → List Flaw
predicate_name_flaws before span name =
    if list_any (bytes_eq name) before then flaw_at span DoubleName ∷ []
    else if is_reserved name then flaw_at span ReservedName ∷ []
    else []

-- what is wrong in the typed list of a predicate's variables
abbrev pub variables_flaws : List (List ℕ) → Forest → List Flaw
variables_flaws types list = typed_list_flaws PredicateVariables types [] list

-- what is wrong with a predicate, the list with this span and these parts: a name, and a typed list
-- of variables, in which one may come twice
abbrev pub predicate_flaws : List (List ℕ) → List (List ℕ) → Span → Forest → List Flaw
predicate_flaws types before span nothing = flaw_at span BadForm ∷ []
predicate_flaws types before span (group s parts rest) = flaw_at span BadForm ∷ []
predicate_flaws types before span (word s name variables) =
    if is_name name then predicate_name_flaws before s name ++ variables_flaws types variables
    else flaw_at span BadForm ∷ []

-- a row's first word, after these names
abbrev pub with_first_word : List (List ℕ) → Forest → List (List ℕ)
with_first_word before nothing = before
with_first_word before (group s parts rest) = before
with_first_word before (word s name rest) = before ++ name ∷ []

-- what is wrong in the `:predicates` section, where these names came before: each form is a
-- predicate
abbrev pub predicates_flaws : List (List ℕ) → List (List ℕ) → Forest → List Flaw
predicates_flaws types before nothing = []
predicates_flaws types before (word span w rest) =
    flaw_at span BadForm ∷ predicates_flaws types before rest
predicates_flaws types before (group span parts rest) =
    predicate_flaws types before span parts
    ++ predicates_flaws types (with_first_word before parts) rest

-- the predicate that a list with these parts declares: its arity is the number of its variables
abbrev pub predicate_of : Forest → List Predicate
predicate_of nothing = []
predicate_of (group s parts rest) = []
predicate_of (word s name variables) =
    record { name = name; arity = length (names_of (typed_groups variables)) } ∷ []

-- the predicates
abbrev pub predicates_of : Forest → List Predicate
predicates_of nothing = []
predicates_of (word span w rest) = predicates_of rest
predicates_of (group span parts rest) = predicate_of parts ++ predicates_of rest
