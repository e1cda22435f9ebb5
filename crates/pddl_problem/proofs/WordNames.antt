-- The names of the objects of a problem that is read are words.
use Rattle.std.proofs.Common.{◌≡◌, ℕ, suc, Bool, true, false, List, [], ◌∷◌, map, sym, subst, arith, All, Option, Some, None, if◌then◌else◌, codes}
use Rattle.std.specs.Option.{option_map, option_and_then, unwrap_or}
use Rattle.std.proofs.lemmas.List.Elements.{All-nil, All-cons}
use Rattle.sexpr_text.specs.declared.forms.Span.{Span}
use Rattle.sexpr_text.specs.Forest.{Forest, nothing, word, group}
use Rattle.sexpr_text.specs.Parts.{after_first, after_word, begins_with, first_group_with, is_definition}
use Rattle.pddl_ast.specs.declared.trees.Named.{Named}
use Rattle.pddl_ast.specs.Fits.{known_in}
use Rattle.pddl_ast.specs.Known.{Known}
use Rattle.pddl_ast.specs.Trees.{DomainTree, ProblemTree}
use Rattle.pddl_ast.specs.TypedLists.{objects_of, typed_groups}
use Rattle.pddl_ast.specs.WordTexts.{HasWordTexts, IsWordText}
use Rattle.pddl_ast.proofs.Objects.{names-objects}
use Rattle.pddl_ast.proofs.WordTexts.{GroupHasWords, rising_words, typed_list-words, words-after_first, words-first_group}
use Rattle.pddl_ast.specs.Definitions.{title_of}
use Rattle.pddl_problem.specs.Problems.{Definition, defined, definition_in, object_list, problem_in, problem_of}
use Rattle.pddl_problem.specs.Rising.{Rises}
use Rattle.pddl_problem.specs.Sections.{items_of, section}
use Rattle.pddl_problem.specs.WordNames.{HasWordObjects}

-- the sections of a text
abbrev DefinitionHasWords : Option Definition → Type 0
DefinitionHasWords None = Unit {0}
DefinitionHasWords (Some d) = HasWordTexts d.items

with_name : (span : Span) (o : Option (List ℕ)) (items : Forest) → HasWordTexts items
    → DefinitionHasWords (option_map (λ (name : List ℕ). record { span = span; name = name; items = items }) o)
with_name span None items h = tt
with_name span (Some name) items h = h

in_parts : (span : Span) (parts : Forest) → HasWordTexts parts → DefinitionHasWords (defined span parts)
in_parts span nothing h = tt
in_parts span (group s p rest) h = tt
in_parts span (word s w nothing) h = tt
in_parts span (word s w (word s' t rest)) h = tt
in_parts span (word s w (group s' parts rest)) h = with_name span (title_of parts) rest h.1.1

in_group : (o : Option (Span × Forest)) → GroupHasWords o → DefinitionHasWords (option_and_then (λ (g : Span × Forest). defined g.0 g.1) o)
in_group None h = tt
in_group (Some g) h = in_parts g.0 g.1 h

words-definition : (forest : Forest) → HasWordTexts forest → DefinitionHasWords (definition_in forest)
words-definition forest h =
    in_group (first_group_with (is_definition (codes "problem")) forest) (words-first_group (is_definition (codes "problem")) forest h)

-- the items of a section
abbrev RowHasWords : Option Forest → Type 0
RowHasWords None = Unit {0}
RowHasWords (Some row) = HasWordTexts row

chosen : (b : Bool) (row : Forest) → HasWordTexts row → RowHasWords (if b then Some row else None)
chosen true row h = h
chosen false row h = tt

in_section : (head : List ℕ) (o : Option (Span × Forest)) → GroupHasWords o → RowHasWords (option_and_then (λ (s : Span × Forest). after_word head s.1) o)
in_section head None h = tt
in_section head (Some g) h = chosen (begins_with head g.1) (after_first g.1) (words-after_first g.1 h)

or_nothing : (o : Option Forest) → RowHasWords o → HasWordTexts (unwrap_or o nothing)
or_nothing None h = tt
or_nothing (Some row) h = h

words-items_of : (head : List ℕ) (items : Forest) → HasWordTexts items → HasWordTexts (items_of head items)
words-items_of head items h =
    or_nothing (section head items) (in_section head (first_group_with (begins_with head) items) (words-first_group (begins_with head) items h))

-- the objects
abbrev ObjectIsWord : Named → Type 0
ObjectIsWord n = IsWordText n.name

each_name : (ns : List Named) → All IsWordText (map (λ (n : Named). n.name) ns) → All ObjectIsWord ns
each_name [] h = All-nil ObjectIsWord
each_name (n ∷ ns) h = All-cons ObjectIsWord n ns (h 0 n.name (omega arith)) (each_name ns (λ k d below. h (suc k) d (omega arith)))

-- the problem
abbrev ProblemHasWords : Option ProblemTree → Type 0
ProblemHasWords None = Unit {0}
ProblemHasWords (Some p) = HasWordObjects p

of_definition : (known : Known) (o : Option Definition) → DefinitionHasWords o → ProblemHasWords (option_map (problem_of known) o)
of_definition known None h = tt
of_definition known (Some d) h =
    let groups = typed_groups (object_list d) in
    each_name (objects_of known.types groups)
    (subst (All IsWordText) (sym (names-objects known.types groups)) (typed_list-words (object_list d) (words-items_of (codes ":objects") d.items h)))

pub read_words : (domain : DomainTree) (forest : Forest) (p : ProblemTree) → Rises forest → problem_in domain forest ≡ Some p → HasWordObjects p
read_words domain forest p rises is =
    subst ProblemHasWords is
    (of_definition (known_in domain) (definition_in forest) (words-definition forest (rising_words rises.low rises.high forest rises.rising)))
