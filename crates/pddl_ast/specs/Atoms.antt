-- Terms and atoms.
use Rattle.std.specs.Prelude.{ℕ, Bool, ◌+◌, ◌==◌, if◌then◌else◌, List, [], ◌∷◌, ◌++◌, Option, Some}
use Rattle.std.specs.Prelude.{None, slice_index}
use Rattle.std.specs.Option.{is_some, option_map, unwrap_or}
use Rattle.sexpr_text.specs.declared.forms.Span.{Span}
use Rattle.sexpr_text.specs.declared.faults.FaultKind.{FaultKind}
use Rattle.sexpr_text.specs.declared.faults.FaultKind.TheVariants.{BadForm, UnknownName, WrongArity}
use Rattle.sexpr_text.specs.declared.faults.FaultKind.TheVariants.{LeftOut}
use Rattle.sexpr_text.specs.Forest.{Forest, nothing, word, group}
use Rattle.sexpr_text.specs.Flaws.{Flaw, flaw_at}
use Rattle.pddl_ast.specs.Words.{is_variable, is_left_out}
use Rattle.pddl_ast.specs.Known.{Known, number_in, variable_number}
use Rattle.pddl_ast.specs.Trees.{AtomTree}
use Rattle.pddl_ast.specs.declared.trees.Term.{Term}
use Rattle.pddl_ast.specs.declared.trees.Term.TheVariants.{Variable, Object}

-- how many forms there are in a row
abbrev pub count : Forest → ℕ
count nothing = 0
count (word span w rest) = 1 + count rest
count (group span parts rest) = 1 + count rest

-- everything that is wrong in a row of words each of which is to pass the test: a list is BadForm
-- at it, a word that doesn't pass UnknownName at it
abbrev pub words_flaws : (List ℕ → Bool) → Forest → List Flaw
words_flaws test nothing = []
words_flaws test (word span w rest) =
    (if test w then [] else flaw_at span UnknownName ∷ []) ++ words_flaws test rest
words_flaws test (group span parts rest) = flaw_at span BadForm ∷ words_flaws test rest

-- a number for each word of a row
abbrev pub numbers : (List ℕ → Option ℕ) → Forest → List ℕ
numbers number nothing = []
numbers number (word span w rest) = unwrap_or (number w) 0 ∷ numbers number rest
numbers number (group span parts rest) = numbers number rest

-- the term that a word is: a variable in scope, or a constant or object
abbrev pub term_of : Known → List (List ℕ) → List ℕ → Option Term
term_of known scope w =
    if is_variable w then option_map (λ n. Variable n) (variable_number scope w) else option_map
    (λ n. Object n) (number_in known.objects w)

-- the terms that the words of a row are
abbrev pub terms_of : Known → List (List ℕ) → Forest → List Term
terms_of known scope nothing = []
terms_of known scope (word span w rest) =
    unwrap_or (term_of known scope w) (Object 0) ∷ terms_of known scope rest
terms_of known scope (group span parts rest) = terms_of known scope rest

-- everything that is wrong in a row of terms
abbrev pub terms_flaws : Known → List (List ℕ) → Forest → List Flaw
terms_flaws known scope = words_flaws (λ w. is_some (term_of known scope w))

-- the number of a constant or an object
abbrev pub object_number : Known → List ℕ → Option ℕ
object_number known w = number_in known.objects w

-- everything that is wrong in a row of constants and objects
abbrev pub objects_flaws : Known → Forest → List Flaw
objects_flaws known = words_flaws (λ w. is_some (object_number known w))

-- the fault of a head that is no predicate
abbrev pub head_fault : List ℕ → FaultKind
head_fault w = if is_left_out w then LeftOut w else UnknownName

-- what is wrong with the head of an atom's list (`span`) with so many terms
abbrev pub arity_flaws : Known → Span → Span → List ℕ → ℕ → Option ℕ → List Flaw
arity_flaws known span head w n None = flaw_at head (head_fault w) ∷ []
arity_flaws known span head w n (Some k) =
    if n == slice_index known.arities k then [] else flaw_at span WrongArity ∷ []

abbrev pub head_flaws : Known → Span → Span → List ℕ → ℕ → List Flaw
head_flaws known span head w n = arity_flaws known span head w n (number_in known.predicates w)

-- everything that is wrong in an atom, the list with this span, head and terms
abbrev pub atom_flaws : Known → List (List ℕ) → Span → Span → List ℕ → Forest → List Flaw
atom_flaws known scope span head w terms =
    head_flaws known span head w (count terms) ++ terms_flaws known scope terms

-- the number of a predicate
abbrev pub predicate_number : Known → List ℕ → ℕ
predicate_number known w = unwrap_or (number_in known.predicates w) 0

-- everything that is wrong in an atom over constants and objects alone, and the atom
abbrev pub ground_atom_flaws : Known → Span → Span → List ℕ → Forest → List Flaw
ground_atom_flaws known span head w terms =
    head_flaws known span head w (count terms) ++ objects_flaws known terms

abbrev pub ground_atom : Known → List ℕ → Forest → AtomTree
ground_atom known w terms =
    record { predicate = predicate_number known w; objects = numbers (object_number known) terms }
