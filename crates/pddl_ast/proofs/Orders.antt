-- The flaws of typed lists, atoms, formulas and effects stand in the order of the text.
use Rattle.std.proofs.Common.{ℕ, suc, ◌<◌, ◌≤◌, ◌==◌, Bool, true, false, not, ◌&&◌, List, [], ◌∷◌, ◌++◌, arith, if◌then◌else◌}
use Rattle.std.specs.Option.{is_some}
use Rattle.std.specs.Prelude.{Option, Some, None, slice_index}
use Rattle.std.specs.List.{list_any}
use Rattle.std.specs.Str.{bytes_eq}
use Rattle.sexpr_text.specs.declared.forms.Span.{Span}
use Rattle.sexpr_text.specs.declared.faults.FaultKind.{FaultKind}
use Rattle.sexpr_text.specs.declared.faults.FaultKind.TheVariants.{BadForm, UnknownName, DoubleName, WrongArity}
use Rattle.sexpr_text.specs.Forest.{Forest, nothing, word, group}
use Rattle.sexpr_text.specs.Formed.{IsRising}
use Rattle.sexpr_text.specs.Flaws.{Flaw, IsInOrder, flaw_at}
use Rattle.sexpr_text.proofs.FlawLaws.{in_order-from, in_order-append}
use Rattle.pddl_ast.specs.declared.typed_lists.Declares.{Declares}
use Rattle.pddl_ast.specs.Words.{is_dash}
use Rattle.pddl_ast.specs.Known.{Known, number_in}
use Rattle.pddl_ast.specs.TypedLists.{names_flaws, type_flaws, name_flaws, word_flaws, dash_flaws, seen_after, either_fault, begins_type, is_type, is_wanted, may_repeat}
use Rattle.pddl_ast.specs.Atoms.{count, words_flaws, terms_flaws, objects_flaws, head_flaws, arity_flaws, atom_flaws, ground_atom_flaws, term_of, object_number}

-- one flaw at a form, and no flaw
pub one_at : (span : Span) (kind : FaultKind) (hi : ℕ) → span.start < hi → IsInOrder span.start hi (flaw_at span kind ∷ [])
one_at span kind hi h = (omega arith, omega arith)

pub no_flaw : (lo hi : ℕ) → lo ≤ hi → IsInOrder lo hi []
no_flaw lo hi h = h

-- either of two lists of flaws
pub either : (lo hi : ℕ) (fs gs : List Flaw) (b : Bool) → IsInOrder lo hi fs → IsInOrder lo hi gs → IsInOrder lo hi (if b then fs else gs)
either lo hi fs gs true h g = h
either lo hi fs gs false h g = g

-- a flaw at a word or none, and then those of the rest
at_word : (lo hi : ℕ) (span : Span) (fs gs : List Flaw) → lo ≤ span.start → IsInOrder span.start span.end fs → IsInOrder span.end hi gs → IsInOrder lo hi (fs ++ gs)
at_word lo hi span fs gs h f g = in_order-from lo span.start hi (fs ++ gs) h (in_order-append span.start span.end hi fs gs f g)

-- a flaw at a form, and then those of the rest
pub at_form : (lo hi : ℕ) (span : Span) (kind : FaultKind) (gs : List Flaw) → lo ≤ span.start → span.start < span.end → IsInOrder span.end hi gs → IsInOrder lo hi (flaw_at span kind ∷ gs)
at_form lo hi span kind gs h f g = (h, in_order-from (suc span.start) span.end hi gs (omega arith) g)

-- a flaw or none, as a test says
none_or : (span : Span) (kind : FaultKind) (b : Bool) → span.start < span.end → IsInOrder span.start span.end (if b then flaw_at span kind ∷ [] else [])
none_or span kind true h = (omega arith, omega arith)
none_or span kind false h = omega arith

none_else : (span : Span) (kind : FaultKind) (b : Bool) → span.start < span.end → IsInOrder span.start span.end (if b then [] else flaw_at span kind ∷ [])
none_else span kind true h = omega arith
none_else span kind false h = (omega arith, omega arith)

name-in_order : (declares : Declares) (span : Span) (w : List ℕ) (seen : List (List ℕ)) → span.start < span.end → IsInOrder span.start span.end (name_flaws declares span w seen)
name-in_order declares span w seen h =
    either span.start span.end (flaw_at span BadForm ∷ [])
    (if not (may_repeat declares w) && list_any (bytes_eq w) seen then flaw_at span DoubleName ∷ [] else [])
    (not (is_wanted declares w))
    (one_at span BadForm span.end h)
    (none_or span DoubleName (not (may_repeat declares w) && list_any (bytes_eq w) seen) h)

mutual
  pub names-in_order : (declares : Declares) (types : List (List ℕ)) (list : Forest) (seen : List (List ℕ)) (named : Bool) (lo hi : ℕ)
      → IsRising lo hi list → IsInOrder lo hi (names_flaws declares types list seen named)
  names-in_order declares types nothing seen named lo hi h = h
  names-in_order declares types (group span parts rest) seen named lo hi (a, b, c, d) =
      at_form lo hi span BadForm (names_flaws declares types rest seen named) a (omega arith) (names-in_order declares types rest seen named span.end hi d)
  names-in_order declares types (word span w rest) seen named lo hi (a, b, c, d, e) =
      either lo hi (dash_flaws span named rest ++ type_flaws declares types rest seen) (name_flaws declares span w seen ++ names_flaws declares types rest (seen_after declares w seen) true) (is_dash w)
      (at_word lo hi span (dash_flaws span named rest) (type_flaws declares types rest seen) a
      (none_else span BadForm (named && begins_type rest) b) (types-in_order declares types rest seen span.end hi e))
      (at_word lo hi span (name_flaws declares span w seen) (names_flaws declares types rest (seen_after declares w seen) true) a
      (name-in_order declares span w seen b) (names-in_order declares types rest (seen_after declares w seen) true span.end hi e))

  pub types-in_order : (declares : Declares) (types : List (List ℕ)) (list : Forest) (seen : List (List ℕ)) (lo hi : ℕ)
      → IsRising lo hi list → IsInOrder lo hi (type_flaws declares types list seen)
  types-in_order declares types nothing seen lo hi h = h
  types-in_order declares types (group span parts rest) seen lo hi (a, b, c, d) =
      at_form lo hi span (either_fault parts) (names_flaws declares types rest seen false) a (omega arith) (names-in_order declares types rest seen false span.end hi d)
  types-in_order declares types (word span w rest) seen lo hi (a, b, c, d, e) =
      either lo hi (dash_flaws span false rest ++ type_flaws declares types rest seen) (word_flaws declares types span w ++ names_flaws declares types rest seen false) (is_dash w)
      (at_word lo hi span (dash_flaws span false rest) (type_flaws declares types rest seen) a
      (none_else span BadForm (false && begins_type rest) b) (types-in_order declares types rest seen span.end hi e))
      (at_word lo hi span (word_flaws declares types span w) (names_flaws declares types rest seen false) a
      (none_else span UnknownName (is_type declares types w) b) (names-in_order declares types rest seen false span.end hi e))

pub words-in_order : (test : List ℕ → Bool) (row : Forest) (lo hi : ℕ) → IsRising lo hi row → IsInOrder lo hi (words_flaws test row)
words-in_order test nothing lo hi h = h
words-in_order test (group span parts rest) lo hi (a, b, c, d) =
    at_form lo hi span BadForm (words_flaws test rest) a (omega arith) (words-in_order test rest span.end hi d)
words-in_order test (word span w rest) lo hi (a, b, c, d, e) =
    at_word lo hi span (if test w then [] else flaw_at span UnknownName ∷ []) (words_flaws test rest) a
    (none_else span UnknownName (test w) b) (words-in_order test rest span.end hi e)

-- the flaws of an atom's head stand from the list's parenthesis up to the end of the head
arity-in_order : (known : Known) (span head : Span) (w : List ℕ) (n : ℕ) (number : Option ℕ) → span.start ≤ head.start → head.start < head.end
    → IsInOrder span.start head.end (arity_flaws known span head w n number)
arity-in_order known span head w n None h g = (h, omega arith)
arity-in_order known span head w n (Some k) h g =
    let wrong : IsInOrder span.start head.end (flaw_at span WrongArity ∷ []) = (omega arith, omega arith) in
    either span.start head.end [] (flaw_at span WrongArity ∷ []) (n == slice_index known.arities k) (no_flaw span.start head.end (omega arith)) wrong

-- the flaws of an atom stand within its list, which has this head and these terms
headed-in_order : (known : Known) (span head : Span) (w : List ℕ) (terms : Forest) (gs : List Flaw) (hi : ℕ)
    → span.start ≤ head.start → head.start < head.end → IsInOrder head.end hi gs
    → IsInOrder span.start hi (head_flaws known span head w (count terms) ++ gs)
headed-in_order known span head w terms gs hi h g rest =
    in_order-append span.start head.end hi (head_flaws known span head w (count terms)) gs (arity-in_order known span head w (count terms) (number_in known.predicates w) h g) rest

pub atom-in_order : (known : Known) (scope : List (List ℕ)) (span head : Span) (w : List ℕ) (terms : Forest) (hi : ℕ)
    → span.start ≤ head.start → head.start < head.end → IsRising head.end hi terms → IsInOrder span.start hi (atom_flaws known scope span head w terms)
atom-in_order known scope span head w terms hi h g rising =
    headed-in_order known span head w terms (terms_flaws known scope terms) hi h g (words-in_order (λ w. is_some (term_of known scope w)) terms head.end hi rising)

pub ground_atom-in_order : (known : Known) (span head : Span) (w : List ℕ) (terms : Forest) (hi : ℕ)
    → span.start ≤ head.start → head.start < head.end → IsRising head.end hi terms → IsInOrder span.start hi (ground_atom_flaws known span head w terms)
ground_atom-in_order known span head w terms hi h g rising =
    headed-in_order known span head w terms (objects_flaws known terms) hi h g (words-in_order (λ w. is_some (object_number known w)) terms head.end hi rising)
