-- The initial situation of a problem: facts, and uncertain entries.
use Rattle.std.specs.Prelude.{ℕ, true, false, if◌then◌else◌, List, [], ◌∷◌, ◌++◌, Option, Some}
use Rattle.std.specs.Prelude.{None, codes}
use Rattle.std.specs.Option.{option_map_or, is_some}
use Rattle.std.specs.Str.{bytes_eq}
use Rattle.sexpr_text.specs.declared.forms.Span.{Span}
use Rattle.sexpr_text.specs.declared.faults.FaultKind.TheVariants.{BadForm, EmptyOneof, LeftOut}
use Rattle.sexpr_text.specs.Forest.{Forest, nothing, word, group}
use Rattle.sexpr_text.specs.Parts.{is_nothing, flaws_of_groups, each_group}
use Rattle.sexpr_text.specs.Flaws.{Flaw, flaw_at}
use Rattle.pddl_ast.specs.declared.keywords.Keyword.{Keyword}
use Rattle.pddl_ast.specs.declared.keywords.Keyword.TheVariants.{And, Or, Not, Imply, Exists}
use Rattle.pddl_ast.specs.declared.keywords.Keyword.TheVariants.{Forall, Equals, When, Oneof}
use Rattle.pddl_ast.specs.declared.keywords.Keyword.TheVariants.{Unknown, Other}
use Rattle.pddl_ast.specs.Words.{keyword_of, is_reserved}
use Rattle.pddl_ast.specs.Known.{Known}
use Rattle.pddl_ast.specs.Atoms.{ground_atom_flaws, ground_atom}
use Rattle.pddl_ast.specs.Trees.{AtomTree, LiteralTree}

-- a list that may be an atom: its span, the span of the word at its head, that word, and what
-- follows it
pub record AtomForm : Type 0 where
  pub span : Span
  pub head_span : Span
  pub head : List ℕ
  pub terms : Forest

-- the list with this span and these parts, where a word that isn't reserved is at its head
abbrev pub atom_form : Span → Forest → Option AtomForm
atom_form span nothing = None
atom_form span (group s parts rest) = None
atom_form span (word s w rest) =
    if is_reserved w then None else Some
    (record { span = span; head_span = s; head = w; terms = rest })

-- such a list, where it is all that stands under a `not` or an `unknown`
abbrev pub atom_under : Forest → Option AtomForm
atom_under nothing = None
atom_under (word s w rest) = None
atom_under (group s parts rest) = if is_nothing rest then atom_form s parts else None

abbrev pub form_flaws : Known → AtomForm → List Flaw
form_flaws known a = ground_atom_flaws known a.span a.head_span a.head a.terms

abbrev pub form_atom : Known → AtomForm → AtomTree
form_atom known a = ground_atom known a.head a.terms

abbrev pub bad_form : Span → List Flaw
bad_form span = flaw_at span BadForm ∷ []

abbrev pub left_out : Span → List ℕ → List Flaw
left_out span w = flaw_at span (LeftOut w) ∷ []

-- what is wrong with the list at this span that has these items under its `not` or `unknown`
abbrev pub under_flaws : Known → Span → Forest → List Flaw
under_flaws known span rest = option_map_or (form_flaws known) (atom_under rest) (bad_form span)

-- what is wrong with a list as a part of an alternative, by what the word at its head (at span s)
-- means. A part is an atom, or `(not ATOM)`. At one list the flaw with the lower code is listed
-- alone
abbrev pub part_flaws_by : Known → Span → Span → List ℕ → Forest → Keyword → List Flaw
part_flaws_by known span s w rest And = bad_form span
part_flaws_by known span s w rest Not = under_flaws known span rest
part_flaws_by known span s w rest Unknown =
    if is_some (atom_under rest) then left_out span w else bad_form span
part_flaws_by known span s w rest Other = ground_atom_flaws known span s w rest
part_flaws_by known span s w rest Or = left_out span w
part_flaws_by known span s w rest Imply = left_out span w
part_flaws_by known span s w rest Exists = left_out span w
part_flaws_by known span s w rest Forall = left_out span w
part_flaws_by known span s w rest Equals = left_out span w
part_flaws_by known span s w rest When = left_out span w
part_flaws_by known span s w rest Oneof = left_out span w

abbrev pub part_flaws : Known → Span → Forest → List Flaw
part_flaws known span nothing = bad_form span
part_flaws known span (group s parts rest) = bad_form span
part_flaws known span (word s w rest) = part_flaws_by known span s w rest (keyword_of w)

-- what is wrong with a list as an alternative: it is `()`, `(and PART ..)`, or what a part may be
abbrev pub alternative_flaws_by : Known → Span → Span → List ℕ → Forest → Keyword → List Flaw
alternative_flaws_by known span s w rest And = flaws_of_groups (part_flaws known) rest
alternative_flaws_by known span s w rest keyword = part_flaws_by known span s w rest keyword

abbrev pub alternative_flaws : Known → Span → Forest → List Flaw
alternative_flaws known span nothing = []
alternative_flaws known span (group s parts rest) = bad_form span
alternative_flaws known span (word s w rest) =
    alternative_flaws_by known span s w rest (keyword_of w)

-- what is wrong with a list as an entry other than `(and ENTRY ..)`: it is `(oneof ALTERNATIVE ..)`
-- with at least one, `(unknown ATOM)`, or what a part may be
abbrev pub entry_flaws_by : Known → Span → Span → List ℕ → Forest → Keyword → List Flaw
entry_flaws_by known span s w rest Oneof =
    if is_nothing rest then flaw_at span EmptyOneof
    ∷ [] else flaws_of_groups (alternative_flaws known) rest
entry_flaws_by known span s w rest Unknown = under_flaws known span rest
entry_flaws_by known span s w rest keyword = part_flaws_by known span s w rest keyword

abbrev pub entry_flaws : Known → Span → Forest → List Flaw
entry_flaws known span nothing = bad_form span
entry_flaws known span (group s parts rest) = bad_form span
entry_flaws known span (word s w rest) = entry_flaws_by known span s w rest (keyword_of w)

-- what words and lists give as entries, one after the other, where `(and ENTRY ..)` stands for its
-- entries
abbrev pub each_entry : {X : Type 0} → (Span → List X) → (Span → Forest → List X) → Forest → List X
each_entry of_word of_list nothing = []
each_entry of_word of_list (word span w rest) = of_word span ++ each_entry of_word of_list rest
each_entry of_word of_list (group span nothing rest) =
    of_list span nothing ++ each_entry of_word of_list rest
each_entry of_word of_list (group span (group s ps qs) rest) =
    of_list span (group s ps qs) ++ each_entry of_word of_list rest
each_entry of_word of_list (group span (word s w inner) rest) =
    (if bytes_eq w (codes "and") then each_entry of_word of_list inner else of_list span
    (word s w inner))
    ++ each_entry of_word of_list rest

-- what is wrong with the items of `:init`
abbrev pub init_flaws : Known → Forest → List Flaw
init_flaws known = each_entry bad_form (entry_flaws known)

abbrev pub positive : AtomTree → LiteralTree
positive a = record { atom = a; positive = true }

abbrev pub negative : AtomTree → LiteralTree
negative a = record { atom = a; positive = false }

-- the atom under a `not` or an `unknown`
abbrev pub under_atom : Known → Forest → AtomTree
under_atom known rest =
    option_map_or (form_atom known) (atom_under rest) (record { predicate = 0; objects = [] })

-- the literal of a part
abbrev pub part_literal_by : Known → List ℕ → Forest → Keyword → LiteralTree
part_literal_by known w rest Not = negative (under_atom known rest)
part_literal_by known w rest keyword = positive (ground_atom known w rest)

abbrev pub part_literal : Known → Forest → LiteralTree
part_literal known nothing = positive (record { predicate = 0; objects = [] })
part_literal known (group s parts rest) = positive (record { predicate = 0; objects = [] })
part_literal known (word s w rest) = part_literal_by known w rest (keyword_of w)

-- the literals of an alternative
abbrev pub alternative_by : Known → List ℕ → Forest → Keyword → List LiteralTree
alternative_by known w rest And = each_group (part_literal known) rest
alternative_by known w rest keyword = part_literal_by known w rest keyword ∷ []

abbrev pub alternative : Known → Forest → List LiteralTree
alternative known nothing = []
alternative known (group s parts rest) = []
alternative known (word s w rest) = alternative_by known w rest (keyword_of w)

-- the fact that an entry says, where it says one
abbrev pub facts_by : Known → List ℕ → Forest → Keyword → List AtomTree
facts_by known w rest Other = ground_atom known w rest ∷ []
facts_by known w rest keyword = []

abbrev pub entry_facts : Known → Forest → List AtomTree
entry_facts known nothing = []
entry_facts known (group s parts rest) = []
entry_facts known (word s w rest) = facts_by known w rest (keyword_of w)

-- `(unknown ATOM)` stands for `(oneof ATOM (not ATOM))`
abbrev pub either_way : AtomTree → List (List LiteralTree)
either_way a = (positive a ∷ []) ∷ (negative a ∷ []) ∷ []

-- the alternatives of an uncertain entry
abbrev pub uncertain_by : Known → Forest → Keyword → List (List (List LiteralTree))
uncertain_by known rest Oneof = each_group (alternative known) rest ∷ []
uncertain_by known rest Unknown = either_way (under_atom known rest) ∷ []
uncertain_by known rest keyword = []

abbrev pub entry_uncertain : Known → Forest → List (List (List LiteralTree))
entry_uncertain known nothing = []
entry_uncertain known (group s parts rest) = []
entry_uncertain known (word s w rest) = uncertain_by known rest (keyword_of w)

-- the facts and the uncertain entries among the items of `:init`, each in order
abbrev pub init_facts : Known → Forest → List AtomTree
init_facts known = each_entry (λ span. []) (λ span. entry_facts known)

abbrev pub init_entries : Known → Forest → List (List (List LiteralTree))
init_entries known = each_entry (λ span. []) (λ span. entry_uncertain known)
