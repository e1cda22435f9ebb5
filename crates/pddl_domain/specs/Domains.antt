-- A domain's text: its passes after the lexis, and the tree that it spells.
--
-- Each pass lists everything that is wrong in the text by its rules. The fault of the text is the
-- first flaw of the first pass that has one; a text without flaws spells its tree.
use Rattle.std.specs.Prelude.{◌≡◌, ℕ, List, [], ◌∷◌, None, map, codes}
use Rattle.sexpr_text.specs.declared.faults.InputFault.{InputFault}
use Rattle.sexpr_text.specs.Forest.{Forest}
use Rattle.sexpr_text.specs.Spelling.{SpellsTrees}
use Rattle.sexpr_text.specs.Flaws.{Flaw, fault_of_passes}
use Rattle.sexpr_text.specs.Passes.{HasFaultBy}
use Rattle.pddl_ast.specs.declared.trees.Predicate.{Predicate}
use Rattle.pddl_ast.specs.Known.{Known}
use Rattle.pddl_ast.specs.Trees.{DomainTree}
use Rattle.pddl_ast.specs.TypedLists.{typed_groups, names_of}
use Rattle.pddl_domain.specs.Sections.{definition_flaws, defined_name, sections_of, sections_flaws}
use Rattle.pddl_domain.specs.Sections.{none_came, section_named}
use Rattle.pddl_domain.specs.Types.{types_flaws, loop_flaws, type_names, type_parents}
use Rattle.pddl_domain.specs.Constants.{constants_flaws, constants_of, predicates_flaws}
use Rattle.pddl_domain.specs.Constants.{predicates_of}
use Rattle.pddl_domain.specs.Invariant.{invariant_flaws, invariant_of}
use Rattle.pddl_domain.specs.Actions.{actions_passes, schemas_of}

-- what follows the first words of the sections
abbrev pub types_section : Forest → Forest
types_section sections = section_named (codes ":types") sections

abbrev pub constants_section : Forest → Forest
constants_section sections = section_named (codes ":constants") sections

abbrev pub predicates_section : Forest → Forest
predicates_section sections = section_named (codes ":predicates") sections

abbrev pub invariant_section : Forest → Forest
invariant_section sections = section_named (codes ":invariant") sections

-- the names of the types that the sections declare
abbrev pub types_in : Forest → List (List ℕ)
types_in sections = type_names (typed_groups (types_section sections))

-- what is known where the invariant and the actions are read
abbrev pub known_of : Forest → Known
known_of sections = record {
  types = types_in sections;
  predicates = map (λ (p : Predicate). p.name) (predicates_of (predicates_section sections));
  arities = map (λ (p : Predicate). p.arity) (predicates_of (predicates_section sections));
  objects = names_of (typed_groups (constants_section sections));
}

-- the passes over the sections
abbrev pub section_passes : Forest → List (List Flaw)
section_passes sections =
    sections_flaws none_came sections
    ∷ types_flaws (types_section sections)
    ∷ loop_flaws (types_section sections)
    ∷ constants_flaws (types_in sections) (constants_section sections)
    ∷ predicates_flaws (types_in sections) [] (predicates_section sections)
    ∷ invariant_flaws (known_of sections) (invariant_section sections)
    ∷ actions_passes (known_of sections) [] sections

-- all passes over the forms of a text
abbrev pub domain_passes : Forest → List (List Flaw)
domain_passes forms = definition_flaws forms ∷ section_passes (sections_of forms)

-- the tree that the forms of a text read as. Where nothing is wrong in them, it is what they mean
abbrev pub domain_tree : Forest → DomainTree
domain_tree forms =
    let sections = sections_of forms in
    record {
      name = defined_name forms;
      type_names = types_in sections;
      parents = type_parents (typed_groups (types_section sections));
      constants = constants_of (types_in sections) (constants_section sections);
      predicates = predicates_of (predicates_section sections);
      actions = schemas_of (known_of sections) sections;
      invariant = invariant_of (known_of sections) (invariant_section sections);
    }

-- the bytes spell forms that read as this domain
abbrev pub ReadsAsPlainDomain : List ℕ → DomainTree → Type 0
ReadsAsPlainDomain bytes tree =
    (forms : Forest) × SpellsTrees bytes forms × (domain_tree forms ≡ tree)

-- the bytes spell forms in which no pass lists a flaw
abbrev pub IsFlawlessPlainDomain : List ℕ → Type 0
IsFlawlessPlainDomain bytes =
    (forms : Forest) × SpellsTrees bytes forms × (fault_of_passes (domain_passes forms) ≡ None)

-- the bytes spell this domain: they read as it, and nothing is wrong in them
pub record SpellsPlainDomain (bytes : List ℕ) (tree : DomainTree) : Type 0 where
  pub reads : ReadsAsPlainDomain bytes tree
  pub flawless : IsFlawlessPlainDomain bytes

-- this is the fault of the bytes as a domain
abbrev pub HasPlainDomainFault : List ℕ → InputFault → Type 0
HasPlainDomainFault bytes fault = HasFaultBy domain_passes bytes fault
