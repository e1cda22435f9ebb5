-- Private: the flaws of a domain's passes in the order in which the reader meets them, part by
-- part, and what it reads.
use Rattle.std.specs.Prelude.{ℕ, List, [], ◌++◌}
use Rattle.sexpr_text.specs.Forest.{Forest}
use Rattle.sexpr_text.specs.Flaws.{Flaw}
use Rattle.pddl_ast.specs.Known.{Known}
use Rattle.pddl_ast.specs.Trees.{DomainTree}
use Rattle.pddl_ast.specs.TypedLists.{typed_groups}
use Rattle.pddl_domain.specs.Sections.{definition_flaws, sections_of, sections_flaws}
use Rattle.pddl_domain.specs.Sections.{none_came}
use Rattle.pddl_domain.specs.Types.{types_flaws, loop_flaws, type_parents}
use Rattle.pddl_domain.specs.Constants.{constants_flaws, constants_of, predicates_flaws}
use Rattle.pddl_domain.specs.Constants.{predicates_of}
use Rattle.pddl_domain.specs.Invariant.{invariant_flaws, invariant_of}
use Rattle.pddl_domain.specs.ActionParts.{actions_flaws, all_actions}
use Rattle.pddl_domain.specs.Domains.{types_section, constants_section, predicates_section}
use Rattle.pddl_domain.specs.Domains.{invariant_section, types_in, known_of}

-- types, and loops of types
unfoldable pub typed_flaws : Forest → List Flaw
typed_flaws list = types_flaws list ++ loop_flaws list

-- constants, and predicates
unfoldable pub declared_flaws : List (List ℕ) → Forest → List Flaw
declared_flaws types sections =
    constants_flaws types (constants_section sections)
    ++ predicates_flaws types [] (predicates_section sections)

-- all that is declared besides the actions
unfoldable pub vocabulary_flaws : Forest → List Flaw
vocabulary_flaws sections =
    typed_flaws (types_section sections) ++ declared_flaws (types_in sections) sections

-- the invariant, and the actions
unfoldable pub stated_flaws : Known → Forest → List Flaw
stated_flaws known sections =
    invariant_flaws known (invariant_section sections) ++ actions_flaws known [] sections

-- what stands in the sections
unfoldable pub contents_flaws : Forest → List Flaw
contents_flaws sections = vocabulary_flaws sections ++ stated_flaws (known_of sections) sections

-- the sections as such, and what stands in them
unfoldable pub all_section_flaws : Forest → List Flaw
all_section_flaws sections = sections_flaws none_came sections ++ contents_flaws sections

-- the whole text
unfoldable pub domain_flaws : Forest → List Flaw
domain_flaws forms = definition_flaws forms ++ all_section_flaws (sections_of forms)

-- the domain of this name and these sections
unfoldable pub tree_of : List ℕ → Forest → DomainTree
tree_of name sections = record {
  name = name;
  type_names = types_in sections;
  parents = type_parents (typed_groups (types_section sections));
  constants = constants_of (types_in sections) (constants_section sections);
  predicates = predicates_of (predicates_section sections);
  actions = all_actions (known_of sections) sections;
  invariant = invariant_of (known_of sections) (invariant_section sections);
}
