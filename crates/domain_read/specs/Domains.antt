-- A domain's text, in which effects may be `probabilistic`: its passes after the lexis, and the tree
-- that it spells. All that is read of it is read of the forms that it means (`plain_trees`), which
-- stand where they do in the text.
--
-- First come the passes over the forms as they are written, which find weights that are wrong; then
-- those of a domain over the forms that they mean. The fault of the text is the first flaw of the
-- first pass that has one; a text without flaws spells its tree.
use Rattle.std.specs.Prelude.{◌≡◌, ℕ, List, ◌++◌, None}
use Rattle.sexpr_text.specs.declared.faults.InputFault.{InputFault}
use Rattle.sexpr_text.specs.Forest.{Forest}
use Rattle.sexpr_text.specs.Spelling.{SpellsTrees}
use Rattle.sexpr_text.specs.Flaws.{Flaw, fault_of_passes}
use Rattle.sexpr_text.specs.Passes.{HasFaultBy}
use Rattle.domain_read.specs.Meant.{plain_trees}
use Rattle.domain_read.specs.Plain.{plain_passes}
use Rattle.pddl_ast.specs.Trees.{DomainTree}
use Rattle.pddl_domain.specs.Domains.{domain_passes, domain_tree}

-- all passes over the forms of a text. That no list defines the domain is found by both halves, with
-- the same flaw
abbrev pub whole_passes : Forest → List (List Flaw)
whole_passes forms = plain_passes forms ++ domain_passes (plain_trees forms)

-- the tree that the forms of a text read as: that of the forms that they mean
abbrev pub whole_tree : Forest → DomainTree
whole_tree forms = domain_tree (plain_trees forms)

-- the bytes spell forms that read as this domain
abbrev pub ReadsAsDomain : List ℕ → DomainTree → Type 0
ReadsAsDomain bytes tree =
    (forms : Forest) × SpellsTrees bytes forms × (whole_tree forms ≡ tree)

-- the bytes spell forms in which no pass lists a flaw
abbrev pub IsFlawlessDomain : List ℕ → Type 0
IsFlawlessDomain bytes =
    (forms : Forest) × SpellsTrees bytes forms × (fault_of_passes (whole_passes forms) ≡ None)

-- the bytes spell this domain: they read as it, and nothing is wrong in them
pub record SpellsDomain (bytes : List ℕ) (tree : DomainTree) : Type 0 where
  pub reads : ReadsAsDomain bytes tree
  pub flawless : IsFlawlessDomain bytes

-- this is the fault of the bytes as a domain
abbrev pub HasDomainFault : List ℕ → InputFault → Type 0
HasDomainFault bytes fault = HasFaultBy whole_passes bytes fault
