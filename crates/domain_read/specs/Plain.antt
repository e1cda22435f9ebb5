-- What a domain's text means as a plain text: its passes, and the forms that it spells then.
use Rattle.std.specs.Prelude.{◌≡◌, ℕ, List, [], ◌∷◌, None}
use Rattle.std.specs.Prelude.{codes}
use Rattle.std.specs.Option.{option_map_or}
use Rattle.sexpr_text.specs.declared.faults.InputFault.{InputFault}
use Rattle.pddl_ast.specs.Definitions.{no_define}
use Rattle.sexpr_text.specs.Flaws.{Flaw, fault_of_passes}
use Rattle.sexpr_text.specs.Forest.{Forest}
use Rattle.sexpr_text.specs.Parts.{first_group_with, is_definition}
use Rattle.sexpr_text.specs.Passes.{HasFaultBy}
use Rattle.sexpr_text.specs.Spelling.{SpellsTrees}
use Rattle.domain_read.specs.Meant.{plain_trees}
use Rattle.domain_read.specs.Edits.{plain_text}
use Rattle.domain_read.specs.Faults.{text_flaws}

-- where a text has no list that defines a domain, that is its fault
abbrev pub definition_flaws : Forest → List Flaw
definition_flaws trees =
    option_map_or (λ d. []) (first_group_with (is_definition (codes "domain")) trees)
    (no_define ∷ [])

-- the passes after the lexis: the list that defines the domain, and the recognised lists
abbrev pub plain_passes : Forest → List (List Flaw)
plain_passes trees = definition_flaws trees ∷ text_flaws trees ∷ []

-- the bytes spell forms in which no pass lists a flaw; the text is the original with the edits of
-- these forms, and spells the forms that they mean, each at its place in the original
pub record IsPlainOf (bytes text : List ℕ) : Type 0 where
  pub trees : Forest
  pub spelled : SpellsTrees bytes trees
  pub sound : fault_of_passes (plain_passes trees) ≡ None
  pub exact : text ≡ plain_text trees bytes
  pub means : SpellsTrees text (plain_trees trees)

-- this is the fault of the bytes
abbrev pub HasPlainFault : List ℕ → InputFault → Type 0
HasPlainFault bytes fault = HasFaultBy plain_passes bytes fault
