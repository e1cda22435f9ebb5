-- Flaws that are listed in the order of the text.
use Rattle.std.specs.Prelude.{◌≡◌, ℕ, ◌+◌, ◌-◌, ◌≤◌, List, None}
use Rattle.sexpr_text.specs.declared.forms.Span.{Span}
use Rattle.sexpr_text.specs.Forest.{Forest}
use Rattle.sexpr_text.specs.Formed.{IsRising}
use Rattle.sexpr_text.specs.Spelling.{SpellsTrees}
use Rattle.sexpr_text.specs.Flaws.{Flaw, IsInOrder, fault_of_passes}

-- the flaws of a group, by its span and its parts, stand in order within the group
abbrev pub AreGroupFlaws : (Span → Forest → List Flaw) → Type 0
AreGroupFlaws flaws =
    (span : Span) (parts : Forest) → span.start + 2 ≤ span.end
    → IsRising (span.start + 1) (span.end - 1) parts
    → IsInOrder span.start span.end (flaws span parts)

-- the bytes spell these forms, and no pass lists a flaw in them
pub record IsFlawless (passes : Forest → List (List Flaw)) (bytes : List ℕ)
    (trees : Forest) : Type 0 where
  pub spelled : SpellsTrees bytes trees
  pub sound : fault_of_passes (passes trees) ≡ None
