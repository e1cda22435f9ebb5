-- A text that is read in passes: what it spells, and which fault it has. The lexis is the first
-- pass; the others look at the forms, and each lists everything that is wrong in them by its rules.
use Rattle.std.specs.Prelude.{◌≡◌, ◌⊎◌, ℕ, List, Some, None, ⊤}
use Rattle.sexpr_text.specs.declared.faults.InputFault.{InputFault}
use Rattle.sexpr_text.specs.declared.faults.ReadErr.{ReadErr}
use Rattle.sexpr_text.specs.declared.faults.ReadErr.TheVariants.{Fault, Memory}
use Rattle.sexpr_text.specs.Forest.{Forest}
use Rattle.sexpr_text.specs.Spelling.{SpellsTrees}
use Rattle.sexpr_text.specs.Faults.{HasFault}
use Rattle.sexpr_text.specs.Flaws.{Flaw, fault_of_passes}

-- the bytes spell forms in which no pass lists a flaw, and which read as this
abbrev pub SpellsBy : {X : Type 0} → (Forest → List (List Flaw)) → (Forest → X) → List ℕ → X
    → Type 0
SpellsBy passes tree bytes x =
    (trees : Forest) × SpellsTrees bytes trees × (fault_of_passes (passes trees) ≡ None)
    × (tree trees ≡ x)

-- the fault of the bytes is their lexical fault, or that of the passes over the forms that they
-- spell
abbrev pub HasFaultBy : (Forest → List (List Flaw)) → List ℕ → InputFault → Type 0
HasFaultBy passes bytes fault =
    HasFault bytes fault
    ⊎ ((trees : Forest) × SpellsTrees bytes trees × (fault_of_passes (passes trees) ≡ Some fault))

-- what is said of the fault, where the error is one and not want of memory
abbrev pub IfFault : ReadErr → (InputFault → Type 0) → Type 0
IfFault (Fault fault) P = P fault
IfFault Memory P = ⊤
