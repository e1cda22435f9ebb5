-- Private: the fault of passes that list their flaws in the order of the text.
use Rattle.std.specs.Prelude.{List, [], ◌∷◌, Option, Some, None}
use Rattle.sexpr_text.specs.declared.faults.InputFault.{InputFault}
use Rattle.sexpr_text.specs.Flaws.{Flaw}

-- the fault of the flaw that the first list begins with that isn't empty
abbrev pub listed_fault : List (List Flaw) → Option InputFault
listed_fault [] = None
listed_fault ([] ∷ passes) = listed_fault passes
listed_fault ((f ∷ fs) ∷ passes) = Some f.fault
