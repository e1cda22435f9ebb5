-- The parts of a condition that never hold.
use Rattle.std.specs.Prelude.{◌≡◌, true, false, not, List, [], ◌∷◌}
use Rattle.std.specs.List.{All, filter}
use Rattle.task_core.specs.declared.conditions.Cond.{Cond}
use Rattle.task_core.specs.declared.conditions.Cond.TheOpen.{Cond-F, Yes, No, Is, Not, All as AllOf, Any}
use Rattle.task_core.specs.declared.conditions.Cond.TheViews.{out-Cond}
use Rattle.task_core.specs.declared.literals.Lit.{Lit}
use Rattle.relaxed_reach.specs.Literals.{LiteralSet, can_be}

-- the parts of a conjunction; of any other condition itself alone
abbrev pub conjuncts_in : Cond → Cond-F Cond → List Cond
conjuncts_in cond Yes = cond ∷ []
conjuncts_in cond No = cond ∷ []
conjuncts_in cond (Is f) = cond ∷ []
conjuncts_in cond (Not part) = cond ∷ []
conjuncts_in cond (AllOf parts) = parts.items
conjuncts_in cond (Any parts) = cond ∷ []

abbrev pub conjuncts : Cond → List Cond
conjuncts cond = conjuncts_in cond (out-Cond cond)

-- those of them that can't hold where just the literals of the set can be true
abbrev pub blocked : LiteralSet → Cond → List Cond
blocked set cond = filter (λ part. not (can_be part set true)) (conjuncts cond)

-- the literal is not in the set
abbrev pub IsNever : LiteralSet → Lit → Type 0
IsNever set lit = set lit.fluent.0 lit.positive ≡ false

abbrev pub AreNever : LiteralSet → List Lit → Type 0
AreNever set lits = All (IsNever set) lits
