-- Private: the steps that make the sets of a certificate, and the sets in which a verdict is looked
-- up. On the board of a verdict there are five places: 0 has the union of the first sets of the
-- certificate, 1 one set as far as it is made, 2 a cube, 3 what is put together with another place,
-- and 4 the states of which some may be left.
use Rattle.std.specs.Prelude.{List, [], ◌∷◌, ◌++◌, map}
use Rattle.std.specs.List.{flat_map}
use Rattle.dd_sets.specs.declared.slots.SetId.{SetId}
use Rattle.task_core.specs.Cubes.{Cube}
use Rattle.task_core.specs.declared.classes.Class.{Class}
use Rattle.task_core.specs.declared.classes.Class.TheVariants.{Weak, Strong, Cyclic}
use Rattle.task_core.specs.declared.literals.ActionId.{ActionId}
use Rattle.task_core.specs.declared.literals.Lit.{Lit}
use Rattle.slot_board.specs.Board.{sign_of}
use Rattle.slot_board.specs.declared.board.Operation.TheVariants.{Join, Meet, Minus}
use Rattle.slot_board.specs.declared.board.Outcomes.{Outcomes}
use Rattle.plan_certs.specs.Certificates.{CubeSet}
use Rattle.board_steps.specs.declared.steps.Step.{Step}
use Rattle.board_steps.specs.declared.steps.Step.TheVariants.{Whole, Fluent, Fix, Kept, Copy, Combine, Lead}

abbrev pub literal_steps : Lit → List Step
literal_steps lit = Fluent 3 lit.fluent ∷ Combine 2 (sign_of lit.positive) 2 3 ∷ []

-- a cube, the states that it matches, and the set with these
abbrev pub state_steps : SetId → List Step
state_steps space = Kept 3 space ∷ Combine 2 Meet 2 3 ∷ Combine 1 Join 1 2 ∷ []

abbrev pub cube_steps : SetId → Cube → List Step
cube_steps space cube = Whole 2 ∷ (flat_map literal_steps cube ++ state_steps space)

abbrev pub set_steps : SetId → CubeSet → List Step
set_steps space set = Combine 1 Minus 1 1 ∷ flat_map (cube_steps space) set

-- what is in the union and in a set that is kept
abbrev pub common_steps : SetId → List Step
common_steps kept = Kept 3 kept ∷ Combine 4 Meet 0 3 ∷ []

-- what is left once the literals of a cube are fixed
abbrev pub fix_step : Lit → Step
fix_step lit = Fix 2 lit.fluent lit.positive

abbrev pub fix_steps : Cube → List Step
fix_steps cube = Copy 2 4 ∷ map fix_step cube

-- the states in which an action can be executed, less those from which it is no way out
abbrev pub way_out_steps : Class → SetId → ActionId → List Step
way_out_steps Weak exec a =
    Kept 4 exec ∷ Lead 3 Outcomes.Every a 1 ∷ Combine 4 Minus 4 3 ∷ []
way_out_steps Strong exec a =
    Kept 4 exec ∷ Lead 3 Outcomes.Some a 1 ∷ Combine 4 Minus 4 3 ∷ []
way_out_steps Cyclic exec a =
    Kept 4 exec ∷ Lead 3 Outcomes.Some a 0 ∷ Combine 4 Minus 4 3 ∷ Combine 3 Join 0 1
    ∷ Lead 3 Outcomes.Every a 3 ∷ Combine 4 Minus 4 3 ∷ []
