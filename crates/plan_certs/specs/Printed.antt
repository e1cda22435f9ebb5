-- The certificate that is printed where no plan of a class exists, by the layers and the rounds in
-- which plans are looked for.
use Rattle.std.specs.Prelude.{◌≡◌, ℕ, suc, ◌<◌, ◌^◌, true, false, not, ◌&&◌, List, [], ◌∷◌, map}
use Rattle.std.specs.List.{range_with_len}
use Rattle.task_core.specs.Cubes.{SetOfVectors, cubes_of, is_empty_set}
use Rattle.task_core.specs.Systems.{System}
use Rattle.task_core.specs.declared.classes.Class.{Class}
use Rattle.task_core.specs.declared.classes.Class.TheVariants.{Weak, Strong, Cyclic}
use Rattle.plan_theory.specs.Layers.{layer}
use Rattle.plan_theory.specs.PairRounds.{round}
use Rattle.plan_certs.specs.Certificates.{CubeSet, PlainCertificate}

-- the states in no layer: no layer has more than the one of as many steps as there are states
abbrev pub outside_layers : Class → System → SetOfVectors
outside_layers class sys v = sys.in_space v && not (layer class sys (2 ^ sys.fluents) v)

-- the states that round k loses. Those that the rounds before it have left are all states outside the
-- sets so far; from the ones that are lost no goal state is reached by pairs outside the goal and
-- these sets with no outcome in one of them
abbrev pub lost_set : System → ℕ → SetOfVectors
lost_set sys k v = sys.in_space v && (round sys k v && not (round sys (suc k) v))

-- the cubes of a set
abbrev pub set_cubes : System → SetOfVectors → CubeSet
set_cubes sys set = cubes_of sys.fluents set

-- the sets of the first n rounds
abbrev pub lost_sets : System → ℕ → List CubeSet
lost_sets sys n = map (λ k. set_cubes sys (lost_set sys k)) (range_with_len 0 n)

-- round n is the first that loses no state
pub record IsFirstWhole (sys : System) (n : ℕ) : Type 0 where
  pub whole : is_empty_set sys.fluents (lost_set sys n) ≡ true
  pub first : (k : ℕ) → k < n → is_empty_set sys.fluents (lost_set sys k) ≡ false

-- this is the printed certificate of a class: against weak and strong plans the states in no layer,
-- and against strong cyclic ones what the rounds lose, up to the first that loses nothing
abbrev pub IsPrinted : Class → System → PlainCertificate → Type 0
IsPrinted Weak sys certificate =
    certificate ≡ record { class = Weak; sets = set_cubes sys (outside_layers Weak sys) ∷ [] }
IsPrinted Strong sys certificate =
    certificate ≡ record { class = Strong; sets = set_cubes sys (outside_layers Strong sys) ∷ [] }
IsPrinted Cyclic sys certificate =
    (n : ℕ) × IsFirstWhole sys n
    × (certificate ≡ record { class = Cyclic; sets = lost_sets sys n })
