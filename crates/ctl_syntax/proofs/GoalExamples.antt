-- Until-chains and patrol goals, and the parts of each. The propositions are numbers.
use Rattle.std.proofs.Common.{◌≡◌, ℕ, [], ◌∷◌, Some, None, refl}
use Rattle.ctl_syntax.specs.ContextGoals.{plain_goal, plain_until, plain_patrol}
use Rattle.ctl_syntax.specs.Goals.{CtlTree, plain, all, af, ag, au, aw, goal_row}
use Rattle.ctl_syntax.specs.Patrols.{patrol_of, patrol_tree}
use Rattle.ctl_syntax.specs.UntilChains.{until_of, until_tree}

-- nothing but a proposition to keep; one to reach, with a guard until then and without
only_kept : until_of {P = ℕ} (ag (plain 1)) ≡ Some (record { stages = []; keep = Some 1 })
only_kept = refl

only_reached : until_of {P = ℕ} (af (plain 1)) ≡ Some (record { stages = (record { guard = None; targets = 1 ∷ [] }) ∷ []; keep = None })
only_reached = refl

reached_with_guard : until_of {P = ℕ} (au (plain 5) (plain 1)) ≡ Some (record { stages = (record { guard = Some 5; targets = 1 ∷ [] }) ∷ []; keep = None })
reached_with_guard = refl

-- stages one after another: the first with a guard and two propositions, the second without a guard
abbrev two_stages : CtlTree ℕ
two_stages = au (plain 5) (all (goal_row (plain 1 ∷ plain 2 ∷ af (all (goal_row (plain 3 ∷ ag (plain 4) ∷ []))) ∷ [])))

in_order : until_of {P = ℕ} two_stages ≡ Some (record { stages = (record { guard = Some 5; targets = 1 ∷ 2 ∷ [] }) ∷ (record { guard = None; targets = 3 ∷ [] }) ∷ []; keep = Some 4 })
in_order = refl

-- the goal of stages of one proposition each
as_goal : until_tree {P = ℕ} (record { guard = 5; target = 1 } ∷ []) 4 ≡ au (plain 5) (all (goal_row (plain 1 ∷ ag (plain 4) ∷ [])))
as_goal = refl

-- no until-chains: a guard with operators, no proposition before the until-chain, the until-chain
-- before a proposition, two of them, "weak until", and a proposition alone
guard_with_operators : until_of {P = ℕ} (au (ag (plain 5)) (plain 1)) ≡ None
guard_with_operators = refl

no_proposition : until_of {P = ℕ} (au (plain 5) (all (goal_row (ag (plain 1) ∷ [])))) ≡ None
no_proposition = refl

chain_first : until_of {P = ℕ} (au (plain 5) (all (goal_row (ag (plain 1) ∷ plain 2 ∷ [])))) ≡ None
chain_first = refl

two_chains : until_of {P = ℕ} (au (plain 5) (all (goal_row (plain 1 ∷ ag (plain 2) ∷ ag (plain 3) ∷ [])))) ≡ None
two_chains = refl

weak : until_of {P = ℕ} (aw (plain 5) (plain 1)) ≡ None
weak = refl

no_operator : until_of {P = ℕ} (plain 1) ≡ None
no_operator = refl

-- patrol goals: of one condition, with `and` and without, and of two
one : patrol_of {P = ℕ} (ag (af (plain 1))) ≡ Some (1 ∷ [])
one = refl

one_in_a_row : patrol_of {P = ℕ} (ag (all (goal_row (af (plain 1) ∷ [])))) ≡ Some (1 ∷ [])
one_in_a_row = refl

two : patrol_of {P = ℕ} (ag (all (goal_row (af (plain 1) ∷ af (plain 2) ∷ [])))) ≡ Some (1 ∷ 2 ∷ [])
two = refl

patrol : patrol_tree {P = ℕ} (1 ∷ 2 ∷ []) ≡ ag (all (goal_row (af (plain 1) ∷ af (plain 2) ∷ [])))
patrol = refl

-- no patrol goals: of nothing, with a proposition that is to hold always, and of a proposition that
-- is to come about with a guard
of_nothing : patrol_of {P = ℕ} (ag (all (goal_row []))) ≡ None
of_nothing = refl

kept_as_well : patrol_of {P = ℕ} (ag (all (goal_row (af (plain 1) ∷ plain 2 ∷ [])))) ≡ None
kept_as_well = refl

with_guard : patrol_of {P = ℕ} (ag (au (plain 5) (plain 1))) ≡ None
with_guard = refl

-- of each kind
an_until_chain : plain_goal {P = ℕ} (ag (plain 1)) ≡ Some (plain_until (record { stages = []; keep = Some 1 }))
an_until_chain = refl

a_patrol : plain_goal {P = ℕ} (ag (af (plain 1))) ≡ Some (plain_patrol (1 ∷ []))
a_patrol = refl

neither : plain_goal {P = ℕ} (af (ag (af (plain 1)))) ≡ None
neither = refl
