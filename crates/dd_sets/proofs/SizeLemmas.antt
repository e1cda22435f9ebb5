-- How many nodes the sets of a call have, by the sizes that its caller knows.
use Rattle.std.proofs.Common.{◌≡◌, ℕ, zero, suc, ◌+◌, ◌*◌, ◌^◌, ◌<◌, ◌≤◌, List, [], ◌∷◌, ◌++◌, length, Contains, refl, arith}
use Rattle.dd_nodes.specs.Subfunctions.{Function, nodes}
use Rattle.dd_ops.proofs.GrowthBounds.{grow_piece, grow-append, grow-nil}
use Rattle.dd_ops.specs.Growth.{grow}
use Rattle.dd_sets.specs.Rooms.{Small, Rough, AreRough}
use Rattle.dd_sets.proofs.LiveLemmas.{added}
use Rattle.dd_sets.proofs.TightLemmas.{nodes_grow}

pub nodes-append : (vars : ℕ) (fs gs : List Function) → nodes vars (fs ++ gs) ≤ nodes vars fs + nodes vars gs
nodes-append vars fs gs =
    let e : nodes vars (fs ++ gs) ≡ grow vars [] (fs ++ gs) = nodes_grow vars (fs ++ gs) in
    let f : nodes vars fs ≡ grow vars [] fs = nodes_grow vars fs in
    let g : nodes vars gs ≡ grow vars [] gs = nodes_grow vars gs in
    let both : grow vars [] (fs ++ gs) ≤ grow vars [] fs + grow vars [] gs = grow-append vars [] fs gs in
    omega arith

pub nodes-nil : (vars : ℕ) → nodes vars [] ≡ 0
nodes-nil vars = let e : nodes vars [] ≡ grow vars [] [] = nodes_grow vars [] in omega (arith, grow-nil vars [])

-- no pieces are rough
pub no_pieces_rough : (vars w : ℕ) → AreRough vars w []
unfolding AreRough
no_pieces_rough vars w = let e : nodes vars [] ≡ 0 = nodes-nil vars in omega arith

-- sets each of which has at most so many nodes
nodes_each : (vars most : ℕ) (sets : List Function) → ((set : Function) → Contains sets set → nodes vars (set ∷ []) ≤ most) → nodes vars sets ≤ length sets * most
nodes_each vars most [] each = omega (arith, nodes-nil vars)
nodes_each vars most (set ∷ sets) each =
    let one : nodes vars (set ∷ []) ≤ most = each set (zero, omega arith, refl) in
    let both : nodes vars (set ∷ sets) ≤ nodes vars (set ∷ []) + nodes vars sets = nodes-append vars (set ∷ []) sets in
    let rest : nodes vars sets ≤ length sets * most = nodes_each vars most sets (λ f has. each f (added set sets has)) in
    omega arith

pub nodes_small : (vars w : ℕ) (sets : List Function) → ((set : Function) → Contains sets set → Small vars w set) → nodes vars sets ≤ length sets * w
unfolding Small
nodes_small vars w sets each = nodes_each vars w sets (λ set has. let few : nodes vars (set ∷ []) + 2 ≤ w = each set has in omega arith)

pub nodes_rough : (vars w : ℕ) (sets : List Function) → ((set : Function) → Contains sets set → Rough vars w set) → nodes vars sets ≤ length sets * (w * w)
unfolding AreRough
nodes_rough vars w sets each = nodes_each vars (w * w) sets each

-- each set is small for a large number
pub every_small : (vars : ℕ) (set : Function) → Small vars (2 ^ vars + 1) set
unfolding Small
every_small vars set =
    let e : nodes vars (set ∷ []) ≡ grow vars [] (set ∷ []) = nodes_grow vars (set ∷ []) in
    let few : grow vars [] (set ∷ []) < 2 ^ vars = grow_piece vars [] set in
    omega arith

-- a small set is rough
pub small_rough : (vars w : ℕ) (set : Function) → Small vars w set → Rough vars w set
unfolding Small AreRough
small_rough vars zero set few = absurd (let e : nodes vars (set ∷ []) + 2 ≤ 0 = few in omega arith)
small_rough vars (suc w) set few = let e : nodes vars (set ∷ []) + 2 ≤ suc w = few in let more : suc w ≤ suc w * suc w = omega arith in omega arith

-- a set that is small for a number is small for a greater one
pub small_wider : (vars less more : ℕ) (set : Function) → less ≤ more → Small vars less set → Small vars more set
unfolding Small
small_wider vars less more set wider few = let e : nodes vars (set ∷ []) + 2 ≤ less = few in omega arith
