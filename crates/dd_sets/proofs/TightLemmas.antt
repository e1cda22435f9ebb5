-- Tight limits, by nodes and by slots.
use Rattle.std.proofs.Common.{◌≡◌, ℕ, ◌+◌, ◌*◌, ◌^◌, ◌<◌, ◌≤◌, List, [], ◌∷◌, ◌++◌, length, Contains, sym, ap, subst, ◌∙◌, arith, length-append}
use Rattle.std.proofs.Math.Nat.{pow-le-pow_left}
use Rattle.dd_nodes.proofs.NodeLemmas.{function_false, function_true}
use Rattle.dd_nodes.specs.Subfunctions.{Function, constants, functions, functions_below, nodes, nodes_beside}
use Rattle.dd_ops.proofs.GrowthBounds.{grow_piece, grow-append, grow-nil}
use Rattle.dd_ops.specs.Growth.{grow}
use Rattle.dd_sets.specs.LiveSets.{LiveSets, live_count, live_sets}
use Rattle.dd_sets.specs.Rooms.{Tight, IsFull, IsAtLimit, IsTightFor, nodes_of_slots}
use Rattle.dd_sets.proofs.CountLemmas.{nodes_fewer}
use Rattle.dd_sets.proofs.SetLemmas.{count_sets}

pub tight_more : (limit fluents few many : ℕ) → few ≤ many → Tight limit fluents few → Tight limit fluents many
unfolding Tight
tight_more limit fluents few many more tight = let below : limit < few = tight.0 in (omega arith, tight.1)

-- a limit that is tight for some functions is tight for more
pub tight_within : (before middle : LiveSets) (few many : List Function) → middle.vars ≡ before.vars → middle.limit ≡ before.limit → ((f : Function) → Contains few f → Contains many f)
    → Tight middle.limit middle.vars (nodes middle.vars few) → Tight before.limit before.vars (nodes before.vars many)
tight_within before middle few many vars limit each tight =
    tight_more before.limit before.vars (nodes before.vars few) (nodes before.vars many)
    (nodes_fewer before.vars few many each)
    (subst (λ v. Tight before.limit v (nodes v few)) vars (subst (λ l. Tight l middle.vars (nodes middle.vars few)) limit tight))

-- the numbers of a list without nodes are the constants
no_nodes : functions [] ≡ constants
unfolding functions_below
no_nodes = λ i. (λ values. function_false [] values i) ∷ (λ values. function_true [] values i) ∷ []

pub nodes_grow : (vars : ℕ) (sets : List Function) → nodes vars sets ≡ grow vars [] sets
nodes_grow vars sets = ap (λ known. nodes_beside vars known sets) (sym no_nodes)

-- each set has fewer nodes than there are lists of truth values
pub nodes_within : (vars : ℕ) (sets : List Function) → nodes vars sets ≤ length sets * 2 ^ vars
nodes_within vars sets = let e : nodes vars sets ≡ grow vars [] sets = nodes_grow vars sets in let b : grow vars [] sets ≤ length sets * 2 ^ vars = bound sets in omega arith
  where
    bound : (sets : List Function) → grow vars [] sets ≤ length sets * 2 ^ vars
    bound [] = omega (arith, grow-nil vars [])
    bound (set ∷ sets) =
        let one : grow vars [] (set ∷ []) < 2 ^ vars = grow_piece vars [] set in
        let both : grow vars [] (set ∷ sets) ≤ grow vars [] (set ∷ []) + grow vars [] sets = grow-append vars [] (set ∷ []) sets in
        let rest : grow vars [] sets ≤ length sets * 2 ^ vars = bound sets in
        omega arith

pub power_within : (n : ℕ) → 2 ^ n ≤ 4 ^ n
power_within n = pow-le-pow_left {n = 2} {m = 4} (omega arith) n

pub tight_for : (before after : LiveSets) (piece : Function) → IsFull before after (piece ∷ []) → after.vars ≡ before.vars → after.limit ≡ before.limit → (more : ℕ) → IsTightFor more before
tight_for before after piece full vars limit more fluents =
    subst (λ v. Tight before.limit v (nodes_of_slots (live_count before + more) v)) vars
    (subst (λ l. Tight l after.vars (nodes_of_slots (live_count before + more) after.vars)) limit
    (tight_more after.limit after.vars (nodes after.vars (live_sets before ++ piece ∷ [])) (nodes_of_slots (live_count before + more) after.vars) fits (full.tight fluents)))
  where
    fits : nodes after.vars (live_sets before ++ piece ∷ []) ≤ nodes_of_slots (live_count before + more) after.vars
    fits =
        let most : nodes after.vars (live_sets before ++ piece ∷ []) ≤ length (live_sets before ++ piece ∷ []) * 2 ^ after.vars = nodes_within after.vars (live_sets before ++ piece ∷ []) in
        let slots : length (live_sets before ++ piece ∷ []) ≡ live_count before + 1 = omega (arith, length-append (live_sets before) (piece ∷ []), count_sets before) in
        let e : length (live_sets before ++ piece ∷ []) * 2 ^ after.vars ≡ (live_count before + 1) * 2 ^ after.vars = ap (λ n. n * 2 ^ after.vars) slots in
        let power : 2 ^ after.vars ≤ 4 ^ after.vars = power_within after.vars in
        let less : live_count before * 2 ^ after.vars ≤ (live_count before + more) * 2 ^ after.vars = omega arith in
        omega arith

-- a table with the nodes and the limit of one that holds as many nodes as it may does so too
pub at_limit_kept : (before after : LiveSets) → after.nodes ≡ before.nodes → after.limit ≡ before.limit → IsAtLimit before → IsAtLimit after
at_limit_kept before after nodes limit full = ap length nodes ∙ full ∙ sym limit
