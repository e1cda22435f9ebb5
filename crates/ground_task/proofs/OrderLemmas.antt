-- A table of atoms in order, as the list of the plain atoms.
use Rattle.std.proofs.Common.{◌≡◌, ◌≢◌, ℕ, zero, suc, ◌+◌, ◌<◌, false, Decides, List, [], ◌∷◌, map, length, get_or, refl, ap, sym, ◌∙◌, arith}
use Rattle.std.specs.List.{AllByRecursion, AllPairs, IsDistinct}
use Rattle.std.specs.List.Sorted.{IsPermutation, IsSorted}
use Rattle.std.specs.Ordering.{is_lt}
use Rattle.std.proofs.lemmas.List.{length-map}
use Rattle.std.proofs.lemmas.List.Sorted.{IsPermutation-map, length_permutation, list_any-IsPermutation}
use Rattle.std.proofs.lemmas.Map.Made.{AllPairs-from_IsDistinct}
use Rattle.ground_instances.specs.Atoms.{atom_tree}
use Rattle.ground_instances.specs.declared.atoms.Atom.{Atom}
use Rattle.ground_instances.specs.contracts.atoms.AtomOrd as order
use Rattle.pddl_ast.specs.Trees.{AtomTree}
use Rattle.pddl_system.specs.GroundAtoms.{is_among, same_atom}
use Rattle.pddl_system.specs.Orders.{atom_order}
use Rattle.pddl_system.proofs.Numbers.{same_atom-equal, same_atom-refl}
use Rattle.ground_task.proofs.AtomLemmas.{is_atom}

same_atom-Decides : (a b : AtomTree) → Decides (same_atom a b) (a ≡ b)
same_atom-Decides a b = (same_atom-equal a b, λ e. ap (same_atom a) (sym e) ∙ same_atom-refl a)

others_differ : (a : Atom) (keys : List Atom) → AllByRecursion (λ k. is_atom a k ≡ false) keys → AllByRecursion (λ b. same_atom (atom_tree a) b ≡ false) (map atom_tree keys)
others_differ a [] h = h
others_differ a (k ∷ keys) h = (h.0, others_differ a keys h.1)

trees_distinct : (keys : List Atom) → IsDistinct is_atom keys → IsDistinct same_atom (map atom_tree keys)
unfolding IsDistinct
trees_distinct [] h = h
trees_distinct (k ∷ keys) h = (others_differ k keys h.0, trees_distinct keys h.1)

pub trees_differ : (keys : List Atom) → IsDistinct is_atom keys → AllPairs (λ a b. a ≢ b) (map atom_tree keys)
trees_differ keys h = AllPairs-from_IsDistinct {eq = same_atom} same_atom-Decides (map atom_tree keys) (trees_distinct keys h)

read_at : (keys : List Atom) (k : ℕ) (d : AtomTree) (e : Atom) → k < length keys → get_or (map atom_tree keys) k d ≡ atom_tree (get_or keys k e)
read_at [] k d e h = absurd (omega arith)
read_at (x ∷ keys) zero d e h = refl
read_at (x ∷ keys) (suc k) d e h = read_at keys k d e (omega arith)

pub trees_sorted : (keys : List Atom) → IsSorted (order.TheImpl.cmp-value).it keys → IsSorted atom_order (map atom_tree keys)
trees_sorted [] h = λ k d low high. absurd (omega arith)
trees_sorted (x ∷ keys) h = λ k d low high.
    let n = length-map (x ∷ keys) atom_tree in
    let there : k + 1 < length (x ∷ keys) = omega arith in
    let a = read_at (x ∷ keys) (k + 1) d x there in
    let b = read_at (x ∷ keys) k d x (omega arith) in
    ap (λ w. is_lt (atom_order w (get_or (map atom_tree (x ∷ keys)) k d))) a
    ∙ ap (λ w. is_lt (atom_order (atom_tree (get_or (x ∷ keys) (k + 1) x)) w)) b
    ∙ h k x low there

pub trees_same : (keys after : List Atom) (a : AtomTree) → IsPermutation keys after → is_among (map atom_tree after) a ≡ is_among (map atom_tree keys) a
trees_same keys after a moved = sym (list_any-IsPermutation (same_atom a) (map atom_tree keys) (map atom_tree after) (IsPermutation-map atom_tree keys after moved))

pub trees_count : (keys after : List Atom) → IsPermutation keys after → length (map atom_tree after) ≡ length (map atom_tree keys)
trees_count keys after moved = length_permutation (map atom_tree keys) (map atom_tree after) (IsPermutation-map atom_tree keys after moved)
