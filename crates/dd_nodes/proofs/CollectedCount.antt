-- After a collection all nodes are reached from the roots, so they are counted by the functions of
-- the roots.
use Rattle.std.proofs.Common.{◌≡◌, ℕ, zero, suc, ◌+◌, ◌-◌, ◌<◌, ◌≤◌, List, [], ◌∷◌, length, map, get_or, refl, sym, ap, subst, ◌∙◌, arith}
use Rattle.std.specs.List.{All, Any, Contains}
use Rattle.std.proofs.lemmas.List.Elements.{All-map}
use Rattle.dd_nodes.specs.declared.node.Node.{Node}
use Rattle.dd_nodes.specs.declared.node.Ref.{Ref}
use Rattle.dd_nodes.specs.NodeList.{IsNumber, IsReduced, function}
use Rattle.dd_nodes.specs.Reached.{IsReached}
use Rattle.dd_nodes.specs.Subfunctions.{nodes}
use Rattle.dd_nodes.specs.Laws.{AreReachedNodes}
use Rattle.dd_nodes.specs.Collecting.{Collected}
use Rattle.dd_nodes.proofs.NodeCount.{any_map, nodes_counted}
use Rattle.dd_nodes.proofs.Reaching.{reached_number}

-- n numbers from a number on
numbers_from : ℕ → ℕ → List ℕ
numbers_from start zero = []
numbers_from start (suc n) = start ∷ numbers_from (suc start) n

length_from : (start n : ℕ) → length (numbers_from start n) ≡ n
unfolding numbers_from
length_from start zero = refl
length_from start (suc n) = ap suc (length_from (suc start) n)

number_at : (start n k d : ℕ) → k < n → get_or (numbers_from start n) k d ≡ start + k
unfolding numbers_from
number_at start zero k d within = absurd (omega arith)
number_at start (suc n) zero d within = omega arith
number_at start (suc n) (suc k) d within = let rest : get_or (numbers_from (suc start) n) k d ≡ suc start + k = number_at (suc start) n k d (omega arith) in omega arith

module _ (vars : ℕ) (before after : List Node) (old new : List Ref) (reduced : IsReduced vars after) (collected : Collected before after old new) where
  from : List ℕ
  from = map (λ (r : Ref). r.0) new

  all_numbers : All (IsNumber after) from
  unfolding from
  all_numbers = All-map (IsNumber after) (λ (r : Ref). r.0) new collected.numbers

  all_reached : AreReachedNodes after from (numbers_from 2 (length after))
  unfolding from
  all_reached = record {
    once = λ i j d less within.
        let size : length (numbers_from 2 (length after)) ≡ length after = length_from 2 (length after) in
        let first : get_or (numbers_from 2 (length after)) i d ≡ 2 + i = number_at 2 (length after) i d (omega arith) in
        let second : get_or (numbers_from 2 (length after)) j d ≡ 2 + j = number_at 2 (length after) j d (omega arith) in
        λ e. omega arith;
    all = λ m. (
      (λ (member : Contains (numbers_from 2 (length after)) m).
          let size : length (numbers_from 2 (length after)) ≡ length after = length_from 2 (length after) in
          let within : member.0 < length (numbers_from 2 (length after)) = member.1 in
          let at : get_or (numbers_from 2 (length after)) member.0 m ≡ m = member.2 in
          let is : get_or (numbers_from 2 (length after)) member.0 m ≡ 2 + member.0 = number_at 2 (length after) member.0 m (omega arith) in
          let large : 2 ≤ m = omega arith in
          let small : m < length after + 2 = omega arith in
          (large, any_map (λ (r : Ref). IsReached after r.0 m) (λ n. IsReached after n m) (λ (r : Ref). r.0) (λ r leads. leads) new (collected.reached m large small))),
      (λ (found : (2 ≤ m) × Any (λ n. IsReached after n m) from).
          let size : length (numbers_from 2 (length after)) ≡ length after = length_from 2 (length after) in
          let root = found.1 in
          let large : 2 ≤ m = found.0 in
          let start : IsNumber after root.1 = subst (IsNumber after) root.3 (all_numbers root.0 root.1 root.2) in
          let small : m < length after + 2 = reached_number vars after reduced root.1 m root.4 start in
          let at : get_or (numbers_from 2 (length after)) (m - 2) m ≡ 2 + (m - 2) = number_at 2 (length after) (m - 2) m (omega arith) in
          (m - 2, omega arith, omega arith)),
    );
  }

  same_map : (list : List Ref) → map (function after) (map (λ (r : Ref). r.0) list) ≡ map (λ (r : Ref). function after r.0) list
  same_map [] = refl
  same_map (r ∷ list) = ap (λ fs. function after r.0 ∷ fs) (same_map list)

  pub collected_counted : length after ≡ nodes vars (map (λ (r : Ref). function after r.0) new)
  unfolding from
  collected_counted =
      sym (length_from 2 (length after))
      ∙ sym (nodes_counted vars after reduced from (numbers_from 2 (length after)) all_numbers all_reached)
      ∙ ap (nodes vars) (same_map new)
