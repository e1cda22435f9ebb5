-- Marks at roots and at the children of marked nodes.
use Rattle.std.proofs.Common.{◌≡◌, ◌≢◌, ℕ, ◌+◌, ◌-◌, ◌<◌, ◌≤◌, ltb, List, [], ◌∷◌, ◌++◌, length, get_or, set, replicate, slice_get, Some, refl, sym, ap, subst, ◌∙◌, inl, inr, ◌⊎◌, ⊎_elim, arith}
use Rattle.std.proofs.lemmas.Bool.{cases_lt, cases_eq, lt-ltb, le-ltb, cond-true, cond-false}
use Rattle.std.proofs.lemmas.List.{length-set, length-append, length-replicate, get_or-set_same, get_or-set_other, get_or_append_left}
use Rattle.std.proofs.lemmas.List.Elements.{All-nil, All-push, All-weaker}
use Rattle.std.proofs.lemmas.List.Quantifiers.{Any-push}
use Rattle.std.proofs.lemmas.Option.{slice_get_within, same_Some}
use Rattle.std.specs.List.{Any}
use Rattle.dd_nodes.specs.declared.node.Node.{Node}
use Rattle.dd_nodes.specs.declared.node.Ref.{Ref}
use Rattle.dd_nodes.specs.Collecting.{HasMark, IsCaused, AreMarks, AreInOrder, with_mark}
use Rattle.dd_nodes.specs.Collecting.IsCaused.{as_root, as_lo, as_hi}
use Rattle.dd_nodes.proofs.Chains.{zeros_at}

-- one mark more
pub record IsMarked (before after : List ℕ) (n : ℕ) : Type 0 where
  pub size : length after ≡ length before
  pub has : HasMark after n
  pub kept : (i : ℕ) → 0 < get_or before i 0 → 0 < get_or after i 0
  pub only : (i : ℕ) → 0 < get_or after i 0 → (0 < get_or before i 0) ⊎ (n ≡ i + 2)

pub is_marked : (marks : List ℕ) (n : ℕ) → n < length marks + 2 → IsMarked marks (with_mark marks n) n
is_marked marks n within = ⊎_elim
    (λ (small : n < 2). subst (λ l. IsMarked marks l n) (sym (cond-true (ltb n 2) marks (set marks (n - 2) 1) (lt-ltb n 2 small))) (record {
      size = refl;
      has = λ large. absurd (omega arith);
      kept = λ i some. some;
      only = λ i some. inl some;
    }))
    (λ (large : 2 ≤ n). subst (λ l. IsMarked marks l n) (sym (cond-false (ltb n 2) marks (set marks (n - 2) 1) (le-ltb n 2 large)))
    (let here : get_or (set marks (n - 2) 1) (n - 2) 0 ≡ 1 = get_or-set_same marks (n - 2) 1 0 (omega arith) in
    record {
      size = length-set marks (n - 2) 1;
      has = λ _. omega arith;
      kept = λ i some. ⊎_elim
          (λ (e : i ≡ n - 2). subst (λ j. 0 < get_or (set marks (n - 2) 1) j 0) (sym e) (omega arith))
          (λ (e : i ≢ n - 2). let same : get_or (set marks (n - 2) 1) i 0 ≡ get_or marks i 0 = get_or-set_other marks (n - 2) i 1 0 e in omega arith)
          (cases_eq i (n - 2));
      only = λ i some. ⊎_elim
          (λ (e : i ≡ n - 2). inr (omega arith))
          (λ (e : i ≢ n - 2). let same : get_or (set marks (n - 2) 1) i 0 ≡ get_or marks i 0 = get_or-set_other marks (n - 2) i 1 0 e in inl (omega arith))
          (cases_eq i (n - 2));
    }))
    (cases_lt n 2)

-- a number keeps its mark
pub has_kept : (before after : List ℕ) (n : ℕ) → IsMarked before after n → (m : ℕ) → HasMark before m → HasMark after m
has_kept before after n marked m has large = marked.kept (m - 2) (has large)

caused_kept : (nodes : List Node) (roots : List Ref) (before after : List ℕ) → ((i : ℕ) → 0 < get_or before i 0 → 0 < get_or after i 0) → (i : ℕ) → IsCaused nodes roots before i → IsCaused nodes roots after i
caused_kept nodes roots before after kept i (as_root some) = as_root some
caused_kept nodes roots before after kept i (as_lo place node marked at child) = as_lo place node (kept place marked) at child
caused_kept nodes roots before after kept i (as_hi place node marked at child) = as_hi place node (kept place marked) at child

any_left : {X : Type 0} (P : X → Type 0) (xs ys : List X) → Any P xs → Any P (xs ++ ys)
any_left P xs ys (k, x, within, at, holds) = (k, x, omega (arith, length-append xs ys), get_or_append_left xs ys x k within ∙ at, holds)

caused_more : (nodes : List Node) (roots more : List Ref) (marks : List ℕ) (i : ℕ) → IsCaused nodes roots marks i → IsCaused nodes (roots ++ more) marks i
caused_more nodes roots more marks i (as_root some) = as_root (any_left (λ (r : Ref). r.0 ≡ i + 2) roots more some)
caused_more nodes roots more marks i (as_lo place node marked at child) = as_lo place node marked at child
caused_more nodes roots more marks i (as_hi place node marked at child) = as_hi place node marked at child

-- no marks, and no roots
pub no_marks : (nodes : List Node) (n : ℕ) → n ≡ length nodes → (marks : List ℕ) → marks ≡ replicate n 0 → AreMarks nodes [] marks (length nodes)
no_marks nodes n size marks zeros =
    let none : (i : ℕ) → 0 < get_or marks i 0 → ⊥ = λ i some. (let e : get_or marks i 0 ≡ 0 = ap (λ l. get_or l i 0) zeros ∙ zeros_at n i in omega arith) in
    record {
      size = ap length zeros ∙ length-replicate n 0 ∙ size;
      roots_have = All-nil (λ (r : Ref). HasMark marks r.0);
      los_have = λ i node past some at. absurd (none i some);
      his_have = λ i node past some at. absurd (none i some);
      caused = λ i some. absurd (none i some);
    }

module _ (nodes : List Node) (roots : List Ref) (marks : List ℕ) where
  -- a root more
  pub root_marked : (x : Ref) (after : List ℕ) → IsMarked marks after x.0 → AreMarks nodes roots marks (length nodes) → AreMarks nodes (roots ++ x ∷ []) after (length nodes)
  root_marked x after marked are = record {
    size = marked.size ∙ are.size;
    roots_have = All-push (λ (r : Ref). HasMark after r.0) roots x
        (All-weaker (λ (r : Ref). HasMark marks r.0) (λ (r : Ref). HasMark after r.0) (λ r has. has_kept marks after x.0 marked r.0 has) roots are.roots_have) marked.has;
    los_have = λ i node past some at. let within : i < length nodes = slice_get_within nodes i node at in absurd (omega arith);
    his_have = λ i node past some at. let within : i < length nodes = slice_get_within nodes i node at in absurd (omega arith);
    caused = λ i some. ⊎_elim
        (λ (old : 0 < get_or marks i 0). caused_more nodes roots (x ∷ []) after i (caused_kept nodes roots marks after marked.kept i (are.caused i old)))
        (λ (new : x.0 ≡ i + 2). as_root (Any-push (λ (r : Ref). r.0 ≡ i + 2) roots x new))
        (marked.only i some);
  }

  -- a child more, of a marked node that is before those whose children have their marks
  child_marked : (place n : ℕ) (after : List ℕ) → n < place + 2 → ((i : ℕ) → n ≡ i + 2 → IsCaused nodes roots after i) → IsMarked marks after n
      → AreMarks nodes roots marks (place + 1) → AreMarks nodes roots after (place + 1)
  child_marked place n after lower cause marked are = record {
    size = marked.size ∙ are.size;
    roots_have = All-weaker (λ (r : Ref). HasMark marks r.0) (λ (r : Ref). HasMark after r.0) (λ r has. has_kept marks after n marked r.0 has) roots are.roots_have;
    los_have = λ i node past some at. ⊎_elim
        (λ (old : 0 < get_or marks i 0). has_kept marks after n marked node.lo.0 (are.los_have i node past old at))
        (λ (new : n ≡ i + 2). absurd (omega arith))
        (marked.only i some);
    his_have = λ i node past some at. ⊎_elim
        (λ (old : 0 < get_or marks i 0). has_kept marks after n marked node.hi.0 (are.his_have i node past old at))
        (λ (new : n ≡ i + 2). absurd (omega arith))
        (marked.only i some);
    caused = λ i some. ⊎_elim
        (λ (old : 0 < get_or marks i 0). caused_kept nodes roots marks after marked.kept i (are.caused i old))
        (λ (new : n ≡ i + 2). cause i new)
        (marked.only i some);
  }

  -- one node more whose children have their marks
  one_closed : (place : ℕ) → ((node : Node) → 0 < get_or marks place 0 → slice_get nodes place ≡ Some node → HasMark marks node.lo.0 × HasMark marks node.hi.0)
      → AreMarks nodes roots marks (place + 1) → AreMarks nodes roots marks place
  one_closed place have are = record {
    size = are.size;
    roots_have = are.roots_have;
    los_have = λ i node past some at. ⊎_elim
        (λ (e : i ≡ place). (have node (subst (λ j. 0 < get_or marks j 0) e some) (ap (slice_get nodes) (sym e) ∙ at)).0)
        (λ (e : i ≢ place). are.los_have i node (omega arith) some at)
        (cases_eq i place);
    his_have = λ i node past some at. ⊎_elim
        (λ (e : i ≡ place). (have node (subst (λ j. 0 < get_or marks j 0) e some) (ap (slice_get nodes) (sym e) ∙ at)).1)
        (λ (e : i ≢ place). are.his_have i node (omega arith) some at)
        (cases_eq i place);
    caused = are.caused;
  }

  -- an unmarked node
  pub unmarked_closed : (place : ℕ) → get_or marks place 0 ≡ 0 → AreMarks nodes roots marks (place + 1) → AreMarks nodes roots marks place
  unmarked_closed place none are = one_closed place (λ node some at. absurd (omega arith)) are

-- a marked node, whose children are marked now
pub marked_closed : (nodes : List Node) (order : AreInOrder nodes) (roots : List Ref) (marks : List ℕ) (place : ℕ) (node : Node) → slice_get nodes place ≡ Some node
    → 0 < get_or marks place 0 → (first : List ℕ) → IsMarked marks first node.lo.0 → (second : List ℕ) → IsMarked first second node.hi.0
    → AreMarks nodes roots marks (place + 1) → AreMarks nodes roots second place
marked_closed nodes order roots marks place node there some first lo_marked second hi_marked are =
    let with_lo : AreMarks nodes roots first (place + 1) =
    child_marked nodes roots marks place node.lo.0 first (order.lo_before place node there) (λ i is. as_lo place node (lo_marked.kept place some) there is) lo_marked are in
    let with_hi : AreMarks nodes roots second (place + 1) =
    child_marked nodes roots first place node.hi.0 second (order.hi_before place node there) (λ i is. as_hi place node (hi_marked.kept place (lo_marked.kept place some)) there is) hi_marked with_lo in
    one_closed nodes roots second place
    (λ other _ at.
    let same : node ≡ other = same_Some node other (sym there ∙ at) in
    subst (λ (x : Node). HasMark second x.lo.0 × HasMark second x.hi.0) same (has_kept first second node.hi.0 hi_marked node.lo.0 lo_marked.has, hi_marked.has))
    with_hi

-- a root for places past the end
abbrev pub no_ref : Ref
no_ref = record { 0 = 0 }
