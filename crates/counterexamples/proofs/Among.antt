-- The false parts of conditions that stand in a list.
use Rattle.std.proofs.Common.{◌≡◌, ◌↔◌, ℕ, zero, suc, ◌<◌, ◌≤◌, ◌+◌, Bool, true, false, List, [], ◌∷◌, ◌++◌, length, take, drop, map, get_or, refl, sym, ap, ◌∙◌, subst, arith, ⊎_elim, inl, inr, ◌⊎◌}
use Rattle.std.specs.Prelude.{All, Contains, IsTrue, Vec, ◌&&◌}
use Rattle.std.specs.declared.alloc.Global.{Global}
use Rattle.std.specs.List.{list_all}
use Rattle.std.proofs.lemmas.Bool.{and_parts, false≢true}
use Rattle.std.proofs.lemmas.List.{append-nil, append_assoc, length-append, take_all, take_more}
use Rattle.std.proofs.lemmas.List.Elements.{All-append, All-cons, All-weaker, Contains-append_left, Contains-append_right}
use Rattle.std.proofs.lemmas.List.Folds.{list_all-map, list_all_at, list_all_more}
use Rattle.task_core.specs.Conditions.{holds_in, ids_below}
use Rattle.task_core.specs.States.{truth}
use Rattle.task_core.specs.declared.conditions.Cond.{Cond}
use Rattle.task_core.specs.declared.conditions.Cond.TheVariants.{All as AllOf}
use Rattle.task_core.specs.declared.states.State.{State}
use Rattle.task_core.proofs.Holds.{holds_All, ids_below_All}
use Rattle.counterexamples.specs.Parts.{HasFalseParts, IsFalsePart, Asks, by_part, itself}

-- a false part of some of the conditions
pub record IsFalseOfSome (conds : List Cond) (state : State) (part : Cond) : Type 0 where
  pub whole : Cond
  pub listed : Contains conds whole
  pub is : IsFalsePart whole state part

-- to some conditions false parts of these were added, some exactly where one of them is false
pub record HasFalseAmong (conds : List Cond) (state : State) (before after : List Cond) : Type 0 where
  pub more : List Cond
  pub added : after ≡ before ++ more
  pub each : All (IsFalseOfSome conds state) more
  pub some : (list_all (λ cond. holds_in cond state) conds ≡ false) ↔ (0 < length more)

pub among_none : (state : State) (before : List Cond) → HasFalseAmong [] state before before
among_none state before = record {
  more = [];
  added = sym (append-nil before);
  each = λ k d l. absurd (omega (arith, l));
  some = ((λ e. absurd (false≢true (sym e))), (λ l. absurd (omega (arith, l))));
}

-- one of the two is false exactly where something is added for one of them
both_some : (a b : Bool) (m n k : ℕ) → k ≡ m + n → ((a ≡ false) ↔ (0 < m)) → ((b ≡ false) ↔ (0 < n)) → ((a && b) ≡ false) ↔ (0 < k)
both_some true true m n k is f g = (
  (λ e. absurd (false≢true (sym e))),
  (λ l. ⊎_elim (λ (p : 0 < m). absurd (false≢true (sym (f.1 p)))) (λ (q : 0 < n). absurd (false≢true (sym (g.1 q)))) (one_of m n (omega (arith, l, is)))),
)
  where
    one_of : (m n : ℕ) → 0 < m + n → (0 < m) ⊎ (0 < n)
    one_of zero n l = inr (omega (arith, l))
    one_of (suc m) n l = inl (omega arith)
both_some true false m n k is f g = ((λ e. let q = g.0 refl in omega (arith, q, is)), (λ l. refl))
both_some false b m n k is f g = ((λ e. let p = f.0 refl in omega (arith, p, is)), (λ l. refl))

pub among_more : (conds : List Cond) (i : ℕ) (cond : Cond) (state : State) (first before after : List Cond) → i < length conds → cond ≡ get_or conds i cond
    → HasFalseAmong (take i conds) state first before → HasFalseParts cond state before after → HasFalseAmong (take (i + 1) conds) state first after
among_more conds i cond state first before after l is x y =
    let grown : take (i + 1) conds ≡ take i conds ++ cond ∷ [] = take_more conds i cond l ∙ ap (λ c. take i conds ++ c ∷ []) (sym is) in
    record {
      more = x.more ++ y.more;
      added = y.added ∙ ap (λ xs. xs ++ y.more) x.added ∙ append_assoc first x.more y.more;
      each =
          All-append (IsFalseOfSome (take (i + 1) conds) state) x.more y.more
          (All-weaker (IsFalseOfSome (take i conds) state) (IsFalseOfSome (take (i + 1) conds) state) (λ part p. record { whole = p.whole; listed = subst (λ cs. Contains cs p.whole) (sym grown) (Contains-append_left (take i conds) (cond ∷ []) p.whole p.listed); is = p.is }) x.more x.each)
          (All-weaker (IsFalsePart cond state) (IsFalseOfSome (take (i + 1) conds) state) (λ part p. record { whole = cond; listed = subst (λ cs. Contains cs cond) (sym grown) (Contains-append_right (take i conds) (cond ∷ []) cond (0, omega arith, refl)); is = p }) y.more y.each);
      some =
          subst (λ b. (b ≡ false) ↔ (0 < length (x.more ++ y.more)))
          (sym (list_all_more (λ c. holds_in c state) conds i cond l ∙ ap (λ c. list_all (λ d. holds_in d state) (take i conds) && holds_in c state) (sym is)))
          (both_some (list_all (λ c. holds_in c state) (take i conds)) (holds_in cond state) (length x.more) (length y.more) (length (x.more ++ y.more)) (length-append x.more y.more) x.some y.some);
    }

-- those of all parts of a conjunction
pub among_all : (cond : Cond) (parts : Vec Cond Global) (items : List Cond) (i : ℕ) (state : State) (before after : List Cond) → cond ≡ AllOf parts → items ≡ parts.items → length items ≤ i
    → HasFalseAmong (take i items) state before after → HasFalseParts cond state before after
among_all cond parts items i state before after is same done x =
    let all : take i items ≡ parts.items = take_all i items done ∙ same in
    record {
      more = x.more;
      added = x.added;
      each =
          All-weaker (IsFalseOfSome (take i items) state) (IsFalsePart cond state)
          (λ part p. record { asks = subst (λ c. Asks c part) (sym is) (by_part parts p.whole part (subst (λ cs. Contains cs p.whole) all p.listed) p.is.asks); fails = p.is.fails }) x.more x.each;
      some =
          subst (λ b. (b ≡ false) ↔ (0 < length x.more))
          (ap (list_all (λ c. holds_in c state)) all ∙ sym (holds_All parts (truth state)) ∙ ap (λ c. holds_in c state) (sym is)) x.some;
    }

-- one that is no conjunction
pub itself_false : (cond : Cond) (state : State) (before after : List Cond) → holds_in cond state ≡ false → after ≡ before ++ cond ∷ [] → HasFalseParts cond state before after
itself_false cond state before after e is = record {
  more = cond ∷ [];
  added = is;
  each = All-cons (IsFalsePart cond state) cond [] (record { asks = itself cond; fails = e }) (λ k d l. absurd (omega (arith, l)));
  some = ((λ _. omega arith), (λ _. e));
}

pub itself_true : (cond : Cond) (state : State) (before : List Cond) → holds_in cond state ≡ true → HasFalseParts cond state before before
itself_true cond state before e = record {
  more = [];
  added = sym (append-nil before);
  each = λ k d l. absurd (omega (arith, l));
  some = ((λ f. absurd (false≢true (sym f ∙ e))), (λ l. absurd (omega (arith, l))));
}

each_true : {X : Type 0} (p : X → Bool) (xs : List X) (i : ℕ) (d : X) → i < length xs → list_all p xs ≡ true → p (get_or xs i d) ≡ true
each_true p xs i d l all = go (p (get_or xs i d)) refl
  where
    go : (b : Bool) → p (get_or xs i d) ≡ b → b ≡ true
    go true e = refl
    go false e = absurd (false≢true (sym (list_all_at p xs i d l e) ∙ all))

pub part_below : (n : ℕ) (cond : Cond) (parts : Vec Cond Global) (items : List Cond) (i : ℕ) (part : Cond) → cond ≡ AllOf parts → items ≡ parts.items → i < length items → part ≡ get_or items i part
    → IsTrue (ids_below n cond) → IsTrue (ids_below n part)
part_below n cond parts items i part is same l at below =
    let all : list_all (ids_below n) items ≡ true = ap (list_all (ids_below n)) same ∙ sym (ids_below_All n parts) ∙ ap (ids_below n) (sym is) ∙ below in
    ap (ids_below n) at ∙ each_true (ids_below n) items i part l all

-- what is left of the parts names fluents below n
pub begun_below : (n : ℕ) (cond : Cond) (parts : Vec Cond Global) (items : List Cond) → cond ≡ AllOf parts → items ≡ parts.items → IsTrue (ids_below n cond)
    → list_all (λ part. part) (map (ids_below n) (drop 0 items)) ≡ true
begun_below n cond parts items is same below =
    list_all-map (λ b. b) (ids_below n) items ∙ ap (list_all (ids_below n)) same ∙ sym (ids_below_All n parts) ∙ ap (ids_below n) (sym is) ∙ below

rest_true : (f : Cond → Bool) (xs : List Cond) (i : ℕ) → list_all (λ part. part) (map f (drop i xs)) ≡ true → list_all (λ part. part) (map f (drop (suc i) xs)) ≡ true
rest_true f [] zero h = refl
rest_true f [] (suc i) h = refl
rest_true f (x ∷ xs) zero h = (and_parts _ _ h).1
rest_true f (x ∷ xs) (suc i) h = rest_true f xs i h

pub rest_below : (n : ℕ) (items : List Cond) (i : ℕ) → list_all (λ part. part) (map (ids_below n) (drop i items)) ≡ true → list_all (λ part. part) (map (ids_below n) (drop (i + 1) items)) ≡ true
rest_below n items i h =
    let more : i + 1 ≡ suc i = omega arith in
    subst (λ k. list_all (λ part. part) (map (ids_below n) (drop k items)) ≡ true) (sym more) (rest_true (ids_below n) items i h)
