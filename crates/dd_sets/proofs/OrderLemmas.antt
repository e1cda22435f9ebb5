-- Functions read through an order of the fluents.
use Rattle.std.proofs.Common.{◌≡◌, ℕ, ◌==◌, Bool, cond, List, [], sym, ap, subst, ◌∙◌, arith}
use Rattle.std.specs.Cmp.{both_ways}
use borrow.Author.Tests.{eqb-true, eq-eqb}
use Rattle.dd_nodes.specs.NodeList.{Values}
use Rattle.dd_nodes.specs.Subfunctions.{Function, DependsOnly}
use Rattle.dd_ops.specs.Operations.{variable, cofactor_of}
use Rattle.dd_sets.specs.Orders.{at_place, read, AreInverse, IsOrder, IsOwnOrder}

-- without a list each variable is the fluent of its own number
pub at_none : (order : List ℕ) (v : ℕ) → order ≡ [] → at_place order v ≡ v
at_none order v none = ap (λ (o : List ℕ). at_place o v) none

pub read_none : (order : List ℕ) (f : Function) → order ≡ [] → read order f ≡ f
read_none order f none = ap (λ (o : List ℕ). read o f) none

-- and the variable of a fluent, too
pub variable_none : {count : ℕ} (order variables : List ℕ) → AreInverse count order variables → (f : ℕ) → order ≡ [] → at_place variables f ≡ f
variable_none order variables inverse f none = sym (at_none order (at_place variables f) none) ∙ inverse.there f

module _ {count : ℕ} (order variables : List ℕ) (inverse : AreInverse count order variables) where
  -- the fluent of a variable is another's exactly where the variable is
  pub same_place : (v f : ℕ) → (v == at_place variables f) ≡ (at_place order v == f)
  same_place v f = both_ways (v == at_place variables f) (at_place order v == f)
      (λ e. eq-eqb (at_place order v) f (ap (at_place order) (eqb-true v (at_place variables f) e) ∙ inverse.there f))
      (λ e. eq-eqb v (at_place variables f) (sym (inverse.back v) ∙ ap (at_place variables) (eqb-true (at_place order v) f e)))

  pub same_fluent : (f v : ℕ) → (at_place variables f == v) ≡ (f == at_place order v)
  same_fluent f v = both_ways (at_place variables f == v) (f == at_place order v)
      (λ e. eq-eqb f (at_place order v) (sym (inverse.there f) ∙ ap (at_place order) (eqb-true (at_place variables f) v e)))
      (λ e. eq-eqb (at_place variables f) v (ap (at_place variables) (eqb-true f (at_place order v) e) ∙ inverse.back v))

  pub read_variable : (f : ℕ) → read order (variable (at_place variables f)) ≡ variable f
  read_variable f = λ i values. values (inverse.there f i)

  pub read_cofactor : (f : ℕ) (b : Bool) (g : Function) → read order (cofactor_of g (at_place variables f) b) ≡ cofactor_of (read order g) f b
  read_cofactor f b g = λ i values. g (λ v. cond (same_place v f i) b (values (at_place order v)))

  -- what is read can be read back
  pub read_back : (g : Function) (values : Values) → g values ≡ read order g (λ f. values (at_place variables f))
  read_back g values = λ i. g (λ v. values (sym (inverse.back v) i))

  pub read_same : (f g : Function) → ((values : Values) → read order f values ≡ read order g values) → (values : Values) → f values ≡ g values
  read_same f g same values = read_back f values ∙ same (λ u. values (at_place variables u)) ∙ sym (read_back g values)

-- sets with the fluents and the order of others have an order, too
pub order_kept : {n m : ℕ} {before after : List ℕ} → m ≡ n → after ≡ before → IsOrder n before → IsOrder m after
order_kept {n} {m} {before} {after} counts same is = subst (λ (k : ℕ). IsOrder k after) (sym counts) (subst (IsOrder n) (sym same) is)

-- a function of the first variables is one of as many fluents
pub read_depends : (count : ℕ) (order : List ℕ) → IsOrder count order → (f : Function) → DependsOnly 0 count f → DependsOnly 0 count (read order f)
read_depends count order is f depends s t agree = depends (λ v. s (at_place order v)) (λ v. t (at_place order v))
    (λ v low within. agree (at_place order v) (omega arith) (is.inverse.fluents_within v within))

-- where each variable is the fluent of its own number, a function is read as it is
pub read_own : (order : List ℕ) (f : Function) → IsOwnOrder order → read order f ≡ f
read_own order f own = λ i values. f (λ v. values (own v i))
