-- How often a search in depth looks at edges.
use Rattle.std.proofs.Common.{◌≡◌, ℕ, ◌+◌, ◌*◌, ◌<◌, ◌≤◌, List, [], ◌∷◌, length, set, refl, sym, ap, subst, arith}
use Rattle.std.specs.List.{Contains}
use Rattle.exec_graph.specs.Values.{lengths_below, sum_below}
use Rattle.plan_check.specs.Plain.{IsTurned}
use Rattle.plan_check.specs.Searches.{IsSearch, entered, looks_at, looks_by, visit_at}
use Rattle.plan_check.specs.declared.search.Mark.{Mark}
use Rattle.plan_check.specs.declared.search.Mark.TheVariants.{Unseen, Open, Done}
use Rattle.plan_check.specs.declared.search.Visit.{Visit}
use Rattle.plan_check.proofs.SearchSteps.{elsewhere, here}
use Rattle.plan_check.proofs.Sums.{sum_less, sum_most, sum_one, sum_plus}
use Rattle.list_laws.proofs.Elements.{Contains-nil}

entered_most : (xs : List ℕ) → entered xs ≤ length xs
entered_most [] = omega arith
entered_most (x ∷ xs) = omega arith

pub entered_some : (xs : List ℕ) (x : ℕ) → Contains xs x → entered xs ≡ 1
entered_some [] x c = absurd (Contains-nil x c)
entered_some (y ∷ ys) x c = refl

looks_most : (m : Mark) (e t : ℕ) → looks_by m e t ≤ e + t
looks_most Unseen e t = omega arith
looks_most Open e t = omega arith
looks_most Done e t = omega arith

module _ (n : ℕ) (next prev : ℕ → List ℕ) (turned : IsTurned n next prev) (visits : List Visit) (path : List ℕ) (h : IsSearch n next visits path) where
  looks_each : (i : ℕ) → i < n → looks_at prev visits i ≤ length (next i) + length (prev i)
  looks_each i l =
      let a = looks_most (visit_at visits i).mark (entered (prev i)) (visit_at visits i).tried in
      let b = entered_most (prev i) in
      let t = (h.each i).tried in
      omega arith

  both_ways : sum_below (λ i. length (next i) + length (prev i)) n ≡ 2 * lengths_below next n
  both_ways =
      let s = sum_plus (λ i. length (next i)) (λ i. length (prev i)) n in
      let e = turned.even in
      omega arith

  -- no edge more than twice
  pub looks_twice : sum_below (looks_at prev visits) n ≤ 2 * lengths_below next n
  looks_twice =
      let s = sum_most (looks_at prev visits) (λ i. length (next i) + length (prev i)) n looks_each in
      let b = both_ways in
      omega arith

  -- and one time less while a follower is left
  pub looks_left : (top : ℕ) → top < n → (visit_at visits top).tried < length (next top) → sum_below (looks_at prev visits) n + 1 ≤ 2 * lengths_below next n
  looks_left top l left =
      let a = looks_most (visit_at visits top).mark (entered (prev top)) (visit_at visits top).tried in
      let e = entered_most (prev top) in
      let less : looks_at prev visits top + 1 ≤ length (next top) + length (prev top) = omega arith in
      let s = sum_less (looks_at prev visits) (λ i. length (next i) + length (prev i)) n top l looks_each less in
      let b = both_ways in
      omega arith

  within : (k : ℕ) → k < n → k < length visits
  within k l = subst (λ m. k < m) (sym h.count) l

  looks_change : (k : ℕ) (visit : Visit) → k < n
      → sum_below (looks_at prev (set visits k visit)) n + looks_at prev visits k ≡ sum_below (looks_at prev visits) n + looks_by visit.mark (entered (prev k)) visit.tried
  looks_change k visit l =
      let s = sum_one (looks_at prev visits) (looks_at prev (set visits k visit)) n k l
      (λ i ne. ap (λ (w : Visit). looks_by w.mark (entered (prev i)) w.tried) (sym (elsewhere visits k visit (within k l) i ne))) in
      let e = ap (λ (w : Visit). looks_by w.mark (entered (prev k)) w.tried) (here visits k visit (within k l)) in
      omega arith

  pub looks_opened : (k : ℕ) (now : List Visit) → k < n → (visit_at visits k).mark ≡ Unseen → now ≡ set visits k (record { mark = Open; tried = 0; height = 0 })
      → sum_below (looks_at prev visits) n + entered (prev k) ≤ sum_below (looks_at prev now) n
  looks_opened k now l unseen is =
      let e = looks_change k (record { mark = Open; tried = 0; height = 0 }) l in
      let z : looks_at prev visits k ≡ 0 = ap (λ m. looks_by m (entered (prev k)) (visit_at visits k).tried) unseen in
      subst (λ vs. sum_below (looks_at prev visits) n + entered (prev k) ≤ sum_below (looks_at prev vs) n) (sym is) (omega arith)

  pub looks_took : (k height : ℕ) (now : List Visit) → k < n → (visit_at visits k).mark ≡ Open
      → now ≡ set visits k (record { mark = (visit_at visits k).mark; tried = (visit_at visits k).tried + 1; height = height })
      → sum_below (looks_at prev visits) n + 1 ≤ sum_below (looks_at prev now) n
  looks_took k height now l opened is =
      let e = looks_change k (record { mark = (visit_at visits k).mark; tried = (visit_at visits k).tried + 1; height = height }) l in
      let a : looks_at prev visits k ≡ entered (prev k) + (visit_at visits k).tried = ap (λ m. looks_by m (entered (prev k)) (visit_at visits k).tried) opened in
      let b : looks_by (visit_at visits k).mark (entered (prev k)) ((visit_at visits k).tried + 1) ≡ entered (prev k) + ((visit_at visits k).tried + 1) = ap (λ m. looks_by m (entered (prev k)) ((visit_at visits k).tried + 1)) opened in
      subst (λ vs. sum_below (looks_at prev visits) n + 1 ≤ sum_below (looks_at prev vs) n) (sym is) (omega arith)

  pub looks_ended : (k : ℕ) (now : List Visit) → k < n → (visit_at visits k).mark ≡ Open
      → now ≡ set visits k (record { mark = Done; tried = (visit_at visits k).tried; height = (visit_at visits k).height })
      → sum_below (looks_at prev visits) n ≤ sum_below (looks_at prev now) n
  looks_ended k now l opened is =
      let e = looks_change k (record { mark = Done; tried = (visit_at visits k).tried; height = (visit_at visits k).height }) l in
      let a : looks_at prev visits k ≡ entered (prev k) + (visit_at visits k).tried = ap (λ m. looks_by m (entered (prev k)) (visit_at visits k).tried) opened in
      subst (λ vs. sum_below (looks_at prev visits) n ≤ sum_below (looks_at prev vs) n) (sym is) (omega arith)
