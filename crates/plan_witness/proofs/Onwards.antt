-- The numbers to which ways lead are those of the configurations to which paths lead.
use Rattle.std.proofs.Common.{◌≡◌, ◌↔◌, ◌<◌, ◌+◌, ℕ, zero, suc, Bool, true, false, List, [], ◌∷◌, ◌++◌, Some, map, nat_lt, slice_get, refl, sym, ap, ◌∙◌, subst, arith}
use Rattle.std.specs.Prelude.{if◌then◌else◌}
use Rattle.std.specs.List.{Contains, filter, range_with_len}
use Rattle.std.proofs.lemmas.Bool.{lt-ltb, ltb-true}
use Rattle.std.proofs.lemmas.List.{append-nil}
use Rattle.std.proofs.lemmas.List.Elements.{filter-append}
use Rattle.std.proofs.lemmas.List.FromFn.{get_or-map-range_with_len, length-map-range_with_len}
use Rattle.std.proofs.lemmas.Option.{same_Some, slice_get-get_or, slice_get_within}
use Rattle.list_laws.proofs.Elements.{range_with_len-last}
use Rattle.task_core.specs.ContextPlans.{Configuration}
use Rattle.task_core.specs.Paths.{IsPath, last_of}
use Rattle.task_core.specs.Systems.{System}
use Rattle.task_core.specs.Tasks.{fluent_count, system_of}
use Rattle.task_core.specs.declared.tasks.Task.{Task}
use Rattle.plan_rules.specs.Rules.{PlainPlan, plain_of}
use Rattle.plan_rules.specs.declared.rules.Plan.{Plan}
use Rattle.exec_graph.specs.Executions.{GoesTo, IsReachedBy}
use Rattle.exec_graph.specs.Values.{followers_at, graph_size, plain_graph}
use Rattle.exec_graph.specs.declared.graphs.Graph.{Graph}
use Rattle.plan_check.specs.Walks.{IsMarked, IsWalk, last_number}
use Rattle.plan_check.proofs.WalkFacts.{last_append, last_below, walk_append}
use Rattle.plan_witness.specs.Marked.{IsGraphIn, place_at}
use Rattle.plan_witness.specs.Onward.{AreMet, AreOnward, LeadsOnTo}
use Rattle.plan_witness.specs.Ways.{AreWays, at, far}
use Rattle.plan_witness.proofs.GraphRuns.{end_of_walk, last_place, node_of, path_of, walk_of}
use Rattle.plan_witness.proofs.LeastWays.{walk_bound}

-- one number more
filter_one : (test : ℕ → Bool) (i : ℕ) (b : Bool) → b ≡ test i → filter test (i ∷ []) ≡ (if b then i ∷ [] else [])
filter_one test i true e = rw (sym e) refl
filter_one test i false e = rw (sym e) refl

added : (old : List ℕ) (i : ℕ) (b : Bool) → (if b then old ++ i ∷ [] else old) ≡ old ++ (if b then i ∷ [] else [])
added old i true = refl
added old i false = sym (append-nil old)

pub filter_more : (test : ℕ → Bool) (i : ℕ) (b : Bool) (old new : List ℕ) → old ≡ filter test (range_with_len 0 i) → b ≡ test i → new ≡ (if b then old ++ i ∷ [] else old) → new ≡ filter test (range_with_len 0 (i + 1))
filter_more test i b old new was is pushed =
    let next : suc i ≡ i + 1 = omega arith in
    let same : 0 + i ≡ i = omega arith in
    pushed ∙ added old i b
    ∙ ap (λ xs. xs ++ (if b then i ∷ [] else [])) was
    ∙ ap (λ xs. filter test (range_with_len 0 i) ++ xs) (sym (filter_one test i b is))
    ∙ sym (filter-append test (range_with_len 0 i) (i ∷ []))
    ∙ ap (filter test) (ap (λ k. range_with_len 0 i ++ k ∷ []) (sym same) ∙ sym (range_with_len-last 0 i))
    ∙ ap (λ k. filter test (range_with_len 0 k)) next

-- a walk from a number with a mark to i
pub record IsLedTo (next : ℕ → List ℕ) (starts : List Bool) (i : ℕ) : Type 0 where
  pub start : ℕ
  pub rest : List ℕ
  pub begins : IsMarked starts start
  pub walk : IsWalk next start rest
  pub ends : last_number start rest ≡ i

module _ (n : ℕ) (next : ℕ → List ℕ) (starts : List Bool) (lengths before : List ℕ) (w : AreWays n next starts lengths before) where
  pub led_by : (k i : ℕ) → i < n → at lengths i ≡ k → k < far → IsLedTo next starts i
  led_by zero i l e near = record { start = i; rest = []; begins = (w.begun i l).1 e; walk = tt; ends = refl }
  led_by (suc k) i l e near =
      let back = w.back i l (omega (arith, e)) (omega (arith, e, near)) in
      let longer = back.longer in
      let led = led_by k (at before i) back.below (omega (arith, longer, e)) (omega (arith, near)) in
      let follows = back.follows in
      let ends = led.ends in
      record {
        start = led.start;
        rest = led.rest ++ i ∷ [];
        begins = led.begins;
        walk = walk_append next led.start led.rest (i ∷ []) led.walk (subst (λ j. Contains (next j) i) (sym ends) follows, tt);
        ends = last_append led.start led.rest (i ∷ []);
      }

module _ (task : Task) (plan : Plan) (graph : Graph) (g : IsGraphIn task plan graph) where
  abbrev n : ℕ
  n = fluent_count task

  abbrev size : ℕ
  size = graph_size graph

  abbrev sys : System
  sys = system_of task

  abbrev plain : PlainPlan
  plain = plain_of plan

  abbrev place : ℕ → Configuration
  place = place_at n graph

  abbrev met : List Configuration
  met = map place (range_with_len 0 size)

  met_at : (i : ℕ) → i < size → slice_get met i ≡ Some (place i)
  met_at i l =
      slice_get-get_or met i (place i) (let e = length-map-range_with_len place 0 size in omega (arith, e, l))
      ∙ ap Some (get_or-map-range_with_len place 0 size i i (place i) l (omega arith))

  met_below : (i : ℕ) (x : Configuration) → slice_get met i ≡ Some x → i < size
  met_below i x e = let l = slice_get_within met i x e in let k = length-map-range_with_len place 0 size in omega (arith, l, k)

  met_is : (i : ℕ) (x : Configuration) → slice_get met i ≡ Some x → place i ≡ x
  met_is i x e = same_Some (place i) x (sym (met_at i (met_below i x e)) ∙ e)

  pub are_met : AreMet sys plain met
  are_met = record {
    in_order = g.in_order;
    all = λ x r. let at = node_of sys plain (plain_graph n graph) g x r in (at.0, met_at at.0 at.1.below ∙ ap Some at.1.is);
    reached = λ i x e. subst (IsReachedBy sys plain) (met_is i x e) (g.reached i (met_below i x e));
  }

  module _ (starts : List Bool) (lengths before : List ℕ) (w : AreWays size (followers_at graph) starts lengths before) (x : Configuration) (r : IsReachedBy sys plain x)
      (marked : (i : ℕ) → i < size → IsMarked starts i ↔ (place i ≡ x)) (inside : (i : ℕ) → IsMarked starts i → i < size) where
    leads_on : (i : ℕ) → i < size → nat_lt (at lengths i) far ≡ true → LeadsOnTo sys plain x (place i)
    leads_on i l e =
        let near = ltb-true (at lengths i) far e in
        let led = led_by size (followers_at graph) starts lengths before w (at lengths i) i l refl near in
        let below = inside led.start led.begins in
        let from : place led.start ≡ x = (marked led.start below).0 led.begins in
        let path = path_of sys plain (plain_graph n graph) g led.start led.rest below led.walk in
        record {
          rest = map place led.rest;
          path = subst (λ z. IsPath (GoesTo sys plain) z (map place led.rest)) from path;
          ends = ap (λ z. last_of z (map place led.rest)) (sym from) ∙ last_place place led.start led.rest ∙ ap place led.ends;
        }

    led_on : (i : ℕ) → i < size → LeadsOnTo sys plain x (place i) → nat_lt (at lengths i) far ≡ true
    led_on i l leads =
        let node = node_of sys plain (plain_graph n graph) g x r in
        let start = node.0 in
        let is = node.1.is in
        let zeroth = (w.begun start node.1.below).0 ((marked start node.1.below).1 is) in
        let walked = walk_of sys plain (plain_graph n graph) g start leads.rest node.1.below (subst (λ z. IsPath (GoesTo sys plain) z leads.rest) (sym is) leads.path) in
        let bound =
        walk_bound size (followers_at graph) starts lengths before w g.next_below start walked.numbers 0 node.1.below (record { most = omega (arith, zeroth); reached = omega (arith, zeroth) }) walked.walk in
        let ends : place (last_number start walked.numbers) ≡ place i = end_of_walk sys plain (plain_graph n graph) g start leads.rest walked ∙ ap (λ z. last_of z leads.rest) is ∙ leads.ends in
        let last = g.once (last_number start walked.numbers) i (last_below (graph_size graph) (followers_at graph) g.next_below start walked.numbers node.1.below walked.walk) l ends in
        lt-ltb (at lengths i) far (subst (λ k. at lengths k < far) last bound.reached)

    pub are_onward : (numbers : List ℕ) → numbers ≡ filter (λ i. nat_lt (at lengths i) far) (range_with_len 0 size) → AreOnward sys plain met x numbers
    are_onward numbers e = record {
      is_onward = λ i. nat_lt (at lengths i) far;
      are = e ∙ ap (λ k. filter (λ i. nat_lt (at lengths i) far) (range_with_len 0 k)) (sym (length-map-range_with_len place 0 size));
      exactly = λ i y is.
          let l = met_below i y is in
          let same = met_is i y is in (
            (λ b. subst (LeadsOnTo sys plain x) same (leads_on i l b)),
            (λ leads. led_on i l (subst (LeadsOnTo sys plain x) (sym same) leads)),
          );
    }
