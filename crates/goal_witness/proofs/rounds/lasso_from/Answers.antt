use Rattle.std.proofs.Common.{◌≡◌, ◌<◌, ◌↔◌, ℕ, Option, length, refl, sym, ap, ◌∙◌, subst}
use Rattle.std.specs.Prelude.{IfNone, IfSome}
use Rattle.exec_graph.specs.Values.{followers_at, graph_size}
use Rattle.plan_check.specs.Walks.{IsMarked, IsWalk, last_number}
use Rattle.plan_witness.specs.Ways.{IsNearestRound, IsOnRound, IsShortestRoundAt, at, far}
use Rattle.plan_witness.proofs.LeastWays.{none_to, shortest_to}
use Rattle.plan_witness.proofs.Meanings.{if_found, if_none}
use Rattle.goal_witness.specs.Zones.{HasNoRound, IsZoneLasso, next_in}
use Rattle.goal_witness.specs.declared.rounds.WayBack.{WayBack}
use Rattle.goal_witness.proofs.Kept.{kept_below}
use Rattle.goal_witness.proofs.rounds.lasso_from.Goals as goal

pub with_back-requires-clause-end : goal.with_back-requires-clause-end
with_back-requires-clause-end g c =
    (subst (λ (o : Option ℕ). IfSome o (IsNearestRound (graph_size c.args.zone.now.graph.now) (next_in c.args.zone.now.graph.now c.args.zone.now.inside.now) c.in_ok-ways.ways.lengths.items)) c.in-Some.is c.in_ok-end.ensures.some).below

pub returns-in-Some-clause-some : goal.returns-in-Some-clause-some
returns-in-Some-clause-some g c =
    let n = graph_size c.args.zone.now.graph.now in
    let next = next_in c.args.zone.now.graph.now c.args.zone.now.inside.now in
    let seen = c.deref.result.now in
    let lengths = c.in_ok-ways.ways.lengths.items in
    let before = c.in_ok-ways.ways.before.items in
    let count : length seen ≡ n = subst (λ xs. length xs ≡ n) (sym c.deref.ensures.value) c.in_ok-only.ensures.count in
    let only : (i : ℕ) → i < n → IsMarked seen i ↔ (i ≡ c.args.number) = subst (λ ms. (i : ℕ) → i < n → IsMarked ms i ↔ (i ≡ c.args.number)) (sym c.deref.ensures.value) c.in_ok-only.ensures.marked in
    let stays = kept_below (followers_at c.args.zone.now.graph.now) c.args.zone.now.inside.now n c.requires.zone.followers in
    let near = subst (λ (o : Option ℕ). IfSome o (IsNearestRound n next lengths)) c.in-Some.is c.in_ok-end.ensures.some in
    let way = c.in_ok-stem-in-Some.stem in
    let back = c.in_ok-stem-in-Some.ensures.back in
    let shortest = shortest_to n next seen lengths before count stays c.in_ok-ways.ensures (IsOnRound next) c.in-Some.end way.start way.numbers.items near.on near.least back in
    let is : way.start ≡ c.args.number = (only way.start back.below).0 shortest.begins in
    let ends : last_number way.start way.numbers.items ≡ way.end = back.ends ∙ sym c.in_ok-stem-in-Some.ensures.end in
    if_found c.with_back.result (λ (lasso : WayBack). (lasso.stem ≡ way) × IsShortestRoundAt next c.in-Some.end lasso.back.start lasso.back.numbers.items)
    (λ (lasso : WayBack). IsZoneLasso next c.args.number lasso.stem.numbers.items lasso.stem.end lasso.back.start lasso.back.numbers.items)
    (λ lasso h.
    subst (λ stem. IsZoneLasso next c.args.number stem.numbers.items stem.end lasso.back.start lasso.back.numbers.items) (sym h.0)
    (record {
      walk = subst (λ i. IsWalk next i way.numbers.items) is shortest.walk;
      ends = ap (λ i. last_number i way.numbers.items) (sym is) ∙ ends;
      on = subst (IsOnRound next) (sym c.in_ok-stem-in-Some.ensures.end) near.on;
      nearest = λ rest w on. shortest.least c.args.number rest ((only c.args.number c.requires.number).1 refl) w on;
      round = subst (λ j. IsShortestRoundAt next j lasso.back.start lasso.back.numbers.items) (sym c.in_ok-stem-in-Some.ensures.end) h.1;
    }))
    c.with_back.ensures.some

pub returns-in-Some-clause-none : goal.returns-in-Some-clause-none
returns-in-Some-clause-none g c =
    let next = next_in c.args.zone.now.graph.now c.args.zone.now.inside.now in
    let near = subst (λ (o : Option ℕ). IfSome o (IsNearestRound (graph_size c.args.zone.now.graph.now) next c.in_ok-ways.ways.lengths.items)) c.in-Some.is c.in_ok-end.ensures.some in
    if_none c.with_back.result (IsOnRound next c.in-Some.end → ⊥) (HasNoRound next c.args.number) (λ none. absurd (none near.on)) c.with_back.ensures.none

pub returns-clause-none : goal.returns-clause-none
returns-clause-none g c =
    let n = graph_size c.args.zone.now.graph.now in
    let next = next_in c.args.zone.now.graph.now c.args.zone.now.inside.now in
    let seen = c.deref.result.now in
    let lengths = c.in_ok-ways.ways.lengths.items in
    let count : length seen ≡ n = subst (λ xs. length xs ≡ n) (sym c.deref.ensures.value) c.in_ok-only.ensures.count in
    let only : (i : ℕ) → i < n → IsMarked seen i ↔ (i ≡ c.args.number) = subst (λ ms. (i : ℕ) → i < n → IsMarked ms i ↔ (i ≡ c.args.number)) (sym c.deref.ensures.value) c.in_ok-only.ensures.marked in
    let stays = kept_below (followers_at c.args.zone.now.graph.now) c.args.zone.now.inside.now n c.requires.zone.followers in
    let never = subst (λ (o : Option ℕ). IfNone o ((i : ℕ) → i < n → IsOnRound next i → at lengths i < far → ⊥)) c.in-None.is c.in_ok-end.ensures.none in
    let leads = none_to n next seen lengths c.in_ok-ways.ways.before.items count stays c.in_ok-ways.ensures (IsOnRound next) never in
    λ rest w on. leads c.args.number rest ((only c.args.number c.requires.number).1 refl) w on
