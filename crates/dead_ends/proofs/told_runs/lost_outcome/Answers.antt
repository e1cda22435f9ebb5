use Rattle.std.proofs.Common.{◌≡◌, ◌<◌, ap, List, ℕ, length, map, subst, sym, ◌∙◌, arith}
use Rattle.std.specs.List.{All}
use Rattle.std.specs.Prelude.{IfSome, Option, Some}
use Rattle.std.proofs.lemmas.List.{length-map}
use Rattle.std.proofs.lemmas.List.Elements.{All-map}
use Rattle.std.proofs.lemmas.Option.{slice_get-get_or}
use Rattle.dead_ends.specs.ToldRuns.{IsFirstDeadEnd}
use Rattle.dead_ends.specs.declared.strays.Stray.{Stray}
use Rattle.plan_witness.specs.Values.{run_value}
use Rattle.task_core.specs.States.{IsWithin, vector}
use Rattle.task_core.specs.Tasks.{fluent_count, system_of}
use Rattle.task_core.specs.declared.states.State.{State}
use Rattle.dead_ends.proofs.Firsts.{place_within}
use Rattle.dead_ends.proofs.Told.{lost_is}
use Rattle.dead_ends.proofs.told_runs.lost_outcome.Goals as goal

pub first_dead_end-requires-clause-within : goal.first_dead_end-requires-clause-within
first_dead_end-requires-clause-within g c =
    let n = fluent_count c.args.task.now in
    let are = c.deref-2.ensures.value ∙ c.in_ok-states.ensures ∙ ap (map (λ (s : Stray). s.state)) c.deref.ensures.value in
    subst (All (IsWithin n)) (sym are) (All-map (IsWithin n) (λ (s : Stray). s.state) c.in_ok-strays.strays.items c.in_ok-strays.ensures.within)

pub index-requires : goal.index-requires
index-requires g c =
    let n = fluent_count c.args.task.now in
    let sys = system_of c.args.task.now in
    let class = c.args.wanted.now.class in
    let strays = c.in_ok-strays.strays.items in
    let are = c.deref-2.ensures.value ∙ c.in_ok-states.ensures ∙ ap (map (λ (s : Stray). s.state)) c.deref.ensures.value in
    let P : Option ℕ → Type 0 = λ found. IfSome found (IsFirstDeadEnd class sys (map (vector n) c.deref-2.result.now)) in
    let found : IsFirstDeadEnd class sys (map (vector n) c.deref-2.result.now) c.in-Some.place = subst P c.in-Some.is c.in_ok-place.ensures.dead in
    let Q : List State → Type 0 = λ xs. IsFirstDeadEnd class sys (map (vector n) xs) c.in-Some.place in
    let dead : IsFirstDeadEnd class sys (map (vector n) (map (λ (s : Stray). s.state) strays)) c.in-Some.place = subst Q are found in
    let within = place_within class sys n (map (λ (s : Stray). s.state) strays) c.in-Some.place dead in
    let long : length (map (λ (s : Stray). s.state) strays) ≡ length strays = length-map strays (λ (s : Stray). s.state) in
    omega (arith, within, long)

pub returns-in-Some-clause-lost : goal.returns-in-Some-clause-lost
returns-in-Some-clause-lost g c =
    let n = fluent_count c.args.task.now in
    let sys = system_of c.args.task.now in
    let class = c.args.wanted.now.class in
    let strays = c.in_ok-strays.strays.items in
    let are = c.deref-2.ensures.value ∙ c.in_ok-states.ensures ∙ ap (map (λ (s : Stray). s.state)) c.deref.ensures.value in
    let P : Option ℕ → Type 0 = λ found. IfSome found (IsFirstDeadEnd class sys (map (vector n) c.deref-2.result.now)) in
    let found : IsFirstDeadEnd class sys (map (vector n) c.deref-2.result.now) c.in-Some.place = subst P c.in-Some.is c.in_ok-place.ensures.dead in
    let Q : List State → Type 0 = λ xs. IsFirstDeadEnd class sys (map (vector n) xs) c.in-Some.place in
    let dead : IsFirstDeadEnd class sys (map (vector n) (map (λ (s : Stray). s.state) strays)) c.in-Some.place = subst Q are found in
    let within = place_within class sys n (map (λ (s : Stray). s.state) strays) c.in-Some.place dead in
    let long : length (map (λ (s : Stray). s.state) strays) ≡ length strays = length-map strays (λ (s : Stray). s.state) in
    let below : c.in-Some.place < length strays = omega (arith, within, long) in
    lost_is class sys n (run_value n c.args.run.now) strays c.index.result.now c.in-Some.place c.in_ok-strays.ensures.strays dead
    (slice_get-get_or strays c.in-Some.place c.index.result.now below ∙ ap Some (sym c.index.ensures))
