use Rattle.std.proofs.Common.{◌≡◌, List, map, subst, sym, ◌∙◌, true}
use Rattle.std.proofs.lemmas.List.{map-id}
use Rattle.std.proofs.lemmas.Iterator.Adapters.{YieldsList-from_vec}
use Rattle.std.proofs.lemmas.Iterator.Consumers.{YieldsList-end}
use Rattle.std.specs.List.{list_all}
use Rattle.task_core.specs.Conditions.{depth, greatest, ids_below}
use Rattle.task_core.specs.declared.conditions.Cond.{Cond}
use Rattle.short_conditions.specs.Drafts.{Adds}
use Rattle.short_conditions.specs.Joining.{joined, truths}
use Rattle.short_conditions.proofs.SimpleLemmas.{parts_appended}
use Rattle.short_conditions.proofs.drafts.Draft.add_all.Goals as goal

pub loop-cond-preserved : goal.loop-cond-preserved
loop-cond-preserved c =
    parts_appended true c.loop-cond.yielded c.in-Some.cond c.args.self.now c.loop-cond.self _ c.loop-cond.invariant c.in_ok-add.ensures

pub returns : goal.returns
returns c =
    let gives = c.into_iter-cond-iterator.ensures.into_iter_gives in
    let end = YieldsList-end (YieldsList-from_vec {s = c.into_iter-cond-iterator.result} c.args.conds.items gives.0 (gives.1 ∙ c.args.conds.ok.0)) c.loop-cond.yielded c.loop-cond.cond-iterator c.loop-cond.yielded_by c.next.result c.next.new.self c.in-None.is c.next.ensures.steps in
    let whole : c.loop-cond.yielded ≡ c.args.conds.items = sym (map-id c.loop-cond.yielded) ∙ end.0 in
    let P : List Cond → Type 0 = λ xs. Adds (λ all value. joined all (truths true xs value)) (λ n. list_all (ids_below n) xs) (greatest (map depth xs)) c.args.self.now c.loop-cond.self in
    subst P whole c.loop-cond.invariant
