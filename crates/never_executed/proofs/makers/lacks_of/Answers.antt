use Rattle.std.proofs.Common.{◌≡◌, ◌<◌, ◌≤◌, ◌∙◌, ap, get_or, length, map, refl, subst}
use Rattle.std.proofs.lemmas.Option.{slice_get_past, slice_get_read}
use Rattle.relaxed_reach.specs.Literals.{has}
use Rattle.relaxed_reach.proofs.Widened.{action_within_256}
use Rattle.never_executed.specs.Values.{maker_value}
use Rattle.never_executed.proofs.Lacking.{if_lacks, lacks_of_none}
use Rattle.never_executed.proofs.makers.lacks_of.Goals as goal

pub lacks_of_outcome-requires : goal.lacks_of_outcome-requires
lacks_of_outcome-requires c =
    let i = c.args.maker.action.0 in
    let x = c.in-Some.action.now in
    let items = c.deref.ensures.value in
    action_within_256 c.args.relaxed.now.task.now i x
    (subst (λ xs. i < length xs) items c.in-Some.ensures.lookup.3.0) (subst (λ xs. x ≡ get_or xs i x) items c.in-Some.ensures.lookup.1)

pub returns-in-Some : goal.returns-in-Some
returns-in-Some c =
    let i = c.args.maker.action.0 in
    let x = c.in-Some.action.now in
    let items = c.deref.ensures.value in
    let actions = c.args.relaxed.now.task.now.actions.items in
    if_lacks (λ parts. map (λ part. part.now) parts.items) c.lacks_of_outcome.result c.args.relaxed.now.task.now (has c.args.relaxed.now.literals.now) c.args.lit (maker_value c.args.maker) x
    (slice_get_read actions (length actions) i x refl (subst (λ xs. i < length xs) items c.in-Some.ensures.lookup.3.0) (subst (λ xs. x ≡ get_or xs i x) items c.in-Some.ensures.lookup.1))
    c.lacks_of_outcome.ensures

pub returns-in-None : goal.returns-in-None
returns-in-None c =
    let i = c.args.maker.action.0 in
    let actions = c.args.relaxed.now.task.now.actions.items in
    ap (map (λ part. part.now)) c.new.ensures.items
    ∙ lacks_of_none c.args.relaxed.now.task.now (has c.args.relaxed.now.literals.now) c.args.lit (maker_value c.args.maker)
    (slice_get_past actions i (subst (λ xs. length xs ≤ i) c.deref.ensures.value c.in-None.ensures.lookup.3))
