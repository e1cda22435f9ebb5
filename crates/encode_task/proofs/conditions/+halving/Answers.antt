-- The halves weigh less, and have the meaning of all together.
use Rattle.std.proofs.Common.{◌≡◌, ◌+◌, ◌*◌, ◌<◌, ◌++◌, ◌∙◌, length, arith, ap, subst, sym}
use Rattle.std.specs.List.{list_all}
use Rattle.dd_nodes.specs.Subfunctions.{Function}
use Rattle.dd_sets.specs.Frames.{OwnsAnswer}
use Rattle.dd_sets.proofs.OwnedLemmas.{both}
use Rattle.task_core.specs.Conditions.{ids_below}
use Rattle.encode_task.proofs.HalfLemmas.{all_below, all_halves, all_lighter, all_whole, any_below, any_lighter, any_whole, first_lighter, halves_are, halves_below, halves_some, rest_lighter, some_halves, total, weight}
use Rattle.encode_task.proofs.PartLemmas.{answer_slot}
use Rattle.encode_task.proofs.conditions.+halving.Goals as goal

pub all_of-all_of-requires : goal.all_of-all_of-requires
all_of-all_of-requires t c =
    let front = c.split_at.result.0.now in
    let back = c.split_at.result.1.now in
    let parts = c.args.parts.now in
    let are : front ++ back ≡ parts = halves_are _ front back parts c.split_at.ensures.front c.split_at.ensures.back in
    let some = halves_some (length parts) (sym c.is_empty.ensures ∙ c.if-is_empty.false) c.if-parts-eq1.false in
    let rest : 0 < length back = omega (arith, c.split_at.ensures.back_len, some.0, some.1) in
    let less : 2 * total front + 1 < 2 * total parts + 1 = first_lighter parts front back (sym are) rest in
    let falls : 2 * total front + 1 < t = omega (arith, c.decreases) in
    (falls, (halves_below c.args.sets.now.vars front back parts are c.requires).0)

pub all_of-all_of-rest-requires : goal.all_of-all_of-rest-requires
all_of-all_of-rest-requires t c =
    let front = c.split_at.result.0.now in
    let back = c.split_at.result.1.now in
    let parts = c.args.parts.now in
    let are : front ++ back ≡ parts = halves_are _ front back parts c.split_at.ensures.front c.split_at.ensures.back in
    let some = halves_some (length parts) (sym c.is_empty.ensures ∙ c.if-is_empty.false) c.if-parts-eq1.false in
    let first : 0 < length front = omega (arith, c.split_at.ensures.front_len, some.0, some.1) in
    let less : 2 * total back + 1 < 2 * total parts + 1 = rest_lighter parts front back (sym are) first in
    let falls : 2 * total back + 1 < t = omega (arith, c.decreases) in
    let owns = answer_slot _ _ _ c.all_of.result _ c.in_ok-first.was c.all_of.ensures in
    (falls, ap (λ n. list_all (ids_below n) back) owns.kept.vars ∙ (halves_below c.args.sets.now.vars front back parts are c.requires).1)

pub all_of-returns : goal.all_of-returns
all_of-returns t c =
    let front = c.split_at.result.0.now in
    let back = c.split_at.result.1.now in
    let parts = c.args.parts.now in
    let are : front ++ back ≡ parts = halves_are _ front back parts c.split_at.ensures.front c.split_at.ensures.back in
    let owns = answer_slot _ _ _ c.all_of.result _ c.in_ok-first.was c.all_of.ensures in
    subst (λ (f : Function). OwnsAnswer c.args.sets.now c.in_both.new.self f c.in_both.result) (all_halves front back parts are)
    (c.in_both.ensures.answer _ _ _ (both _ _ _ c.in_ok-first.first _ _ c.all_of-rest.result owns c.all_of-rest.ensures))

pub by_halves-all_of-requires : goal.by_halves-all_of-requires
by_halves-all_of-requires t c =
    let items = c.deref-in-All.result.now in
    let less : 2 * total items + 1 < 2 * weight c.args.cond.now = all_lighter c.args.cond.now c.in-All.parts items c.in-All.is c.deref-in-All.ensures.value in
    let falls : 2 * total items + 1 < t = omega (arith, c.decreases) in
    (falls, all_below c.args.sets.now.vars c.args.cond.now c.in-All.parts items c.in-All.is c.deref-in-All.ensures.value c.requires)

pub by_halves-returns-in-All : goal.by_halves-returns-in-All
by_halves-returns-in-All t c =
    subst (λ (f : Function). OwnsAnswer c.args.sets.now c.all_of.new.sets f c.all_of.result) (all_whole c.args.cond.now c.in-All.parts c.deref-in-All.result.now c.in-All.is c.deref-in-All.ensures.value) c.all_of.ensures

pub any_of-any_of-requires : goal.any_of-any_of-requires
any_of-any_of-requires t c =
    let front = c.split_at.result.0.now in
    let back = c.split_at.result.1.now in
    let parts = c.args.parts.now in
    let are : front ++ back ≡ parts = halves_are _ front back parts c.split_at.ensures.front c.split_at.ensures.back in
    let some = halves_some (length parts) (sym c.is_empty.ensures ∙ c.if-is_empty.false) c.if-parts-eq1.false in
    let rest : 0 < length back = omega (arith, c.split_at.ensures.back_len, some.0, some.1) in
    let less : 2 * total front + 1 < 2 * total parts + 1 = first_lighter parts front back (sym are) rest in
    let falls : 2 * total front + 1 < t = omega (arith, c.decreases) in
    (falls, (halves_below c.args.sets.now.vars front back parts are c.requires).0)

pub any_of-any_of-rest-requires : goal.any_of-any_of-rest-requires
any_of-any_of-rest-requires t c =
    let front = c.split_at.result.0.now in
    let back = c.split_at.result.1.now in
    let parts = c.args.parts.now in
    let are : front ++ back ≡ parts = halves_are _ front back parts c.split_at.ensures.front c.split_at.ensures.back in
    let some = halves_some (length parts) (sym c.is_empty.ensures ∙ c.if-is_empty.false) c.if-parts-eq1.false in
    let first : 0 < length front = omega (arith, c.split_at.ensures.front_len, some.0, some.1) in
    let less : 2 * total back + 1 < 2 * total parts + 1 = rest_lighter parts front back (sym are) first in
    let falls : 2 * total back + 1 < t = omega (arith, c.decreases) in
    let owns = answer_slot _ _ _ c.any_of.result _ c.in_ok-first.was c.any_of.ensures in
    (falls, ap (λ n. list_all (ids_below n) back) owns.kept.vars ∙ (halves_below c.args.sets.now.vars front back parts are c.requires).1)

pub any_of-returns : goal.any_of-returns
any_of-returns t c =
    let front = c.split_at.result.0.now in
    let back = c.split_at.result.1.now in
    let parts = c.args.parts.now in
    let are : front ++ back ≡ parts = halves_are _ front back parts c.split_at.ensures.front c.split_at.ensures.back in
    let owns = answer_slot _ _ _ c.any_of.result _ c.in_ok-first.was c.any_of.ensures in
    subst (λ (f : Function). OwnsAnswer c.args.sets.now c.in_some.new.self f c.in_some.result) (some_halves front back parts are)
    (c.in_some.ensures.answer _ _ _ (both _ _ _ c.in_ok-first.first _ _ c.any_of-rest.result owns c.any_of-rest.ensures))

pub by_halves-any_of-requires : goal.by_halves-any_of-requires
by_halves-any_of-requires t c =
    let items = c.deref-in-Any.result.now in
    let less : 2 * total items + 1 < 2 * weight c.args.cond.now = any_lighter c.args.cond.now c.in-Any.parts items c.in-Any.is c.deref-in-Any.ensures.value in
    let falls : 2 * total items + 1 < t = omega (arith, c.decreases) in
    (falls, any_below c.args.sets.now.vars c.args.cond.now c.in-Any.parts items c.in-Any.is c.deref-in-Any.ensures.value c.requires)

pub by_halves-returns-in-Any : goal.by_halves-returns-in-Any
by_halves-returns-in-Any t c =
    subst (λ (f : Function). OwnsAnswer c.args.sets.now c.any_of.new.sets f c.any_of.result) (any_whole c.args.cond.now c.in-Any.parts c.deref-in-Any.result.now c.in-Any.is c.deref-in-Any.ensures.value) c.any_of.ensures
