use Rattle.std.proofs.Common.{◌≡◌, ◌<◌, false, get_or, length, subst, sym, inr}
use Rattle.std.proofs.lemmas.List.Elements.{All-get_or}
use Rattle.ground_instances.proofs.GroupLemmas.{begun_goes_on, first_begins, unseen_less, way_goes_on}
use Rattle.ground_instances.proofs.groups.go_up.Goals as goal

pub loop-seen-smaller : goal.loop-seen-smaller
loop-seen-smaller c =
    unseen_less c.loop-seen.seen c.loop-seen.kind (subst (λ n. c.loop-seen.kind < n) (sym c.loop-seen.invariant.way.all_seen) c.loop-seen.invariant.known) c.loop-seen-test.true

pub loop-seen-preserved : goal.loop-seen-preserved
loop-seen-preserved c =
    let parents = c.args.parents.now in
    let way = c.loop-seen.invariant.way in
    let off : get_or c.loop-seen.seen c.loop-seen.kind false ≡ false = c.loop-seen-test.true in
    record {
      known = All-get_or (λ t. t < length parents) parents c.loop-seen.kind 0 c.loop-seen.invariant.known c.requires.parents;
      way = way_goes_on parents c.loop-seen.seen c.loop-seen.below c.loop-seen.kind c.loop-seen.before c.loop-seen.invariant.known off way;
      begun = inr (first_begins parents c.loop-seen.seen c.loop-seen.below c.loop-seen.kind c.loop-seen.before c.args.type_id c.loop-seen.invariant.known off way c.loop-seen.invariant.begun);
      kept = λ t begun. begun_goes_on c.loop-seen.seen c.loop-seen.below c.loop-seen.kind c.loop-seen.before t off (c.loop-seen.invariant.kept t begun);
    }
