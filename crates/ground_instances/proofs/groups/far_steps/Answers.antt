use Rattle.std.proofs.Common.{◌≡◌, ◌∙◌, All, List, ℕ, ◌<◌, get_or, length, map, ap, arith, sym, subst}
use Rattle.std.proofs.lemmas.List.{length-map}
use Rattle.ground_instances.proofs.GroupLemmas.{far_known, twice_as_far}
use Rattle.ground_instances.proofs.groups.far_steps.Goals as goal

pub at_all-requires : goal.at_all-requires
at_all-requires c =
    let far = c.loop-count.far.items in
    let known : All (λ t. t < length far) far = far_known c.args.steps.now far c.loop-count.count c.requires c.loop-count.invariant.all_types c.loop-count.invariant.led in
    let list : All (λ t. t < length c.deref.result.now) far = subst (λ (xs : List ℕ). All (λ t. t < length xs) far) (sym c.deref.ensures.value) known in
    subst (λ (xs : List ℕ). All (λ t. t < length c.deref.result.now) xs) (sym c.deref-in-loop-count.ensures.value) list

pub loop-count-preserved : goal.loop-count-preserved
loop-count-preserved c =
    let far = c.loop-count.far.items in
    let is : c.in_ok-far-2.far.items ≡ map (λ t. get_or far t 0) far =
    c.in_ok-far-2.ensures ∙ ap (λ (xs : List ℕ). map (λ t. get_or xs t 0) c.deref-in-loop-count.result.now) c.deref.ensures.value
    ∙ ap (λ (xs : List ℕ). map (λ t. get_or far t 0) xs) c.deref-in-loop-count.ensures.value in
    record {
      some = omega (arith, c.loop-count.invariant.some);
      all_types = ap (λ xs. length xs) is ∙ length-map far (λ t. get_or far t 0) ∙ c.loop-count.invariant.all_types;
      led = twice_as_far c.args.steps.now far c.in_ok-far-2.far.items c.loop-count.count c.requires c.loop-count.invariant.all_types c.loop-count.invariant.led is;
    }
