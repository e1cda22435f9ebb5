use Rattle.std.proofs.Common.{◌≡◌, ◌+◌, ◌/◌, ◌%◌, ◌<◌, [], ◌∷◌, ◌++◌, drop, get_or, length, ap, sym, subst, ◌∙◌, arith}
use Rattle.ground_instances.specs.Tables.{setting_in}
use Rattle.pddl_system.specs.Objects.{bindings}
use Rattle.ground_instances.proofs.Numbered.{within_objects, divided, remainder_below, scope_step}
use Rattle.ground_instances.proofs.setting.Setting.bind.Goals as goal

pub bounds-objects-quotient : goal.bounds-objects-quotient
bounds-objects-quotient c =
    subst (λ k. k < length c.objects_of-objects.result.now) (sym (c.quotient.ensures ∙ ap (λ d. c.loop-type_id.rest / d) c.quotient-below.ensures))
    (within_objects (setting_in c.args.self.now).objects c.args.types.now c.loop-type_id.type_id-index c.loop-type_id.below c.loop-type_id.rest c.objects_of-objects.result.now
    (omega arith) c.objects_of-objects.ensures c.loop-type_id.invariant.below c.loop-type_id.invariant.rest)

pub loop-type_id-preserved : goal.loop-type_id-preserved
loop-type_id-preserved c =
    let objects = (setting_in c.args.self.now).objects in
    let types = c.args.types.now in
    let i = c.loop-type_id.type_id-index in
    let chosen = c.objects_of-objects.result.now in
    let before = c.loop-type_id.rest in
    let quotient : c.quotient-below.result ≡ c.loop-type_id.below / length chosen = c.quotient-below.ensures in
    let place : c.quotient.result ≡ before / (c.loop-type_id.below / length chosen) = c.quotient.ensures ∙ ap (λ d. before / d) quotient in
    let remainder : c.remainder-rest.result ≡ before % (c.loop-type_id.below / length chosen) = c.remainder-rest.ensures ∙ ap (λ d. before % d) quotient in
    record {
      below = quotient ∙ divided objects types i c.loop-type_id.below before chosen (omega arith) c.objects_of-objects.ensures c.loop-type_id.invariant.below c.loop-type_id.invariant.rest;
      rest = subst (λ k. k < c.quotient-below.result) (sym remainder) (subst (λ d. before % (c.loop-type_id.below / length chosen) < d) (sym quotient)
          (remainder_below objects types i c.loop-type_id.below before chosen (omega arith) c.objects_of-objects.ensures c.loop-type_id.invariant.below c.loop-type_id.invariant.rest));
      scope = ap (λ k. c.push.new.self.items ++ get_or (bindings objects (drop (i + 1) types)) k []) remainder
          ∙ scope_step objects types i c.loop-type_id.below before chosen c.loop-type_id.scope.items c.push.new.self.items _
          (omega arith) c.objects_of-objects.ensures c.loop-type_id.invariant.below c.loop-type_id.invariant.rest
          (c.in_ok-push.ensures.items ∙ ap (λ k. c.loop-type_id.scope.items ++ get_or chosen k 0 ∷ []) place) c.loop-type_id.invariant.scope;
    }
