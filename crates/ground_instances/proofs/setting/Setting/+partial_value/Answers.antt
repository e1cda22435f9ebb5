use Rattle.std.proofs.Common.{◌≡◌, ℕ, ◌+◌, ◌<◌, ◌≤◌, List, [], ◌++◌, length, get_or, map, drop, ◌∙◌, ap, sym, subst, arith}
use Rattle.ground_instances.specs.Tables.{setting_in}
use Rattle.std.specs.Option.{option_map}
use Rattle.ground_instances.specs.Partial.{partial_value}
use Rattle.ground_instances.specs.Settled.{settled}
use Rattle.ground_instances.specs.Values.{known_value}
use Rattle.pddl_ast.specs.Values.{formula_value}
use Rattle.pddl_system.specs.Objects.{bindings}
use Rattle.pddl_system.specs.Sizes.{binding_count}
use Rattle.pddl_system.specs.ThreeValues.{Value as Known, value_of_any, value_of_all, value_or, value_and}
use Rattle.ground_instances.proofs.Numbered.{length_bindings}
use Rattle.ground_instances.proofs.SettledLemmas.{settled_is}
use Rattle.ground_instances.proofs.ValueLemmas.{or_step, or_end, and_step, and_end, is_yes, is_no, left_again}
use Rattle.ground_instances.proofs.setting.Setting.+partial_value.Goals as goal

pub loop-number-preserved : goal.loop-number-preserved
loop-number-preserved t c =
    let at = setting_in c.args.self.now in
    let scope = c.args.scope.now.items in
    let n = c.loop-number.number in
    let rows = bindings at.objects c.in-Exists.types.items in
    let part = λ (chosen : List ℕ). partial_value at (formula_value c.in-Exists.part.value) (scope ++ chosen) c.args.free in
    let counted : length rows ≡ c.in_ok-count-in-Exists.count =
    length_bindings at.objects c.in-Exists.types.items
    ∙ sym (c.in_ok-count-in-Exists.ensures.count ∙ ap (binding_count at.objects) c.deref-in-Exists-2.ensures.value) in
    let within : n < length rows = subst (λ k. n < k) (sym counted) c.loop-number-test.true in
    let bound : c.bind.new.scope.items ≡ scope ++ get_or rows n [] =
    c.in_ok-bind-in-Exists.ensures
    ∙ ap (λ s. s ++ get_or (bindings at.objects c.deref-in-loop-number.result.now) n []) c.loop-number.invariant.scope
    ∙ ap (λ ts. scope ++ get_or (bindings at.objects ts) n []) c.deref-in-loop-number.ensures.value in
    let valued : known_value c.in_ok-partial_value-in-Exists.field-0 ≡ part (get_or rows n []) =
    c.in_ok-partial_value-in-Exists.ensures.value
    ∙ ap (λ f. partial_value at (formula_value f) c.bind.new.scope.items c.args.free) c.deref-in-loop-number-2.ensures
    ∙ ap (λ s. partial_value at (formula_value c.in-Exists.part.value) s c.args.free) bound in
    record {
      known = or_step part rows n (known_value c.loop-number.known) (known_value c.in_ok-partial_value-in-Exists.field-0) (known_value c.either-known-in-loop-number.result) _ within c.either-known-in-loop-number.ensures valued c.loop-number.invariant.known;
      scope = left_again scope c.bind.new.scope.items (get_or rows n []) c.partial_value-in-loop-number.new.scope.items c.truncate.new.self.items c.len-outer.result c.args.scope.now.len c.len-outer.ensures c.args.scope.now.ok.0 bound c.in_ok-partial_value-in-Exists.ensures.scope c.truncate.ensures.items;
    }

pub returns-then-eq-4-clause-value : goal.returns-then-eq-4-clause-value
returns-then-eq-4-clause-value t c =
    let at = setting_in c.args.self.now in
    let scope = c.args.scope.now.items in
    let n = c.loop-number.number in
    let rows = bindings at.objects c.in-Exists.types.items in
    let part = λ (chosen : List ℕ). partial_value at (formula_value c.in-Exists.part.value) (scope ++ chosen) c.args.free in
    let counted : length rows ≡ c.in_ok-count-in-Exists.count =
    length_bindings at.objects c.in-Exists.types.items
    ∙ sym (c.in_ok-count-in-Exists.ensures.count ∙ ap (binding_count at.objects) c.deref-in-Exists-2.ensures.value) in
    let within : n < length rows = subst (λ k. n < k) (sym counted) c.loop-number-test.true in
    let bound : c.bind.new.scope.items ≡ scope ++ get_or rows n [] =
    c.in_ok-bind-in-Exists.ensures
    ∙ ap (λ s. s ++ get_or (bindings at.objects c.deref-in-loop-number.result.now) n []) c.loop-number.invariant.scope
    ∙ ap (λ ts. scope ++ get_or (bindings at.objects ts) n []) c.deref-in-loop-number.ensures.value in
    let valued : known_value c.in_ok-partial_value-in-Exists.field-0 ≡ part (get_or rows n []) =
    c.in_ok-partial_value-in-Exists.ensures.value
    ∙ ap (λ f. partial_value at (formula_value f) c.bind.new.scope.items c.args.free) c.deref-in-loop-number-2.ensures
    ∙ ap (λ s. partial_value at (formula_value c.in-Exists.part.value) s c.args.free) bound in
    ap (λ (v : Known). value_or v (value_of_any (map part (drop (n + 1) rows)))) (sym (is_yes c.either-known-in-loop-number.result (sym c.eq-in-loop-number.ensures ∙ c.if-eq-4.true)))
    ∙ or_step part rows n (known_value c.loop-number.known) (known_value c.in_ok-partial_value-in-Exists.field-0) (known_value c.either-known-in-loop-number.result) _ within c.either-known-in-loop-number.ensures valued c.loop-number.invariant.known

pub returns-after-loop-number-clause-value : goal.returns-after-loop-number-clause-value
returns-after-loop-number-clause-value t c =
    let at = setting_in c.args.self.now in
    let scope = c.args.scope.now.items in
    let n = c.loop-number.number in
    let rows = bindings at.objects c.in-Exists.types.items in
    let part = λ (chosen : List ℕ). partial_value at (formula_value c.in-Exists.part.value) (scope ++ chosen) c.args.free in
    let counted : length rows ≡ c.in_ok-count-in-Exists.count =
    length_bindings at.objects c.in-Exists.types.items
    ∙ sym (c.in_ok-count-in-Exists.ensures.count ∙ ap (binding_count at.objects) c.deref-in-Exists-2.ensures.value) in
    or_end part rows n (known_value c.loop-number.known) _ (subst (λ k. k ≤ n) (sym counted) (omega arith)) c.loop-number.invariant.known

pub loop-number-2-preserved : goal.loop-number-2-preserved
loop-number-2-preserved t c =
    let at = setting_in c.args.self.now in
    let scope = c.args.scope.now.items in
    let n = c.loop-number-2.number in
    let rows = bindings at.objects c.in-Forall.types.items in
    let part = λ (chosen : List ℕ). partial_value at (formula_value c.in-Forall.part.value) (scope ++ chosen) c.args.free in
    let counted : length rows ≡ c.in_ok-count-in-Forall.count =
    length_bindings at.objects c.in-Forall.types.items
    ∙ sym (c.in_ok-count-in-Forall.ensures.count ∙ ap (binding_count at.objects) c.deref-in-Forall-2.ensures.value) in
    let within : n < length rows = subst (λ k. n < k) (sym counted) c.loop-number-2-test.true in
    let bound : c.bind-in-loop-number-2.new.scope.items ≡ scope ++ get_or rows n [] =
    c.in_ok-bind-in-Forall.ensures
    ∙ ap (λ s. s ++ get_or (bindings at.objects c.deref-in-loop-number-2-2.result.now) n []) c.loop-number-2.invariant.scope
    ∙ ap (λ ts. scope ++ get_or (bindings at.objects ts) n []) c.deref-in-loop-number-2-2.ensures.value in
    let valued : known_value c.in_ok-partial_value-in-Forall.field-0 ≡ part (get_or rows n []) =
    c.in_ok-partial_value-in-Forall.ensures.value
    ∙ ap (λ f. partial_value at (formula_value f) c.bind-in-loop-number-2.new.scope.items c.args.free) c.deref-in-loop-number-2-3.ensures
    ∙ ap (λ s. partial_value at (formula_value c.in-Forall.part.value) s c.args.free) bound in
    record {
      known = and_step part rows n (known_value c.loop-number-2.known) (known_value c.in_ok-partial_value-in-Forall.field-0) (known_value c.both-known-in-loop-number-2.result) _ within c.both-known-in-loop-number-2.ensures valued c.loop-number-2.invariant.known;
      scope = left_again scope c.bind-in-loop-number-2.new.scope.items (get_or rows n []) c.partial_value-in-loop-number-2.new.scope.items c.truncate-in-loop-number-2.new.self.items c.len-outer-in-Forall.result c.args.scope.now.len c.len-outer-in-Forall.ensures c.args.scope.now.ok.0 bound c.in_ok-partial_value-in-Forall.ensures.scope c.truncate-in-loop-number-2.ensures.items;
    }

pub returns-then-eq-5-clause-value : goal.returns-then-eq-5-clause-value
returns-then-eq-5-clause-value t c =
    let at = setting_in c.args.self.now in
    let scope = c.args.scope.now.items in
    let n = c.loop-number-2.number in
    let rows = bindings at.objects c.in-Forall.types.items in
    let part = λ (chosen : List ℕ). partial_value at (formula_value c.in-Forall.part.value) (scope ++ chosen) c.args.free in
    let counted : length rows ≡ c.in_ok-count-in-Forall.count =
    length_bindings at.objects c.in-Forall.types.items
    ∙ sym (c.in_ok-count-in-Forall.ensures.count ∙ ap (binding_count at.objects) c.deref-in-Forall-2.ensures.value) in
    let within : n < length rows = subst (λ k. n < k) (sym counted) c.loop-number-2-test.true in
    let bound : c.bind-in-loop-number-2.new.scope.items ≡ scope ++ get_or rows n [] =
    c.in_ok-bind-in-Forall.ensures
    ∙ ap (λ s. s ++ get_or (bindings at.objects c.deref-in-loop-number-2-2.result.now) n []) c.loop-number-2.invariant.scope
    ∙ ap (λ ts. scope ++ get_or (bindings at.objects ts) n []) c.deref-in-loop-number-2-2.ensures.value in
    let valued : known_value c.in_ok-partial_value-in-Forall.field-0 ≡ part (get_or rows n []) =
    c.in_ok-partial_value-in-Forall.ensures.value
    ∙ ap (λ f. partial_value at (formula_value f) c.bind-in-loop-number-2.new.scope.items c.args.free) c.deref-in-loop-number-2-3.ensures
    ∙ ap (λ s. partial_value at (formula_value c.in-Forall.part.value) s c.args.free) bound in
    ap (λ (v : Known). value_and v (value_of_all (map part (drop (n + 1) rows)))) (sym (is_no c.both-known-in-loop-number-2.result (sym c.eq-in-loop-number-2.ensures ∙ c.if-eq-5.true)))
    ∙ and_step part rows n (known_value c.loop-number-2.known) (known_value c.in_ok-partial_value-in-Forall.field-0) (known_value c.both-known-in-loop-number-2.result) _ within c.both-known-in-loop-number-2.ensures valued c.loop-number-2.invariant.known

pub returns-after-loop-number-2-clause-value : goal.returns-after-loop-number-2-clause-value
returns-after-loop-number-2-clause-value t c =
    let at = setting_in c.args.self.now in
    let scope = c.args.scope.now.items in
    let n = c.loop-number-2.number in
    let rows = bindings at.objects c.in-Forall.types.items in
    let part = λ (chosen : List ℕ). partial_value at (formula_value c.in-Forall.part.value) (scope ++ chosen) c.args.free in
    let counted : length rows ≡ c.in_ok-count-in-Forall.count =
    length_bindings at.objects c.in-Forall.types.items
    ∙ sym (c.in_ok-count-in-Forall.ensures.count ∙ ap (binding_count at.objects) c.deref-in-Forall-2.ensures.value) in
    and_end part rows n (known_value c.loop-number-2.known) _ (subst (λ k. k ≤ n) (sym counted) (omega arith)) c.loop-number-2.invariant.known

pub returns-in-Some-clause-value : goal.returns-in-Some-clause-value
returns-in-Some-clause-value t c =
    settled_is (setting_in c.args.self.now) c.args.free (formula_value c.args.formula.now) c.args.scope.now.items (known_value c.in-Some.known)
    (ap (option_map known_value) (sym c.in-Some.is) ∙ c.in_ok-known-in-Exists.ensures ∙ ap (λ s. settled (setting_in c.args.self.now) (formula_value c.args.formula.now) s c.args.free) c.deref-in-Exists.ensures.value)

pub returns-in-Some-2-clause-value : goal.returns-in-Some-2-clause-value
returns-in-Some-2-clause-value t c =
    settled_is (setting_in c.args.self.now) c.args.free (formula_value c.args.formula.now) c.args.scope.now.items (known_value c.in-Some-2.known)
    (ap (option_map known_value) (sym c.in-Some-2.is) ∙ c.in_ok-known-in-Forall.ensures ∙ ap (λ s. settled (setting_in c.args.self.now) (formula_value c.args.formula.now) s c.args.free) c.deref-in-Forall.ensures.value)
