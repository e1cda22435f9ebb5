use Rattle.std.proofs.Common.{◌≡◌, ℕ, ◌+◌, ◌<◌, ◌++◌, length, get_or, refl, ap, sym, subst, ◌∙◌, arith, inl, append-nil, add-one}
use Rattle.std.proofs.lemmas.List.Elements.{All-get_or}
use Rattle.std.proofs.lemmas.List.{length-set}
use Rattle.pddl_ast.specs.Fits.{ancestor}
use Rattle.ground_instances.specs.Entering.{list_of}
use Rattle.ground_instances.proofs.EnteringLemmas.{ancestor_next, either_way, enter_step, if_so, list_of-get, reaches, reaches_all}
use Rattle.ground_instances.proofs.objects.enter.Goals as goal

pub loop-init : goal.loop-init
loop-init c =
    let lists = c.args.lists.now.items in
    let inside : c.args.type_id < length lists = subst (λ n. c.args.type_id < n) (sym c.requires.lists) c.requires.type_id in
    record {
      kind = refl;
      known = c.requires.type_id;
      lists = length-set lists c.args.type_id c.push_once.new.list ∙ c.requires.lists;
      entered = enter_step c.args.parents.now c.args.type_id c.args.object 0 c.args.type_id (list_of lists) lists _ c.push_once.new.list refl inside
          (λ t _. sym (append-nil (list_of lists t))) refl
          (c.in_ok-push_once.ensures (list_of lists c.args.type_id) (c.requires.below c.args.type_id) (inl (sym (list_of-get lists c.args.type_id c.index_mut.result.now inside c.index_mut.ensures.value))));
    }

pub loop-preserved : goal.loop-preserved
loop-preserved c =
    let lists = c.loop.lists.items in
    let base = list_of c.args.lists.now.items in
    let parents = c.args.parents.now in
    let kind = get_or parents c.loop.kind 0 in
    let known : kind < length parents = All-get_or (λ t. t < length parents) parents c.loop.kind 0 c.loop.invariant.known c.requires.parents in
    let inside : kind < length lists = subst (λ n. kind < n) (sym c.loop.invariant.lists) known in
    let at : kind ≡ ancestor parents (c.loop.counter + 1) c.args.type_id =
    ap (λ k. get_or parents k 0) c.loop.invariant.kind ∙ sym (ancestor_next parents c.loop.counter c.args.type_id) ∙ ap (λ n. ancestor parents n c.args.type_id) (sym (add-one c.loop.counter)) in
    let before : (t : ℕ) → t < length parents → list_of lists t ≡ base t ++ if_so (reaches parents c.args.type_id t (c.loop.counter + 1)) c.args.object =
    λ t within. c.loop.invariant.entered t within ∙ ap (λ n. base t ++ if_so (reaches parents c.args.type_id t n) c.args.object) (sym (add-one c.loop.counter)) in
    record {
      kind = at;
      known = known;
      lists = length-set lists kind c.push_once-in-loop.new.list ∙ c.loop.invariant.lists;
      entered = enter_step parents c.args.type_id c.args.object (c.loop.counter + 1) kind base lists _ c.push_once-in-loop.new.list at inside before refl
          (c.in_ok-push_once-2.ensures (base kind) (c.requires.below kind)
          (either_way _ (base kind) (reaches parents c.args.type_id kind (c.loop.counter + 1)) c.args.object
          (sym (list_of-get lists kind c.index_mut-in-loop.result.now inside c.index_mut-in-loop.ensures.value) ∙ before kind known)));
    }

pub returns-then-parent-kind-clause-entered : goal.returns-then-parent-kind-clause-entered
returns-then-parent-kind-clause-entered c = λ t within.
    let parents = c.args.parents.now in
    let fixed : get_or parents (ancestor parents c.loop.counter c.args.type_id) 0 ≡ ancestor parents c.loop.counter c.args.type_id =
    ap (λ k. get_or parents k 0) (sym c.loop.invariant.kind) ∙ c.if-parent-kind.true ∙ c.loop.invariant.kind in
    c.loop.invariant.entered t within
    ∙ ap (λ b. list_of c.args.lists.now.items t ++ if_so b c.args.object) (reaches_all parents c.args.type_id t c.loop.counter (omega arith) fixed)
