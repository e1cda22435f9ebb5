use Rattle.std.proofs.Common.{◌≡◌, ℕ, ◌∷◌, [], length, slice_get, sym, ap, ◌∙◌, subst, arith}
use Rattle.std.proofs.lemmas.List.{length-append, length-map, map_push}
use Rattle.std.proofs.lemmas.List.Elements.{All-push}
use Rattle.exec_graph.specs.Moves.{configuration_of}
use Rattle.exec_graph.specs.Values.{plain_graph}
use Rattle.task_core.specs.States.{IsWithin}
use Rattle.plan_picture.specs.Places.{AreWithin, configurations_of}
use Rattle.exec_graph.specs.declared.graphs.Place.{Place}
use Rattle.plan_picture.proofs.Found.{get_pushed}
use Rattle.plan_picture.proofs.places.places_of.Goals as goal

pub loop-number-preserved : goal.loop-number-preserved
loop-number-preserved c =
    let old = c.loop-number.places.items in
    let k = c.loop-number.number in
    let g = c.args.graph.now in
    let x : Place = record { state = c.state.result.now; context = c.context.result } in
    let items = c.in_ok-push.ensures.items in
    let is : (n : ℕ) → configuration_of n x ≡ (plain_graph n g).configuration k =
    λ n i. record { state = sym (c.state.ensures.state n) i; context = sym (c.context.ensures n) i } in
    record {
      count = omega (arith, ap length items, length-append old (x ∷ []), c.loop-number.invariant.count);
      same = λ n i b.
          ap (λ ps. slice_get (configurations_of n ps) i) items
          ∙ ap (λ cs. slice_get cs i) (map_push (configuration_of n) old x)
          ∙ get_pushed (configurations_of n old) (configuration_of n x) k i ((plain_graph n g).configuration i)
          (length-map old (configuration_of n) ∙ c.loop-number.invariant.count) (omega (arith, b)) (λ h. c.loop-number.invariant.same n i h)
          (λ e. is n ∙ ap (plain_graph n g).configuration e);
      within = λ n w. subst (AreWithin n) (sym items)
          (All-push (λ (p : Place). IsWithin n p.state) old x (c.loop-number.invariant.within n w) (c.state.ensures.within n w));
    }
