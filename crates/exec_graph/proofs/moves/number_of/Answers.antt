use Rattle.std.proofs.Common.{ap, ◌∙◌, map, subst, sym}
use Rattle.std.specs.List.{All}
use Rattle.exec_graph.specs.Moves.{configuration_of, IsPlaceWithin}
use Rattle.exec_graph.proofs.Places.{added_place, added_within, stored_place}
use Rattle.exec_graph.proofs.moves.number_of.Goals as goal

pub returns-clause-added : goal.returns-clause-added
returns-clause-added c = λ n wp wk.
    ap (map (configuration_of n)) c.in_ok-number.ensures.keys ∙ added_place n c.args.place c.args.places.now.keys wp wk

pub returns-clause-within : goal.returns-clause-within
returns-clause-within c = λ n wp wk.
    subst (All (IsPlaceWithin n)) (sym c.in_ok-number.ensures.keys) (added_within n c.args.place c.args.places.now.keys wp wk)

pub returns-clause-number : goal.returns-clause-number
returns-clause-number c = λ n wp wk.
    let k = c.in_ok-number.ensures.stored in
    stored_place n c.args.place k.0 c.insert_full.new.self.keys c.in_ok-number.number wp
    (subst (All (IsPlaceWithin n)) (sym c.in_ok-number.ensures.keys) (added_within n c.args.place c.args.places.now.keys wp wk))
    k.1 k.2
