use Rattle.std.proofs.Common.{take, length, subst, List, arith, ◌≤◌}
use Rattle.std.specs.Prelude.{All}
use Rattle.std.proofs.lemmas.List.{take_all}
use Rattle.std.proofs.lemmas.List.Elements.{All-more, All-weaker}
use Rattle.ground_instances.specs.Groups.{Begins}
use Rattle.ground_instances.proofs.groups.go_up_from_all.Goals as goal

pub loop-type_id-preserved : goal.loop-type_id-preserved
loop-type_id-preserved c =
    let types = c.args.types.now in
    let i = c.loop-type_id.type_id-index in
    record {
      ways = c.go_up.ensures.ways;
      begun = All-more (Begins c.go_up.new.seen c.go_up.new.below) types i 0 c.loop-type_id-test.true
          (All-weaker (Begins c.loop-type_id.seen c.loop-type_id.below) (Begins c.go_up.new.seen c.go_up.new.below) c.go_up.ensures.kept (take i types) c.loop-type_id.invariant.begun)
          c.go_up.ensures.begun;
    }

pub returns-clause-begun : goal.returns-clause-begun
returns-clause-begun c =
    let types = c.args.types.now in
    let all : length types ≤ c.loop-type_id.type_id-index = omega arith in
    subst (λ (xs : List _). All (Begins c.loop-type_id.seen c.loop-type_id.below) xs) (take_all c.loop-type_id.type_id-index types all) c.loop-type_id.invariant.begun
