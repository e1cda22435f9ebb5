use Rattle.std.proofs.Common.{◌≡◌, ◌<◌, ◌≤◌, ◌*◌, ◌+◌, true, false, arith}
use Rattle.std.specs.Option.{is_some}
use Rattle.cube_index.specs.Index.{answers, tests_of, values_of}
use Rattle.cube_index.proofs.BlockLists.{first_of_all, none_more, none_of_all}
use Rattle.cube_index.proofs.index.CubeIndex.next_match.Goals as goal

pub returns-then-is_some : goal.returns-then-is_some
returns-then-is_some c =
    let n = c.loop-number.number in
    let some : is_some c.match_in-found.result ≡ true = grind (arith, c.is_some.ensures, c.if-is_some.true) in
    first_of_all (answers c.args.self.now (values_of c.args.state.now)) c.args.from c.args.to c.min-end.result (64 * n) (64 * n + 64) c.match_in-found.result
    c.match_in-found.ensures some (omega (arith, c.min-end.ensures)) c.loop-number.invariant

pub loop-number-preserved : goal.loop-number-preserved
loop-number-preserved c =
    let none : is_some c.match_in-found.result ≡ false = grind (arith, c.is_some.ensures, c.if-is_some.false) in
    none_more (answers c.args.self.now (values_of c.args.state.now)) c.args.from c.min-end.result c.loop-number.number c.match_in-found.result
    c.match_in-found.ensures none c.loop-number.invariant

pub returns-after-loop-number : goal.returns-after-loop-number
returns-after-loop-number c =
    none_of_all (values_of c.args.state.now) (tests_of c.args.self.now.blocks.items) c.args.self.now.count c.args.from c.args.to c.min-end.result c.min-end.ensures
    (λ k from_on less. c.loop-number.invariant k from_on
    (omega (arith, less, c.loop-number-test.false, c.div_ceil-number-end.ensures)) less)

pub returns-else-from-end : goal.returns-else-from-end
returns-else-from-end c =
    none_of_all (values_of c.args.state.now) (tests_of c.args.self.now.blocks.items) c.args.self.now.count c.args.from c.args.to c.min-end.result c.min-end.ensures
    (λ k from_on less. absurd (omega (arith, c.if-from-end.false, from_on, less)))
