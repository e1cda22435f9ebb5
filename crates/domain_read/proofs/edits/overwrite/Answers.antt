use Rattle.std.proofs.Common.{◌≡◌, ◌<◌, ◌≤◌, sym, length, min, subst, arith}
use Rattle.std.proofs.Math.Nat.{min-le_left, min-le_right}
use Rattle.domain_read.specs.Edits.{Edit}
use Rattle.domain_read.proofs.Replaced.{written_start, written_step, written_end}
use Rattle.domain_read.proofs.edits.overwrite.Goals as goal

pub loop-place-init : goal.loop-place-init
loop-place-init c = (omega arith, written_start (record { span = c.args.span; text = c.args.bytes.now }) c.args.text.now)

pub loop-place-preserved : goal.loop-place-preserved
loop-place-preserved c =
    let e : Edit = record { span = c.args.span; text = c.args.bytes.now } in
    let left : min c.args.span.end (length c.args.text.now) ≤ c.args.span.end = min-le_left c.args.span.end (length c.args.text.now) in
    let right : min c.args.span.end (length c.args.text.now) ≤ length c.args.text.now = min-le_right c.args.span.end (length c.args.text.now) in
    let start : c.args.span.start ≤ c.loop-place.place = c.loop-place.invariant.0 in (
      omega arith,
      written_step e c.args.text.now c.loop-place.text c.loop-place.place c.byte_within.result start
          (omega (arith, c.min-end.ensures, c.loop-place-test.true)) (omega (arith, c.min-end.ensures, c.loop-place-test.true, c.loop-place.auto.text)) c.byte_within.ensures c.loop-place.invariant.1,
    )

pub returns : goal.returns
returns c =
    written_end (record { span = c.args.span; text = c.args.bytes.now }) c.args.text.now c.loop-place.text c.loop-place.place c.min-end.result c.loop-place-test.false c.min-end.ensures c.loop-place.invariant.1
