use Rattle.answer_help.proofs.Deliveries.{put_stopped, put_went}
use Rattle.answer_help.proofs.helped.put_two.Goals as goal

pub returns-then-not-put_one : goal.returns-then-not-put_one
returns-then-not-put_one g c = put_stopped c.args.first.now c.args.second.now _ _ c.put_one.result c.if-not-put_one.true c.put_one.ensures

pub returns : goal.returns
returns g c = put_went c.args.first.now c.args.second.now _ _ _ c.put_one.result c.put_one-2.result c.if-not-put_one.false c.put_one.ensures c.put_one-2.ensures
