-- After the last rule there is nothing to do.
use Rattle.controller_code.proofs.StepLemmas.{rest_begun}
use Rattle.controller_code.proofs.steps.Steps.add_rules.Goals as goal

pub loop-place-init : goal.loop-place-init
loop-place-init c = record {
  kept = c.in_ok-rest.ensures.kept;
  decides = rest_begun c.args.rules.now c.add.new.self.list.items c.in_ok-rest.rest c.in_ok-rest.ensures.added;
}
