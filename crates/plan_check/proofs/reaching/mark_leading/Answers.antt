use Rattle.std.proofs.Common.{◌∙◌, ap}
use Rattle.exec_graph.specs.Values.{followers_at, graph_size}
use Rattle.plan_check.specs.Labels.{mark_at}
use Rattle.plan_check.proofs.SpreadSteps.{least_leads}
use Rattle.plan_check.proofs.reaching.mark_leading.Goals as goal

pub returns-clause-leading : goal.returns-clause-leading
returns-clause-leading g c =
    least_leads (graph_size c.args.graph.now) (followers_at c.args.graph.now) c.deref.result.now c.args.marks.now.items c.spread.new.marks.items c.requires.inside
    (λ i l. ap (λ ms. mark_at ms i) c.deref.ensures.value ∙ c.in_ok-guard.ensures.each i l)
    c.in_ok-spread.ensures.least
