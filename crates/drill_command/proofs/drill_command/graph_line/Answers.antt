use Rattle.std.proofs.Common.{◌≡◌, ℕ, Vec}
use Rattle.std.specs.declared.alloc.Global.{Global}
use Rattle.plan_check.specs.Verdicts.{IsVerdict}
use Rattle.plan_check.specs.declared.verdicts.Verdict.{Verdict}
use Rattle.task_core.specs.Tasks.{system_of}
use Rattle.drill_command.specs.DrillCommand.{rules_line}
use Rattle.drill_command.proofs.DrillAnswers.{if_ok_map}
use Rattle.drill_command.proofs.drill_command.graph_line.Goals as goal

pub returns : goal.returns
returns c = λ word rules of_graph.
    let sys = system_of c.args.task.now in
    let P : Vec ℕ Global → Type 0 = λ line. line.items ≡ rules_line c.args.class c.args.count c.in_ok-verdict.verdict in
    let Q : Vec ℕ Global → Type 0 = λ line. (v : Verdict) × IsVerdict sys rules c.args.class v × (line.items ≡ rules_line c.args.class c.args.count v) in
    let judged = c.in_ok-verdict.ensures word rules of_graph in
    if_ok_map P Q c.judged_line.result (λ line is. (c.in_ok-verdict.verdict, judged, is)) c.judged_line.ensures
