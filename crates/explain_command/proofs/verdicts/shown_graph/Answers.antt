use Rattle.std.proofs.Common.{IfOk, subst, sym}
use Rattle.command_base.specs.Values.{shown_of}
use Rattle.explain_command.specs.Explained.{ShowsIn}
use Rattle.explain_command.specs.Values.{explain_words_of, lined_of}
use Rattle.explain_command.specs.declared.words.ShownAs.{ShownAs}
use Rattle.explain_command.proofs.verdicts.shown_graph.Goals as goal

pub returns-in-Verdict : goal.returns-in-Verdict
returns-in-Verdict c =
    subst (λ (form : ShownAs). IfOk c.judge_graph.result (λ shown. ShowsIn form (explain_words_of c.args.asked.now) c.args.grounded.now.task (lined_of c.args.lined.now) c.args.grounded.now.ctl (shown_of shown)))
    (sym c.in-Verdict.is) c.judge_graph.ensures

pub returns-in-Run : goal.returns-in-Run
returns-in-Run c =
    subst (λ (form : ShownAs). IfOk c.explain_graph.result (λ shown. ShowsIn form (explain_words_of c.args.asked.now) c.args.grounded.now.task (lined_of c.args.lined.now) c.args.grounded.now.ctl (shown_of shown)))
    (sym c.in-Run.is) c.explain_graph.ensures

pub returns-in-Document : goal.returns-in-Document
returns-in-Document c =
    subst (λ (form : ShownAs). IfOk c.explain_graph-in-Document.result (λ shown. ShowsIn form (explain_words_of c.args.asked.now) c.args.grounded.now.task (lined_of c.args.lined.now) c.args.grounded.now.ctl (shown_of shown)))
    (sym c.in-Document.is) c.explain_graph-in-Document.ensures
