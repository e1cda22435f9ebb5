use Rattle.std.proofs.Common.{◌++◌, ◌∙◌, ap, subst}
use Rattle.command_base.specs.Values.{plan_words_of}
use Rattle.command_base.specs.Words.{Bytes}
use Rattle.pddl_ast.specs.Values.{domain_value, problem_value}
use Rattle.why_command.specs.Tried.{HasSaid}
use Rattle.why_command.specs.Whys.{none_line, weaker}
use Rattle.why_command.proofs.planned.none_text.Goals as goal

pub returns : goal.returns
returns c =
    let asked = plan_words_of c.args.asked.now in
    subst (λ (xs : Bytes). HasSaid asked (domain_value c.args.read.now.domain.now) (problem_value c.args.read.now.problem.now) (weaker asked.kind) xs c.push_weaker.new.text.items)
    (c.in_ok-push_none.ensures ∙ ap (λ xs. xs ++ none_line asked.kind) c.new-text.ensures.items)
    c.in_ok-push_weaker.ensures
