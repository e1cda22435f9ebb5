use Rattle.std.proofs.Common.{◌≡◌, ◌++◌, ◌∙◌, [], ap, codes, map, rules, string_bytes}
use Rattle.list_laws.proofs.Elements.{pushed_two}
use Rattle.list_laws.proofs.Options.{on_ok}
use Rattle.state_text.specs.Texts.{conditions_text}
use Rattle.task_core.specs.Tasks.{fluent_names}
use Rattle.trace.specs.Texts.{goal_text}
use Rattle.trace.proofs.Pushed.{outside}
use Rattle.trace.proofs.texts.push_goal.Goals as goal

pub returns : goal.returns
returns c =
    let fluents = fluent_names c.args.task.now in
    let parts = c.args.parts.now in
    let said = codes "the plan ends here, outside the goal: false is" in
    let listed = conditions_text fluents (map (λ part. part.now) parts) in
    let old = string_bytes c.args.out.now in
    let mid = string_bytes c.push_str-2.new.self in
    let new = string_bytes c.push_parts.new.out in
    let some : parts ≡ [] → ⊥ = search rules in
    on_ok c.push_parts.result (new ≡ mid ++ listed) (new ≡ old ++ goal_text fluents (map (λ part. part.now) parts))
    (λ last. pushed_two old said listed mid new c.in_ok-push_str.ensures.bytes last ∙ ap (λ text. old ++ text) (outside fluents parts some))
    c.push_parts.ensures
