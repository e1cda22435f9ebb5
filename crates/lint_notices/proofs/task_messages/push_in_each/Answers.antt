use Rattle.std.proofs.Common.{◌≡◌, ◌∙◌, ℕ, List, ◌++◌, ap, codes, string_bytes, subst}
use Rattle.std.specs.Prelude.{OnOk}
use Rattle.std.proofs.lemmas.List.{append_assoc}
use Rattle.lint_notices.specs.TaskNotices.{part_text}
use Rattle.lint_notices.proofs.task_messages.push_in_each.Goals as goal

pub returns : goal.returns
returns c =
    let before = string_bytes c.args.out.now in
    let words : List ℕ = codes "in each instance that the facts allow, " in
    let part = part_text c.args.text.now c.args.span in
    subst (λ (bytes : List ℕ). OnOk c.push_part.result (string_bytes c.push_part.new.out ≡ bytes))
    (ap (λ (bytes : List ℕ). bytes ++ part) c.in_ok-push_str.ensures.bytes ∙ append_assoc before words part) c.push_part.ensures
