use Rattle.std.proofs.Common.{◌≡◌, ◌++◌, ◌∙◌, List, ℕ, ap, append_assoc, codes, string_bytes, subst, sym}
use Rattle.std.specs.Prelude.{OnOk, decimal}
use Rattle.controller_rules.proofs.Noted.{remark_later}
use Rattle.controller_rules.proofs.texts.push_remark.Goals as goal

pub returns : goal.returns
returns c =
    let old = string_bytes c.args.out.now in
    subst (λ (t : List ℕ). OnOk c.push_later.result (string_bytes c.push_later.new.out ≡ t))
    (append_assoc old (codes " steps before: ") (decimal c.args.steps) ∙ ap (λ t. old ++ t) (sym (remark_later c.args.steps c.if-steps-eq0.false))) c.push_later.ensures
