use Rattle.std.proofs.Common.{ap, ◌∙◌, ℕ, List}
use Rattle.std.specs.declared.vec.Vec.{Vec}
use Rattle.std.specs.declared.alloc.Global.{Global}
use Rattle.pddl_ast.proofs.Pending.{names_moved}
use Rattle.pddl_ast.proofs.typed_lists.Pending.take_type.Goals as goal

pub returns-clause-names : goal.returns-clause-names
returns-clause-names c =
    names_moved c.args.self.now.groups.items c.push.new.self.items c.args.self.now.names.items c.replace-names.new.dest.items _ c.in_ok-push.ensures.items
    (ap (λ (v : Vec (List ℕ) Global). v.items) c.replace-names.ensures.value)
    (ap (λ (v : Vec (List ℕ) Global). v.items) c.replace-names.ensures.after ∙ c.new.ensures.items)
