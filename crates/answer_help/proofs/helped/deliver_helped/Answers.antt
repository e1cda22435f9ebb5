use Rattle.std.proofs.Common.{◌≡◌, ◌∙◌, [], ap, inl, refl, string_bytes, subst, sym}
use Rattle.std.specs.declared.alloc.Global.{Global}
use Rattle.command_base.specs.Answers.{Answer, no_command, refused}
use Rattle.command_base.specs.Delivery.{seen}
use Rattle.command_base.specs.Values.{answer_of, refusal_of}
use Rattle.command_base.specs.declared.answers.Refusal.{Refusal as CodeRefusal}
use Rattle.answer_help.specs.Helped.{IsHelpFor}
use Rattle.answer_help.specs.Keeping.{held_by}
use Rattle.answer_help.proofs.Deliveries.{fault_same, helped_given, helped_plain, no_help}
use Rattle.answer_help.proofs.helped.deliver_helped.Goals as goal

pub returns-in-TextFault : goal.returns-in-TextFault
returns-in-TextFault g c = λ told.
    let given = c.refuse_fault.ensures told (seen (g.O.Sink.written c.args.out.now) (g.O.Sink.faults c.args.out.now)) in (
      given.0,
      given.1,
      fault_same (answer_of c.args.answer.now) given.0 (refusal_of c.in-Err.refusal) (string_bytes {Z = Global} c.in-TextFault.file) c.in-TextFault.fault (ap answer_of c.in-Err.is)
          (ap refusal_of c.in-TextFault.is) given.2,
      given.3,
      given.4,
    )

pub returns-in_default : goal.returns-in_default
returns-in_default g c = λ told.
    let held = held_by g.S.Shelf.held c.args.shelf.now in
    let answer = answer_of c.args.answer.now in
    let given = c.deliver-in_default.ensures in
    let none : IsHelpFor held answer [] =
    subst (λ (a : Answer). IsHelpFor held a []) (sym (ap answer_of c.in-Err.is)) (no_help held c.in-Err.refusal c.in_default.not-TextFault) in
    (given.0, [], given.1, helped_given held answer given.0 none given.1, helped_plain given.0 _ _ _ _ _ given.2)
