use Rattle.std.proofs.Common.{◌≡◌, ◌++◌, ◌∙◌, [], ap, inl, inr, refl, subst, sym}
use Rattle.command_base.specs.Answers.{Refusal, no_memory, refused, text_of}
use Rattle.command_base.specs.Values.{refusal_of}
use Rattle.command_base.specs.Words.{Bytes}
use Rattle.answer_help.specs.Helped.{IsRefusalHelp}
use Rattle.answer_help.specs.Keeping.{held_by}
use Rattle.answer_help.proofs.Deliveries.{refused_part, refused_whole}
use Rattle.answer_help.proofs.helped.refuse_fault.Goals as goal

pub returns-in_default : goal.returns-in_default
returns-in_default g c = λ told out. (refused no_memory, [], inr refl, refl, c.refuse_memory.ensures out)

pub returns-in_default-help_below : goal.returns-in_default-help_below
returns-in_default-help_below g c = λ told out. (refused no_memory, [], inr refl, refl, c.refuse_memory-in_default-help_below.ensures out)

pub returns-then-put_two : goal.returns-then-put_two
returns-then-put_two g c = λ told out.
    let held = held_by g.S.Shelf.held c.args.shelf.now in
    let refusal = refusal_of c.args.refusal.now in
    let help = c.in-Ok-help_below.help.items in
    let found = c.in-Ok-help_below.ensures told in
    let text : c.as_bytes.result.now ++ c.deref.result.now ≡ text_of (refused refusal) ++ help =
    ap (λ (l : Bytes). l ++ c.deref.result.now) (c.as_bytes.ensures ∙ c.in-Ok.ensures.line) ∙ ap (λ (h : Bytes). text_of (refused refusal) ++ h) c.deref.ensures.value in (
      refused refusal,
      help,
      inl refl,
      subst (λ (r : Refusal). IsRefusalHelp held r help) (sym c.requires) found,
      refused_whole help (refused refusal) (c.as_bytes.result.now ++ c.deref.result.now) out _ _ c.status.result c.put_two.result text refl c.status.ensures c.if-put_two.true c.put_two.ensures,
    )

pub returns : goal.returns
returns g c = λ told out.
    let held = held_by g.S.Shelf.held c.args.shelf.now in
    let refusal = refusal_of c.args.refusal.now in
    let help = c.in-Ok-help_below.help.items in
    let found = c.in-Ok-help_below.ensures told in
    let text : c.as_bytes.result.now ++ c.deref.result.now ≡ text_of (refused refusal) ++ help =
    ap (λ (l : Bytes). l ++ c.deref.result.now) (c.as_bytes.ensures ∙ c.in-Ok.ensures.line) ∙ ap (λ (h : Bytes). text_of (refused refusal) ++ h) c.deref.ensures.value in (
      refused refusal,
      help,
      inl refl,
      subst (λ (r : Refusal). IsRefusalHelp held r help) (sym c.requires) found,
      refused_part help (refused refusal) (c.as_bytes.result.now ++ c.deref.result.now) out _ _ c.put_two.result text refl c.if-put_two.false c.put_two.ensures,
    )
