use Rattle.std.proofs.Common.{refl, inl, inr, sym, ap, ◌∙◌}
use Rattle.std.proofs.lemmas.Bool.{false≢true}
use Rattle.command_base.specs.Answers.{is_shown, no_command, no_memory, refused, status_of, text_of}
use Rattle.command_base.specs.Values.{answer_of}
use Rattle.command_base.proofs.Refusals.{refused-same}
use Rattle.command_base.proofs.delivery.deliver.Goals as goal

pub returns-in-Ok-line : goal.returns-in-Ok-line
returns-in-Ok-line g c =
    let answer = answer_of c.args.answer.now in (
      answer,
      inl refl,
      c.refuse.ensures answer _
          (c.status-in-Ok-line.ensures ∙ ap (λ a. status_of (answer_of a)) (sym c.in-Err.is))
          (c.as_bytes-in-Ok-line.ensures ∙ c.in-Ok-line.ensures.line ∙ ap (λ a. text_of (answer_of a)) (sym c.in-Err.is))
          (ap (λ a. is_shown (answer_of a)) c.in-Err.is),
    )

pub returns-in-Err-line : goal.returns-in-Err-line
returns-in-Err-line g c = (
  refused no_memory,
  inr (refl, λ same. false≢true (c.in-Err-line.ensures.no_command (refused-same _ no_command (ap answer_of (sym c.in-Err.is) ∙ same)))),
  c.refuse-in-Err-line.ensures (refused no_memory) _ refl c.as_bytes-in-Err-line.ensures.value refl,
)
