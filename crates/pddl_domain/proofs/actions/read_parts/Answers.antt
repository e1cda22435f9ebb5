use Rattle.std.proofs.Common.{◌∙◌}
use Rattle.sexpr_text.specs.Forest.{forest_of}
use Rattle.pddl_domain.specs.ActionParts.{parts_value}
use Rattle.pddl_domain.proofs.ActionLemmas.{more_keys-flaws, more_keys-read}
use Rattle.pddl_domain.proofs.actions.read_parts.Goals as goal

pub loop-parts-preserved : goal.loop-parts-preserved
loop-parts-preserved c =
    let parts = parts_value c.loop-parts.parts in
    let after = parts_value c.with_part-parts.result in
    let key = c.key_of-key.result in
    let w = c.in-Word.word.now in
    let row = forest_of c.loop-parts.rest.now in
    let rest = forest_of c.in-Word.after.now in
    let next = forest_of c.in-Some.next.now in
    record {
      flaws = c.loop-parts.invariant.flaws
          ∙ more_keys-flaws parts after key c.in-Word.span w c.in-Some.form row rest next c.in-Word.ensures c.in-Some.ensures c.key_of-key.ensures
          c.in_ok-check_key-in-Some.ensures.sound c.with_part-parts.ensures;
      read = c.loop-parts.invariant.read
          ∙ more_keys-read parts after key c.in-Word.span w c.in-Some.form row rest next c.in-Word.ensures c.in-Some.ensures c.key_of-key.ensures
          c.with_part-parts.ensures;
    }
