use Rattle.std.proofs.Common.{[], append-nil, ap, arith, length, map, refl, subst, sym, ◌∙◌}
use Rattle.std.specs.List.{fold}
use Rattle.std.proofs.lemmas.Bool.{eqb-true}
use Rattle.task_core.specs.States.{ShowsVectors, vector}
use Rattle.task_core.specs.Initial.{add_state, applied, entry_of}
use Rattle.task_core.proofs.StateLists.{length_shown, length-entry_of}
use Rattle.initial_number.proofs.alternatives.are_apart.Goals as goal

pub returns : goal.returns
returns c = λ apart n all within.
    let entry = entry_of c.args.entry.now in
    let made = map (applied n (vector n c.args.state.now)) entry in
    let nothing : ShowsVectors n [] [] = record { shown = refl; within = λ i d h. absurd (omega arith) } in
    let shown : ShowsVectors n c.add_alternatives.new.made.keys (fold add_state [] made) =
    c.in_ok-add_alternatives.ensures n [] all within (subst (λ keys. ShowsVectors n keys []) (sym c.in_ok-made.ensures.empty) nothing) in
    ap (λ vs. length (fold add_state [] vs)) (append-nil made)
    ∙ sym (length_shown n c.add_alternatives.new.made.keys (fold add_state [] made) shown)
    ∙ sym c.len.ensures.len
    ∙ eqb-true c.len.result (length c.args.entry.now) apart
    ∙ sym (length-entry_of c.args.entry.now)
