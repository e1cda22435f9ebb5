use Rattle.std.proofs.Common.{◌+◌, drop, ap, ◌∙◌, ◌++◌}
use Rattle.sexpr_text.specs.Forest.{forest_of}
use Rattle.pddl_domain.specs.Constants as specs
use Rattle.pddl_domain.proofs.ListLemmas.{next_group, more_predicates-flaws, more_predicates-read, more_predicates-names}
use Rattle.pddl_domain.proofs.predicates.read_predicates.Goals as goal

pub loop-form-preserved : goal.loop-form-preserved
loop-form-preserved c =
    let k = c.loop-form.form-index in
    let types = c.args.types.now in
    let span = c.in-Group.span in
    let parts = c.in-Group.parts.now in
    let done = c.loop-form.predicates.items in
    let rest = forest_of (drop (k + 1) c.args.list.now) in
    let p = c.in_ok-predicate-in-Group.predicate in
    let next = next_group c.args.list.now k c.form-item.result span parts c.loop-form-test.true c.form-item.is c.in-Group.ensures in
    let says = c.in_ok-predicate-in-Group.ensures in
    let pushed = c.in_ok-push-in-Group.ensures.items in
    record {
      flaws = c.loop-form.invariant.flaws
          ∙ (ap (specs.predicates_flaws types c.loop-form.names) next
          ∙ more_predicates-flaws types c.loop-form.names c.read_predicate.new.names span parts rest says.sound says.first_word);
      read = c.loop-form.invariant.read
          ∙ (ap (λ t. done ++ specs.predicates_of t) next
          ∙ more_predicates-read done c.push.new.self.items p span parts rest says.read pushed);
      names = more_predicates-names done c.push.new.self.items p c.loop-form.names c.read_predicate.new.names c.loop-form.invariant.names says.name pushed;
    }
