use Rattle.std.proofs.Common.{◌≤◌, length}
use Rattle.sexpr_text.specs.Forest.{forest_of}
use Rattle.sexpr_text.specs.Formed.{IsRising, nesting_of}
use Rattle.sexpr_text.specs.Spelling.{SpellsTrees}
use Rattle.pddl_domain.proofs.Orders.{Laws}
use Rattle.pddl_domain.proofs.Answered.{read_spelled, read_faulty}
use Rattle.pddl_domain.proofs.Fitted.{ListLaws, read_fits}
use Rattle.pddl_domain.proofs.FitActions.{TreeLaws}
use Rattle.pddl_domain.proofs.WordNames.{read_words}
use Rattle.pddl_domain.proofs.domains.read_domain.Goals as goal

pub returns-in-Ok-clause-domain : goal.returns-in-Ok-clause-domain
returns-in-Ok-clause-domain c =
    let laws : Laws = record { lists = c.typed_lists_in_order.ensures; formulas = c.formulas_in_order.ensures.row; effects = c.effects_in_order.ensures.row } in
    let spelled : SpellsTrees c.args.bytes.now (forest_of c.deref.result.now) = rw c.deref.ensures.value c.in-Ok.ensures.forms in
    let rising : IsRising 0 (length c.args.bytes.now) (forest_of c.deref.result.now) = rw c.deref.ensures.value c.in-Ok.ensures.formed.rising in
    read_spelled laws c.args.bytes.now (forest_of c.deref.result.now) (length c.args.bytes.now) spelled rising c.read_defined.result c.read_defined.ensures.sound c.read_defined.ensures.read

pub returns-in-Ok-clause-fault : goal.returns-in-Ok-clause-fault
returns-in-Ok-clause-fault c =
    let laws : Laws = record { lists = c.typed_lists_in_order.ensures; formulas = c.formulas_in_order.ensures.row; effects = c.effects_in_order.ensures.row } in
    let spelled : SpellsTrees c.args.bytes.now (forest_of c.deref.result.now) = rw c.deref.ensures.value c.in-Ok.ensures.forms in
    let rising : IsRising 0 (length c.args.bytes.now) (forest_of c.deref.result.now) = rw c.deref.ensures.value c.in-Ok.ensures.formed.rising in
    read_faulty laws c.args.bytes.now (forest_of c.deref.result.now) (length c.args.bytes.now) spelled rising c.read_defined.result c.read_defined.ensures.fault

pub returns-in-Ok-clause-fits : goal.returns-in-Ok-clause-fits
returns-in-Ok-clause-fits c =
    let lists : ListLaws = record { different = c.typed_lists_fit.ensures.different; wanted = c.typed_lists_fit.ensures.wanted } in
    let trees : TreeLaws = record { formulas = c.formulas_fit.ensures.first; effects = c.effects_fit.ensures.first } in
    let shallow : nesting_of (forest_of c.deref.result.now) ≤ 200 = rw c.deref.ensures.value c.in-Ok.ensures.formed.shallow in
    read_fits lists trees (forest_of c.deref.result.now) shallow c.read_defined.result c.read_defined.ensures.sound c.read_defined.ensures.read

pub returns-in-Ok-clause-words : goal.returns-in-Ok-clause-words
returns-in-Ok-clause-words c =
    let rising : IsRising 0 (length c.args.bytes.now) (forest_of c.deref.result.now) = rw c.deref.ensures.value c.in-Ok.ensures.formed.rising in
    read_words (forest_of c.deref.result.now) (length c.args.bytes.now) rising c.read_defined.result c.read_defined.ensures.sound c.read_defined.ensures.read
