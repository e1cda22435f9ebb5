use Rattle.std.proofs.Common.{Bool, ◌==◌, ◌&&◌, get_or, refl}
use Rattle.task_core.specs.Cubes.{literal}
use Rattle.std.specs.Prelude.{false}
use Rattle.task_core.specs.Vectors.{same_value}
use Rattle.task_core.specs.declared.literals.Lit.{Lit}
use Rattle.relaxed_reach.specs.Literals.{has}
use Rattle.relaxed_reach.proofs.Lacks.{all_looked_at, one_more}
use Rattle.relaxed_reach.proofs.literals.Literals.with_all.Goals as goal

pub loop-lit-preserved : goal.loop-lit-preserved
loop-lit-preserved c = λ f value.
    let p : Lit → Bool = λ lit. lit.fluent.0 == f && same_value lit.positive value in
    let d = literal 0 false in
    let x = get_or c.args.lits.now c.loop-lit.lit-index d in
    one_more p c.args.lits.now c.loop-lit.lit-index d x (has c.args.self.now f value) (has c.loop-lit.literals f value) (has c.with-literals.result f value)
    c.loop-lit-test.true refl (c.loop-lit.invariant f value) (c.with-literals.ensures f value)

pub returns : goal.returns
returns c = λ f value.
    let p : Lit → Bool = λ lit. lit.fluent.0 == f && same_value lit.positive value in
    all_looked_at p c.args.lits.now c.args.lits.now c.loop-lit.lit-index (has c.args.self.now f value) (has c.loop-lit.literals f value)
    c.loop-lit-test.false refl (c.loop-lit.invariant f value)
