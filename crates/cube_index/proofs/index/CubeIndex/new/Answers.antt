use Rattle.std.proofs.Common.{◌≡◌, ◌<◌, ◌≤◌, ◌*◌, ◌∙◌, ℕ, Bor, List, [], ◌∷◌, ◌++◌, length, map, take, drop, get_or, ap, subst, sym, arith, length-append}
use Rattle.std.specs.List.{All}
use Rattle.std.proofs.lemmas.List.{length-map, length-take}
use Rattle.std.proofs.lemmas.List.Elements.{All-drop, All-push, All-take}
use Rattle.task_core.specs.Cubes.{Cube, matches}
use Rattle.task_core.specs.declared.literals.Lit.{Lit}
use Rattle.cube_index.specs.declared.blocks.Block.{Block}
use Rattle.cube_index.specs.Agreement.{AreTests, answer}
use Rattle.cube_index.specs.Index.{AreLits, tests_of}
use Rattle.cube_index.proofs.BlockLists.{blocks_more, is_index, part_of}
use Rattle.cube_index.proofs.index.CubeIndex.new.Goals as goal

pub new-requires-clause-room : goal.new-requires-clause-room
new-requires-clause-room c =
    let rest = drop (64 * c.loop-number.number) c.args.cubes.now in
    let long : length c.block_of.result.now ≡ length (take 64 rest) = ap length c.block_of.ensures in
    omega (arith, long, length-take 64 rest)

pub new-requires-clause-lits : goal.new-requires-clause-lits
new-requires-clause-lits c =
    let fits = λ (cube : Bor (List Lit)). AreLits cube.now in
    subst (All fits) (sym c.block_of.ensures)
    (All-take fits 64 (drop (64 * c.loop-number.number) c.args.cubes.now) (All-drop fits (64 * c.loop-number.number) c.args.cubes.now c.requires))

pub loop-number-preserved : goal.loop-number-preserved
loop-number-preserved c =
    let n = c.loop-number.number in
    let blocks = c.loop-number.blocks.items in
    let block : Block = c.in_ok-new.field-0 in
    let seen = λ (cube : Bor (List Lit)). cube.now in
    let part = c.block_of.result.now in
    let cubes : List Cube = map seen c.args.cubes.now in
    let pushed : c.push.new.self.items ≡ blocks ++ block ∷ [] = c.in_ok-push.ensures.items in
    let same : map seen part ≡ take 64 (drop (64 * n) cubes) = part_of seen c.args.cubes.now part (64 * n) c.block_of.ensures in
    let long : length part ≡ length (take 64 (drop (64 * n) cubes)) = sym (length-map part seen) ∙ ap length same in
    let tested = λ (b : Block). AreTests b.tests.items in
    record {
      tests = subst (All tested) (sym pushed) (All-push tested blocks block c.loop-number.invariant.tests c.in_ok-new.ensures.tests);
      long = omega (arith, ap length pushed, length-append blocks (block ∷ []), c.loop-number.invariant.long);
      answers = λ v k less within.
          subst (λ (l : List Block). answer v (tests_of l) k ≡ matches (get_or cubes k []) v) (sym pushed)
          (blocks_more v blocks block cubes n c.loop-number.invariant.long (c.loop-number.invariant.answers v)
          (λ p h. c.in_ok-new.ensures.answers v p (subst (λ m. p < m) (sym long) h)
          ∙ ap (λ (l : List Cube). matches (get_or l p []) v) same)
          k less within);
    }

pub returns : goal.returns
returns c =
    let seen = λ (cube : Bor (List Lit)). cube.now in
    let cubes : List Cube = map seen c.args.cubes.now in
    let long : length cubes ≡ length c.args.cubes.now = length-map c.args.cubes.now seen in
    λ v. is_index v (tests_of c.loop-number.blocks.items) cubes (length c.args.cubes.now) (sym long)
    (λ k h. c.loop-number.invariant.answers v k (omega (arith, h, long, c.loop-number-test.false, c.div_ceil-number-end.ensures)) h)
