-- The steps that make a set of a certificate can be made, and make it.
use Rattle.std.proofs.Common.{◌≡◌, ◌≢◌, ℕ, suc, ◌<◌, ◌&&◌, ◌||◌, [], ◌∷◌, ◌++◌, take, refl, sym, ap, subst, ◌∙◌, inl, inr, arith, append-nil, append_assoc}
use Rattle.std.specs.List.{flat_map}
use Rattle.std.proofs.Math.Path.{fun_ext}
use Rattle.std.proofs.lemmas.List.Folds.{list_any-append}
use Rattle.std.proofs.lemmas.List.Elements.{All-head, All-nil, All-push, All-tail}
use Rattle.list_laws.proofs.Booleans.{and_not, or_none}
use Rattle.dd_nodes.specs.Subfunctions.{Function}
use Rattle.dd_ops.specs.Operations.{and_of, minus_of, or_of, variable}
use Rattle.dd_sets.specs.LiveSets.{IsLive, everything, nothing, set_of}
use Rattle.dd_sets.specs.declared.slots.SetId.{SetId}
use Rattle.dd_sets.proofs.OperationSizes.{meet_rough, variable_small}
use Rattle.encode_task.specs.TaskSets.{cube_set, space_set}
use Rattle.task_core.specs.Cubes.{Cube}
use Rattle.task_core.specs.Tasks.{fluent_count}
use Rattle.task_core.specs.declared.literals.Lit.{Lit}
use Rattle.plan_rules.specs.Plans.{IsCubeOf}
use Rattle.plan_certs.specs.Certificates.{CubeSet}
use Rattle.plan_certs.specs.Named.{IsSetOf}
use Rattle.slot_board.specs.Board.{IsSmall, Start, combined, sign_of}
use Rattle.slot_board.specs.declared.board.Operation.TheVariants.{Minus}
use Rattle.slot_board.proofs.BoardSizes.{nothing_small}
use Rattle.slot_board.proofs.Literals.{literal_is}
use Rattle.cert_check.specs.Programs.{cube_steps, literal_steps, set_steps, state_steps}
use Rattle.cert_check.specs.Sets.{states_in}
use Rattle.cert_check.specs.Sizes.{IsBoard, SetFits}
use Rattle.board_steps.specs.Steps.{CanMakeAll, Placed, after_step, after_steps, with_set}
use Rattle.board_steps.specs.declared.steps.Step.TheVariants.{Fluent, Combine}
use Rattle.board_steps.proofs.StepLemmas.{after_append, can_append, with_other}

-- the states that one cube more matches
states_added : (start : Start) (done : CubeSet) (cube : Cube) → or_of (states_in start.task done) (and_of (cube_set cube) (space_set start.task)) ≡ states_in start.task (done ++ cube ∷ [])
states_added start done cube = fun_ext (λ values.
    ap (λ b. states_in start.task done values || b) (or_none (cube_set cube values && space_set start.task values))
    ∙ sym (list_any-append (λ (c : Cube). cube_set c values && space_set start.task values) done (cube ∷ [])))

pub minus_itself : (f : Function) → minus_of f f ≡ nothing
minus_itself f = fun_ext (λ values. and_not (f values))

pub nothing_fits : (start : Start) → IsSmall start nothing
nothing_fits start = nothing_small (fluent_count start.task) start.width start.wide

fluent_fits : (start : Start) (f : ℕ) → f < fluent_count start.task → IsSmall start (variable f)
fluent_fits start f low = variable_small (fluent_count start.task) start.width f (omega (arith, start.wide))

module _ (start : Start) (board : IsBoard start) (small : (cube : Cube) → IsCubeOf (fluent_count start.task) cube → IsSmall start (cube_set cube)) where
  literal_made : (q : Placed) (done : Cube) (lit : Lit) → q 2 ≡ cube_set done → combined (sign_of lit.positive) (q 2) (variable lit.fluent.0) ≡ cube_set (done ++ lit ∷ [])
  literal_made q done lit is = ap (λ g. combined (sign_of lit.positive) g (variable lit.fluent.0)) is ∙ literal_is done lit

  with_literal : Placed → Lit → Placed
  with_literal q lit = after_steps start q (literal_steps lit)

  literals_can : (q : Placed) (done lits : Cube) → q 2 ≡ cube_set done → IsCubeOf (fluent_count start.task) done → IsCubeOf (fluent_count start.task) lits → CanMakeAll start q (flat_map literal_steps lits)
  literals_can q done [] is d l = tt
  literals_can q done (lit ∷ lits) is d l =
      let five : start.places ≡ 5 = board.five in
      let low : lit.fluent.0 < fluent_count start.task = All-head (λ (l : Lit). l.fluent.0 < fluent_count start.task) lit lits l in
      let below : IsCubeOf (fluent_count start.task) (done ++ lit ∷ []) = All-push (λ (l : Lit). l.fluent.0 < fluent_count start.task) done lit d low in
      let made = literal_made q done lit is in
      ((omega arith, low, inl (fluent_fits start lit.fluent.0 low)), ((omega arith, omega arith, omega arith, inl (subst (IsSmall start) (sym made) (small (done ++ lit ∷ []) below))), literals_can (after_steps start q (literal_steps lit)) (done ++ lit ∷ []) lits made below (All-tail (λ (l : Lit). l.fluent.0 < fluent_count start.task) lit lits l)))

  literals_after : (q : Placed) (done lits : Cube) → q 2 ≡ cube_set done → after_steps start q (flat_map literal_steps lits) 2 ≡ cube_set (done ++ lits)
  literals_after q done [] is = is ∙ ap cube_set (sym (append-nil done))
  literals_after q done (lit ∷ lits) is =
      literals_after (after_steps start q (literal_steps lit)) (done ++ lit ∷ []) lits (literal_made q done lit is)
      ∙ ap cube_set (append_assoc done (lit ∷ []) lits)

  literals_kept : (q : Placed) (lits : Cube) (k : ℕ) → k ≢ 2 → k ≢ 3 → after_steps start q (flat_map literal_steps lits) k ≡ q k
  literals_kept q [] k two three = refl
  literals_kept q (lit ∷ lits) k two three =
      literals_kept (after_steps start q (literal_steps lit)) lits k two three
      ∙ (with_other (after_step start q (Fluent 3 lit.fluent)) 2 _ k two ∙ with_other q 3 _ k three)

  -- a cube
  module _ (space : SetId) (live : IsLive start.enc.sets space.0) (holds : set_of start.enc.sets space.0 ≡ space_set start.task) (small_space : IsSmall start (space_set start.task)) where
    lits_of : Placed → Cube → Placed
    lits_of q cube = after_steps start (with_set q 2 everything) (flat_map literal_steps cube)

    cube_is : (q : Placed) (cube : Cube) → lits_of q cube 2 ≡ cube_set cube
    unfolding lits_of
    cube_is q cube = literals_after (with_set q 2 everything) [] cube refl

    kept_at : (q : Placed) (cube : Cube) (k : ℕ) → k ≢ 2 → k ≢ 3 → lits_of q cube k ≡ q k
    unfolding lits_of
    kept_at q cube k two three = literals_kept (with_set q 2 everything) cube k two three ∙ with_other q 2 everything k two

    joined : (q : Placed) (done : CubeSet) (cube : Cube) → q 1 ≡ states_in start.task done → or_of (lits_of q cube 1) (and_of (lits_of q cube 2) (set_of start.enc.sets space.0)) ≡ states_in start.task (done ++ cube ∷ [])
    joined q done cube is =
        ap (λ f. or_of f (and_of (lits_of q cube 2) (set_of start.enc.sets space.0))) (kept_at q cube 1 (λ e. absurd (omega (arith, e))) (λ e. absurd (omega (arith, e))) ∙ is)
        ∙ ap (λ f. or_of (states_in start.task done) (and_of f (set_of start.enc.sets space.0))) (cube_is q cube)
        ∙ ap (λ f. or_of (states_in start.task done) (and_of (cube_set cube) f)) holds
        ∙ states_added start done cube

    cube_can : (q : Placed) (done : CubeSet) (cube : Cube) → q 1 ≡ states_in start.task done → IsCubeOf (fluent_count start.task) cube → IsSmall start (states_in start.task (done ++ cube ∷ [])) → CanMakeAll start q (cube_steps space cube)
    unfolding lits_of
    cube_can q done cube is below next =
        let five : start.places ≡ 5 = board.five in
        let here : IsSmall start (set_of start.enc.sets space.0) = subst (IsSmall start) (sym holds) small_space in
        let matched : IsSmall start (lits_of q cube 2) = subst (IsSmall start) (sym (cube_is q cube)) (small cube below) in (
          omega arith,
          can_append start (with_set q 2 everything) (flat_map literal_steps cube) (state_steps space) (literals_can (with_set q 2 everything) [] cube refl (All-nil (λ (l : Lit). l.fluent.0 < fluent_count start.task)) below) ((omega arith, live, inl here), ((omega arith, omega arith, omega arith, inr (board.cube, meet_rough (fluent_count start.task) start.width (lits_of q cube 2) (set_of start.enc.sets space.0) matched here)), ((omega arith, omega arith, omega arith, inl (subst (IsSmall start) (sym (joined q done cube is)) next)), tt))),
        )

    cube_joined : (q : Placed) (done : CubeSet) (cube : Cube) → q 1 ≡ states_in start.task done → after_steps start q (cube_steps space cube) 1 ≡ states_in start.task (done ++ cube ∷ [])
    unfolding lits_of
    cube_joined q done cube is =
        ap (λ (p : Placed). p 1) (after_append start (with_set q 2 everything) (flat_map literal_steps cube) (state_steps space)) ∙ joined q done cube is

    cube_kept : (q : Placed) (cube : Cube) → after_steps start q (cube_steps space cube) 0 ≡ q 0
    unfolding lits_of
    cube_kept q cube =
        ap (λ (p : Placed). p 0) (after_append start (with_set q 2 everything) (flat_map literal_steps cube) (state_steps space))
        ∙ kept_at q cube 0 (λ e. absurd (omega (arith, e))) (λ e. absurd (omega (arith, e)))

    -- the cubes of a set
    cubes_can : (q : Placed) (done cubes : CubeSet) → q 1 ≡ states_in start.task done → IsSetOf (fluent_count start.task) cubes → ((j : ℕ) → IsSmall start (states_in start.task (done ++ take j cubes))) → CanMakeAll start q (flat_map (cube_steps space) cubes)
    cubes_can q done [] is below firsts = tt
    cubes_can q done (cube ∷ cubes) is below firsts =
        can_append start q (cube_steps space cube) (flat_map (cube_steps space) cubes)
        (cube_can q done cube is (All-head (IsCubeOf (fluent_count start.task)) cube cubes below) (firsts 1))
        (cubes_can (after_steps start q (cube_steps space cube)) (done ++ cube ∷ []) cubes (cube_joined q done cube is) (All-tail (IsCubeOf (fluent_count start.task)) cube cubes below)
        (λ j. subst (λ (s : CubeSet). IsSmall start (states_in start.task s)) (sym (append_assoc done (cube ∷ []) (take j cubes))) (firsts (suc j))))

    cubes_joined : (q : Placed) (done cubes : CubeSet) → q 1 ≡ states_in start.task done → after_steps start q (flat_map (cube_steps space) cubes) 1 ≡ states_in start.task (done ++ cubes)
    cubes_joined q done [] is = is ∙ ap (states_in start.task) (sym (append-nil done))
    cubes_joined q done (cube ∷ cubes) is =
        ap (λ (p : Placed). p 1) (after_append start q (cube_steps space cube) (flat_map (cube_steps space) cubes))
        ∙ cubes_joined (after_steps start q (cube_steps space cube)) (done ++ cube ∷ []) cubes (cube_joined q done cube is)
        ∙ ap (states_in start.task) (append_assoc done (cube ∷ []) cubes)

    cubes_kept : (q : Placed) (cubes : CubeSet) → after_steps start q (flat_map (cube_steps space) cubes) 0 ≡ q 0
    cubes_kept q [] = refl
    cubes_kept q (cube ∷ cubes) =
        ap (λ (p : Placed). p 0) (after_append start q (cube_steps space cube) (flat_map (cube_steps space) cubes))
        ∙ cubes_kept (after_steps start q (cube_steps space cube)) cubes ∙ cube_kept q cube

-- a set
module _ (start : Start) (set : CubeSet) (fits : SetFits start set) (space : SetId) (live : IsLive start.enc.sets space.0) (holds : set_of start.enc.sets space.0 ≡ space_set start.task) where
  cleared : Placed → Placed
  cleared q = after_step start q (Combine 1 Minus 1 1)

  clears : (q : Placed) → cleared q 1 ≡ nothing
  unfolding cleared
  clears q = minus_itself (q 1)

  pub set_can : (q : Placed) → CanMakeAll start q (set_steps space set)
  unfolding cleared
  set_can q =
      let five : start.places ≡ 5 = fits.board.five in (
        (omega arith, omega arith, omega arith, inl (subst (IsSmall start) (sym (minus_itself (q 1))) (nothing_fits start))),
        cubes_can start fits.board fits.cubes space live holds fits.space (cleared q) [] set (clears q) fits.in_task fits.firsts,
      )

  pub set_joined : (q : Placed) → after_steps start q (set_steps space set) 1 ≡ states_in start.task set
  unfolding cleared
  set_joined q = cubes_joined start fits.board fits.cubes space live holds fits.space (cleared q) [] set (clears q)

  pub set_kept : (q : Placed) → after_steps start q (set_steps space set) 0 ≡ q 0
  unfolding cleared
  set_kept q = cubes_kept start fits.board fits.cubes space live holds fits.space (cleared q) set
