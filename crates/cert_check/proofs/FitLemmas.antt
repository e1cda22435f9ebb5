-- What a whole verdict asks of its board, by the sizes of its sets.
use Rattle.std.proofs.Common.{◌≡◌, ℕ, zero, suc, ◌+◌, ◌<◌, ◌≤◌, List, [], ◌∷◌, drop, get_or, take, take_all, length, refl, sym, ap, subst, ◌∙◌, arith}
use Rattle.std.proofs.Math.Seq.{drop-cons}
use Rattle.std.proofs.lemmas.List.Elements.{All-get_or}
use Rattle.std.proofs.lemmas.List.{drop_all}
use Rattle.dd_nodes.specs.Subfunctions.{Function}
use Rattle.dd_sets.specs.LiveSets.{nothing}
use Rattle.dd_ops.specs.Operations.{or_of}
use Rattle.encode_task.specs.Made.{MadeOf}
use Rattle.encode_task.specs.Slots.{Encoded}
use Rattle.task_core.specs.Tasks.{fluent_count}
use Rattle.task_core.specs.declared.classes.Class.{Class}
use Rattle.task_core.specs.declared.tasks.Task.{Task}
use Rattle.plan_certs.specs.Certificates.{CubeSet, set_at}
use Rattle.plan_certs.specs.Named.{AreSetsOf, IsSetOf}
use Rattle.slot_board.specs.Board.{IsSmall, Start}
use Rattle.cert_check.specs.Sets.{states_in, states_of}
use Rattle.cert_check.specs.Sizes.{AreFit, IsBoard, JudgeFits, LeaveFits, SetsFit}
use Rattle.board_steps.proofs.MakeLemmas.{at_any}
use Rattle.cert_check.proofs.VerdictLemmas.{union_next}

-- where a verdict begins
abbrev pub start_of : (task : Task) (enc : Encoded) → MadeOf task enc → (width : ℕ) → fluent_count task + 2 ≤ width → Start
start_of task enc made width wide = record { task = task; enc = enc; made = made; places = 5; spare = 0; width = width; wide = wide; rough = 2 ∷ 4 ∷ [] }

module _ (start : Start) (class : Class) (sets : List CubeSet) (board : IsBoard start) (below : AreSetsOf (fluent_count start.task) sets) (fits : AreFit start.width class start.task sets) where
  one_fits : (i : ℕ) → i < length sets → LeaveFits start class (states_of start.task (take i sets)) (set_at sets i)
  one_fits i within = record {
    by_set = record {
      board = board;
      in_task = All-get_or (IsSetOf (fluent_count start.task)) sets i [] within below;
      space = fits.space;
      cubes = fits.cubes;
      firsts = fits.first_cubes (set_at sets i) (i, within, at_any sets i (set_at sets i) [] within);
    };
    union = fits.first_sets i;
    joined = subst (IsSmall start) (sym (union_next start.task sets i within)) (fits.first_sets (suc i));
    ways = fits.ways i within;
    left = fits.left i within;
  }

  from_fits : (fuel i : ℕ) → length sets ≤ fuel + i → (rest : List CubeSet) → drop i sets ≡ rest → (f : Function) → f ≡ states_of start.task (take i sets) → SetsFit start class f rest
  from_fits fuel i enough [] is f same = tt
  from_fits zero i enough (set ∷ rest) is f same = absurd (let e : [] ≡ set ∷ rest = sym (drop_all i sets (omega (arith, enough))) ∙ is in cc)
  from_fits (suc fuel) i enough (set ∷ rest) is f same =
      let within : i < length sets = some_left sets i set rest is in
      let more = drop-cons sets i [] within in
      let here : set_at sets i ≡ set = ap (λ (s : List CubeSet). get_or s 0 []) (sym more ∙ is) in
      let later : drop (suc i) sets ≡ rest = ap (λ (s : List CubeSet). drop 1 s) (sym more ∙ is) in (
        subst (λ (s : CubeSet). LeaveFits start class f s) here (subst (λ (g : Function). LeaveFits start class g (set_at sets i)) (sym same) (one_fits i within)),
        from_fits fuel (suc i) (omega (arith, enough)) rest later (or_of f (states_in start.task set))
            (ap (λ (s : CubeSet). or_of f (states_in start.task s)) (sym here) ∙ ap (λ g. or_of g (states_in start.task (set_at sets i))) same ∙ union_next start.task sets i within),
      )
    where
      some_left : (xs : List CubeSet) (i : ℕ) (x : CubeSet) (rest : List CubeSet) → drop i xs ≡ x ∷ rest → i < length xs
      some_left [] zero x rest e = cc
      some_left [] (suc i) x rest e = cc
      some_left (y ∷ xs) zero x rest e = omega arith
      some_left (y ∷ xs) (suc i) x rest e = let l : i < length xs = some_left xs i x rest e in omega arith

  pub judge_fits : JudgeFits start class sets
  judge_fits = record {
    board = board;
    sets_fit = from_fits (length sets) 0 (omega arith) sets refl nothing refl;
    union = subst (λ (s : List CubeSet). IsSmall start (states_of start.task s)) (take_all (length sets) sets (omega arith)) (fits.first_sets (length sets));
    initial = fits.initial;
    goal = fits.goal;
  }

pub board_of : (task : Task) (enc : Encoded) (made : MadeOf task enc) (width : ℕ) (wide : fluent_count task + 2 ≤ width) → IsBoard (start_of task enc made width wide)
board_of task enc made width wide = record { five = refl; cube = (0, omega arith, refl); left = (1, omega arith, refl) }
