-- A limit that is tight for the sets of a task, or for those of a verdict, is tight for the nodes that
-- are enough for the verdict, by both numbers.
use Rattle.std.proofs.Common.{◌≡◌, ◌≤◌, ◌<◌, ◌+◌, ◌*◌, ℕ, subst, sym, ◌∙◌, inl, inr, arith}
use Rattle.std.proofs.Math.Nat.{mul-le-mul_right}
use Rattle.dd_nodes.specs.Subfunctions.{nodes}
use Rattle.dd_sets.specs.Laws.{TightIsMonotone}
use Rattle.dd_sets.specs.LiveSets.{LiveSets, live_count, live_sets}
use Rattle.encode_task.specs.KeptSets.{AreKept, kept_nodes}
use Rattle.encode_task.specs.Laws.{KeptSetsBoundNodes}
use Rattle.plan_certs.specs.Certificates.{PlainCertificate}
use Rattle.task_core.specs.Systems.{most_outcomes}
use Rattle.task_core.specs.Tasks.{action_count, fluent_count, system_of}
use Rattle.task_core.specs.declared.tasks.Task.{Task}
use Rattle.refute_command.specs.RefuteCommand.{IsTightToJudge, LacksJudgingRoom, enough_to_judge}
use Rattle.task_sets.proofs.FullTables.{filled_after}
use Rattle.task_sets.proofs.NodeRooms.{tight_for_live, tight_for_sets}
use Rattle.task_sets.specs.FullTables.{IsFullSearch, IsFullTry, IsTightToEncode}

-- a square is no more than a cube
square_within : (F w : ℕ) → F + 2 ≤ w → w * w ≤ w * w * w
square_within F w wide =
    let more : 1 * w ≤ w * w = mul-le-mul_right w (omega (arith, wide)) in
    let most : 1 * w * w ≤ w * w * w = mul-le-mul_right w more in
    omega (arith, most)

slots_of_verdict : (L A M : ℕ) → L ≤ A * (M + 1) + 5 → L + 24 ≤ A * (M + 0 + 6) + 8 * 0 + 256
slots_of_verdict L A M few =
    let e : A * (M + 1) ≤ A * (M + 0 + 6) = grind arith in
    omega arith

-- while the sets of the task are made
few_for_task : (t : Task) (w limit : ℕ) → fluent_count t + 2 ≤ w → limit < kept_nodes t + 220 * w + 13 * (w * w) → limit < enough_to_judge t w
few_for_task t w limit wide few =
    let more : 220 * w ≤ (action_count t * 3 + 236) * w = mul-le-mul_right w (omega arith) in
    let most : w * w ≤ w * w * w = square_within (fluent_count t) w wide in
    omega (arith, few, more, most)

verdict_at_sets : TightIsMonotone → (t : Task) (certificate : PlainCertificate) (limit : ℕ) → IsTightToEncode limit t → IsTightToJudge limit t certificate
verdict_at_sets monotone t certificate limit tight = record {
  by_sizes = tight_for_sets monotone t 0 limit tight.by_sizes;
  by_sets = λ w bounds. few_for_task t w limit bounds.of_verdict.wide (tight.by_sets w bounds.of_verdict.wide bounds.of_task);
  full = inl tight;
}

-- over the sets of the task
few_for_verdict : KeptSetsBoundNodes → (t : Task) (sets : LiveSets) (w limit : ℕ) → sets.vars ≡ fluent_count t → sets.limit ≡ limit → AreKept t sets
    → sets.limit < nodes sets.vars (live_sets sets) + 24 * w + 17 * (w * w * w) → limit < enough_to_judge t w
few_for_verdict bound_law t sets w limit of_vars of_limit kept few =
    let bound : nodes sets.vars (live_sets sets) ≤ kept_nodes t =
    subst (λ (v : ℕ). nodes v (live_sets sets) ≤ kept_nodes t) (sym of_vars) (bound_law t sets kept) in
    let slots : 24 * w ≤ (action_count t * 3 + 236) * w = mul-le-mul_right w (omega arith) in
    omega (arith, of_limit, few, bound, slots)

verdict_at_judging : TightIsMonotone → KeptSetsBoundNodes → (t : Task) (certificate : PlainCertificate) (limit : ℕ) → IsFullSearch limit t (LacksJudgingRoom t certificate)
    → IsTightToJudge limit t certificate
verdict_at_judging monotone bound_law t certificate limit searched =
    let sets = searched.before.sets in
    let encoded = searched.encoded in
    let lacks = searched.lacks_room in
    let of_vars : sets.vars ≡ fluent_count t = encoded.made.ready.vars ∙ encoded.made.fluents in
    record {
      by_sizes = tight_for_live monotone t 0 sets limit 24 of_vars encoded.limit encoded.order
          (slots_of_verdict (live_count sets) (action_count t) (most_outcomes (system_of t) * (fluent_count t + 1)) encoded.few) lacks.tight;
      by_sets = λ w bounds. few_for_verdict bound_law t sets w limit of_vars encoded.limit encoded.are_kept (lacks.by_sets encoded.order w bounds.of_verdict);
      full = inr (filled_after limit t searched.before searched.after encoded lacks.made lacks.slots searched.sound lacks.at_limit);
    }

-- that the try over the fluents in their own order found the table full
pub verdict_at_try : TightIsMonotone → KeptSetsBoundNodes → (t : Task) (certificate : PlainCertificate) (limit : ℕ) → IsFullTry limit t (LacksJudgingRoom t certificate)
    → IsTightToJudge limit t certificate
verdict_at_try monotone bound_law t certificate limit (inl tight) = verdict_at_sets monotone t certificate limit tight
verdict_at_try monotone bound_law t certificate limit (inr searched) = verdict_at_judging monotone bound_law t certificate limit searched
