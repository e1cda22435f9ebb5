-- The fetches of a subcommand: want of memory may come in place of an answer, and what each fetch keeps true
-- is true after all of them.
use Rattle.std.proofs.Common.{◌≡◌, List, [], ◌∷◌, inl, inr, refl, sym, subst}
use Rattle.std.specs.Prelude.{⊤}
use Rattle.pddl_system.specs.Systems.{action_names, fluent_names}
use Rattle.plan_io.specs.Fetches.{Fetches, FetchesNothing, MayFetch}
use Rattle.plan_io.specs.Held.{Held}
use Rattle.check_command.specs.CheckCommand.{FetchesToCheck}
use Rattle.command_base.specs.Answers.{Answer, no_memory, refused}
use Rattle.command_base.specs.Fetching.{AsksForPlan, FetchPlan, FetchesBoth, HoldsDomain, RefusesPlan, Stops}
use Rattle.command_base.specs.Grounding.{GoalThen, GroundThen}
use Rattle.command_base.specs.PddlTexts.{ReadBoth}
use Rattle.command_base.specs.Words.{Bytes, CheckWords, ReplayWords}
use Rattle.command_base.proofs.Fetched.{over_fetch_then, over_fetches, over_may_fetch}
use Rattle.control_command.specs.Words.{domain_of, problem_of}
use Rattle.draw_command.proofs.PictureFetched.{over_picture, picture_for_memory}
use Rattle.replay_command.specs.RunFetches.{AsksForRecord, AsksForRun, FetchRecord, FetchRun, FetchesToReplay}
use Rattle.pulgazer_top.specs.Asked.{Asked, control, draw, judge, lint, trace, why}
use Rattle.pulgazer_top.specs.Runs.{FetchesFor}

-- want of memory may come in place of an answer
check_for_memory : {S : Type 0} (held : Bytes → Held) (failed : Bytes → Type 0) (fetched : S → Bytes → S → Type 0) (asked : CheckWords) (a : Answer) (before after : S)
    → FetchesToCheck held failed fetched asked a before after → FetchesToCheck held failed fetched asked (refused no_memory) before after
check_for_memory held failed fetched asked a before after (x, first, inl (was, same)) = (x, first, inl (inl refl, same))
check_for_memory held failed fetched asked a before after (x, first, inr (holds, (y, second, inl (was, same)))) = (x, first, inr (holds, (y, second, inl (inl refl, same))))
check_for_memory held failed fetched asked a before after (x, first, inr (holds, (y, second, inr (needed, rest)))) = (x, first, inr (holds, (y, second, inr (needed, rest))))

-- what each fetch keeps true is true after all of them
module _ {S : Type 0} (P : S → Type 0) (held : Bytes → Held) (failed : Bytes → Type 0) (fetched : S → Bytes → S → Type 0)
    (keeps : (before : S) (name : Bytes) (after : S) → fetched before name after → P before → P after) where
  abbrev RefusesCheck : CheckWords → Answer → Type 0
  RefusesCheck asked a =
      Stops (ReadBoth held failed asked.domain asked.problem (λ domain problem. GoalThen asked.kind asked.problem problem (GroundThen domain problem (λ answer. ⊥)))) a

  over_check_plan : (asked : CheckWords) (a : Answer) (before after : S) → FetchPlan held failed fetched asked a before after → P before → P after
  over_check_plan asked a before after =
      over_fetch_then P fetched keeps asked.problem (RefusesCheck asked a) (AsksForPlan held asked) (Fetches fetched (asked.plan ∷ [])) before after
      (λ y. over_fetches P fetched keeps (asked.plan ∷ []) y after)

  over_check : (asked : CheckWords) (a : Answer) (before after : S) → FetchesToCheck held failed fetched asked a before after → P before → P after
  over_check asked a before after =
      over_fetch_then P fetched keeps asked.domain _ _ (FetchPlan held failed fetched asked a) before after (λ x. over_check_plan asked a x after)

trace_for_memory : {S : Type 0} (held : Bytes → Held) (failed : Bytes → Type 0) (fetched : S → Bytes → S → Type 0) (asked : ReplayWords) (a : Answer) (before after : S)
    → FetchesToReplay held failed fetched asked a before after → FetchesToReplay held failed fetched asked (refused no_memory) before after
trace_for_memory held failed fetched asked a before after (x, first, inl (was, same)) = (x, first, inl (inl refl, same))
trace_for_memory held failed fetched asked a before after (x, first, inr (holds, (y, second, inl (was, same)))) = (x, first, inr (holds, (y, second, inl (inl refl, same))))
trace_for_memory held failed fetched asked a before after (x, first, inr (holds, (y, second, inr (needed, (z, third, inl (was, same)))))) =
    (x, first, inr (holds, (y, second, inr (needed, (z, third, inl (inl refl, same))))))
trace_for_memory held failed fetched asked a before after (x, first, inr (holds, (y, second, inr (needed, (z, third, inr (some, rest)))))) =
    (x, first, inr (holds, (y, second, inr (needed, (z, third, inr (some, rest))))))

module _ {S : Type 0} (P : S → Type 0) (held : Bytes → Held) (failed : Bytes → Type 0) (fetched : S → Bytes → S → Type 0)
    (keeps : (before : S) (name : Bytes) (after : S) → fetched before name after → P before → P after) where
  -- the problem is refused, or a limit is passed
  abbrev Limits : ReplayWords → Answer → Type 0
  Limits asked a = Stops (ReadBoth held failed asked.domain asked.problem (λ domain problem. GroundThen domain problem (λ answer. ⊥))) a

  -- or the plan is
  abbrev Plans : ReplayWords → Answer → Type 0
  Plans asked =
      ReadBoth held failed asked.domain asked.problem (λ domain problem. GroundThen domain problem (RefusesPlan held failed (fluent_names domain problem) (action_names domain problem) asked.plan))

  over_record : (asked : ReplayWords) (Cause : Answer → Type 0) (HoldsOne : Type 0) (a : Answer) (before after : S) → FetchRecord fetched asked Cause HoldsOne a before after → P before → P after
  over_record asked Cause HoldsOne a before after =
      over_fetch_then P fetched keeps asked.plan (Stops Cause a) HoldsOne (Fetches fetched (asked.recorded ∷ [])) before after
      (λ z. over_fetches P fetched keeps (asked.recorded ∷ []) z after)

  over_run : (asked : ReplayWords) (a : Answer) (before after : S) → FetchRun held failed fetched asked a before after → P before → P after
  over_run asked a before after =
      over_fetch_then P fetched keeps asked.problem (Limits asked a) (AsksForRun held asked) (FetchRecord fetched asked (Plans asked) (AsksForRecord held asked) a) before after
      (λ y. over_record asked (Plans asked) (AsksForRecord held asked) a y after)

  over_trace : (asked : ReplayWords) (a : Answer) (before after : S) → FetchesToReplay held failed fetched asked a before after → P before → P after
  over_trace asked a before after =
      over_fetch_then P fetched keeps asked.domain _ _ (FetchRun held failed fetched asked a) before after (λ x. over_run asked a x after)

-- of every subcommand
pub fetched_for_memory : {S : Type 0} (held : Bytes → Held) (failed : Bytes → Type 0) (fetched : S → Bytes → S → Type 0) (asked : Asked) (a : Answer) (before after : S)
    → FetchesFor held failed fetched asked a before after → FetchesFor held failed fetched asked (refused no_memory) before after
fetched_for_memory held failed fetched (control asked) a before after was = was
fetched_for_memory held failed fetched (judge asked) a before after was = check_for_memory held failed fetched asked.check a before after was
fetched_for_memory held failed fetched (why asked) a before after was = was
fetched_for_memory held failed fetched (lint asked) a before after was = was
fetched_for_memory held failed fetched (trace asked) a before after was = trace_for_memory held failed fetched asked a before after was
fetched_for_memory held failed fetched (draw asked) a before after was = picture_for_memory held failed fetched asked a before after was

module _ {S : Type 0} (P : S → Type 0) (held : Bytes → Held) (failed : Bytes → Type 0) (fetched : S → Bytes → S → Type 0)
    (keeps : (before : S) (name : Bytes) (after : S) → fetched before name after → P before → P after) where
  over_two : (domain problem : Bytes) (before after : S) → FetchesBoth held fetched domain problem FetchesNothing before after → P before → P after
  over_two domain problem before after =
      over_may_fetch P fetched keeps ⊤ domain (MayFetch fetched (HoldsDomain held domain) problem FetchesNothing) before after
      (λ between. over_may_fetch P fetched keeps (HoldsDomain held domain) problem FetchesNothing between after (λ last same was. subst P (sym same) was))

  pub over_fetched : (asked : Asked) (a : Answer) (before after : S) → FetchesFor held failed fetched asked a before after → P before → P after
  over_fetched (control asked) a before after = over_two (domain_of asked) (problem_of asked) before after
  over_fetched (judge asked) a before after = over_check P held failed fetched keeps asked.check a before after
  over_fetched (why asked) a before after = over_two asked.domain asked.problem before after
  over_fetched (lint asked) a before after = over_two asked.names.domain asked.names.problem before after
  over_fetched (trace asked) a before after = over_trace P held failed fetched keeps asked a before after
  over_fetched (draw asked) a before after = over_picture P fetched keeps held failed asked a before after
