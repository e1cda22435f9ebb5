-- `drill`: what was written at status 0, and at status 5.
use Rattle.std.proofs.Common.{◌≡◌, ◌≢◌, ℕ, List, ◌⊎◌, inl, inr, sym, arith, ◌∙◌, ap, true, None}
use Rattle.std.specs.Io.KnownBytes.{append_known}
use Rattle.plan_io.specs.Held.{Held}
use Rattle.pddl_ast.specs.Trees.{DomainTree, ProblemTree}
use Rattle.pddl_system.specs.Sizes.{first_passed}
use Rattle.pddl_system.specs.Systems.{system}
use Rattle.task_core.specs.Systems.{System}
use Rattle.task_core.specs.declared.classes.Class.{Class}
use Rattle.task_core.specs.declared.classes.Class.TheVariants.{Weak, Strong, Cyclic}
use Rattle.command_base.specs.Answers.{Answer, affirmed, full, refused, no_memory, status_of, status_of_refusal, text_of, is_shown}
use Rattle.command_base.specs.Following.{HasTooManyStates}
use Rattle.command_base.specs.Delivery.{Seen}
use Rattle.drill_command.specs.DrillCommand.{DrillThen, IsClassLine, IsDrillAnswer, IsDrilled, IsNotFollowed, MayDrillRunOut, SpellBoth, TextsThen, drill_text, problem_name}
use Rattle.command_base.specs.Grounding.{GroundThen}
use Rattle.replay_command.specs.ReplayCommand.{Tallies}
use Rattle.command_base.specs.Words.{Bytes, DrillWords, SaysDrill, default_nodes, drill, of_class}
use Rattle.mbp_top.proofs.ByCommand.{of_command}
use Rattle.command_base.proofs.PddlDecides.{not_refused, shown_goal, shown_grounded}
use Rattle.mbp_top.proofs.DueStatuses.{Done}
use Rattle.command_base.proofs.Statuses.{shown_at, whole_delivery, written_shown, written_full}

not_followed : (TooMany : Type 0) (sys : System) (class : Class) (a : Answer) → is_shown a ≡ true → IsNotFollowed TooMany class sys a → ⊥
not_followed TooMany sys class a shown (rules, found, inl (many, is)) = not_refused _ a is shown
not_followed TooMany sys class a shown (rules, found, inr (inl (few, more, is))) = not_refused _ a is shown
not_followed TooMany sys class a shown (rules, found, inr (inr (few, small, never))) = never

-- the lines of what is shown
record Lines (asked : DrillWords) (TooMany : Type 0) (sys : System) (a : Answer) : Type 0 where
  pub weak : Bytes
  pub strong : Bytes
  pub cyclic : Bytes
  pub weak_is : IsClassLine TooMany Weak sys weak
  pub strong_is : IsClassLine TooMany Strong sys strong
  pub cyclic_is : IsClassLine TooMany Cyclic sys cyclic
  pub shown : a ≡ affirmed (drill_text asked sys weak strong cyclic)

lines_of : (asked : DrillWords) (TooMany : Type 0) (sys : System) (a : Answer) → is_shown a ≡ true → IsDrilled asked TooMany sys a → Lines asked TooMany sys a
lines_of asked TooMany sys a shown (inl not) = absurd (not_followed TooMany sys Weak a shown not)
lines_of asked TooMany sys a shown (inr (weak, w, inl not)) = absurd (not_followed TooMany sys Strong a shown not)
lines_of asked TooMany sys a shown (inr (weak, w, inr (strong, s, inl not))) = absurd (not_followed TooMany sys Cyclic a shown not)
lines_of asked TooMany sys a shown (inr (weak, w, inr (strong, s, inr (cyclic, c, is)))) =
    record { weak = weak; strong = strong; cyclic = cyclic; weak_is = w; strong_is = s; cyclic_is = c; shown = is }

-- what is shown follows the reading of both texts
record ReadTexts (asked : DrillWords) (a : Answer) : Type 0 where
  pub domain : DomainTree
  pub problem : ProblemTree
  pub both : SpellBoth asked domain problem
  pub then : DrillThen asked domain problem a

texts_of : (asked : DrillWords) (a : Answer) → is_shown a ≡ true → TextsThen asked (DrillThen asked) a → ReadTexts asked a
texts_of asked a shown (inl (r, is, why)) = absurd (not_refused r a is shown)
texts_of asked a shown (inr (d, spelled, inl (r, is, why))) = absurd (not_refused r a is shown)
texts_of asked a shown (inr (d, spelled, inr (p, spelled', then))) =
    record { domain = d; problem = p; both = record { spells_domain = spelled; spells_problem = spelled' }; then = then }

shown_texts : (asked : DrillWords) (a : Answer) → is_shown a ≡ true → (a ≡ refused no_memory) ⊎ IsDrillAnswer asked a → ReadTexts asked a
shown_texts asked a shown (inl is) = absurd (not_refused no_memory a is shown)
shown_texts asked a shown (inr (inl (may, is))) = absurd (not_refused (full default_nodes) a is shown)
shown_texts asked a shown (inr (inr then)) = texts_of asked a shown then

-- what was written at status 0
pub record DrillWritten (asked : DrillWords) (out out' : Seen) : Type 0 where
  pub domain : DomainTree
  pub problem : ProblemTree
  pub weak : Bytes
  pub strong : Bytes
  pub cyclic : Bytes
  pub both : SpellBoth asked domain problem
  pub within : first_passed domain problem ≡ None
  pub weak_is : IsClassLine (HasTooManyStates domain problem) Weak (system domain problem) weak
  pub strong_is : IsClassLine (HasTooManyStates domain problem) Strong (system domain problem) strong
  pub cyclic_is : IsClassLine (HasTooManyStates domain problem) Cyclic (system domain problem) cyclic
  pub written : out'.written ≡ append_known out.written (drill_text asked (system domain problem) weak strong cyclic)

pub drill_written : (held : Bytes → Held) (failed : Bytes → Type 0) (tallies : Tallies) (words : List Bytes) (before after : ℕ) (out out' err err' : Seen) (status : ℕ) (a : Answer) (asked : DrillWords)
    → Done held failed tallies words before after out out' err err' status a → SaysDrill words asked → status ≡ 0 → DrillWritten asked out out'
drill_written held failed tallies words before after out out' err err' status a asked d says zero =
    let whole = whole_delivery a out out' err err' status d.delivered (λ seven. let e : 0 ≡ 7 = sym zero ∙ seven in omega arith) in
    let code : status_of a ≡ 0 = sym whole.0 ∙ zero in
    let shown = shown_at a (inl code) in
    let trees = shown_texts asked a shown (of_command held failed tallies words (drill asked) a says d.cause) in
    let TooMany = HasTooManyStates trees.domain trees.problem in
    let sys = system trees.domain trees.problem in
    let grounded = shown_goal (of_class Weak) problem_name trees.problem (GroundThen trees.domain trees.problem (IsDrilled asked TooMany sys)) a shown trees.then in
    let kept = shown_grounded trees.domain trees.problem (IsDrilled asked TooMany sys) a shown grounded in
    let lines = lines_of asked TooMany sys a shown kept.1 in
    record {
      domain = trees.domain;
      problem = trees.problem;
      weak = lines.weak;
      strong = lines.strong;
      cyclic = lines.cyclic;
      both = trees.both;
      within = kept.0;
      weak_is = lines.weak_is;
      strong_is = lines.strong_is;
      cyclic_is = lines.cyclic_is;
      written = written_shown a (drill_text asked sys lines.weak lines.strong lines.cyclic) out out' err err' whole.1 shown (ap text_of lines.shown);
    }

-- no other answer has the status of a full table
line_not_full : (TooMany : Type 0) (class : Class) (sys : System) (a : Answer) → IsNotFollowed TooMany class sys a → status_of a ≢ 5
line_not_full TooMany class sys a (rules, found, inl (many, is)) five = omega (arith, ap status_of is, five)
line_not_full TooMany class sys a (rules, found, inr (inl (few, more, is))) five = omega (arith, ap status_of is, five)
line_not_full TooMany class sys a (rules, found, inr (inr (few, small, never))) five = never

drilled_not_full : (asked : DrillWords) (TooMany : Type 0) (sys : System) (a : Answer) → IsDrilled asked TooMany sys a → status_of a ≢ 5
drilled_not_full asked TooMany sys a (inl not) five = line_not_full TooMany Weak sys a not five
drilled_not_full asked TooMany sys a (inr (weak, w, inl not)) five = line_not_full TooMany Strong sys a not five
drilled_not_full asked TooMany sys a (inr (weak, w, inr (strong, s, inl not))) five = line_not_full TooMany Cyclic sys a not five
drilled_not_full asked TooMany sys a (inr (weak, w, inr (strong, s, inr (cyclic, c, is)))) five = omega (arith, ap status_of is, five)

then_not_full : (asked : DrillWords) (d : DomainTree) (p : ProblemTree) (a : Answer) → DrillThen asked d p a → status_of a ≢ 5
then_not_full asked d p a (inl (none, is)) five = omega (arith, ap status_of is, five)
then_not_full asked d p a (inr (some, inl (limit, passed, is))) five = omega (arith, ap status_of is, five)
then_not_full asked d p a (inr (some, inr (kept, drilled))) five = drilled_not_full asked (HasTooManyStates d p) (system d p) a drilled five

texts_not_full : (asked : DrillWords) (a : Answer) → TextsThen asked (DrillThen asked) a → status_of a ≢ 5
texts_not_full asked a (inl (r, is, why)) five = omega (arith, ap status_of is, ap status_of_refusal why.2, five)
texts_not_full asked a (inr (d, spelled, inl (r, is, why))) five = omega (arith, ap status_of is, ap status_of_refusal why.2, five)
texts_not_full asked a (inr (d, spelled, inr (p, spelled', then))) five = then_not_full asked d p a then five

-- what was written at status 5
pub full_drill : (held : Bytes → Held) (failed : Bytes → Type 0) (tallies : Tallies) (words : List Bytes) (before after : ℕ) (out out' err err' : Seen) (status : ℕ) (a : Answer) (asked : DrillWords)
    → Done held failed tallies words before after out out' err err' status a → SaysDrill words asked → status ≡ 5
    → MayDrillRunOut asked × (err'.written ≡ append_known err.written (text_of (refused (full default_nodes))))
full_drill held failed tallies words before after out out' err err' status a asked d says five =
    written_full default_nodes status a out out' err err' (MayDrillRunOut asked) (TextsThen asked (DrillThen asked) a) d.delivered five (texts_not_full asked a)
    (of_command held failed tallies words (drill asked) a says d.cause)
