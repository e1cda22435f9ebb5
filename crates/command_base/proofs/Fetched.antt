-- Which files were fetched, and which of them decided the answer.
use Rattle.std.proofs.Common.{◌≡◌, ◌⊎◌, ℕ, List, [], ◌∷◌, inl, inr, refl, subst, sym, ap, None, true}
use Rattle.domain_read.specs.Domains.{SpellsDomain}
use Rattle.pddl_ast.specs.Trees.{DomainTree, ProblemTree}
use Rattle.pddl_system.specs.Sizes.{first_passed}
use Rattle.task_core.specs.Names.{Name}
use Rattle.plan_io.specs.Fetches.{FailedLast, Fetches, FetchesNothing, MayFetch}
use Rattle.plan_io.specs.Held.{Held}
use Rattle.command_base.specs.Answers.{Answer, no_memory, refused, Refusal}
use Rattle.command_base.specs.Fetching.{FetchPlan, AsksForPlan, FetchDomain, FetchThen, FetchesBoth, HoldsDomain, RefusesBoth, RefusesPlan, Stops}
use Rattle.command_base.specs.Grounding.{GoalThen, GroundThen, has_goal_for}
use Rattle.command_base.specs.PddlTexts.{HoldBoth, IsFaultyDomain, IsFaultyProblem, ReadBoth, SpellsProblemOf}
use Rattle.command_base.specs.PlanFiles.{IsFaultyPlan}
use Rattle.command_base.specs.Reading.{Holds, IsFile, IsRefusedFile, IsTooLong, IsUnreadable, ReadThen}
use Rattle.command_base.specs.Words.{Bytes, CheckWords}
use Rattle.command_base.proofs.Later.{failed_over, next_answer, refused_later}
use Rattle.command_base.proofs.PddlDecides.{refused_both}

-- the file of the problem can't be read, after the domain was
pub problem_unread : {S : Type 0} (held : Bytes → Held) (fetched : S → Bytes → S → Type 0) (faults : S → ℕ) (d p : Bytes) (held' : Bytes → Held) (domain : DomainTree) (r : Refusal) (before between after : S)
    → Holds held SpellsDomain d domain → ((file : Bytes) → held' file ≡ held file) → fetched before d between → faults between ≡ faults before
    → (r ≡ no_memory) ⊎ IsUnreadable held' (FailedLast fetched faults between after) p r ⊎ IsTooLong held' p r
    → RefusesBoth held (FailedLast fetched faults before after) d p (refused r)
problem_unread held fetched faults d p held' domain r before between after holds same fetch quiet why =
    let failed = FailedLast fetched faults before after in
    next_answer held failed d SpellsDomain IsFaultyDomain (λ tree. ReadThen held failed p (SpellsProblemOf tree) (IsFaultyProblem tree) (λ q a. ⊥)) domain (refused r) holds
    (refused_later held held' failed (FailedLast fetched faults between after) p (SpellsProblemOf domain) (IsFaultyProblem domain) (λ q a. ⊥) r same
    (λ late. failed_over fetched faults before between after d p fetch quiet late) (go why))
  where
    go : (r ≡ no_memory) ⊎ IsUnreadable held' (FailedLast fetched faults between after) p r ⊎ IsTooLong held' p r
        → (r ≡ no_memory) ⊎ IsRefusedFile held' (FailedLast fetched faults between after) (IsFaultyProblem domain) p r
    go (inl memory) = inl memory
    go (inr (inl unread)) = inr (inl unread)
    go (inr (inr long)) = inr (inr (inl long))

-- one of two files decides the answer, whatever else would come
pub one_decides : {S : Type 0} (held : Bytes → Held) (failed : Bytes → Type 0) (fetched : S → Bytes → S → Type 0) (d p : Bytes) (Cause : Answer → Type 0) (Needed : Type 0) (Then : S → S → Type 0)
    (a : Answer) (before after : S) → Stops Cause a → FetchDomain held failed fetched d a (Fetches fetched (p ∷ [])) before after
    → FetchDomain held failed fetched d a (FetchThen fetched p (Stops Cause a) Needed Then) before after
one_decides held failed fetched d p Cause Needed Then a before after stops (x, fetch, inl decided) = (x, fetch, inl decided)
one_decides held failed fetched d p Cause Needed Then a before after stops (x, fetch, inr (holds, (y, second, same))) = (x, fetch, inr (holds, (y, second, inl (stops, same))))

-- both were read, and then the answer is decided, or more is fetched
pub after_files : {S : Type 0} (held : Bytes → Held) (failed : Bytes → Type 0) (fetched : S → Bytes → S → Type 0) (d p : Bytes) (Decided Needed : Type 0) (Then : S → S → Type 0) (a : Answer) (before between after : S)
    → HoldsDomain held d → Fetches fetched (d ∷ p ∷ []) before between → (Decided × (after ≡ between)) ⊎ (Needed × Then between after)
    → FetchDomain held failed fetched d a (FetchThen fetched p Decided Needed Then) before after
after_files {S} held failed fetched d p Decided Needed Then a before between after holds (x, first, (y, second, is)) then =
    (x, first, inr (holds, (y, second, subst (λ (s : S). (Decided × (after ≡ s)) ⊎ (Needed × Then s after)) is then)))

-- the cause of an answer after both files were read
pub both_stop : (held : Bytes → Held) (failed : Bytes → Type 0) (d p : Bytes) (Then : DomainTree → ProblemTree → Answer → Type 0) (domain : DomainTree) (problem : ProblemTree) (a : Answer)
    → HoldBoth held d p domain problem → Stops (Then domain problem) a → Stops (ReadBoth held failed d p Then) a
both_stop held failed d p Then domain problem a both (inl memory) = inl memory
both_stop held failed d p Then domain problem a both (inr then) = inr (inr (domain, both.holds_domain, inr (problem, both.holds_problem, then)))

-- a text of the problem's file that has a fault
pub problem_misread : (held : Bytes → Held) (failed : Bytes → Type 0) (d p : Bytes) (domain : DomainTree) (bytes : Bytes) (r : Refusal) → Holds held SpellsDomain d domain → IsFile held p bytes
    → (r ≡ no_memory) ⊎ IsFaultyProblem domain p bytes r → RefusesBoth held failed d p (refused r)
problem_misread held failed d p domain bytes r holds file (inl memory) = inl (ap refused memory)
problem_misread held failed d p domain bytes r holds file (inr wrong) = inr (inr (domain, holds, inl (r, refl, inr (inr (record { bytes = bytes; file = file; wrong = wrong })))))

-- two files were fetched in turn, the first of which spells a domain
pub files_stop : {S : Type 0} (held : Bytes → Held) (failed : Bytes → Type 0) (fetched : S → Bytes → S → Type 0) (d p : Bytes) (a : Answer) (before after : S)
    → HoldsDomain held d → Fetches fetched (d ∷ p ∷ []) before after → FetchDomain held failed fetched d a (Fetches fetched (p ∷ [])) before after
files_stop held failed fetched d p a before after holds (x, first, rest) = (x, first, inr (holds, rest))

pub files_may_be : {S : Type 0} (held : Bytes → Held) (fetched : S → Bytes → S → Type 0) (d p : Bytes) (before after : S)
    → HoldsDomain held d → Fetches fetched (d ∷ p ∷ []) before after → FetchesBoth held fetched d p FetchesNothing before after
files_may_be held fetched d p before after holds (x, first, (y, second, same)) = inr (tt, x, first, inr (holds, y, second, same))

-- `check`: one of the first two files is refused
pub check_stopped : {S : Type 0} (held : Bytes → Held) (failed : Bytes → Type 0) (fetched : S → Bytes → S → Type 0) (asked : CheckWords) (r : Refusal) (before after : S)
    → RefusesBoth held failed asked.domain asked.problem (refused r) → FetchDomain held failed fetched asked.domain (refused r) (Fetches fetched (asked.problem ∷ [])) before after
    → FetchDomain held failed fetched asked.domain (refused r) (FetchPlan held failed fetched asked (refused r)) before after
check_stopped held failed fetched asked r before after refuses f =
    let Then : DomainTree → ProblemTree → Answer → Type 0 = λ domain problem. GoalThen asked.kind asked.problem problem (GroundThen domain problem (λ answer. ⊥)) in
    one_decides held failed fetched asked.domain asked.problem (ReadBoth held failed asked.domain asked.problem Then) (AsksForPlan held asked) (Fetches fetched (asked.plan ∷ [])) (refused r) before after
    (refused_both held failed asked.domain asked.problem Then r refuses) f

-- both were read
pub check_fetched : {S : Type 0} (held : Bytes → Held) (failed : Bytes → Type 0) (fetched : S → Bytes → S → Type 0) (asked : CheckWords) (domain : DomainTree) (problem : ProblemTree) (a : Answer) (before between after : S)
    → HoldBoth held asked.domain asked.problem domain problem → Fetches fetched (asked.domain ∷ asked.problem ∷ []) before between
    → (Stops (GoalThen asked.kind asked.problem problem (GroundThen domain problem (λ answer. ⊥))) a × (after ≡ between))
    ⊎ (((has_goal_for asked.kind problem ≡ true) × (first_passed domain problem ≡ None)) × Fetches fetched (asked.plan ∷ []) between after)
    → FetchDomain held failed fetched asked.domain a (FetchPlan held failed fetched asked a) before after
check_fetched {S} held failed fetched asked domain problem a before between after both came then =
    let Then : DomainTree → ProblemTree → Answer → Type 0 = λ domain problem. GoalThen asked.kind asked.problem problem (GroundThen domain problem (λ answer. ⊥)) in
    after_files held failed fetched asked.domain asked.problem (Stops (ReadBoth held failed asked.domain asked.problem Then) a) (AsksForPlan held asked) (Fetches fetched (asked.plan ∷ [])) a before between after
    (domain, both.holds_domain) came (go then)
  where
    go : (Stops (GoalThen asked.kind asked.problem problem (GroundThen domain problem (λ answer. ⊥))) a × (after ≡ between))
        ⊎ (((has_goal_for asked.kind problem ≡ true) × (first_passed domain problem ≡ None)) × Fetches fetched (asked.plan ∷ []) between after)
        → (Stops (ReadBoth held failed asked.domain asked.problem (λ domain problem. GoalThen asked.kind asked.problem problem (GroundThen domain problem (λ answer. ⊥)))) a × (after ≡ between))
        ⊎ (AsksForPlan held asked × Fetches fetched (asked.plan ∷ []) between after)
    go (inl (stops, same)) =
        inl (both_stop held failed asked.domain asked.problem (λ domain problem. GoalThen asked.kind asked.problem problem (GroundThen domain problem (λ answer. ⊥))) domain problem a both stops, same)
    go (inr (needed, fetch)) = inr ((domain, problem, both, needed.0, needed.1), fetch)

-- the plan is refused
pub plan_stops : (held : Bytes → Held) (failed : Bytes → Type 0) (fluents actions : List Name) (name : Bytes) (r : Refusal)
    → (r ≡ no_memory) ⊎ IsRefusedFile held failed (IsFaultyPlan fluents actions) name r → Stops (RefusesPlan held failed fluents actions name) (refused r)
plan_stops held failed fluents actions name r (inl memory) = inl (ap refused memory)
plan_stops held failed fluents actions name r (inr why) = inr (inl (r, refl, why))

-- want of memory may come in place of an answer, after a file that may decide it
pub fetch_for_memory : {S : Type 0} (fetched : S → Bytes → S → Type 0) (name : Bytes) (Cause : Answer → Type 0) (Needed : Type 0) (Then Then' : S → S → Type 0) (a : Answer) (before after : S)
    → ((between : S) → Then between after → Then' between after) → FetchThen fetched name (Stops Cause a) Needed Then before after → FetchThen fetched name (Stops Cause (refused no_memory)) Needed Then' before after
fetch_for_memory fetched name Cause Needed Then Then' a before after next (x, fetch, inl (was, same)) = (x, fetch, inl (inl refl, same))
fetch_for_memory fetched name Cause Needed Then Then' a before after next (x, fetch, inr (needed, then)) = (x, fetch, inr (needed, next x then))

-- and so after a domain, and after a problem and what `check` asks for
pub domain_for_memory : {S : Type 0} (held : Bytes → Held) (failed : Bytes → Type 0) (fetched : S → Bytes → S → Type 0) (d : Bytes) (Then Then' : S → S → Type 0) (a : Answer) (before after : S)
    → ((between : S) → Then between after → Then' between after) → FetchDomain held failed fetched d a Then before after → FetchDomain held failed fetched d (refused no_memory) Then' before after
domain_for_memory held failed fetched d = fetch_for_memory fetched d (ReadThen held failed d SpellsDomain IsFaultyDomain (λ domain answer. ⊥)) (HoldsDomain held d)

pub check_for_memory : {S : Type 0} (held : Bytes → Held) (failed : Bytes → Type 0) (fetched : S → Bytes → S → Type 0) (asked : CheckWords) (a : Answer) (before after : S)
    → FetchDomain held failed fetched asked.domain a (FetchPlan held failed fetched asked a) before after → FetchDomain held failed fetched asked.domain (refused no_memory) (FetchPlan held failed fetched asked (refused no_memory)) before after
check_for_memory held failed fetched asked a before after =
    domain_for_memory held failed fetched asked.domain (FetchPlan held failed fetched asked a) (FetchPlan held failed fetched asked (refused no_memory)) a before after
    (λ x. fetch_for_memory fetched asked.problem (ReadBoth held failed asked.domain asked.problem (λ domain problem. GoalThen asked.kind asked.problem problem (GroundThen domain problem (λ answer. ⊥))))
    (AsksForPlan held asked) (Fetches fetched (asked.plan ∷ [])) (Fetches fetched (asked.plan ∷ [])) a x after (λ y rest. rest))

-- what one fetch keeps true stays true over several
module _ {S : Type 0} (P : S → Type 0) (fetched : S → Bytes → S → Type 0) (keeps : (before : S) (name : Bytes) (after : S) → fetched before name after → P before → P after) where
  pub over_fetches : (names : List Bytes) (before after : S) → Fetches fetched names before after → P before → P after
  over_fetches [] before after same holds = subst P (sym same) holds
  over_fetches (name ∷ names) before after (between, fetch, rest) holds = over_fetches names between after rest (keeps before name between fetch holds)

  pub over_fetch_then : (name : Bytes) (Decided Needed : Type 0) (Then : S → S → Type 0) (before after : S) → ((between : S) → Then between after → P between → P after)
      → FetchThen fetched name Decided Needed Then before after → P before → P after
  over_fetch_then name Decided Needed Then before after over (between, fetch, inl (decided, same)) holds = subst P (sym same) (keeps before name between fetch holds)
  over_fetch_then name Decided Needed Then before after over (between, fetch, inr (needed, then)) holds = over between then (keeps before name between fetch holds)

  pub over_may_fetch : (Needed : Type 0) (name : Bytes) (Then : S → S → Type 0) (before after : S) → ((between : S) → Then between after → P between → P after)
      → MayFetch fetched Needed name Then before after → P before → P after
  over_may_fetch Needed name Then before after over (inl same) holds = subst P (sym same) holds
  over_may_fetch Needed name Then before after over (inr (needed, between, fetch, then)) holds = over between then (keeps before name between fetch holds)
