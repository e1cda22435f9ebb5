-- One change more of an outcome.
use Rattle.std.proofs.Common.{◌≡◌, ◌≢◌, ℕ, ◌==◌, Bool, true, false, cond, ◌&&◌, ◌||◌, List, [], ◌∷◌, ◌++◌, Some, None, is_some, find, option_map, refl, sym, ap, subst, ◌∙◌, ⊎_elim, arith}
use Rattle.std.specs.List.{list_any}
use borrow.Author.Tests.{eqb-true, eq-eqb}
use Rattle.std.proofs.lemmas.Bool.{both_ways, cases_Bool, ne_eqb, or_from, or_parts}
use Rattle.std.proofs.lemmas.List.Folds.{list_any-append}
use Rattle.std.proofs.lemmas.List.Elements.{All-push}
use Rattle.std.proofs.lemmas.Option.{none-some, same_Some}
use Rattle.dd_nodes.specs.NodeList.{Values}
use Rattle.task_core.specs.Actions.{after_value, change_makes}
use Rattle.task_core.specs.Vectors.{same_value}
use Rattle.task_core.specs.Conditions.{holds}
use Rattle.task_core.specs.declared.actions.Change.{Change}
use Rattle.task_core.specs.declared.actions.Outcome.{Outcome}
use Rattle.task_core.specs.declared.literals.FluentId.{FluentId}
use Rattle.task_core.specs.declared.literals.Lit.{Lit}
use Rattle.task_core.specs.Cubes.{Cube}
use Rattle.task_core.specs.Initial.{names_it}
use Rattle.dd_sets.specs.Calls.{KeepsSets}
use Rattle.dd_sets.specs.LiveSets.{LiveSets, IsLive, listed_set}
use Rattle.dd_sets.specs.declared.slots.SetId.{SetId}
use Rattle.encode_task.specs.Made.{Holds}
use Rattle.encode_task.specs.Names.{literals_of, names_fluent}
use Rattle.encode_task.specs.Tables.{IsDone, OutcomeMade}
use Rattle.encode_task.proofs.MadeLemmas.{all_live_kept, holds_kept}

-- what a list gives a fluent after one entry more
listed_before : (changed : List (FluentId × SetId)) (e : FluentId × SetId) (g : ℕ) (slot : SetId) → listed_set changed g ≡ Some slot → listed_set (changed ++ e ∷ []) g ≡ Some slot
listed_before [] e g slot listed = absurd (none-some slot listed)
listed_before (x ∷ changed) e g slot listed = ⊎_elim
    (λ (here : (x.0.0 == g) ≡ true).
    ap (λ b. option_map (λ (entry : FluentId × SetId). entry.1) (cond b (Some x) (find (λ entry. entry.0.0 == g) (changed ++ e ∷ [])))) here
    ∙ sym (ap (λ b. option_map (λ (entry : FluentId × SetId). entry.1) (cond b (Some x) (find (λ entry. entry.0.0 == g) changed))) here) ∙ listed)
    (λ (later : (x.0.0 == g) ≡ false).
    ap (λ b. option_map (λ (entry : FluentId × SetId). entry.1) (cond b (Some x) (find (λ entry. entry.0.0 == g) (changed ++ e ∷ [])))) later
    ∙ listed_before changed e g slot
    (sym (ap (λ b. option_map (λ (entry : FluentId × SetId). entry.1) (cond b (Some x) (find (λ entry. entry.0.0 == g) changed))) later) ∙ listed))
    (cases_Bool (x.0.0 == g))

listed_last : (changed : List (FluentId × SetId)) (e : FluentId × SetId) (g : ℕ) → listed_set changed g ≡ None → listed_set (changed ++ e ∷ []) g ≡ option_map (λ (entry : FluentId × SetId). entry.1) (cond (e.0.0 == g) (Some e) None)
listed_last [] e g unlisted = refl
listed_last (x ∷ changed) e g unlisted = ⊎_elim
    (λ (here : (x.0.0 == g) ≡ true).
    absurd (none-some x.1 (sym unlisted ∙ ap (λ b. option_map (λ (entry : FluentId × SetId). entry.1) (cond b (Some x) (find (λ entry. entry.0.0 == g) changed))) here)))
    (λ (later : (x.0.0 == g) ≡ false).
    ap (λ b. option_map (λ (entry : FluentId × SetId). entry.1) (cond b (Some x) (find (λ entry. entry.0.0 == g) (changed ++ e ∷ [])))) later
    ∙ listed_last changed e g
    (sym (ap (λ b. option_map (λ (entry : FluentId × SetId). entry.1) (cond b (Some x) (find (λ entry. entry.0.0 == g) changed))) later) ∙ unlisted))
    (cases_Bool (x.0.0 == g))

-- a fluent is listed afterwards as before, or it is the new one, or it is not listed
pub data Listing (changed : List (FluentId × SetId)) (e : FluentId × SetId) (g : ℕ) : Type 0 where
  old : (slot : SetId) → listed_set changed g ≡ Some slot → listed_set (changed ++ e ∷ []) g ≡ Some slot → Listing changed e g
  new : e.0.0 ≡ g → listed_set (changed ++ e ∷ []) g ≡ Some e.1 → Listing changed e g
  none : e.0.0 ≢ g → listed_set changed g ≡ None → listed_set (changed ++ e ∷ []) g ≡ None → Listing changed e g

pub listing : (changed : List (FluentId × SetId)) (e : FluentId × SetId) (g : ℕ) → Listing changed e g
listing changed e g =
    elim (listed_set changed g) as (λ found. listed_set changed g ≡ found → Listing changed e g) [
      | Some slot ↦ λ listed. old slot listed (listed_before changed e g slot listed)
      | None ↦ λ unlisted. ⊎_elim
          (λ (here : (e.0.0 == g) ≡ true). new (eqb-true e.0.0 g here) (listed_last changed e g unlisted ∙ ap (λ b. option_map (λ (entry : FluentId × SetId). entry.1) (cond b (Some e) None)) here))
          (λ (differs : (e.0.0 == g) ≡ false).
          none (λ same. both_ways (e.0.0 == g) differs (eq-eqb e.0.0 g same)) unlisted (listed_last changed e g unlisted ∙ ap (λ b. option_map (λ (entry : FluentId × SetId). entry.1) (cond b (Some e) None)) differs))
          (cases_Bool (e.0.0 == g))
    ] refl

pub nothing_done : (sets : LiveSets) (outcome : Outcome) → IsDone sets [] outcome []
nothing_done sets outcome = record {
  live = λ k d within. absurd (omega arith);
  listed = λ f slot listed. absurd (none-some slot listed);
  named = λ f unlisted. refl;
}

-- another literal names no fluent but its own
names_more : (g : ℕ) (front : Cube) (lit : Lit) → names_fluent g front ≡ false → lit.fluent.0 ≢ g → names_fluent g (front ++ lit ∷ []) ≡ false
names_more g front lit before differs =
    list_any-append (λ (l : Lit). l.fluent.0 == g) front (lit ∷ []) ∙ or_from (names_fluent g front) (names_fluent g (lit ∷ [])) before (or_from (lit.fluent.0 == g) false (ne_eqb lit.fluent.0 g differs) refl)

-- a literal whose fluent is listed already
pub step_listed : (sets : LiveSets) (changed : List (FluentId × SetId)) (outcome : Outcome) (f : ℕ) (front : Cube) (lit : Lit) → is_some (listed_set changed f) ≡ true → lit.fluent.0 ≡ f
    → IsDone sets changed outcome front → IsDone sets changed outcome (front ++ lit ∷ [])
step_listed sets changed outcome f front lit listed is done = record {
  live = done.live;
  listed = done.listed;
  named = λ g unlisted. names_more g front lit (done.named g unlisted)
      (λ same. let no : is_some (listed_set changed f) ≡ false = ap (λ h. is_some (listed_set changed h)) (sym is ∙ same) ∙ ap is_some unlisted in both_ways (is_some (listed_set changed f)) no listed);
}

-- a literal whose fluent is new
pub step_changed : (before after : LiveSets) (changed : List (FluentId × SetId)) (outcome : Outcome) (f : FluentId) (next : SetId) (front : Cube) (lit : Lit) → KeepsSets before after
    → Holds after next (λ values. after_value outcome values f.0) → lit.fluent.0 ≡ f.0 → IsDone before changed outcome front
    → IsDone after (changed ++ (f, next) ∷ []) outcome (front ++ lit ∷ [])
step_changed before after changed outcome f next front lit kept holds is done = record {
  live = All-push (λ (entry : FluentId × SetId). IsLive after entry.1.0) changed (f, next) (all_live_kept before after kept changed done.live) holds.live;
  listed = listed;
  named = named;
}
  where
    listed : (g : ℕ) (slot : SetId) → listed_set (changed ++ (f, next) ∷ []) g ≡ Some slot → Holds after slot (λ values. after_value outcome values g)
    listed g slot at = elim (listing changed (f, next) g) [
      | old other before_at after_at ↦ subst (λ s. Holds after s (λ values. after_value outcome values g)) (same_Some other slot (sym after_at ∙ at)) (holds_kept before after kept other _ (done.listed g other before_at))
      | new same after_at ↦ subst (λ s. Holds after s (λ values. after_value outcome values g)) (same_Some next slot (sym after_at ∙ at)) (subst (λ h. Holds after next (λ values. after_value outcome values h)) same holds)
      | none differs before_at after_at ↦ absurd (none-some slot (sym after_at ∙ at))
    ]

    named : (g : ℕ) → listed_set (changed ++ (f, next) ∷ []) g ≡ None → names_fluent g (front ++ lit ∷ []) ≡ false
    named g at = elim (listing changed (f, next) g) [
      | old other before_at after_at ↦ absurd (none-some other (sym at ∙ after_at))
      | new same after_at ↦ absurd (none-some next (sym at ∙ after_at))
      | none differs before_at after_at ↦ names_more g front lit (done.named g before_at) (λ same. differs (sym is ∙ same))
    ]

-- a fluent that no change names keeps its value
not_named : (positive : Bool) (f : ℕ) (lits : Cube) → names_fluent f lits ≡ false → names_it positive f lits ≡ false
not_named positive f [] named = refl
not_named positive f (x ∷ lits) named =
    let parts = or_parts (x.fluent.0 == f) (names_fluent f lits) named in
    (λ i. (parts.0 i && same_value x.positive positive) || not_named positive f lits parts.1 i)

makes_nothing : (positive : Bool) (values : Values) (f : ℕ) (changes : List Change) → names_fluent f (literals_of changes) ≡ false → list_any (change_makes positive values f) changes ≡ false
makes_nothing positive values f [] named = refl
makes_nothing positive values f (x ∷ changes) named =
    let parts = or_parts (names_fluent f x.lits.items) (names_fluent f (literals_of changes)) (sym (list_any-append (λ (l : Lit). l.fluent.0 == f) x.lits.items (literals_of changes)) ∙ named) in
    (λ i. (not_named positive f x.lits.items parts.0 i && holds x.cond values) || makes_nothing positive values f changes parts.1 i)

-- all changes are done
pub all_done : (sets : LiveSets) (changed : List (FluentId × SetId)) (outcome : Outcome) (front : Cube) → front ≡ literals_of outcome.changes.items → IsDone sets changed outcome front → OutcomeMade sets changed outcome
all_done sets changed outcome front whole done = record {
  live = done.live;
  listed = done.listed;
  unlisted = λ f unlisted values.
      let named : names_fluent f (literals_of outcome.changes.items) ≡ false = ap (names_fluent f) (sym whole) ∙ done.named f unlisted in
      (λ i. cond (makes_nothing true values f outcome.changes.items named i) true (cond (makes_nothing false values f outcome.changes.items named i) false (values f)));
}
