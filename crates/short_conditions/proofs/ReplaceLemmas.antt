-- Parts of a task in place of others.
use Rattle.std.proofs.Common.{◌≡◌, ℕ, ◌<◌, ◌≤◌, ◌+◌, ◌^◌, Bool, true, List, [], ◌∷◌, ◌++◌, length, map, take, get_or, Option, Some, None, refl, sym, ap, ◌∙◌, subst, arith}
use Rattle.std.specs.Prelude.{nat_le, nat_lt}
use Rattle.std.specs.List.{list_all}
use Rattle.std.proofs.Math.Path.{fun_ext}
use Rattle.std.proofs.lemmas.Bool.{and_parts, and_from}
use Rattle.std.proofs.lemmas.Bool.Decides.{nat_tests}
use Rattle.std.proofs.lemmas.List.{map-append, take_all, take_more, length-map}
use Rattle.std.proofs.lemmas.List.Folds.{list_all-append}
use Rattle.list_laws.proofs.Elements.{list_all-more}
use Rattle.task_core.specs.Actions.{action_is_shallow, action_within, change_is_shallow, change_within, goal_is_shallow, goal_within, outcome_is_shallow, outcome_within}
use Rattle.task_core.specs.Conditions.{depth, holds, ids_below, is_shallow}
use Rattle.task_core.specs.declared.conditions.Cond.{Cond}
use Rattle.task_core.specs.declared.actions.Change.{Change}
use Rattle.task_core.specs.declared.actions.Outcome.{Outcome}
use Rattle.task_core.specs.declared.actions.GroundAction.{GroundAction}
use Rattle.task_core.specs.Initial.{lit_within}
use Rattle.task_core.specs.Names.{name_of}
use Rattle.short_conditions.specs.Meanings.{Replaces, ReplacesEach, action_meaning, change_meaning, goal_meaning, outcome_meaning}

module _ {X M : Type 0} (meaning : X → M) (within : ℕ → X → Bool) (is_shallow : X → Bool) where
  replaces_none : ReplacesEach meaning within is_shallow [] []
  replaces_none = record { means = refl; within = λ _ h. h; shallow = λ h. h }

  pub replaces_start : (olds news : List X) → news ≡ [] → ReplacesEach meaning within is_shallow (take 0 olds) news
  replaces_start olds news e =
      let P : List X → Type 0 = λ ys. ReplacesEach meaning within is_shallow (take 0 olds) ys in
      subst P (sym e) replaces_none

  pub replaces_more : (olds : List X) (i : ℕ) (old : X) (news : List X) (new : X) (all : List X) → i < length olds → old ≡ get_or olds i old → all ≡ news ++ new ∷ []
      → ReplacesEach meaning within is_shallow (take i olds) news → Replaces meaning within is_shallow old new → ReplacesEach meaning within is_shallow (take (i + 1) olds) all
  replaces_more olds i old news new all l is grown each one =
      let longer : take (i + 1) olds ≡ take i olds ++ old ∷ [] = take_more olds i old l ∙ ap (λ x. take i olds ++ x ∷ []) (sym is) in
      let P : List X → Type 0 = λ xs. ReplacesEach meaning within is_shallow xs all in
      let Q : List X → Type 0 = λ ys. ReplacesEach meaning within is_shallow (take i olds ++ old ∷ []) ys in
      subst P (sym longer) (subst Q (sym grown) (record {
        means =
            map-append meaning news (new ∷ [])
            ∙ ap (λ ms. ms ++ meaning new ∷ []) each.means
            ∙ ap (λ m. map meaning (take i olds) ++ m ∷ []) one.means
            ∙ sym (map-append meaning (take i olds) (old ∷ []));
        within = λ n h.
            let both = and_parts _ _ (sym (list_all-append (within n) (take i olds) (old ∷ [])) ∙ h) in
            list_all-more (within n) news new (each.within n both.0) (one.within n (and_parts _ _ both.1).0);
        shallow = λ h.
            let both = and_parts _ _ (sym (list_all-append is_shallow (take i olds) (old ∷ [])) ∙ h) in
            list_all-more is_shallow news new (each.shallow both.0) (one.shallow (and_parts _ _ both.1).0);
      }))

  pub replaces_all : (olds : List X) (i : ℕ) (news : List X) → length olds ≤ i → ReplacesEach meaning within is_shallow (take i olds) news → ReplacesEach meaning within is_shallow olds news
  replaces_all olds i news l each =
      let P : List X → Type 0 = λ xs. ReplacesEach meaning within is_shallow xs news in
      subst P (take_all i olds l) each

-- a condition that means the same, with no more fluents and no deeper
pub record IsShort (old new : Cond) : Type 0 where
  pub same : holds new ≡ holds old
  pub fluents : (n : ℕ) → ids_below n old ≡ true → ids_below n new ≡ true
  pub shallow : is_shallow old ≡ true → is_shallow new ≡ true

pub is_short : (old new : Cond) → ((value : ℕ → Bool) → holds new value ≡ holds old value) → ((n : ℕ) → ids_below n old ≡ true → ids_below n new ≡ true) → depth new ≤ depth old → IsShort old new
is_short old new same fluents le = record {
  same = fun_ext same;
  fluents = fluents;
  shallow = λ h. lower (depth old) (depth new) le h;
}
  where
    lower : (m n : ℕ) → n ≤ m → nat_le m 200 ≡ true → nat_le n 200 ≡ true
    lower m n le h = grind (arith, nat_tests)

pub change_replaces : (old new : Change) → IsShort old.cond new.cond → new.lits.items ≡ old.lits.items → Replaces change_meaning change_within change_is_shallow old new
change_replaces old new short same = record {
  means = ap (λ lits. (lits, holds new.cond)) same ∙ ap (λ m. (old.lits.items, m)) short.same;
  within = λ n h. let both = and_parts _ _ h in and_from _ _ (short.fluents n both.0) (ap (list_all (lit_within n)) same ∙ both.1);
  shallow = short.shallow;
}

pub outcome_replaces : (old new : Outcome) → ReplacesEach change_meaning change_within change_is_shallow old.changes.items new.changes.items → Replaces outcome_meaning outcome_within outcome_is_shallow old new
outcome_replaces old new each = record { means = each.means; within = each.within; shallow = each.shallow }

pub action_replaces : (old new : GroundAction) → name_of new ≡ name_of old → IsShort old.exec new.exec → ReplacesEach outcome_meaning outcome_within outcome_is_shallow old.outcomes.items new.outcomes.items → Replaces action_meaning action_within action_is_shallow old new
action_replaces old new name short each =
    let count : length new.outcomes.items ≡ length old.outcomes.items = sym (length-map new.outcomes.items outcome_meaning) ∙ ap length each.means ∙ length-map old.outcomes.items outcome_meaning in
    record {
      means =
          ap (λ words. (words, holds new.exec, map outcome_meaning new.outcomes.items)) name
          ∙ ap (λ m. (name_of old, m, map outcome_meaning new.outcomes.items)) short.same
          ∙ ap (λ os. (name_of old, holds old.exec, os)) each.means;
      within = λ n h.
          let last = and_parts _ _ h in
          let some = and_parts _ _ last.0 in
          let first = and_parts _ _ some.0 in
          and_from _ _ (and_from _ _ (and_from _ _ (short.fluents n first.0) (each.within n first.1)) (ap (λ k. nat_lt 0 k) count ∙ some.1)) (ap (λ k. nat_lt k (2 ^ 32)) count ∙ last.1);
      shallow = λ h. let both = and_parts _ _ h in and_from _ _ (short.shallow both.0) (each.shallow both.1);
    }

pub goal_replaces_none : (goal : Option Cond) → goal ≡ None → Replaces goal_meaning goal_within goal_is_shallow goal None
goal_replaces_none goal is = record {
  means = ap goal_meaning (sym is);
  within = λ n h. refl;
  shallow = λ h. refl;
}

pub goal_replaces : (goal : Option Cond) (old new : Cond) → goal ≡ Some old → IsShort old new → Replaces goal_meaning goal_within goal_is_shallow goal (Some new)
goal_replaces goal old new is short = record {
  means = ap Some short.same ∙ ap goal_meaning (sym is);
  within = λ n h. short.fluents n (ap (goal_within n) (sym is) ∙ h);
  shallow = λ h. short.shallow (ap goal_is_shallow (sym is) ∙ h);
}

-- the same of equal lists
pub replaces_along : {X M : Type 0} (meaning : X → M) (within : ℕ → X → Bool) (is_shallow : X → Bool) (olds others news : List X) → olds ≡ others → ReplacesEach meaning within is_shallow olds news → ReplacesEach meaning within is_shallow others news
replaces_along meaning within is_shallow olds others news e each =
    subst (λ xs. ReplacesEach meaning within is_shallow xs news) e each
