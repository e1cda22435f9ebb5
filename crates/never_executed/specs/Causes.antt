-- Why an action can never be executed.
use Rattle.std.specs.Prelude.{◌≡◌, ℕ, Bool, List, [], ◌∷◌, Some, ⊤, not, slice_get, true}
use Rattle.std.specs.List.{All, list_all, list_any}
use Rattle.never_executed.specs.NeverRuns.{is_of}
use Rattle.never_executed.specs.Parts.{IsFalsePart}
use Rattle.never_executed.specs.declared.causes.Cause.{Cause}
use Rattle.never_executed.specs.declared.causes.Cause.TheVariants.{InEach, NoObjects, Part, Together}
use Rattle.pddl_ast.specs.Trees.{FormulaTree, FormulaTrees, SchemaTree, all, any, atom, equal, exists}
use Rattle.pddl_ast.specs.Trees.{forall, formula_then, implication, negation, no_formula}
use Rattle.pddl_system.specs.Objects.{bindings}
use Rattle.pddl_system.specs.Settings.{Setting}
use Rattle.pddl_system.specs.ThreeValues.{may_hold, value}
use Rattle.relaxed_reach.specs.Literals.{LiteralSet}
use Rattle.task_core.specs.declared.actions.GroundAction.{GroundAction}
use Rattle.task_core.specs.declared.tasks.Task.{Task}

-- the action has instances, and in each of them the part of the precondition with this number can't hold
-- where just the literals of the set can be true
pub record IsFalseInEach (set : LiteralSet) (task : Task) (name : List ℕ) (k : ℕ) : Type 0 where
  pub some : list_any (is_of name) task.actions.items ≡ true
  pub each : All (λ (a : GroundAction). is_of name a ≡ true → IsFalsePart set k a.exec)
      task.actions.items

-- the formulas of a row
abbrev pub listed : FormulaTrees → List FormulaTree
listed no_formula = []
listed (formula_then f fs) = f ∷ listed fs

-- the parts of a conjunction; of any other formula itself alone
abbrev pub formula_parts : FormulaTree → List FormulaTree
formula_parts (atom predicate terms) = atom predicate terms ∷ []
formula_parts (equal left right) = equal left right ∷ []
formula_parts (all parts) = listed parts
formula_parts (any parts) = any parts ∷ []
formula_parts (negation part) = negation part ∷ []
formula_parts (implication left right) = implication left right ∷ []
formula_parts (exists types part) = exists types part ∷ []
formula_parts (forall types part) = forall types part ∷ []

-- whether a formula is false where its variables stand for these objects, by what never changes
abbrev pub is_false : Setting → FormulaTree → List ℕ → Bool
is_false at formula objects = not (may_hold (value at formula objects))

-- the part of a formula with this number is false whichever objects its variables, which have these
-- types, stand for, by what never changes
pub record IsFalsePartOf (at : Setting) (types : List ℕ) (k : ℕ) (formula : FormulaTree) : Type 0 where
  pub part : FormulaTree
  pub is : slice_get (formula_parts formula) k ≡ Some part
  pub never : list_all (is_false at part) (bindings at.objects types) ≡ true

-- the part of the precondition with this number is
abbrev pub IsFalseByFacts : Setting → SchemaTree → ℕ → Type 0
IsFalseByFacts at schema k = IsFalsePartOf at schema.parameters k schema.precondition

abbrev pub IsCause : Setting → Task → LiteralSet → SchemaTree → Cause → Type 0
IsCause at task set schema (Part k) = IsFalseByFacts at schema k
IsCause at task set schema (InEach k) = IsFalseInEach set task schema.name k
IsCause at task set schema NoObjects = bindings at.objects schema.parameters ≡ []
IsCause at task set schema Together = ⊤
