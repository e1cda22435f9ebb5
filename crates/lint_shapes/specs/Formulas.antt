-- The formula that says that exactly one atom of each group of a shape is true.
use Rattle.std.specs.Prelude.{ℕ, ◌+◌, List, [], ◌∷◌, ◌++◌, length, map}
use Rattle.std.specs.List.{flat_map}
use Rattle.pddl_ast.specs.Trees.{FormulaTree, all, any, atom, equal, exists, forall, formula_row}
use Rattle.pddl_ast.specs.Trees.{implication, negation}
use Rattle.pddl_ast.specs.declared.trees.Term.{Term}
use Rattle.pddl_ast.specs.declared.trees.Term.TheVariants.{Variable}
use Rattle.lint_shapes.specs.declared.shapes.Part.{Part}
use Rattle.lint_shapes.specs.declared.shapes.Shape.{Shape}
use Rattle.lint_shapes.specs.declared.shapes.Slot.{Slot}
use Rattle.lint_shapes.specs.declared.shapes.Slot.TheVariants.{Counted, Free}

-- the variable at a place, where what is counted is the variable with this number
abbrev pub term_of : ℕ → Slot → Term
term_of counted (Free k) = Variable k
term_of counted (Counted t) = Variable counted

abbrev pub part_atom : ℕ → Part → FormulaTree
part_atom counted part = atom part.predicate (map (term_of counted) part.slots.items)

-- the types of the places of a part that are counted: there is one at most
abbrev pub counted_in : Slot → List ℕ
counted_in (Free k) = []
counted_in (Counted t) = t ∷ []

abbrev pub counted_types : Part → List ℕ
counted_types part = flat_map counted_in part.slots.items

-- a formula for some, or for all, objects of these types; itself where there are none
abbrev pub for_some : List ℕ → FormulaTree → FormulaTree
for_some [] f = f
for_some (t ∷ ts) f = exists (t ∷ ts) f

abbrev pub for_all : List ℕ → FormulaTree → FormulaTree
for_all [] f = f
for_all (t ∷ ts) f = forall (t ∷ ts) f

-- one atom of a part is true, where so many variables are free
abbrev pub some_of : ℕ → Part → FormulaTree
some_of free part = for_some (counted_types part) (part_atom free part)

-- no two atoms of one part are
abbrev pub alone : ℕ → Part → ℕ → FormulaTree
alone free part t =
    forall (t ∷ t ∷ [])
    (implication (all (formula_row (part_atom free part ∷ part_atom (free + 1) part ∷ [])))
    (equal (Variable free) (Variable (free + 1))))

abbrev pub alone_in : ℕ → Part → List FormulaTree
alone_in free part = map (alone free part) (counted_types part)

-- two atoms of two parts are not both true
abbrev pub not_both : ℕ → Part → Part → FormulaTree
not_both free part other =
    negation (all (formula_row
    (part_atom free part ∷ part_atom (free + length (counted_types part)) other ∷ [])))

-- no two atoms of two parts are
abbrev pub apart : ℕ → Part → Part → FormulaTree
apart free part other =
    for_all (counted_types part ++ counted_types other) (not_both free part other)

abbrev pub all_apart : ℕ → List Part → List FormulaTree
all_apart free [] = []
all_apart free (part ∷ parts) = map (apart free part) parts ++ all_apart free parts

-- one of some formulas; itself where it is the only one
abbrev pub either : List FormulaTree → FormulaTree
either [] = any (formula_row [])
either (f ∷ []) = f
either (f ∷ g ∷ fs) = any (formula_row (f ∷ g ∷ fs))

-- whichever objects the free variables stand for, one atom of the parts is true, and no two are
abbrev pub formula_of : Shape → FormulaTree
formula_of shape = let free = length shape.free.items in let parts = shape.parts.items in
    for_all shape.free.items
    (all (formula_row (either (map (some_of free) parts)
    ∷ (flat_map (alone_in free) parts ++ all_apart free parts))))

-- some formulas; itself where there is one
abbrev pub both : List FormulaTree → FormulaTree
both [] = all (formula_row [])
both (f ∷ []) = f
both (f ∷ g ∷ fs) = all (formula_row (f ∷ g ∷ fs))

-- the formulas of some shapes
abbrev pub conjunction_of : List Shape → FormulaTree
conjunction_of shapes = both (map formula_of shapes)
