-- Worked examples of printed plans and listings, from the trees to the text.
use Rattle.std.proofs.Common.{◌≡◌, ℕ, List, true, false, [], ◌∷◌, ◌++◌, codes, None, Some, refl}
use Rattle.task_core.specs.declared.classes.Class.TheVariants.{Weak}
use Rattle.pddl_ast.specs.Trees.{AtomTree, DomainTree, ProblemTree, add, all, atom, both, one_of, negation, no_effect, effect_then, no_formula, formula_then}
use Rattle.pddl_system.specs.Systems.{system, fluent_names, action_names}
use Rattle.plan_rules.specs.Denoted.{denoted}
use Rattle.plan_rules.specs.Texts.{table_text, line_feed}
use Rattle.plan_theory.specs.Layers.{covers}
use Rattle.plan_theory.specs.LayerPlans.{printed_rules}
use Rattle.ground_command.specs.GroundCommand.{listing, listing_of}
use Rattle.command_base.specs.Words.{Bytes}

-- the text of the rules of the first layers
abbrev text_within : DomainTree → ProblemTree → ℕ → Bytes
text_within d p last =
    table_text (fluent_names d p) (action_names d p) Weak (printed_rules Weak (system d p) last)

-- (define (domain coin) (:predicates (up)) (:action flip :effect (oneof (up) (and)))), from down to
-- up
abbrev coin : DomainTree
coin = record {
  name = codes "coin";
  type_names = codes "object" ∷ [];
  parents = 0 ∷ [];
  constants = [];
  predicates = record { name = codes "up"; arity = 0 } ∷ [];
  actions = record {
    name = codes "flip";
    parameters = [];
    precondition = all no_formula;
    effect = one_of (effect_then (add 0 []) (effect_then (both no_effect) no_effect));
  } ∷ [];
  invariant = all no_formula;
}

abbrev coin_up : ProblemTree
coin_up = record {
  name = codes "c";
  objects = [];
  facts = [];
  entries = [];
  goal = Some (atom 0 []);
  ctl = None;
  place = record { line = 1; column = 1 };
  ctl_place = record { line = 1; column = 1 };
}

coin_needs_a_step : covers Weak (system coin coin_up) 0 ≡ false
coin_needs_a_step = refl

coin_takes_one : covers Weak (system coin coin_up) 1 ≡ true
coin_takes_one = refl

coin_table : denoted (system coin coin_up) (printed_rules Weak (system coin coin_up) 1) ≡ (false ∷ [], 0) ∷ []
coin_table = refl

coin_text : text_within coin coin_up 1
    ≡ codes "(plan table weak" ++ line_feed ++ codes "  (rule ((not (up))) (flip))" ++ line_feed ++ codes ")" ++ line_feed
coin_text = refl

-- a goal that holds at once
coin_text_at_once : text_within coin coin_up 0 ≡ codes "(plan table weak" ++ line_feed ++ codes ")" ++ line_feed
coin_text_at_once = refl

-- what is listed of it: the fluent, the action with two outcomes, and no uncertain entry
coin_listing : listing_of coin coin_up ≡ listing ((codes "up" ∷ []) ∷ []) ((codes "flip" ∷ [], 2) ∷ []) 0
coin_listing = refl

-- (define (domain two) (:predicates (p) (q)) (:invariant (not (and (p) (q))))
--   (:action a :effect (oneof (p) (q))) (:action b :precondition (q) :effect (p))),
-- and problems to make p true, from neither and from both
abbrev two : DomainTree
two = record {
  name = codes "two";
  type_names = codes "object" ∷ [];
  parents = 0 ∷ [];
  constants = [];
  predicates = record { name = codes "p"; arity = 0 } ∷ record { name = codes "q"; arity = 0 } ∷ [];
  actions = record {
    name = codes "a";
    parameters = [];
    precondition = all no_formula;
    effect = one_of (effect_then (add 0 []) (effect_then (add 1 []) no_effect));
  } ∷ record {
    name = codes "b";
    parameters = [];
    precondition = atom 1 [];
    effect = add 0 [];
  } ∷ [];
  invariant = negation (all (formula_then (atom 0 []) (formula_then (atom 1 []) no_formula)));
}

abbrev two_from : List AtomTree → ProblemTree
two_from facts = record {
  name = codes "t";
  objects = [];
  facts = facts;
  entries = [];
  goal = Some (atom 0 []);
  ctl = None;
  place = record { line = 1; column = 1 };
  ctl_place = record { line = 1; column = 1 };
}

two_begins : (system two (two_from [])).initial ≡ (false ∷ false ∷ []) ∷ []
two_begins = refl

-- an outcome that leads to no state doesn't take place, and b can be executed nowhere
two_stays : (system two (two_from [])).next (false ∷ true ∷ []) 0 ≡ (false ∷ true ∷ []) ∷ []
two_stays = refl

two_never : (system two (two_from [])).next (false ∷ true ∷ []) 1 ≡ []
two_never = refl

two_text : text_within two (two_from []) 1
    ≡ codes "(plan table weak" ++ line_feed ++ codes "  (rule ((not (p)) (not (q))) (a))" ++ line_feed ++ codes ")" ++ line_feed
two_text = refl

-- from both there is no initial state
two_empty : (system two (two_from (record { predicate = 0; objects = [] } ∷ record { predicate = 1; objects = [] } ∷ []))).initial ≡ []
two_empty = refl
