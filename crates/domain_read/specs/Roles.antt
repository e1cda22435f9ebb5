-- Which forms of a domain's text stand at an effect's place, and which lists of them are recognised.
-- A row of forms is read from its first form on; its role says what the next form is.
use Rattle.std.specs.Prelude.{ℕ, Bool, true, false, ◌&&◌, ◌||◌, if◌then◌else◌, List, Option, Some}
use Rattle.std.specs.Prelude.{None, codes}
use Rattle.std.specs.Option.{option_map_or, is_some}
use Rattle.std.specs.Str.{bytes_eq}
use Rattle.sexpr_text.specs.Forest.{Forest, nothing, word, group}
use Rattle.sexpr_text.specs.Parts.{begins_with, first_group_with, is_definition}
use Rattle.domain_read.specs.declared.weights.Mass.{Mass}
use Rattle.domain_read.specs.declared.weights.Mass.TheVariants.{Missing, Whole, Over}
use Rattle.domain_read.specs.declared.roles.Role.{Role}
use Rattle.domain_read.specs.declared.roles.Role.TheVariants.{Text, Passed, Define, Action, Name}
use Rattle.domain_read.specs.declared.roles.Role.TheVariants.{Key, Value, Branches, Effects, Scope}
use Rattle.domain_read.specs.declared.roles.Role.TheVariants.{Bound, Body, Choice, Weight, Kept}
use Rattle.domain_read.specs.declared.roles.Role.TheVariants.{Dropped}
use Rattle.domain_read.specs.Weights.{weighs_nothing, mass}

-- what follows a key of an action: what follows the word `:effect` is an effect
abbrev pub after_key : List ℕ → Role
after_key text = if bytes_eq text (codes ":effect") then Value else Key

-- what follows a weight: an effect that is kept, or one that is dropped, where the weight is 0
abbrev pub after_weight : List ℕ → Role
after_weight text = if weighs_nothing text then Dropped else Kept

-- what follows a word
abbrev pub after_word : Role → List ℕ → Role
after_word Text text = Text
after_word Passed text = Passed
after_word Define text = Define
after_word Action text = Name
after_word Name text = Key
after_word Key text = after_key text
after_word Value text = after_key text
after_word Branches text = Effects
after_word Effects text = Effects
after_word Scope text = Bound
after_word Bound text = Body
after_word Body text = Passed
after_word (Choice missing) text = Weight
after_word Weight text = after_weight text
after_word Kept text = Weight
after_word Dropped text = Weight

-- what follows a group with these parts. The first list that defines a domain is the one that is
-- read
abbrev pub after_group : Role → Forest → Role
after_group Text parts = if is_definition (codes "domain") parts then Passed else Text
after_group Passed parts = Passed
after_group Define parts = Define
after_group Action parts = Name
after_group Name parts = Key
after_group Key parts = Key
after_group Value parts = Key
after_group Branches parts = Effects
after_group Effects parts = Effects
after_group Scope parts = Bound
after_group Bound parts = Body
after_group Body parts = Passed
after_group (Choice missing) parts = Weight
after_group Weight parts = Kept
after_group Kept parts = Weight
after_group Dropped parts = Weight

-- whether a form of this role is left out: a weight, or an effect whose weight is 0
abbrev pub is_left_out : Role → Bool
is_left_out Weight = true
is_left_out Dropped = true
is_left_out _ = false

-- whether mass is missing
abbrev pub is_missing : Option Mass → Bool
is_missing None = false
is_missing (Some Missing) = true
is_missing (Some _) = false

-- the role of the parts of a list at an effect's place, by the word that they begin with
abbrev pub effect_role : Forest → Role
effect_role nothing = Passed
effect_role (group span parts rest) = Passed
effect_role (word span text rest) =
    if bytes_eq text (codes "and") || bytes_eq text (codes "oneof") then Branches
    else if bytes_eq text (codes "when") || bytes_eq text (codes "forall") then Scope
    else if bytes_eq text (codes "probabilistic") then Choice (is_missing (mass rest))
    else Passed

-- the role of the parts of a group of this role
abbrev pub inner_role : Role → Forest → Role
inner_role Text parts = if is_definition (codes "domain") parts then Define else Passed
inner_role Define parts = if begins_with (codes ":action") parts then Action else Passed
inner_role Value parts = effect_role parts
inner_role Effects parts = effect_role parts
inner_role Body parts = effect_role parts
inner_role Kept parts = effect_role parts
inner_role _ parts = Passed

-- whether a section declares a predicate of the name `probabilistic`
abbrev pub declares : Forest → Bool
declares section =
    begins_with (codes ":predicates") section
    && is_some (first_group_with (begins_with (codes "probabilistic")) section)

-- whether one of these sections does
abbrev pub is_declared_in : Forest → Bool
is_declared_in nothing = false
is_declared_in (word span text rest) = is_declared_in rest
is_declared_in (group span parts rest) = if declares parts then true else is_declared_in rest

-- the role of a text's forms. Nothing is recognised where a predicate is named `probabilistic`
abbrev pub is_declared : Forest → Bool
is_declared trees =
    option_map_or (λ d. is_declared_in d.1)
    (first_group_with (is_definition (codes "domain")) trees) false

abbrev pub text_role : Forest → Role
text_role trees = if is_declared trees then Passed else Text
