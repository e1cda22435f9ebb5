-- Places that were found already, by their numbers.
use Rattle.std.proofs.Common.{◌≡◌, ℕ, ◌<◌, ◌≤◌, List, length, slice_get, slice_index_or, Some, sym, ◌∙◌, ap, arith}
use Rattle.std.specs.Option.{option_map}
use Rattle.std.proofs.lemmas.Option.{get_or_from_slice_get, slice_get-map, slice_get_within}
use Rattle.list_laws.proofs.Elements.{contains_at}
use Rattle.exec_graph.specs.Counting.{add_configuration}
use Rattle.exec_graph.specs.Moves.{configuration_of, found_by, nowhere}
use Rattle.exec_graph.specs.declared.graphs.Place.{Place}
use Rattle.exec_graph.specs.declared.moves.Moves.{Moves}
use Rattle.exec_graph.proofs.Listed.{added_same}
use Rattle.exec_graph.proofs.Skipped.{element}

-- and its configuration
pub found_at : (n : ℕ) (moves : Moves) (number : ℕ) (place : Place) → slice_get moves.places.keys number ≡ Some place
    → slice_get (found_by n moves) number ≡ Some (configuration_of n place)
found_at n moves number place is = slice_get-map (configuration_of n) moves.places.keys number ∙ ap (option_map (configuration_of n)) is

pub here_is : (n : ℕ) (moves : Moves) (number : ℕ) (place : Place) → slice_get moves.places.keys number ≡ Some place
    → slice_index_or (found_by n moves) number nowhere ≡ configuration_of n place
here_is n moves number place is =
    get_or_from_slice_get (found_by n moves) number (configuration_of n place) nowhere (found_at n moves number place is)

pub record KnownPlace (n : ℕ) (moves : Moves) (number : ℕ) : Type 0 where
  pub place : Place
  pub found : slice_get (found_by n moves) number ≡ Some (configuration_of n place)
  pub same : found_by n moves ≡ add_configuration (found_by n moves) (configuration_of n place)
  pub here : slice_index_or (found_by n moves) number nowhere ≡ configuration_of n place
  pub marked : (marks : List ℕ) → length marks ≡ length (found_by n moves) → number ≤ length marks

pub known_place : (n : ℕ) (moves : Moves) (number : ℕ) → number < length moves.places.keys → KnownPlace n moves number
known_place n moves number h =
    let w = element moves.places.keys number h in
    let at = found_at n moves number w.0 w.1 in
    record {
      place = w.0;
      found = at;
      same = sym (added_same (found_by n moves) (configuration_of n w.0) (contains_at (found_by n moves) number (configuration_of n w.0) at));
      here = here_is n moves number w.0 w.1;
      marked = λ marks e. (let l = slice_get_within (found_by n moves) number (configuration_of n w.0) at in omega (arith, e, l));
    }
