-- Every place is a copy of one that is not used.
use Rattle.std.proofs.Common.{◌≡◌, [], refl, is_ok, vec_len}
use Rattle.dd_cache.specs.Places.{pairs_of}
use Rattle.dd_cache.proofs.PlaceLemmas.{unused_place, cleared, none_placed}
use Rattle.dd_cache.proofs.cache.clear.Goals as goal
use Rattle.dd_cache.proofs.cache.clear.Goals.{After-resize}

none : (c : After-resize) → pairs_of c.resize.new.self.items ≡ []
none c = cleared c.resize.new.self.items c.clear.new.self.items c.args.places (vec_len c.clear.new.self) unused_place refl c.clear.ensures.items (is_ok c.resize.result) c.resize.ensures.items

pub returns-clause-empty : goal.returns-clause-empty
returns-clause-empty c = none c

pub returns-clause-placed : goal.returns-clause-placed
returns-clause-placed c = none_placed c.resize.new.self.items (none c)
