-- A live slot has a value in the slab.
use Rattle.std.proofs.Common.{◌≡◌, true, sym, subst}
use Rattle.dd_sets.specs.LiveSets.{LiveSets, is_live}
use Rattle.dd_sets.proofs.sets.Sets.number.Goals as goal

pub index-requires : goal.index-requires
unfolding is_live
index-requires c = subst (λ (s : LiveSets). is_live s c.args.a.0 ≡ true) (sym c.self.view_is) c.requires
