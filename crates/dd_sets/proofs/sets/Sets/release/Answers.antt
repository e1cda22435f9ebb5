-- The slot's value leaves the slab.
use Rattle.std.proofs.Common.{◌≡◌, true, sym, subst, [], ap}
use Rattle.dd_sets.specs.LiveSets.{LiveSets, is_live}
use Rattle.dd_sets.proofs.MadeLemmas.{makes_none}
use Rattle.dd_sets.proofs.SetLemmas.{released}
use Rattle.dd_sets.proofs.sets.Sets.release.Goals as goal

pub remove-requires : goal.remove-requires
unfolding is_live
remove-requires c = subst (λ (s : LiveSets). is_live s c.args.a.0 ≡ true) (sym c.self.view_is) c.requires

pub returns-clause-released : goal.returns-clause-released
returns-clause-released c = released c.self.view_is c.args.a.0 c.remove.ensures.updates.changed c.remove.ensures.updates.others c.remove.ensures.len

pub returns-clause-made : goal.returns-clause-made
returns-clause-made c = makes_none _ _ [] (ap (λ (s : LiveSets). s.nodes) c.self.view_is)
