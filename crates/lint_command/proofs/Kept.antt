-- Where no limit is passed there are few objects.
use Rattle.std.proofs.Common.{◌≡◌, Bool, true, false, not, Option, Some, None, cond, refl}
use Rattle.pddl_ast.specs.Trees.{DomainTree, ProblemTree}
use Rattle.pddl_system.specs.Sizes.{first_passed, keeps, object_limit}

head_kept : {X : Type 0} (kept : Bool) (x : X) (rest : Option X) → cond (not kept) (Some x) rest ≡ None → kept ≡ true
head_kept true x rest is = refl
head_kept false x rest is = absurd (cc is)

pub few_objects : (domain : DomainTree) (problem : ProblemTree) → first_passed domain problem ≡ None → keeps domain problem object_limit ≡ true
few_objects domain problem is = head_kept (keeps domain problem object_limit) object_limit _ is
