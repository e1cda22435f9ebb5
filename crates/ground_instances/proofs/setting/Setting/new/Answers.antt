use Rattle.std.proofs.Math.Path.{fun_ext}
use Rattle.ground_instances.proofs.setting.Setting.new.Goals as goal

pub returns : goal.returns
returns c =
    let objects = fun_ext c.in_ok-objects_by_type.ensures in
    let rigid = fun_ext c.in_ok-changed_predicates.ensures in
    let facts = fun_ext c.in_ok-fact_set.ensures in
    λ i. record { objects = objects i; is_rigid = rigid i; is_fact = facts i }
