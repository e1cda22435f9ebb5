use Rattle.std.proofs.Common.{string_bytes}
use Rattle.dead_ends.specs.Texts.{end_text, place_text}
use Rattle.dead_ends.specs.Values.{stray_value}
use Rattle.task_core.specs.Tasks.{fluent_count, fluent_names}
use Rattle.dead_ends.proofs.Pushed.{pushed_two}
use Rattle.dead_ends.proofs.texts.push_dead_end.Goals as goal

pub returns : goal.returns
returns c =
    let n = fluent_count c.args.task.now in
    let stray = stray_value n c.args.stray.now in
    pushed_two c.push_end.result (string_bytes c.args.out.now) (place_text stray) (end_text (fluent_names c.args.task.now) c.args.class stray.after) (string_bytes c.push_place.new.out) (string_bytes c.push_end.new.out)
    (c.in_ok-push_place.ensures n) c.push_end.ensures
