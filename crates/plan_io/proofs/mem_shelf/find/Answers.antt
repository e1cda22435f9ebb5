use Rattle.std.proofs.Common.{sym, ap, ◌∙◌}
use Rattle.std.specs.Option.{option_map}
use Rattle.plan_io.specs.MemShelf.{told}
use Rattle.plan_io.proofs.Files.{get-files_of, option_map-copied}
use Rattle.plan_io.proofs.mem_shelf.find.Goals as goal

pub returns : goal.returns
returns c =
    ap told (get-files_of c.args.stored.now c.args.name.now
    ∙ ap (option_map (λ v. v.items)) (sym c.get.ensures.value)
    ∙ option_map-copied c.get.result)
