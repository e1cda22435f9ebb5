use Rattle.plan_io.proofs.Files.{files_of-insert}
use Rattle.plan_io.proofs.mem_shelf.MemShelf.add.Goals as goal

pub returns-clause-ok : goal.returns-clause-ok
returns-clause-ok c =
    let files = files_of-insert c.self.inside.stored c.insert.new.self c.in_ok-name.name c.in_ok-file.file c.in_ok-insert.ensures.updates in
    rw (← c.self.view_is, files, c.in_ok-name.ensures.ok, c.in_ok-file.ensures.items)
