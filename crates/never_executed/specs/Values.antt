-- Private: what the code's own types stand for.
use Rattle.never_executed.specs.Makers.{MakerPlace}
use Rattle.never_executed.specs.declared.makers.Maker.{Maker}

abbrev pub maker_value : Maker → MakerPlace
maker_value maker = record { action = maker.action.0; outcome = maker.outcome }
