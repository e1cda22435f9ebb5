use Rattle.plan_page.proofs.NoMarkup.{escaped_free}
use Rattle.plan_page.proofs.laws.no_markup_in_data.Goals as goal

pub returns : goal.returns
returns c = escaped_free
