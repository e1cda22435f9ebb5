-- Which picture is wanted.
use Rattle.command_base.specs.Words.{Bytes}

-- how a plan is shown: as a text in the DOT language, state by state or rule by rule, or as a page to
-- step through it; and with the run of the explanation in the file of this name
pub data PictureForm : Type 0 where
  as_graph : PictureForm
  as_graph_with : Bytes → PictureForm
  as_rules : PictureForm
  as_page : PictureForm
  as_page_with : Bytes → PictureForm

-- what is asked: a picture of the plan, for the domain and the problem, in the files of these names,
-- in this form
pub record PictureWords : Type 0 where
  pub domain : Bytes
  pub problem : Bytes
  pub plan : Bytes
  pub form : PictureForm
