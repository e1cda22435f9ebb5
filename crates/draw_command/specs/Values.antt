-- Private: what the code's own types stand for.
use Rattle.draw_command.specs.Words.{PictureForm, PictureWords, as_graph, as_graph_with, as_page, as_page_with, as_rules}
use Rattle.draw_command.specs.declared.words.PictureForm.{PictureForm as CodePictureForm}
use Rattle.draw_command.specs.declared.words.PictureForm.TheVariants.{Graph, GraphWith, Page, PageWith, Rules}
use Rattle.draw_command.specs.declared.words.PictureWords.{PictureWords as CodePictureWords}

abbrev pub form_value : CodePictureForm → PictureForm
form_value Graph = as_graph
form_value (GraphWith file) = as_graph_with file.now
form_value Rules = as_rules
form_value Page = as_page
form_value (PageWith file) = as_page_with file.now

abbrev pub picture_words_of : CodePictureWords → PictureWords
picture_words_of words = record {
  domain = words.domain.now;
  problem = words.problem.now;
  plan = words.plan.now;
  form = form_value words.form;
}
