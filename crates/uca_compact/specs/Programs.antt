-- Forms and compacters in a program.
use Rattle.uca_weights.specs.declared.Settings.{Settings}
use Rattle.uca_compact.specs.declared.levels.LevelForm.{LevelForm}
use Rattle.uca_books.specs.Books.{BookContent}
use Rattle.uca_compact.specs.Forms.{Form}

abbrev pub form_of : LevelForm → Form
form_of f = record { common = f.common; longest = f.longest; ends = f.ends; lesser = f.lesser.now; greater = f.greater.now }

-- what compact keys are made by: a book, and the settings that the keys were made under
pub record CompacterState : Type 0 where
  pub book : BookContent
  pub settings : Settings
