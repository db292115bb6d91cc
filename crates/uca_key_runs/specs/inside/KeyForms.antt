-- The forms of a line of output that has a key.
use Rattle.std.specs.Prelude.{◌≡◌, ℕ, List, Bool, true, false, Option, Some, None, option_map, ⊤, chars}
use Rattle.uca_weights.specs.declared.Settings.{Settings}
use Rattle.uca_weights.specs.declared.Weighting.{Weighting}
use Rattle.uca_weights.specs.declared.Depth.{Depth}
use Rattle.uca_weights.specs.declared.Depth.TheVariants.{Weights, Identical}
use Rattle.uca_books.specs.Books.{BookContent}
use Rattle.uca_order.specs.Depths.{ReadText, read_points, key_at}
use Rattle.uca_order.specs.Lengths.{HasShortRows}
use Rattle.uca_key_runs.specs.declared.keys.KeyForm.{KeyForm}
use Rattle.uca_key_runs.specs.declared.keys.KeyForm.TheVariants.{Alone, Digits, BeforeLine}
use Rattle.uca_order.specs.Keyings.{Keying}
use Rattle.uca_run_parts.specs.Print.{print_line_at, digits_line_of, keyed_line_of}
use Rattle.uca_compact.specs.CompactKeys.{compact_key, text_parts}
use Rattle.uca_compact.specs.Programs.{CompacterState}

-- the depth of the key that is made for a form: a key alone shows its identical level otherwise than the weights
abbrev pub depth_as : KeyForm → Depth → Depth
depth_as Alone depth = Weights
depth_as Digits depth = depth
depth_as BeforeLine depth = depth

-- whether the code points of the text are printed: those of a key alone are, with an identical level
abbrev pub shows_points : KeyForm → Depth → Bool
shows_points Alone Weights = false
shows_points Alone Identical = true
shows_points Digits depth = false
shows_points BeforeLine depth = false

-- the line of output, by that key, the code points of the text, and the line of the input
abbrev pub printed_as : KeyForm → Depth → List ℕ → List ℕ → List ℕ → List ℕ
printed_as Alone depth key points line = print_line_at depth key points
printed_as Digits depth key points line = digits_line_of key
printed_as BeforeLine depth key points line = keyed_line_of key line

-- the key that is shown of a text: the whole one, or the compact one by a book
abbrev pub shown_at : Option BookContent → Depth → Weighting → ReadText → List ℕ
shown_at None depth weighting text = key_at depth weighting text
shown_at (Some book) depth weighting text = compact_key depth weighting book (text_parts depth weighting text)

-- the line of output of a line with its text
abbrev pub text_as : KeyForm → Option BookContent → Keying → ReadText → List ℕ → List ℕ
text_as form book c text line =
    printed_as form c.settings.depth (shown_at book (depth_as form c.settings.depth) c.settings.weighting text) text.points line

-- that of a line of the input, which is UTF-8
abbrev pub line_as : KeyForm → Option BookContent → Keying → List ℕ → List ℕ
line_as form book c line = text_as form book c (read_points c.collation c.settings.numbers (chars line)) line

-- ---- What makes compact keys of keys

-- what a clause sees of it: the compacter, and the compact key that was made last
pub record CompactState : Type 0 where
  pub by : CompacterState
  pub key : List ℕ

-- the book, where compact keys are made
abbrev pub book_of : Option CompactState → Option BookContent
book_of compact = option_map (λ c. c.by.book) compact

-- what compact keys are made by
abbrev pub compacter_of : Option CompactState → Option CompacterState
compacter_of compact = option_map (λ c. c.by) compact

-- the key that is shown: the compact one, where it is made
abbrev pub shown_of : Option CompactState → List ℕ → List ℕ
shown_of None key = key
shown_of (Some c) key = c.key

-- it makes compact keys of the keys of these settings
abbrev pub IsFor : Option CompacterState → Settings → Type 0
IsFor None settings = ⊤
IsFor (Some by) settings = by.settings ≡ settings

-- ---- A writer of the keys of a form

-- keys of the form at that depth go by this
pub record MakesKeys (form : KeyForm) (depth : Depth) (c : Keying) : Type 0 where
  pub key_depth : c.settings.depth ≡ depth_as form depth
  pub short_rows : HasShortRows c.collation.rows
