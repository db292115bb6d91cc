-- Reading compact keys, as a program takes its steps.
use Rattle.std.specs.Prelude.{◌≡◌, ⊤, ℕ, zero, suc, ◌-◌, ◌/◌, ◌%◌, ◌<◌, List, [], ◌∷◌, Bool, Option, Some, None, length, option_map, nat_lt, if◌then◌else◌}
use Rattle.std.specs.Ordering.{nat_cmp}
use Rattle.std.specs.Str.{chars, is_utf8}
use Rattle.std.specs.declared.cmp.Ordering.{Ordering}
use Rattle.uca_weights.specs.declared.Depth.{Depth}
use Rattle.uca_weights.specs.declared.Depth.TheVariants.{Weights, Identical}
use Rattle.uca_weights.specs.declared.Weighting.{Weighting}
use Rattle.uca_order.specs.Levels.{lexicographic}
use Rattle.uca_order.specs.Depths.{points_bytes}
use Rattle.uca_books.specs.Books.{BookContent}
use Rattle.uca_compact.specs.Forms.{Form, step, first_cell, AreForms, forms_of}
use Rattle.uca_compact.specs.PlainLevels.{copies, plain_level}
use Rattle.uca_compact.specs.CompactKeys.{stored_key}
use Rattle.uca_compact.specs.inside.Reading.{ReadNumber, next_cell, ReadLevel, with_weights, lesser_then, greater_then, read_level, ReadLevels, plain_count, is_on_side, read_levels, read_key}
use Rattle.uca_compact.specs.declared.cells.Number.{Number}
use Rattle.uca_compact.specs.declared.cells.Cells.{Cells}
use Rattle.uca_compact.specs.declared.level_reader.LevelEnd.{LevelEnd}
use Rattle.uca_compact.specs.declared.level_reader.Step.{Step}
use Rattle.uca_compact.specs.declared.level_reader.Step.TheVariants.{More, End, Nothing}
use Rattle.uca_compact.specs.declared.key_reader.Later.{Later}

-- ---- Weights

-- the number that was read
abbrev pub number_of : Option Number → Option ReadNumber
number_of None = None
number_of (Some n) = Some (n.value, n.rest.now)

-- cells of weights: the number of the first, where it starts, where the later ones start, and where the last one ends
pub record CellRow : Type 0 where
  pub number : ℕ
  pub start : ℕ
  pub later : List ℕ
  pub end : ℕ

abbrev pub row_of : Cells → CellRow
row_of c = record { number = c.number; start = c.start; later = c.later.now; end = c.end }

-- a weight of these cells
abbrev pub next_in : CellRow → List ℕ → Option ReadNumber
next_in c bytes = next_cell c.number c.start c.later c.end bytes

abbrev pub lesser_row : Form → CellRow
lesser_row f = record { number = 0; start = 1; later = f.lesser; end = f.common }

abbrev pub greater_row : Form → CellRow
greater_row f = record { number = first_cell f; start = suc f.common; later = f.greater; end = 65536 }

-- ---- A level

-- what is read of the level after a step, with these weights so far
abbrev pub after_step : (List ℕ → Option ReadLevel) → List ℕ → Step → Option ReadLevel
after_step more ws (More rest) = with_weights ws (more rest.now)
after_step more ws (End e) = Some (record { weights = ws; end = e.end; rest = e.rest.now })
after_step more ws Nothing = None

-- the step leaves less than so many bytes
abbrev pub LeavesLess : Step → ℕ → Type 0
LeavesLess (More rest) n = length rest.now < n
LeavesLess (End e) n = ⊤
LeavesLess Nothing n = ⊤

-- a code below that of a longest run: a run, and the end of the level or a lesser weight
abbrev pub low_then : Form → (code : ℕ) → List ℕ → (List ℕ → Option ReadLevel) → Option ReadLevel
low_then f code bytes more =
    if nat_lt (code % step f) f.ends then Some (record { weights = copies f.common (code / step f); end = code % step f; rest = bytes }) else
    lesser_then f (copies f.common (code / step f)) bytes more

-- one above it: a run and a greater weight, or a greater weight alone
abbrev pub high_then : Form → (code : ℕ) → List ℕ → (List ℕ → Option ReadLevel) → Option ReadLevel
high_then f code bytes more =
    if nat_lt code (first_cell f) then greater_then f (copies f.common (first_cell f - code)) bytes more else
    greater_then f [] (code ∷ bytes) more

-- the level that was read
abbrev pub level_of_end : Option LevelEnd → List ℕ → Option ReadLevel
level_of_end None ws = None
level_of_end (Some e) ws = Some (record { weights = ws; end = e.end; rest = e.rest.now })

-- ---- Levels

-- A level, and what its end tells: so many of the next levels are plain, and the one after these is on this side of
-- the plain one. The bytes are those after the level.
pub record LevelThen : Type 0 where
  pub level : List ℕ
  pub count : ℕ
  pub side : Ordering
  pub rest : List ℕ

abbrev pub then_of : Option Later → List ℕ → Option LevelThen
then_of None ws = None
then_of (Some k) ws = Some (record { level = ws; count = k.count; side = k.side; rest = k.rest.now })

-- what a level that was read tells of the `later` levels after it
abbrev pub told_of : (later : ℕ) → Option ReadLevel → Option LevelThen
told_of later None = None
told_of later (Some r) = Some (record { level = r.weights; count = plain_count later r.end; side = nat_cmp r.end later; rest = r.rest })

-- what passes a test
abbrev pub passed : (List ℕ → Bool) → Option LevelThen → Option LevelThen
passed test None = None
passed test (Some t) = if test t.level then Some t else None

-- a level after others: the plain one, or one on this side of it that is read
abbrev pub level_by : Form → (later : ℕ) → (plain : List ℕ) → (count : ℕ) → Ordering → List ℕ → Option LevelThen
level_by f later plain zero side bytes = passed (λ level. is_on_side side (lexicographic level plain)) (told_of later (read_level f bytes))
level_by f later plain (suc count) side bytes = Some (record { level = plain; count = count; side = side; rest = bytes })

-- by what the level before it told
abbrev pub level_after : Form → (later : ℕ) → (plain : List ℕ) → Option Later → Option LevelThen
level_after f later plain None = None
level_after f later plain (Some k) = level_by f later plain k.count k.side k.rest.now

-- these levels, and the bytes after them
abbrev pub levels_of : Option Later → List (List ℕ) → Option ReadLevels
levels_of None levels = None
levels_of (Some k) levels = Some (record { levels = levels; rest = k.rest.now })

-- all levels were read
pub record AreRead (weighting : Weighting) (b : BookContent) (bytes : List ℕ) (last : Option Later) (levels : List (List ℕ)) : Type 0 where
  pub forms : AreForms (forms_of weighting b)
  pub read : read_levels plain_level (forms_of weighting b) bytes ≡ levels_of last levels

-- ---- Keys

-- what a key has after its levels, by the bytes after the levels of a compact key
abbrev pub key_end : Depth → List ℕ → Option (List ℕ)
key_end Weights [] = Some []
key_end Weights (byte ∷ bytes) = None
key_end Identical bytes = if is_utf8 bytes then Some (0 ∷ 0 ∷ points_bytes (chars bytes)) else None

-- this is the key of what is read of the bytes, or nothing is read
pub record IsExpanded (depth : Depth) (weighting : Weighting) (b : BookContent) (compact key : List ℕ) (found : Bool) : Type 0 where
  pub forms : AreForms (forms_of weighting b)
  pub read : option_map (stored_key depth) (read_key depth weighting b compact) ≡ (if found then Some key else None)
