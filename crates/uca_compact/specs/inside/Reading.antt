-- Reading compact keys, in steps as a decoder has them.
use Rattle.std.specs.Prelude.{ℕ, zero, suc, ◌+◌, ◌*◌, ◌-◌, ◌/◌, ◌%◌, List, [], ◌∷◌, ◌++◌, Bool, true, false, Option, Some, None, length, min, nat_lt, nat_eq, if◌then◌else◌}
use Rattle.std.specs.Ordering.{nat_cmp, is_lt, is_gt}
use Rattle.std.specs.declared.cmp.Ordering.{Ordering}
use Rattle.std.specs.declared.cmp.Ordering.TheVariants.{Less, Equal, Greater}
use Rattle.std.specs.Str.{chars, is_utf8}
use Rattle.uca_weights.specs.declared.Depth.{Depth}
use Rattle.uca_weights.specs.declared.Depth.TheVariants.{Weights, Identical}
use Rattle.uca_weights.specs.declared.Weighting.{Weighting}
use Rattle.uca_order.specs.Levels.{lexicographic}
use Rattle.uca_books.specs.Books.{BookContent}
use Rattle.uca_compact.specs.Forms.{Form, step, full, first_cell, forms_of}
use Rattle.uca_compact.specs.PlainLevels.{copies, plain_level}
use Rattle.uca_compact.specs.CompactKeys.{Plain, KeyParts}

-- ---- Weights

-- a number that was read, and the bytes after it
abbrev pub ReadNumber : Type 0
ReadNumber = ℕ × List ℕ

abbrev pub one_byte : List ℕ → Option ReadNumber
one_byte [] = None
one_byte (a ∷ bytes) = Some (a, bytes)

abbrev pub two_bytes : List ℕ → Option ReadNumber
two_bytes [] = None
two_bytes (a ∷ []) = None
two_bytes (a ∷ b ∷ bytes) = Some (256 * a + b, bytes)

-- an offset in a cell of this width
abbrev pub read_offset : (width : ℕ) → List ℕ → Option ReadNumber
read_offset width bytes =
    if nat_lt width 2 then Some (0, bytes) else if nat_lt width 257 then one_byte bytes else two_bytes bytes

-- the weight with this offset, if the cell has it
abbrev pub weight_within : (start end : ℕ) → Option ReadNumber → Option ReadNumber
weight_within start end None = None
weight_within start end (Some offset) = if nat_lt (start + offset.0) end then Some (start + offset.0, offset.1) else None

-- a weight of the cell `wanted`; the cells from `number` on start at `start` and at the starts in the list
abbrev pub read_cell : (number start : ℕ) → List ℕ → (end wanted : ℕ) → List ℕ → Option ReadNumber
read_cell number start [] end wanted bytes =
    if nat_eq wanted number then weight_within start end (read_offset (end - start) bytes) else None
read_cell number start (next ∷ later) end wanted bytes =
    if nat_eq wanted number then weight_within start next (read_offset (next - start) bytes) else
    read_cell (suc number) next later end wanted bytes

-- ---- A level

-- what is read of a level: its weights, its end, and the bytes after it
pub record ReadLevel : Type 0 where
  pub weights : List ℕ
  pub end : ℕ
  pub rest : List ℕ

-- these weights before those that are read
abbrev pub with_weights : List ℕ → Option ReadLevel → Option ReadLevel
with_weights front None = None
with_weights front (Some r) = Some (record { weights = front ++ r.weights; end = r.end; rest = r.rest })

-- these weights and the one that is read, before those that are read after it
abbrev pub with_weight : List ℕ → Option ReadNumber → (List ℕ → Option ReadLevel) → Option ReadLevel
with_weight front None more = None
with_weight front (Some x) more = with_weights (front ++ x.0 ∷ []) (more x.1)

-- a weight of cells that rise from `start` on; the number of its cell is the next byte
abbrev pub next_cell : (number start : ℕ) → List ℕ → (end : ℕ) → List ℕ → Option ReadNumber
next_cell number start later end [] = None
next_cell number start later end (wanted ∷ bytes) = read_cell number start later end wanted bytes

-- a lesser weight after these weights
abbrev pub lesser_then : Form → List ℕ → List ℕ → (List ℕ → Option ReadLevel) → Option ReadLevel
lesser_then f front bytes more = with_weight front (next_cell 0 1 f.lesser f.common bytes) more

-- a greater one
abbrev pub greater_then : Form → List ℕ → List ℕ → (List ℕ → Option ReadLevel) → Option ReadLevel
greater_then f front bytes more = with_weight front (next_cell (first_cell f) (suc f.common) f.greater 65536 bytes) more

-- a longest run, if there is a common weight, and what is read after it
abbrev pub longest_run_then : Form → Option ReadLevel → Option ReadLevel
longest_run_then f more = if nat_eq f.common 0 then None else with_weights (copies f.common f.longest) more

-- A level, in at most `steps` steps. Each step is a run, and the end or the weight that follows it.
abbrev pub read_steps : Form → (steps : ℕ) → List ℕ → Option ReadLevel
read_steps f zero bytes = None
read_steps f (suc steps) [] = None
read_steps f (suc steps) (b ∷ bytes) =
    if nat_lt b (full f) then
    (if nat_lt (b % step f) f.ends then Some (record { weights = copies f.common (b / step f); end = b % step f; rest = bytes }) else
    lesser_then f (copies f.common (b / step f)) bytes (read_steps f steps)) else
    if nat_eq b (full f) then longest_run_then f (read_steps f steps bytes) else
    if nat_lt b (first_cell f) then greater_then f (copies f.common (first_cell f - b)) bytes (read_steps f steps) else
    greater_then f [] (b ∷ bytes) (read_steps f steps)

-- a level; each step takes a byte at least
abbrev pub read_level : Form → List ℕ → Option ReadLevel
read_level f bytes = read_steps f (length bytes) bytes

-- ---- Levels

-- what is read of all levels, and the bytes after them
pub record ReadLevels : Type 0 where
  pub levels : List (List ℕ)
  pub rest : List ℕ

-- this level before those that are read
abbrev pub with_level : List ℕ → Option ReadLevels → Option ReadLevels
with_level level None = None
with_level level (Some k) = Some (record { levels = level ∷ k.levels; rest = k.rest })

-- the level that is read, if it passes a test, before those that are read after it
abbrev pub level_then : (List ℕ → Bool) → Option ReadLevel → (List ℕ → ℕ → List ℕ → Option ReadLevels) → Option ReadLevels
level_then passes None more = None
level_then passes (Some r) more = if passes r.weights then with_level r.weights (more r.weights r.end r.rest) else None

-- how many plain levels follow a level with this end; `later` levels follow it
abbrev pub plain_count : (later end : ℕ) → ℕ
plain_count later end = min end (2 * later - end)

-- A level that is written is not plain: it is less than the plain one, or greater, as the end before it says.
abbrev pub is_on_side : Ordering → Ordering → Bool
is_on_side Less order = is_lt order
is_on_side Equal order = false
is_on_side Greater order = is_gt order

-- The levels after some. The next `count` of them are plain, and the one after these is on this side of the plain one.
abbrev pub read_later : Plain → List Form → (earlier : List (List ℕ)) → (count : ℕ) → (side : Ordering) → List ℕ → Option ReadLevels
read_later plain [] earlier count side bytes = Some (record { levels = []; rest = bytes })
read_later plain (f ∷ forms) earlier (suc count) side bytes =
    with_level (plain earlier) (read_later plain forms (earlier ++ plain earlier ∷ []) count side bytes)
read_later plain (f ∷ forms) earlier zero side bytes =
    level_then (λ level. is_on_side side (lexicographic level (plain earlier))) (read_level f bytes)
    (λ level end rest. read_later plain forms (earlier ++ level ∷ []) (plain_count (length forms) end) (nat_cmp end (length forms)) rest)

-- all levels
abbrev pub read_levels : Plain → List Form → List ℕ → Option ReadLevels
read_levels plain [] bytes = Some (record { levels = []; rest = bytes })
read_levels plain (f ∷ forms) bytes =
    level_then (λ level. true) (read_level f bytes)
    (λ level end rest. read_later plain forms (level ∷ []) (plain_count (length forms) end) (nat_cmp end (length forms)) rest)

-- ---- Keys

-- the rest of the bytes, after the levels: nothing, or UTF-8
abbrev pub parts_then : Depth → List (List ℕ) → List ℕ → Option KeyParts
parts_then Weights levels [] = Some (record { levels = levels; points = [] })
parts_then Weights levels (a ∷ rest) = None
parts_then Identical levels rest = if is_utf8 rest then Some (record { levels = levels; points = chars rest }) else None

abbrev pub with_rest : Depth → Option ReadLevels → Option KeyParts
with_rest depth None = None
with_rest depth (Some k) = parts_then depth k.levels k.rest

-- the parts of a compact key
abbrev pub read_key : Depth → Weighting → BookContent → List ℕ → Option KeyParts
read_key depth weighting b bytes = with_rest depth (read_levels plain_level (forms_of weighting b) bytes)
