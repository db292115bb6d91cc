-- Compact keys: a shorter form of keys. Byte order of compact keys is that of the keys. Without an identical level no
-- compact key begins another.
use Rattle.std.specs.Prelude.{◌≡◌, ℕ, zero, suc, ◌+◌, ◌*◌, ◌-◌, ◌/◌, ◌%◌, List, [], ◌∷◌, ◌++◌, true, length, nat_lt, nat_eq, if◌then◌else◌}
use Rattle.std.specs.Str.{bytes_eq, encode_utf8_all, all_scalars}
use Rattle.std.specs.Ordering.{nat_cmp}
use Rattle.std.specs.declared.cmp.Ordering.{Ordering}
use Rattle.std.specs.declared.cmp.Ordering.TheVariants.{Less, Equal, Greater}
use Rattle.uca_weights.specs.declared.Depth.{Depth}
use Rattle.uca_weights.specs.declared.Depth.TheVariants.{Weights, Identical}
use Rattle.uca_weights.specs.declared.Weighting.{Weighting}
use Rattle.uca_order.specs.Levels.{lexicographic, level_lists, level_count, levels_bytes}
use Rattle.uca_order.specs.Depths.{ReadText, points_bytes}
use Rattle.uca_books.specs.Books.{BookContent}
use Rattle.uca_compact.specs.Forms.{Form, step, full, first_cell, AreLevels, forms_of}
use Rattle.uca_compact.specs.PlainLevels.{plain_level}

-- ---- Weights

-- an offset in a cell of this width, in as many bytes as the width needs
abbrev pub offset_bytes : (width offset : ℕ) → List ℕ
offset_bytes width offset =
    if nat_lt width 2 then [] else
    if nat_lt width 257 then offset ∷ [] else
    offset / 256 ∷ offset % 256 ∷ []

-- A weight: the number of its cell, and its offset there. Cell `number` starts at `start`, the next ones at the starts
-- in the list, and the last one ends before `end`.
abbrev pub cell : (number start : ℕ) → List ℕ → (end : ℕ) → ℕ → List ℕ
cell number start [] end w = number ∷ offset_bytes (end - start) (w - start)
cell number start (next ∷ later) end w =
    if nat_lt w next then number ∷ offset_bytes (next - start) (w - start) else cell (suc number) next later end w

-- ---- A level: runs of the common weight, other weights, and an end

-- what a run is written as before a greater weight: longer runs have lesser codes
abbrev pub run_before_greater : Form → ℕ → List ℕ
run_before_greater f zero = []
run_before_greater f (suc n) = (first_cell f - suc n) ∷ []

-- what is written for a weight after a run, by how it compares to the common one
abbrev pub written : Form → (run w : ℕ) → Ordering → List ℕ
written f run w Less = (run * step f + f.ends) ∷ cell 0 1 f.lesser f.common w
written f run w Equal = if nat_eq (suc run) f.longest then full f ∷ [] else []
written f run w Greater = run_before_greater f run ++ cell (first_cell f) (suc f.common) f.greater 65536 w

-- the length of the run after that weight
abbrev pub run_after : Form → (run : ℕ) → Ordering → ℕ
run_after f run Less = 0
run_after f run Equal = if nat_eq (suc run) f.longest then 0 else suc run
run_after f run Greater = 0

-- the rest of a level after a run, with its end
abbrev pub level_code : Form → (end run : ℕ) → List ℕ → List ℕ
level_code f end run [] = (run * step f + end) ∷ []
level_code f end run (w ∷ ws) =
    written f run w (nat_cmp w f.common) ++ level_code f end (run_after f run (nat_cmp w f.common)) ws

-- ---- Levels: plain ones are left out

-- what the plain level after some levels is
abbrev pub Plain : Type 0
Plain = List (List ℕ) → List ℕ

-- the end by how the next level compares to the plain one; `later` levels come after it, and `more` is the end by these
abbrev pub end_by : Ordering → (all later more : ℕ) → ℕ
end_by Less all later more = all - suc later
end_by Equal all later more = more
end_by Greater all later more = all + suc later

-- The end of a level: `all` if all levels after it are plain. Else it tells the first that is not plain. It differs
-- from `all` by the number of levels from that one on. It is less where that level is less than the plain one, and
-- greater where it is greater.
abbrev pub end_of : Plain → (all : ℕ) → (earlier levels : List (List ℕ)) → ℕ
end_of plain all earlier [] = all
end_of plain all earlier (level ∷ later) =
    end_by (lexicographic level (plain earlier)) all (length later) (end_of plain all (earlier ++ level ∷ []) later)

-- a level that is written, with the end by the levels after it
abbrev pub ended_level : Plain → Form → (earlier : List (List ℕ)) → List ℕ → (later : List (List ℕ)) → List ℕ
ended_level plain f earlier level later = level_code f (end_of plain (length later) (earlier ++ level ∷ []) later) 0 level

-- the levels after the first
abbrev pub later_levels : Plain → List Form → (earlier levels : List (List ℕ)) → List ℕ
later_levels plain forms earlier [] = []
later_levels plain [] earlier (level ∷ later) = []
later_levels plain (f ∷ forms) earlier (level ∷ later) =
    if bytes_eq level (plain earlier) then later_levels plain forms (earlier ++ level ∷ []) later else
    ended_level plain f earlier level later ++ later_levels plain forms (earlier ++ level ∷ []) later

-- all levels; the first is always written
abbrev pub compact : Plain → List Form → List (List ℕ) → List ℕ
compact plain forms [] = []
compact plain [] (level ∷ later) = []
compact plain (f ∷ forms) (level ∷ later) = ended_level plain f [] level later ++ later_levels plain forms (level ∷ []) later

-- ---- Keys

-- what a key is made of: its levels of weights, and the code points of an identical level
pub record KeyParts : Type 0 where
  pub levels : List (List ℕ)
  pub points : List ℕ

-- the code points of an identical level, or none
abbrev pub points_at : Depth → List ℕ → List ℕ
points_at Weights points = []
points_at Identical points = points

-- the parts of the key of a text
abbrev pub text_parts : Depth → Weighting → ReadText → KeyParts
text_parts depth weighting t = record { levels = level_lists weighting t.elements; points = points_at depth t.points }

-- a key with these levels: two bytes a weight, and three bytes a code point
abbrev pub stored_key : Depth → KeyParts → List ℕ
stored_key Weights k = levels_bytes k.levels
stored_key Identical k = levels_bytes k.levels ++ (0 ∷ 0 ∷ points_bytes k.points)

-- the compact key with these levels: its code points are UTF-8
abbrev pub compact_key : Depth → Weighting → BookContent → KeyParts → List ℕ
compact_key Weights weighting b k = compact plain_level (forms_of weighting b) k.levels
compact_key Identical weighting b k = compact plain_level (forms_of weighting b) k.levels ++ encode_utf8_all k.points

-- A key may have these parts: as many levels as the weighting, and code points that are Unicode scalar values, which
-- only keys with an identical level have.
pub record AreParts (depth : Depth) (weighting : Weighting) (k : KeyParts) : Type 0 where
  pub levels : AreLevels (level_count weighting) k.levels
  pub points : all_scalars k.points ≡ true
  pub level : points_at depth k.points ≡ k.points
