-- How many bytes the key of a text has at most.
use Rattle.std.proofs.Common.{ℕ, ◌+◌, ◌*◌, ◌≤◌, List, ◌∷◌, length, length-append, chars, arith}
use Rattle.std.specs.Str.{IsUtf8}
use Rattle.uca_weights.specs.declared.Depth.{Depth}
use Rattle.uca_weights.specs.declared.Depth.TheVariants.{Weights, Identical}
use Rattle.uca_weights.specs.declared.Numbers.{Numbers}
use Rattle.uca_weights.specs.declared.Numbers.TheVariants.{AsText}
use Rattle.uca_weights.specs.declared.Weighting.{Weighting}
use Rattle.uca_text.specs.Texts.{classed}
use Rattle.uca_elements.specs.Collations.{Collation, elements_of}
use Rattle.uca_order.specs.Depths.{written_text, read_points, points_bytes, key_at}
use Rattle.uca_order.specs.Keyings.{Keying, key_of_bytes}
use Rattle.uca_order.specs.Lengths.{HasShortRows}
use Rattle.uca_order.specs.Levels.{key_bytes}
use Rattle.uca_order.proofs.KeyLength.{length-key, length-elements, length-with_classes, length-points_bytes}
use Rattle.uca_text_comparer.proofs.ReadLengths.{read_length}
use Rattle.uca_owned.specs.Bounds.{BoundsKeys, key_bound}

-- each byte of a text gives at most 64 elements
few_elements : (c : Collation) (numbers : Numbers) (bytes : List ℕ) → HasShortRows c.rows → IsUtf8 bytes
    → length (elements_of c (written_text numbers c.properties (chars bytes))) ≤ 64 * length bytes
few_elements c numbers bytes short utf8 =
    let text = written_text numbers c.properties (chars bytes) in
    omega (arith, length-elements c (classed text) short, length-with_classes text.points text.classes, read_length numbers bytes utf8)

-- so its key has a length that goes with that of the text
short_key : (depth : Depth) (weighting : Weighting) (c : Collation) (numbers : Numbers) (bytes : List ℕ) → HasShortRows c.rows → IsUtf8 bytes
    → length (key_at depth weighting (read_points c numbers (chars bytes))) ≤ 518 * length bytes + 8
short_key Weights weighting c numbers bytes short utf8 =
    omega (arith, length-key weighting (elements_of c (written_text numbers c.properties (chars bytes))), few_elements c numbers bytes short utf8)
short_key Identical weighting c numbers bytes short utf8 =
    let es = elements_of c (written_text numbers c.properties (chars bytes)) in
    let points = (read_points c numbers (chars bytes)).points in
    let few : length points ≤ 2 * length bytes = read_length AsText bytes utf8 in
    omega (
      arith,
      length-key weighting es,
      few_elements c numbers bytes short utf8,
      length-points_bytes points,
      few,
      length-append (key_bytes weighting es) (0 ∷ 0 ∷ points_bytes points),
    )

pub bounds_keys : (k : Keying) (count : ℕ) → HasShortRows k.collation.rows → BoundsKeys (key_of_bytes k) count (key_bound count)
bounds_keys k count short text fits utf8 =
    omega (arith, short_key k.settings.depth k.settings.weighting k.collation k.settings.numbers text short utf8, fits)
