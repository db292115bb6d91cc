-- The elements of a text under a table have weights of 16 bits, as those of the rows and of implicit weights have.
use Rattle.std.proofs.Common.{◌≡◌, ℕ, ◌<◌, ◌≤◌, List, [], ◌∷◌, Some, arith}
use Rattle.std.specs.Char.{IsScalar}
use Rattle.std.specs.List.{AllByRecursion}
use Rattle.uca_weights.specs.declared.Element.{Element}
use Rattle.uca_weights.proofs.Lists.{each_weaker}
use Rattle.uca_values.specs.declared.ImplicitRange.{ImplicitRange}
use Rattle.uca_values.specs.Content.{IsEntry, Fits, TableContent, Properties, IsTable, AreImplicitRanges}
use Rattle.uca_values.specs.Implicit.{implicit, implicit_pair}
use Rattle.uca_values.proofs.ImplicitPairs.{each_pair}
use Rattle.uca_text.specs.Texts.{NfdText, classed, code_points}
use Rattle.uca_text.proofs.Texts.{letters_occur}
use Rattle.uca_text.proofs.Occurring.{each_occurring}
use Rattle.uca_elements.specs.Rows.{rows_of}
use Rattle.uca_elements.specs.Collations.{elements_of, collation_under}
use Rattle.uca_elements.proofs.RowsByKey.{at_row}
use Rattle.uca_elements.proofs.ReadingEach.{read_each}
use borrow.Table.Char.{scalar_below}

-- those of a lead for implicit weights fit
pair_fits : (lead low : ℕ) → 0xFB00 ≤ lead → lead ≤ 0xFBFF → low < 0x8000 → AllByRecursion Fits (implicit_pair lead low)
pair_fits lead low high below near = (
  record { primary = omega (arith, below); secondary = omega arith; tertiary = omega arith },
  (record { primary = omega (arith, near); secondary = omega arith; tertiary = omega arith }, tt),
)

-- so do the implicit weights of a code point
implicit_fits : (ranges : List ImplicitRange) (properties : Properties) → AreImplicitRanges ranges → (point : ℕ) → IsScalar point →
    AllByRecursion Fits (implicit ranges properties point)
implicit_fits ranges properties are point scalar = each_pair (AllByRecursion Fits) pair_fits ranges properties are point (scalar_below point scalar)

-- and so do all elements of a text of scalar values
pub elements_fit : (table : TableContent) (properties : Properties) → IsTable table → (text : NfdText) → AllByRecursion IsScalar text.points →
    AllByRecursion Fits (elements_of (collation_under table properties) text)
elements_fit table properties is text scalars =
    let of_point = implicit table.header.ranges properties in
    read_each Fits of_point (rows_of table.rows) (classed text)
    (λ key row occurs found. (at_row IsEntry table.rows key row is.rows.entries found).fits)
    (each_occurring (λ c. AllByRecursion Fits (of_point c)) (code_points (classed text)) text.points (letters_occur text.points text.classes)
    (each_weaker IsScalar (λ c. AllByRecursion Fits (of_point c)) (implicit_fits table.header.ranges properties is.header.ranges) text.points scalars))
