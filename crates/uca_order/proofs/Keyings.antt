-- What is read of a text that is given as bytes of UTF-8.
use Rattle.std.proofs.Common.{◌≡◌, ℕ, true, List, chars}
use Rattle.std.proofs.lemmas.Str.{scalars-chars}
use Rattle.std.specs.Char.{IsScalar}
use Rattle.std.specs.List.{AllByRecursion}
use Rattle.std.specs.Str.{IsUtf8, all_scalars}
use Rattle.unicode_normalization.specs.Forms.{nfd}
use Rattle.uca_scalars.proofs.NfdScalars.{each_nfd_scalar, normal_scalars}
use Rattle.uca_weights.specs.declared.Asked.{Asked}
use Rattle.uca_weights.specs.declared.Numbers.{Numbers}
use Rattle.uca_values.specs.Content.{TableContent, Properties, Fits, IsTable}
use Rattle.uca_elements.proofs.Collations.{elements_fit}
use Rattle.uca_order.specs.Depths.{written, written_text}
use Rattle.uca_order.specs.Keyings.{Keying, keying, read_of}
use Rattle.uca_order.proofs.WrittenScalars.{written_scalars}

-- its code points in Normalization Form D are Unicode scalar values, with the code of each number too
pub read_scalars : (numbers : Numbers) (bytes : List ℕ) → IsUtf8 bytes → AllByRecursion IsScalar (nfd (written numbers (chars bytes)))
read_scalars numbers bytes utf8 = each_nfd_scalar (written numbers (chars bytes)) (written_scalars numbers (chars bytes) (scalars-chars bytes utf8))

-- those of an identical level
pub own_scalars : (k : Keying) (bytes : List ℕ) → IsUtf8 bytes → all_scalars (read_of k bytes).points ≡ true
own_scalars k bytes utf8 = normal_scalars (chars bytes) (scalars-chars bytes utf8)

-- under a table its elements have weights of 16 bits
pub bytes_fit : (asked : Asked) (table : TableContent) (properties : Properties) → IsTable table → (bytes : List ℕ) → IsUtf8 bytes →
    AllByRecursion Fits (read_of (keying asked table properties) bytes).elements
bytes_fit asked table properties is bytes utf8 =
    elements_fit table properties is (written_text asked.numbers properties (chars bytes)) (read_scalars asked.numbers bytes utf8)
