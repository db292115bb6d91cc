-- `FIRST..LAST`, a range of code points.
use Rattle.std.specs.Prelude.{ℕ, List, Option, Some, None, Result, Ok, Err, codes}
use Rattle.uca_lines.specs.declared.fields.RangeSyntax.{RangeSyntax}
use Rattle.uca_lines.specs.declared.fields.RangeSyntax.TheVariants as faults
use Rattle.uca_lines.specs.Fields.{halves}
use Rattle.uca_lines.specs.Numbers.{code_point_of}

abbrev pub ends_of : Option ℕ → Option ℕ → Result (ℕ × ℕ) RangeSyntax
ends_of (Some first) (Some last) = Ok (first, last)
ends_of (Some first) None = Err faults.CodePoint
ends_of None last = Err faults.CodePoint

abbrev pub range_between : Option (List ℕ × List ℕ) → Result (ℕ × ℕ) RangeSyntax
range_between None = Err faults.NoDots
range_between (Some ends) = ends_of (code_point_of ends.0) (code_point_of ends.1)

-- the ends of a range, in whichever order, or why the text is none
abbrev pub range_of : List ℕ → Result (ℕ × ℕ) RangeSyntax
range_of text = range_between (halves text)

-- the text of an error of a range
abbrev pub range_syntax_text : RangeSyntax → List ℕ
range_syntax_text faults.NoDots = codes "no `..`"
range_syntax_text faults.CodePoint = codes "no code point"
