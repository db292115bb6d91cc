-- The table has what is begun, which has a version.
use Rattle.std.proofs.Common.{ℕ, List, Option, sym, ap, ◌∙◌}
use Rattle.std.specs.Prelude.{string_bytes}
use Rattle.std.specs.Option.{option_map}
use Rattle.uca_table.specs.TableSoFar.{TableSoFar}
use Rattle.uca_table.proofs.lines.TableLines.into_table.Goals as goal

pub returns-in-None : goal.returns-in-None
returns-in-None g c = ap (λ (b : TableSoFar). b.version) (sym c.self.view_is) ∙ ap (option_map string_bytes) c.in-None.is

pub invariant_of-result : goal.invariant_of-result
invariant_of-result g c = record {
  named = c.self.invariant.named _ (ap (option_map string_bytes) c.in-Some.is);
  ranges = c.self.invariant.begun.ranges;
  few = c.self.invariant.begun.few_ranges;
}

pub invariant_of-result-in-Some : goal.invariant_of-result-in-Some
invariant_of-result-in-Some g c = c.self.invariant.begun.rows

pub returns-in-Some : goal.returns-in-Some
returns-in-Some g c =
    let b = c.self.inside in
    let with_version : Option (List ℕ) → TableSoFar
    = λ v. record { version = v; setting = b.setting; ranges = b.ranges.items; rows = b.rows } in
    sym c.self.view_is ∙ ap with_version (ap (option_map string_bytes) c.in-Some.is)
