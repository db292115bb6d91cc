-- The sizes of a plan's rows: those that every table has, except the bits of weights.
use Rattle.std.specs.Prelude.{◌≡◌, ◌≤◌, List, length, Ok}
use Rattle.std.specs.List.{AllByRecursion}
use Rattle.std.specs.Char.{IsScalar}
use Rattle.uca_values.specs.Content.{Entry, AreDistinct, AreRows}
use Rattle.uca_relations.specs.declared.Relation.{Relation}
use Rattle.uca_relations.specs.Relations.{AreRules}
use Rattle.uca_plans.specs.Plans.{Basis, Plan, planned}

-- 1 to 16 code points, and 1 to 32 elements
pub record IsSizedRow (row : Entry) : Type 0 where
  pub points : AllByRecursion IsScalar row.key
  pub some_points : 1 ≤ length row.key
  pub few_points : length row.key ≤ 16
  pub some_elements : 1 ≤ length row.elements
  pub few_elements : length row.elements ≤ 32

-- at most 200,000 such rows, none with the key of another
pub record AreSizedRows (rows : List Entry) : Type 0 where
  pub entries : AllByRecursion IsSizedRow rows
  pub distinct : AreDistinct rows
  pub few : length rows ≤ 200000

-- the rows of a plan have the sizes that the rows of a table have
abbrev pub PlansHaveSizedRows : Type 0
PlansHaveSizedRows = (basis : Basis) (relations : List Relation) (plan : Plan) → AreRows basis.base → AreRules relations →
    planned basis relations ≡ Ok plan → AreSizedRows plan.rows
