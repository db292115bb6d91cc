-- The text of why there is no plan: `relation 3: NeedsPrefix`, `NoRoom 3`, `Memory`.
use Rattle.std.specs.Prelude.{ℕ, List, ◌++◌, codes, decimal, nat_eq, if◌then◌else◌}
use Rattle.uca_weights.specs.Levels.{level_number}
use Rattle.uca_plans.specs.declared.faults.TailorKind.{TailorKind}
use Rattle.uca_plans.specs.declared.faults.TailorKind.TheVariants as kinds
use Rattle.uca_plans.specs.declared.faults.TailorFault.{TailorFault}

-- with the level that has no room
abbrev pub tailor_kind_text : TailorKind → List ℕ
tailor_kind_text kinds.BaseIllFormed = codes "BaseIllFormed"
tailor_kind_text kinds.Anchor = codes "Anchor"
tailor_kind_text kinds.NeedsPrefix = codes "NeedsPrefix"
tailor_kind_text (kinds.NoRoom level) = codes "NoRoom " ++ decimal (level_number level)
tailor_kind_text kinds.Limit = codes "Limit"
tailor_kind_text kinds.ImplicitVariable = codes "ImplicitVariable"
tailor_kind_text kinds.Memory = codes "Memory"

-- the relation, where there is one, and the kind
abbrev pub tailor_fault_text : TailorFault → List ℕ
tailor_fault_text fault =
    if nat_eq fault.relation 0 then tailor_kind_text fault.kind
    else codes "relation " ++ (decimal fault.relation ++ (codes ": " ++ tailor_kind_text fault.kind))
