-- The kinds of collation elements (UTS #10, section 3).
use Rattle.std.specs.Prelude.{◌≡◌, ◌≢◌}
use Rattle.uca_weights.specs.declared.Element.{Element}

-- it has a weight at level 1
abbrev pub IsPrimaryElement : Element → Type 0
IsPrimaryElement e = e.primary ≢ 0

-- its first weight is at level 2
abbrev pub IsSecondaryElement : Element → Type 0
IsSecondaryElement e = (e.primary ≡ 0) × (e.secondary ≢ 0)

-- its only weight is at level 3
abbrev pub IsTertiaryElement : Element → Type 0
IsTertiaryElement e = (e.primary ≡ 0) × (e.secondary ≡ 0) × (e.tertiary ≢ 0)

-- it has no weight
abbrev pub IsCompletelyIgnorable : Element → Type 0
IsCompletelyIgnorable e = (e.primary ≡ 0) × (e.secondary ≡ 0) × (e.tertiary ≡ 0)

-- it has a weight at level 1 alone, and goes on with the weights of an element before it
abbrev pub IsContinuation : Element → Type 0
IsContinuation e = (e.primary ≢ 0) × (e.secondary ≡ 0) × (e.tertiary ≡ 0)
