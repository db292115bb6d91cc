-- Some plans, worked out over the definitions.
use Rattle.std.specs.Prelude.{◌≡◌, ℕ, List, [], ◌∷◌, ◌++◌, true, false, Some, None, Result, Ok, Err, ◌+◌, map, replicate}
use Rattle.uca_weights.specs.declared.Element.{Element}
use Rattle.uca_weights.specs.declared.Strength.TheVariants.{Primary, Secondary, Tertiary, Identical}
use Rattle.uca_weights.specs.declared.Strength.{Strength}
use Rattle.uca_weights.specs.declared.Level.TheVariants.{One, Two, Three}
use Rattle.uca_values.specs.Content.{Entry}
use Rattle.uca_text.specs.Texts.{NfdText}
use Rattle.uca_elements.specs.WorkedTable.{plain, variable, row, small_rows, small_ranges, small_properties, with_contraction}
use Rattle.uca_weights.specs.declared.maps.Run.{Run}
use Rattle.uca_plans.specs.declared.faults.TailorKind.TheVariants as kinds
use Rattle.uca_plans.specs.declared.faults.TailorFault.{TailorFault}
use Rattle.uca_relations.specs.declared.Relation.{Relation}
use Rattle.uca_plans.specs.Lists.{low_segment, high_segment}
use Rattle.uca_plans.specs.Plans.{Basis, Plan, planned}
use Rattle.uca_plans.specs.Room.{places}

-- a text with the classes of the small data file
abbrev pub small_text : List ℕ → NfdText
small_text points = record { points = points; classes = map small_properties.class points }

-- a table of the given rows, with the header and the data file of the small table
abbrev pub over : List Entry → Basis
over rows = record { ranges = small_ranges; properties = small_properties; base = rows }

abbrev pub small : Basis
small = over small_rows

-- a relation without expansion: the target comes after the anchor, or before it
abbrev pub set_after : List ℕ → Strength → List ℕ → Relation
set_after anchor strength target = record { anchor = small_text anchor; before = false; strength = strength; target = small_text target; expansion = None }

abbrev pub set_before : List ℕ → Strength → List ℕ → Relation
set_before anchor strength target = record { anchor = small_text anchor; before = true; strength = strength; target = small_text target; expansion = None }

-- one with an expansion
abbrev pub expanded : List ℕ → Strength → List ℕ → List ℕ → Relation
expanded anchor strength target expansion =
    record {
      anchor = small_text anchor;
      before = false;
      strength = strength;
      target = small_text target;
      expansion = Some (small_text expansion);
    }

abbrev pub run : ℕ → ℕ → ℕ → Run
run from to count = record { from = from; to = to; count = count }

abbrev pub refused : ℕ → kinds.the_data → Result Plan TailorFault
refused relation kind = Err (record { kind = kind; relation = relation })

-- the runs of the small table where every weight stays as it is
abbrev pub small_secondary : List Run
small_secondary = run 0x20 0x20 1 ∷ run 0x24 0x24 2 ∷ run 0x2C 0x2C 1 ∷ []

abbrev pub small_tertiary : List Run
small_tertiary = run 2 2 1 ∷ run 8 8 1 ∷ []

abbrev pub same_runs : List Run
same_runs = run 0x209 0x209 1 ∷ run 0x1C47 0x1C47 1 ∷ run 0x1C60 0x1C60 1 ∷ []

-- the plan where every weight of the small table stays as it is
abbrev pub with_rows : List Entry → Result Plan TailorFault
with_rows rows = Ok (record { rows = small_rows ++ rows; primary = same_runs; secondary = small_secondary; tertiary = small_tertiary })

-- the small table with other weights of `b` at level 1, of U+0300 at level 2, and of `A` at level 3
abbrev pub weighted_rows : ℕ → ℕ → ℕ → List Entry
weighted_rows b grave capital =
    row (0x20 ∷ []) (variable 0x209 0x20 2) ∷
    row (0x61 ∷ []) (plain 0x1C47 0x20 2) ∷
    row (0x41 ∷ []) (plain 0x1C47 0x20 capital) ∷
    row (0x62 ∷ []) (plain b 0x20 2) ∷
    row (0x300 ∷ []) (plain 0 grave 2) ∷
    row (0x301 ∷ []) (plain 0 0x24 2) ∷
    row (0x323 ∷ []) (plain 0 0x2C 2) ∷ []

-- with `b` directly after `a`
abbrev pub close_rows : ℕ → List Entry
close_rows b = weighted_rows b 0x25 8

-- the runs of level 2 where U+0300 moves up by one
abbrev pub moved_grave : List Run
moved_grave = run 0x20 0x20 1 ∷ run 0x24 0x24 1 ∷ run 0x25 0x26 1 ∷ run 0x2C 0x2C 1 ∷ []

-- two letters, the second with its own weights of levels 2 and 3
abbrev pub two_letters : ℕ → ℕ → List Entry
two_letters secondary tertiary = row (0x61 ∷ []) (plain 0x1C47 0x20 2) ∷ row (0x62 ∷ []) (plain 0x1C60 secondary tertiary) ∷ []

-- a variable space, and a letter
abbrev pub space_before : ℕ → List Entry
space_before a = row (0x20 ∷ []) (variable 0x1C46 0x20 2) ∷ row (0x61 ∷ []) (plain a 0x20 2) ∷ []

-- `&a U+0301 < x <<< X &[before 2]b << y &U+0020 <<< z &a U+0323 U+0301 << w`
abbrev pub five_relations : List Relation
five_relations =
    set_after (0x61 ∷ 0x301 ∷ []) Primary (0x78 ∷ []) ∷
    set_after (0x78 ∷ []) Tertiary (0x58 ∷ []) ∷
    set_before (0x62 ∷ []) Secondary (0x79 ∷ []) ∷
    set_after (0x20 ∷ []) Tertiary (0x7A ∷ []) ∷
    set_after (0x61 ∷ 0x323 ∷ 0x301 ∷ []) Secondary (0x77 ∷ []) ∷ []

-- two variable rows, with primaries where implicit ones are
abbrev pub high_variables : ℕ → List Entry
high_variables primary = row (0x20 ∷ []) (variable 0xFB00 0x20 2) ∷ row (0x21 ∷ []) (variable primary 0x20 2) ∷ []

-- `&U+4E00 = x`
abbrev pub same_as_implicit : List Relation
same_as_implicit = set_after (0x4E00 ∷ []) Identical (0x78 ∷ []) ∷ []

-- the targets in turn, each with the one before it as its anchor
abbrev pub chained : Strength → ℕ → List ℕ → List Relation
chained strength anchor [] = []
chained strength anchor (target ∷ targets) = set_after (anchor ∷ []) strength (target ∷ []) ∷ chained strength target targets

-- `&[before 2]a << ..`
abbrev pub chained_before : ℕ → List ℕ → List Relation
chained_before target targets = set_before (0x61 ∷ []) Secondary (target ∷ []) ∷ chained Secondary target targets

-- `d` to `z`, and `C` to `I`
abbrev pub thirty : List ℕ
thirty =
    0x64 ∷ 0x65 ∷ 0x66 ∷ 0x67 ∷ 0x68 ∷ 0x69 ∷ 0x6A ∷ 0x6B ∷ 0x6C ∷ 0x6D ∷ 0x6E ∷ 0x6F ∷ 0x70 ∷ 0x71 ∷ 0x72 ∷ 0x73 ∷ 0x74 ∷ 0x75 ∷ 0x76 ∷ 0x77 ∷
    0x78 ∷ 0x79 ∷ 0x7A ∷ 0x43 ∷ 0x44 ∷ 0x45 ∷ 0x46 ∷ 0x47 ∷ 0x48 ∷ 0x49 ∷ []

-- rows with secondary weights that rise by one
abbrev pub secondary_rows : ℕ → List ℕ → List Entry
secondary_rows weight [] = []
secondary_rows weight (target ∷ targets) = row (target ∷ []) (plain 0x1C47 weight 2) ∷ secondary_rows (weight + 1) targets

-- `&a < x / b.. &x = y / b..`, with 16 times `b` and with as many in the second expansion as is said
abbrev pub with_many : ℕ → List Relation
with_many n = expanded (0x61 ∷ []) Primary (0x78 ∷ []) (replicate 16 0x62) ∷ expanded (0x78 ∷ []) Identical (0x79 ∷ []) (replicate n 0x62) ∷ []

abbrev pub many : ℕ → List Element
many n = plain 0x1C48 0x20 2 ∷ replicate n (plain 0x1C60 0x20 2)

pub record WorkedPlans : Type 0 where
  -- no rules: the table stays
  pub nothing : planned small [] ≡ with_rows []
  -- `&a < x`
  pub letter : planned small (set_after (0x61 ∷ []) Primary (0x78 ∷ []) ∷ []) ≡ with_rows (row (0x78 ∷ []) (plain 0x1C48 0x20 2) ∷ [])
  -- `&a < x`, where the next letter is directly after `a`: it moves up
  pub pushed : planned (over (close_rows 0x1C48)) (set_after (0x61 ∷ []) Primary (0x78 ∷ []) ∷ [])
      ≡ Ok (record {
        rows = close_rows 0x1C49 ++ row (0x78 ∷ []) (plain 0x1C48 0x20 2) ∷ [];
        primary = run 0x209 0x209 1 ∷ run 0x1C47 0x1C47 1 ∷ run 0x1C48 0x1C49 1 ∷ [];
        secondary = small_secondary;
        tertiary = small_tertiary;
      })
  -- `&a < x &a < y`: the later one is nearer to `a`
  pub later : planned small (set_after (0x61 ∷ []) Primary (0x78 ∷ []) ∷ set_after (0x61 ∷ []) Primary (0x79 ∷ []) ∷ [])
      ≡ with_rows (row (0x78 ∷ []) (plain 0x1C49 0x20 2) ∷ row (0x79 ∷ []) (plain 0x1C48 0x20 2) ∷ [])
  -- `&[before 3]a <<< x`, and with a second `<<< y` there is no position left below 0002
  pub ahead_of : planned small (set_before (0x61 ∷ []) Tertiary (0x78 ∷ []) ∷ [])
      ≡ Ok (record {
        rows = small_rows ++ row (0x78 ∷ []) (plain 0x1C47 0x20 1) ∷ [];
        primary = same_runs;
        secondary = small_secondary;
        tertiary = small_tertiary;
      })
  pub full : planned small (set_before (0x61 ∷ []) Tertiary (0x78 ∷ []) ∷ set_after (0x78 ∷ []) Tertiary (0x79 ∷ []) ∷ []) ≡ refused 0 (kinds.NoRoom Three)
  -- `&a < x / b`, `&A = x / U+0301`
  pub with_expansion : planned small (expanded (0x61 ∷ []) Primary (0x78 ∷ []) (0x62 ∷ []) ∷ [])
      ≡ with_rows (record { key = 0x78 ∷ []; elements = plain 0x1C48 0x20 2 ∷ plain 0x1C60 0x20 2 ∷ [] } ∷ [])
  pub same_with_expansion : planned small (expanded (0x41 ∷ []) Identical (0x78 ∷ []) (0x301 ∷ []) ∷ [])
      ≡ with_rows (record { key = 0x78 ∷ []; elements = plain 0x1C47 0x20 8 ∷ plain 0 0x24 2 ∷ [] } ∷ [])
  -- `&U+4E00 < x`, `&U+4E00 = x`
  pub implicit_anchor : planned small (set_after (0x4E00 ∷ []) Primary (0x78 ∷ []) ∷ []) ≡ refused 1 kinds.Anchor
  pub implicit_same : planned small same_as_implicit ≡ with_rows (record { key = 0x78 ∷ []; elements = plain 0xFB40 0x20 2 ∷ plain 0xCE00 0 0 ∷ [] } ∷ [])
  -- `&U+4E00 = x`, where the primary FB40 of U+4E00 is between two of variable elements, and where it is above all of them
  pub implicit_among_variables : planned (over (high_variables 0xFFFF)) same_as_implicit ≡ refused 1 kinds.ImplicitVariable
  pub implicit_above_variables : planned (over (high_variables 0xFB3F)) same_as_implicit ≡ Ok (record {
    rows = high_variables 0xFB3F ++ record { key = 0x78 ∷ []; elements = plain 0xFB40 0x20 2 ∷ plain 0xCE00 0 0 ∷ [] } ∷ [];
    primary = [];
    secondary = run 0x20 0x20 1 ∷ [];
    tertiary = run 2 2 1 ∷ [];
  })
  -- `&a < b U+0301 U+0300`, and `&a < b U+0301 < b U+0301 U+0300`
  pub lacks_prefix : planned small (set_after (0x61 ∷ []) Primary (0x62 ∷ 0x301 ∷ 0x300 ∷ []) ∷ []) ≡ refused 1 kinds.NeedsPrefix
  pub has_prefix : planned small (set_after (0x61 ∷ []) Primary (0x62 ∷ 0x301 ∷ []) ∷
      set_after (0x62 ∷ 0x301 ∷ []) Primary (0x62 ∷ 0x301 ∷ 0x300 ∷ []) ∷ [])
      ≡ with_rows (row (0x62 ∷ 0x301 ∷ []) (plain 0x1C48 0x20 2) ∷ row (0x62 ∷ 0x301 ∷ 0x300 ∷ []) (plain 0x1C49 0x20 2) ∷ [])
  -- `&d = dz / z &a < dz U+030C << q &b < z U+030C`, where U+030C has no row
  pub implicit_prefix : planned small (expanded (0x64 ∷ []) Identical (0x64 ∷ 0x7A ∷ []) (0x7A ∷ []) ∷
      set_after (0x61 ∷ []) Primary (0x64 ∷ 0x7A ∷ 0x30C ∷ []) ∷
      set_after (0x64 ∷ 0x7A ∷ 0x30C ∷ []) Secondary (0x71 ∷ []) ∷ set_after (0x62 ∷ []) Primary (0x7A ∷ 0x30C ∷ []) ∷ [])
      ≡ with_rows (
      record { key = 0x64 ∷ 0x7A ∷ []; elements = plain 0xFBC0 0x20 2 ∷ plain 0x8064 0 0 ∷ plain 0xFBC0 0x20 2 ∷ plain 0x807A 0 0 ∷ [] } ∷
      row (0x64 ∷ 0x7A ∷ 0x30C ∷ []) (plain 0x1C48 0x20 2) ∷ row (0x71 ∷ []) (plain 0x1C48 0x21 2) ∷ row (0x7A ∷ 0x30C ∷ []) (plain 0x1C61 0x20 2) ∷ [])
  -- `&a < dz U+030C << q &b < z U+030C`, where U+0064 U+007A is no key
  pub lacks_implicit_prefix : planned small (set_after (0x61 ∷ []) Primary (0x64 ∷ 0x7A ∷ 0x30C ∷ []) ∷
      set_after (0x64 ∷ 0x7A ∷ 0x30C ∷ []) Secondary (0x71 ∷ []) ∷ set_after (0x62 ∷ []) Primary (0x7A ∷ 0x30C ∷ []) ∷ [])
      ≡ refused 1 kinds.NeedsPrefix
  -- 31 secondary weights below 0020, and one more
  pub below_fixed : planned small (chained_before 0x63 thirty)
      ≡ Ok (record {
        rows = small_rows ++ secondary_rows 1 (0x63 ∷ thirty);
        primary = same_runs;
        secondary = small_secondary;
        tertiary = small_tertiary;
      })
  pub below_fixed_full : planned small (chained_before 0x63 (thirty ++ 0x4A ∷ [])) ≡ refused 0 (kinds.NoRoom Two)
  -- 32 elements, and 33
  pub longest_row : planned small (with_many 15)
      ≡ with_rows (record { key = 0x78 ∷ []; elements = many 16 } ∷ record { key = 0x79 ∷ []; elements = many 31 } ∷ [])
  pub too_long_row : planned small (with_many 16) ≡ refused 2 kinds.Limit
  -- `&a < b U+0301 U+0300` where the rules were read with another data file: the class is that of the data that is
  -- given
  pub lacks_prefix_by_data : planned small (record {
    anchor = small_text (0x61 ∷ []);
    before = false;
    strength = Primary;
    target = record { points = 0x62 ∷ 0x301 ∷ 0x300 ∷ []; classes = 0 ∷ 0 ∷ 0 ∷ [] };
    expansion = None;
  } ∷ [])
      ≡ refused 1 kinds.NeedsPrefix
  -- `&a < b`: the row of a base key is replaced in its position, and its weight stays listed
  pub base_key : planned small (set_after (0x61 ∷ []) Primary (0x62 ∷ []) ∷ [])
      ≡ Ok (record { rows = close_rows 0x1C48; primary = same_runs; secondary = small_secondary; tertiary = small_tertiary })
  -- `&a < b &A < c &b <<< d`: the later anchor `b` is read by its new row
  pub replaced_anchor : planned small (set_after (0x61 ∷ []) Primary (0x62 ∷ []) ∷ set_after (0x41 ∷ []) Primary (0x63 ∷ []) ∷
      set_after (0x62 ∷ []) Tertiary (0x64 ∷ []) ∷ [])
      ≡ Ok (record {
        rows = close_rows 0x1C49 ++ row (0x63 ∷ []) (plain 0x1C48 0x20 2) ∷ row (0x64 ∷ []) (plain 0x1C49 0x20 3) ∷ [];
        primary = same_runs;
        secondary = small_secondary;
        tertiary = small_tertiary;
      })
  -- `&U+0301 << x`: the accent that has the next weight moves up
  pub pushed_accent : planned small (set_after (0x301 ∷ []) Secondary (0x78 ∷ []) ∷ [])
      ≡ Ok (record {
        rows = weighted_rows 0x1C60 0x26 8 ++ row (0x78 ∷ []) (plain 0 0x25 2) ∷ [];
        primary = same_runs;
        secondary = moved_grave;
        tertiary = small_tertiary;
      })
  -- `&a < x &U+0301 << y &a <<< z`, where the next weight of each level is taken
  pub pushed_at_each_level : planned (over (weighted_rows 0x1C48 0x25 3))
      (set_after (0x61 ∷ []) Primary (0x78 ∷ []) ∷ set_after (0x301 ∷ []) Secondary (0x79 ∷ []) ∷ set_after (0x61 ∷ []) Tertiary (0x7A ∷ []) ∷ [])
      ≡ Ok (record {
        rows = weighted_rows 0x1C49 0x26 4 ++
            row (0x78 ∷ []) (plain 0x1C48 0x20 2) ∷ row (0x79 ∷ []) (plain 0 0x25 2) ∷ row (0x7A ∷ []) (plain 0x1C47 0x20 3) ∷ [];
        primary = run 0x209 0x209 1 ∷ run 0x1C47 0x1C47 1 ∷ run 0x1C48 0x1C49 1 ∷ [];
        secondary = moved_grave;
        tertiary = run 2 2 1 ∷ run 3 4 1 ∷ [];
      })
  -- `&[before 2]a << x` where `b` has the last weight below 0020: it moves down
  pub pressed_down : planned (over (two_letters 0x1F 2)) (set_before (0x61 ∷ []) Secondary (0x78 ∷ []) ∷ [])
      ≡ Ok (record {
        rows = two_letters 0x1E 2 ++ row (0x78 ∷ []) (plain 0x1C47 0x1F 2) ∷ [];
        primary = run 0x1C47 0x1C47 1 ∷ run 0x1C60 0x1C60 1 ∷ [];
        secondary = run 0x1F 0x1E 1 ∷ run 0x20 0x20 1 ∷ [];
        tertiary = run 2 2 1 ∷ [];
      })
  -- `&[before 3]a <<< x` where `b` has the only weight below 0002
  pub no_room_below : planned (over (two_letters 0x20 1)) (set_before (0x61 ∷ []) Tertiary (0x78 ∷ []) ∷ []) ≡ refused 0 (kinds.NoRoom Three)
  -- `&U+0020 < x` where `a` has the next weight: all variable weights stay below it
  pub pushed_by_variable : planned (over (space_before 0x1C47)) (set_after (0x20 ∷ []) Primary (0x78 ∷ []) ∷ [])
      ≡ Ok (record {
        rows = space_before 0x1C48 ++ row (0x78 ∷ []) (variable 0x1C47 0x20 2) ∷ [];
        primary = run 0x1C46 0x1C46 1 ∷ run 0x1C47 0x1C48 1 ∷ [];
        secondary = run 0x20 0x20 1 ∷ [];
        tertiary = run 2 2 1 ∷ [];
      })
  -- A contraction as an anchor, a capital, a letter before another at level 2, and a variable one. In the last anchor U+0323 is
  -- between the two code points of the contraction.
  pub tailoring : planned (over with_contraction) five_relations
      ≡ Ok (record {
        rows = with_contraction ++
            row (0x78 ∷ []) (plain 0x1C51 0x20 2) ∷
            row (0x58 ∷ []) (plain 0x1C51 0x20 4) ∷
            row (0x79 ∷ []) (plain 0x1C60 1 2) ∷
            row (0x7A ∷ []) (variable 0x209 0x20 3) ∷
            record { key = 0x77 ∷ []; elements = plain 0x1C50 0x20 2 ∷ plain 0 0x2D 2 ∷ [] } ∷ [];
        primary = run 0x209 0x209 1 ∷ run 0x1C47 0x1C47 1 ∷ run 0x1C50 0x1C50 1 ∷ run 0x1C60 0x1C60 1 ∷ [];
        secondary = small_secondary;
        tertiary = small_tertiary;
      })
  -- `&[before 1]U+0020 < x`: the new element is variable as its anchor's
  pub variable_anchor : planned small (set_before (0x20 ∷ []) Primary (0x78 ∷ []) ∷ []) ≡ with_rows (row (0x78 ∷ []) (variable 1 0x20 2) ∷ [])
  -- `&a < x` where `a` has the last weight of level 1, and `&U+0300 << x` where U+0300 has that of level 2
  pub last_primary : planned (over (row (0x61 ∷ []) (plain 0x7FFF 0x20 2) ∷ [])) (set_after (0x61 ∷ []) Primary (0x78 ∷ []) ∷ [])
      ≡ Ok (record {
        rows = row (0x61 ∷ []) (plain 0x7FFE 0x20 2) ∷ row (0x78 ∷ []) (plain 0x7FFF 0x20 2) ∷ [];
        primary = run 0x7FFF 0x7FFE 1 ∷ [];
        secondary = run 0x20 0x20 1 ∷ [];
        tertiary = run 2 2 1 ∷ [];
      })
  pub last_secondary : planned (over (row (0x300 ∷ []) (plain 0 0xFFFF 2) ∷ [])) (set_after (0x300 ∷ []) Secondary (0x78 ∷ []) ∷ [])
      ≡ Ok (record {
        rows = row (0x300 ∷ []) (plain 0 0xFFFE 2) ∷ row (0x78 ∷ []) (plain 0 0xFFFF 2) ∷ [];
        primary = [];
        secondary = run 0x20 0x20 1 ∷ run 0xFFFF 0xFFFE 1 ∷ [];
        tertiary = run 2 2 1 ∷ [];
      })
  -- how many positions each level has below the weight that stays, and above it
  pub positions_below : map (λ level. places (low_segment level)) (One ∷ Two ∷ Three ∷ []) ≡ 0 ∷ 31 ∷ 1 ∷ []
  pub positions_above : map (λ level. places (high_segment level)) (One ∷ Two ∷ Three ∷ []) ≡ 32767 ∷ 65503 ∷ 65533 ∷ []
