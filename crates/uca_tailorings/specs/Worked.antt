-- Two worked tailorings, with maps that certificates could give.
--
-- The first has a table of the letters `a` and `b`, and the rule `&a < x`.
-- The table:
--
--     @version 1
--     @implicitweights 17000..18AFF; FB00
--     0061 ; [.1C47.0020.0002]
--     0062 ; [.1C60.0020.0002]
--
-- The tailored tables have one more row, that of `x`. No weight is changed:
--
--     1 1C47 1C47 0001
--     1 1C60 1C60 0001
--     2 0020 0020 0001
--     3 0002 0002 0001
--
-- The second has the letters `A`, `a`, `b` and `c`, and the rules `&a < x`, `&A << z`, `&[before 1] c < y` and `&a = w / b`:
--
--     @version 1
--     @implicitweights 17000..18AFF; FB00
--     0041 ; [.1C47.0020.0008]
--     0061 ; [.1C47.0020.0002]
--     0062 ; [.1C48.0020.0002]
--     0063 ; [.1C60.0020.0002]
--
-- Its `b` moves, so that `x` has room after `a`:
--
--     1 1C47 1C47 0001
--     1 1C48 1C49 0001
--     1 1C60 1C60 0001
--     2 0020 0020 0001
--     3 0002 0002 0001
--     3 0008 0008 0001
--
-- The rows of its tailored table:
--
--     0041 ; [.1C47.0020.0008]
--     0061 ; [.1C47.0020.0002]
--     0062 ; [.1C49.0020.0002]
--     0063 ; [.1C60.0020.0002]
--     0077 ; [.1C47.0020.0002][.1C49.0020.0002]
--     0078 ; [.1C48.0020.0002]
--     0079 ; [.1C5F.0020.0002]
--     007A ; [.1C47.0021.0002]
use Rattle.std.specs.Prelude.{ℕ, List, [], ◌∷◌, ◌++◌, true, false, Some, None}
use Rattle.uca_weights.specs.declared.Element.{Element}
use Rattle.uca_weights.specs.declared.Strength.TheVariants.{Primary, Secondary, Identical}
use Rattle.uca_weights.specs.declared.maps.Run.{Run}
use Rattle.uca_values.specs.Content.{Entry}
use Rattle.uca_text.specs.Texts.{NfdText}
use Rattle.uca_relations.specs.declared.Relation.{Relation}
use Rattle.uca_elements.specs.WorkedTable.{plain, row, small_header, small_properties}
use Rattle.uca_certificates.specs.Certificates.{CertificateContent, IsCertificate}
use Rattle.uca_tailorings.specs.Inputs.{maps_of}
use Rattle.uca_tailorings.specs.Tailorings.{Tailoring, IsTailoring, Meets, IsAccepted}
use Rattle.uca_tailorings.specs.declared.conditions.Condition.TheVariants.{RowMissing, NotPlaced, NotFresh, NotNearest}

abbrev pub letter : ℕ → NfdText
letter point = record { points = point ∷ []; classes = 0 ∷ [] }

abbrev pub run : ℕ → ℕ → ℕ → Run
run from to count = record { from = from; to = to; count = count }

-- ---- One letter more

abbrev pub a_and_b : List Entry
a_and_b = row (0x61 ∷ []) (plain 0x1C47 0x20 2) ∷ row (0x62 ∷ []) (plain 0x1C60 0x20 2) ∷ []

-- `&a < x`
abbrev pub x_after_a : Relation
x_after_a = record { anchor = letter 0x61; before = false; strength = Primary; target = letter 0x78; expansion = None }

-- no weight moves
abbrev pub kept_runs : CertificateContent
kept_runs = record {
  primary = run 0x1C47 0x1C47 1 ∷ run 0x1C60 0x1C60 1 ∷ [];
  secondary = run 0x20 0x20 1 ∷ [];
  tertiary = run 2 2 1 ∷ [];
}

-- the tailoring with these rows after those of the base
abbrev pub with_rows : List Entry → Tailoring
with_rows more = record {
  base = record { header = small_header; rows = a_and_b };
  tailored = record { header = small_header; rows = a_and_b ++ more };
  properties = small_properties;
  relations = x_after_a ∷ [];
  maps = maps_of kept_runs;
}

-- the tailoring in which `x` has this element
abbrev pub with_x : Element → Tailoring
with_x e = with_rows (row (0x78 ∷ []) e ∷ [])

-- ---- Four letters more

abbrev pub four_letters : List Entry
four_letters =
    row (0x41 ∷ []) (plain 0x1C47 0x20 8) ∷
    row (0x61 ∷ []) (plain 0x1C47 0x20 2) ∷
    row (0x62 ∷ []) (plain 0x1C48 0x20 2) ∷
    row (0x63 ∷ []) (plain 0x1C60 0x20 2) ∷ []

abbrev pub eight_letters : List Entry
eight_letters =
    row (0x41 ∷ []) (plain 0x1C47 0x20 8) ∷
    row (0x61 ∷ []) (plain 0x1C47 0x20 2) ∷
    row (0x62 ∷ []) (plain 0x1C49 0x20 2) ∷
    row (0x63 ∷ []) (plain 0x1C60 0x20 2) ∷
    record { key = 0x77 ∷ []; elements = plain 0x1C47 0x20 2 ∷ plain 0x1C49 0x20 2 ∷ [] } ∷
    row (0x78 ∷ []) (plain 0x1C48 0x20 2) ∷
    row (0x79 ∷ []) (plain 0x1C5F 0x20 2) ∷
    row (0x7A ∷ []) (plain 0x1C47 0x21 2) ∷ []

-- `&A << z`, whose weight at level 3 becomes that of small letters
abbrev pub z_after_capital_a : Relation
z_after_capital_a = record { anchor = letter 0x41; before = false; strength = Secondary; target = letter 0x7A; expansion = None }

-- `&[before 1] c < y`
abbrev pub y_before_c : Relation
y_before_c = record { anchor = letter 0x63; before = true; strength = Primary; target = letter 0x79; expansion = None }

-- `&a = w / b`
abbrev pub w_as_a_and_b : Relation
w_as_a_and_b = record { anchor = letter 0x61; before = false; strength = Identical; target = letter 0x77; expansion = Some (letter 0x62) }

-- `b` moves
abbrev pub moving_runs : CertificateContent
moving_runs = record {
  primary = run 0x1C47 0x1C47 1 ∷ run 0x1C48 0x1C49 1 ∷ run 0x1C60 0x1C60 1 ∷ [];
  secondary = run 0x20 0x20 1 ∷ [];
  tertiary = run 2 2 1 ∷ run 8 8 1 ∷ [];
}

abbrev pub with_moved_b : Tailoring
with_moved_b = record {
  base = record { header = small_header; rows = four_letters };
  tailored = record { header = small_header; rows = eight_letters };
  properties = small_properties;
  relations = x_after_a ∷ z_after_capital_a ∷ y_before_c ∷ w_as_a_and_b ∷ [];
  maps = maps_of moving_runs;
}

-- ---- What is true of them

pub record WorkedTailorings : Type 0 where
  -- the maps are those of runs which certificates may have
  pub kept : IsCertificate kept_runs
  pub moving : IsCertificate moving_runs
  -- `x` directly after `a`
  pub is_tailoring : IsTailoring (with_x (plain 0x1C48 0x20 2))
  pub accepted : IsAccepted (with_x (plain 0x1C48 0x20 2))
  -- with the weight of `b`, and after it
  pub not_fresh : ¬ (Meets (with_x (plain 0x1C60 0x20 2)) NotFresh)
  pub not_nearest : ¬ (Meets (with_x (plain 0x1C61 0x20 2)) NotNearest)
  -- with another weight at level 3
  pub not_placed : ¬ (Meets (with_x (plain 0x1C48 0x20 8)) NotPlaced)
  -- without a row
  pub missing : ¬ (Meets (with_rows []) RowMissing)
  -- where `b` makes room
  pub is_moved_tailoring : IsTailoring with_moved_b
  pub moved_accepted : IsAccepted with_moved_b
