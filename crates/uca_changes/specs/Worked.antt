-- Two worked changes that are accepted, and four that are not.
--
-- All have this old table, with the data file of the small table:
--
--     @version 1
--     @implicitweights 17000..18AFF; FB00
--     0061 ; [.1C47.0020.0002]
--     0062 ; [.1C60.0020.0002]
--
-- In the new table of the first, `b` moves up, and the new letter `c` has its weight. Its file of changes has `text 0063`:
--
--     @version 2
--     @implicitweights 17000..18AFF; FB00
--     0061 ; [.1C47.0020.0002]
--     0062 ; [.1C61.0020.0002]
--     0063 ; [.1C60.0020.0002]
--
-- Its certificate:
--
--     1 1C47 1C47 0001
--     1 1C60 1C61 0001
--     2 0020 0020 0001
--     3 0002 0002 0001
--
-- The new table of the second has no `b`, and says the weighting that the old one has without saying it:
--
--     @version 2
--     @variable shifted
--     @implicitweights 17000..18AFF; FB00
--     0061 ; [.1C47.0020.0002]
--
-- In its new data file the class of 0300..0314 is 231 in place of 230. Its file of changes has `text 0062` and
-- `range 0300..0314`. In its certificate no weight moves.
use Rattle.std.specs.Prelude.{ℕ, List, [], ◌∷◌, Option, Some}
use Rattle.uca_weights.specs.declared.Weighting.{Weighting}
use Rattle.uca_weights.specs.declared.Weighting.TheVariants.{NonIgnorable, Shifted}
use Rattle.uca_values.specs.declared.CodePointRange.{CodePointRange}
use Rattle.uca_values.specs.Content.{Entry, HeaderContent, DataContent, properties_of}
use Rattle.uca_elements.specs.WorkedTable.{plain, row, small_data, small_header, small_properties}
use Rattle.uca_certificates.specs.Certificates.{CertificateContent, IsCertificate}
use Rattle.uca_tailorings.specs.Inputs.{maps_of}
use Rattle.uca_tailorings.specs.Worked.{a_and_b, kept_runs, run}
use Rattle.uca_changes.specs.Changes.{Change, IsChange, Meets, IsAcceptedChange}
use Rattle.uca_changes.specs.declared.conditions.ChangeCondition.TheVariants.{RowChanged, RowExtra, PointChanged, SettingChanged}

-- the header of the new tables, with this setting
abbrev pub new_header : Option Weighting → HeaderContent
new_header setting = record small_header { version = 0x32 ∷ []; setting = setting }

-- the one text that is a letter
abbrev pub letter : ℕ → List (List ℕ)
letter point = (point ∷ []) ∷ []

-- ---- A letter more

abbrev pub a_b_and_c : List Entry
a_b_and_c = row (0x61 ∷ []) (plain 0x1C47 0x20 2) ∷ row (0x62 ∷ []) (plain 0x1C61 0x20 2) ∷ row (0x63 ∷ []) (plain 0x1C60 0x20 2) ∷ []

-- `b` moves up
abbrev pub pushing_runs : CertificateContent
pushing_runs = record {
  primary = run 0x1C47 0x1C47 1 ∷ run 0x1C60 0x1C61 1 ∷ [];
  secondary = run 0x20 0x20 1 ∷ [];
  tertiary = run 2 2 1 ∷ [];
}

-- the change with these texts, and with the maps of these runs
abbrev pub with_c : List (List ℕ) → CertificateContent → Change
with_c texts runs = record {
  old = record { header = small_header; rows = a_and_b };
  old_properties = small_properties;
  new = record { header = new_header small_header.setting; rows = a_b_and_c };
  new_properties = small_properties;
  texts = texts;
  ranges = [];
  maps = maps_of runs;
}

-- ---- A letter less, and accents of another class

abbrev pub a_alone : List Entry
a_alone = row (0x61 ∷ []) (plain 0x1C47 0x20 2) ∷ []

abbrev pub raised_data : DataContent
raised_data = record small_data {
  classes = record { first = 0x300; last = 0x314; class = 231 } ∷ record { first = 0x323; last = 0x323; class = 220 } ∷ [];
}

-- the code points whose class is raised
abbrev pub raised : List CodePointRange
raised = record { first = 0x300; last = 0x314 } ∷ []

-- the change where the new table says this setting, with these ranges
abbrev pub without_b : Option Weighting → List CodePointRange → Change
without_b setting ranges = record {
  old = record { header = small_header; rows = a_and_b };
  old_properties = small_properties;
  new = record { header = new_header setting; rows = a_alone };
  new_properties = properties_of raised_data;
  texts = letter 0x62;
  ranges = ranges;
  maps = maps_of kept_runs;
}

-- ---- What is true of them

pub record WorkedChanges : Type 0 where
  -- the maps are those of runs which certificates may have
  pub pushing : IsCertificate pushing_runs
  pub kept : IsCertificate kept_runs
  -- the two changes
  pub is_change : IsChange (with_c (letter 0x63) pushing_runs)
  pub accepted : IsAcceptedChange (with_c (letter 0x63) pushing_runs)
  pub is_other_change : IsChange (without_b (Some Shifted) raised)
  pub other_accepted : IsAcceptedChange (without_b (Some Shifted) raised)
  -- where `c` is not listed
  pub extra : ¬ (Meets (with_c [] pushing_runs) RowExtra)
  -- where the maps keep the weight of `b`
  pub changed : ¬ (Meets (with_c (letter 0x63) kept_runs) RowChanged)
  -- where the range is not listed
  pub point : ¬ (Meets (without_b (Some Shifted) []) PointChanged)
  -- where the new table says `@variable non-ignorable`
  pub setting : ¬ (Meets (without_b (Some NonIgnorable) raised) SettingChanged)
