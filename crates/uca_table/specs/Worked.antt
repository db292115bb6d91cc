-- Lines of a table file, worked out: what each of them says.
use Rattle.std.specs.Prelude.{[], ◌∷◌, true, false, codes}
use Rattle.uca_weights.specs.declared.Weighting.TheVariants as weightings
use Rattle.uca_values.specs.Content.{Entry}
use Rattle.uca_table.specs.TableLines.{Nothing, OfVersion, OfSetting, OfRange, OfRow, IsLine}

abbrev pub contraction : Entry
contraction = record {
  key = 0x61 ∷ 0x301 ∷ [];
  elements = record { primary = 0x1C50; secondary = 0x20; tertiary = 2; mark = false }
      ∷ record { primary = 0x209; secondary = 0x20; tertiary = 0x1F; mark = true } ∷ [];
}

pub record WorkedLines : Type 0 where
  pub comment : IsLine (codes "  # 0061 ; [.1C47.0020.0002]") Nothing
  pub version : IsLine (codes "@version 16.0-a") (OfVersion (codes "16.0-a"))
  pub setting : IsLine (codes "@variable  shifted # as is usual") (OfSetting weightings.Shifted)
  pub range : IsLine (codes "@implicitweights 17000..18AFF ; FB00") (OfRange (record { first = 0x17000; last = 0x18AFF; lead = 0xFB00 }))
  pub row : IsLine (codes " 0061  00301 ; [.1C50.0020.0002] [*0209.0020.001F]# contraction") (OfRow contraction)
