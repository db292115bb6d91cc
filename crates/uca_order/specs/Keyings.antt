-- What keys go by: what texts are read by, and settings. And the keys of texts by it.
use Rattle.std.specs.Prelude.{ℕ, List, chars}
use Rattle.uca_weights.specs.declared.Asked.{Asked}
use Rattle.uca_weights.specs.declared.Settings.{Settings}
use Rattle.uca_weights.specs.AskedSettings.{settings_by}
use Rattle.uca_values.specs.Content.{HeaderContent, TableContent, Properties}
use Rattle.uca_text.specs.Texts.{NfdText}
use Rattle.uca_elements.specs.Rows.{Rows, rows_of}
use Rattle.uca_elements.specs.Collations.{Collation, collation_of, collation_over}
use Rattle.uca_elements.specs.declared.collator.Collator.{Collator}
use Rattle.uca_order.specs.Levels.{Comparison}
use Rattle.uca_order.specs.Depths.{ReadText, read_points, written_text, text_key, texts_compared}

-- what keys go by
pub record Keying : Type 0 where
  pub collation : Collation
  pub settings : Settings

-- ---- Where it comes from

-- it from its parts
abbrev pub keying_by : Collation → Settings → Keying
keying_by read chosen = record { collation = read; settings = chosen }

-- that of a collator whose lookup is the map `content`
abbrev pub keying_of : {L N A : Type 0} → (L → Rows) → Collator L N A → Settings → Keying
keying_of content collator chosen = keying_by (collation_of content collator) chosen

-- what keys go by with these rows, the header of a table, and the properties of a data file
abbrev pub keying_over : Rows → HeaderContent → Asked → Properties → Keying
keying_over rows header asked properties = keying_by (collation_over rows header properties) (settings_by asked header.setting)

-- what they go by under a table and the properties of a data file
abbrev pub keying : Asked → TableContent → Properties → Keying
keying asked table properties = keying_over (rows_of table.rows) table.header asked properties

-- ---- Texts that are given as bytes of UTF-8

-- what is read of such a text, in Normalization Form D
abbrev pub text_of : Keying → List ℕ → NfdText
text_of k bytes = written_text k.settings.numbers k.collation.properties (chars bytes)

-- what it is compared by
abbrev pub read_of : Keying → List ℕ → ReadText
read_of k bytes = read_points k.collation k.settings.numbers (chars bytes)

-- its sort key
abbrev pub key_of_bytes : Keying → List ℕ → List ℕ
key_of_bytes k bytes = text_key k.collation k.settings (chars bytes)

-- how two such texts compare
abbrev pub bytes_compared : Keying → List ℕ → List ℕ → Comparison
bytes_compared k left right = texts_compared k.collation k.settings (chars left) (chars right)
