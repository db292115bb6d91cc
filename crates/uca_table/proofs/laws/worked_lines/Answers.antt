-- Each line, by computation.
use Rattle.std.proofs.Common.{codes, [], refl, lit<, lit≤}
use Rattle.uca_lines.specs.Numbers.{digits}
use Rattle.uca_table.specs.CanonicalElements.{element_text}
use Rattle.uca_table.proofs.laws.worked_lines.Goals as goal

pub returns : goal.returns
unfolding digits element_text
returns c = record {
  comment = refl;
  version = record { word = refl; argument = refl; named = refl };
  setting = record { word = refl; argument = refl };
  range = record { word = refl; range = record { rest = codes " FB00"; cut = refl; ends = refl; lead = refl } };
  row = record {
    rest = codes " [.1C50.0020.0002] [*0209.0020.001F]";
    cut = refl;
    key = record {
      points = (codes "  00301 ", record { word = refl; rest = refl }, (codes " ", record { word = refl; rest = refl }, refl));
      some = lit≤ tt;
      few = lit≤ tt;
    };
    elements = record {
      texts = (
        codes " [*0209.0020.001F]",
        record { parts = refl; fits = record { primary = lit< tt; secondary = lit< tt; tertiary = lit< tt } },
        ([], record { parts = refl; fits = record { primary = lit< tt; secondary = lit< tt; tertiary = lit< tt } }, refl),
      );
      some = lit≤ tt;
      few = lit≤ tt;
    };
  };
}
