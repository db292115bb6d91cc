-- A tailoring, as the values that are given.
use Rattle.std.specs.Prelude.{List}
use Rattle.uca_weights.specs.declared.Level.TheVariants.{One, Two, Three}
use Rattle.uca_weights.specs.Runs.{weight_image}
use Rattle.uca_values.specs.Content.{TableContent, Properties}
use Rattle.uca_relations.specs.declared.Relation.{Relation}
use Rattle.uca_certificates.specs.Certificates.{CertificateContent}
use Rattle.uca_tailorings.specs.Images.{Maps}
use Rattle.uca_tailorings.specs.Tailorings.{Tailoring}

-- the three maps of a certificate
abbrev pub maps_of : CertificateContent → Maps
maps_of content = record { primary = weight_image One content.primary; secondary = weight_image Two content.secondary; tertiary = weight_image Three content.tertiary }

abbrev pub tailoring_of : TableContent → Properties → List Relation → TableContent → CertificateContent → Tailoring
tailoring_of base properties relations tailored certificate =
    record { base = base; tailored = tailored; properties = properties; relations = relations; maps = maps_of certificate }
