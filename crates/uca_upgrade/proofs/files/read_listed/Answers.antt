-- What is read is what the files mean.
use Rattle.std.proofs.Common.{◌∙◌, ap, sym}
use Rattle.uca_tailorings.specs.Inputs.{maps_of}
use Rattle.uca_editions.specs.AffectedTexts.{listed_in}
use Rattle.uca_upgrade.proofs.files.read_listed.Goals as goal

pub returns-in-Ok-certificate_of-clause-only : goal.returns-in-Ok-certificate_of-clause-only
returns-in-Ok-certificate_of-clause-only c change mean = record {
  list = c.in-Ok.ensures.only (listed_in change) mean.list;
  maps = ap maps_of (c.in-Ok-certificate_of.ensures.only mean.content mean.certificate) ∙ sym mean.maps;
}

pub returns-in-Err-certificate_of-clause-only : goal.returns-in-Err-certificate_of-clause-only
returns-in-Err-certificate_of-clause-only c change mean = c.in-Err-certificate_of.ensures.only mean.content mean.certificate

pub returns-in-Err-clause-only : goal.returns-in-Err-clause-only
returns-in-Err-clause-only c change mean = c.in-Err.ensures.only (listed_in change) mean.list
