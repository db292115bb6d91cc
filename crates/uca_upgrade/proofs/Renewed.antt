-- Stored keys are renewed by an accepted change.
use Rattle.std.proofs.Common.{◌≡◌, false, Some, chars, refl, ap, sym, subst₂, ◌∙◌}
use Rattle.std.proofs.lemmas.Str.{scalars-chars}
use Rattle.unicode_normalization.specs.Forms.{nfd}
use Rattle.uca_scalars.proofs.NfdScalars.{each_nfd_scalar}
use Rattle.uca_weights.specs.declared.Asked.{Asked}
use Rattle.uca_weights.specs.declared.Numbers.{Numbers}
use Rattle.uca_weights.specs.declared.Settings.{Settings}
use Rattle.uca_order.specs.Depths.{key_at, read_points, written}
use Rattle.uca_order.specs.Keyings.{key_of_bytes}
use Rattle.uca_order.proofs.Keyings.{read_scalars}
use Rattle.uca_change_files.specs.Changes.{ChangeContent}
use Rattle.uca_tailorings.specs.Moves.{moved_key}
use Rattle.uca_changes.specs.Changes.{Change, new_reading, old_reading, old_weighting}
use Rattle.uca_editions.specs.AffectedTexts.{is_affected_by}
use Rattle.uca_editions.proofs.AffectedTexts.{affected_are_the_others}
use Rattle.uca_editions.specs.ChangeInputs.{MeansUnaffectedTextsStay}
use Rattle.uca_upgrade.specs.declared.files.UpgradeFiles.{UpgradeFiles}
use Rattle.uca_upgrade.specs.Upgrades.{KeepsChange, KeysAreRenewed, UpgradeState, old_keying}

pub keys_renewed : (files : UpgradeFiles) (change : Change) (asked : Asked) (upgrade : UpgradeState)
    → KeepsChange files change asked upgrade → MeansUnaffectedTextsStay change → KeysAreRenewed change asked upgrade
keys_renewed files change asked upgrade kept means =
    let stays =
    means (old_reading change) (new_reading change)
    (record { rows = λ key. refl; ranges = refl; properties = refl })
    (record { rows = λ key. refl; ranges = refl; properties = refl }) in
    record {
      renewed = λ text utf8 none.
          let points = nfd (written asked.numbers (chars text)) in
          let is_none =
          subst₂ (λ (list : ChangeContent) (numbers : Numbers). is_affected_by list (nfd (written numbers (chars text))) ≡ false) kept.list
          (ap (λ (s : Settings). s.numbers) kept.settings) none in
          (λ i. moved_key (kept.maps i) (kept.settings i).depth (kept.settings i).weighting (key_of_bytes (old_keying change asked) text))
          ∙ ((stays.moves asked.numbers (chars text) (record {
            scalars = each_nfd_scalar (chars text) (scalars-chars text utf8);
            read_scalars = read_scalars asked.numbers text utf8;
            unaffected = (affected_are_the_others change points).0 is_none;
          })).mended asked.depth (old_weighting change asked.weighting)
          ∙ ap (λ w. Some (key_at asked.depth w (read_points (new_reading change) asked.numbers (chars text)))) (sym (stays.chosen asked.weighting)));
      texts = stays;
    }
