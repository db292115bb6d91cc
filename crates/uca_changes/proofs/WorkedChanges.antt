-- The worked changes: two are accepted, and each of four others fails one condition.
use Rattle.std.proofs.Common.{◌≡◌, ℕ, List, [], ◌∷◌, Option, Some, Bool, true, false, ◌||◌, IsTrue, Contains, if◌then◌else◌}
use Rattle.std.proofs.Common.{get_or, unwrap_or, inl, inr, ⊎_elim, refl, ap, arith}
use Rattle.std.specs.List.{AllByRecursion}
use Rattle.uca_weights.specs.declared.Weighting.{Weighting}
use Rattle.uca_weights.specs.declared.Weighting.TheVariants.{NonIgnorable, Shifted}
use Rattle.uca_weights.specs.Maps.{Sends}
use Rattle.uca_values.specs.Content.{IsHeader, IsTable}
use Rattle.uca_values.specs.Ranges.{is_between}
use Rattle.uca_elements.specs.WorkedTable.{plain, small_header, small_properties}
use Rattle.uca_certificates.specs.Certificates.{CertificateContent, IsCertificate}
use Rattle.uca_tailorings.specs.Images.{IsImage}
use Rattle.uca_tailorings.specs.Inputs.{maps_of}
use Rattle.uca_tailorings.specs.Worked.{a_and_b, kept_runs}
use Rattle.uca_tailorings.proofs.WorkedRuns.{kept, maps_rise}
use Rattle.uca_tailorings.proofs.WorkedSteps.{header, image_found}
use Rattle.uca_tailorings.proofs.WorkedTables.{IsLetterRow, letter_row, letters_table, letters_well_formed}
use Rattle.uca_elements.proofs.RowsByKey.{Contains-cases}
use Rattle.uca_changes.specs.Changes.{IsChange, IsAcceptedChange}
use Rattle.uca_changes.specs.declared.conditions.ChangeCondition.TheVariants.{OldIllFormed, NewIllFormed, RangeChanged, Uncovered, RowChanged, RowMissing, RowExtra, PointChanged, SettingChanged}
use Rattle.uca_changes.specs.Worked.{new_header, letter, a_b_and_c, pushing_runs, with_c, a_alone, raised, without_b, WorkedChanges}

-- ---- Tables and maps

old_letters : AllByRecursion IsLetterRow a_and_b
old_letters = (letter_row 0x61 0x1C47 0x20 2 refl refl, (letter_row 0x62 0x1C60 0x20 2 refl refl, tt))

more_letters : AllByRecursion IsLetterRow a_b_and_c
more_letters = (letter_row 0x61 0x1C47 0x20 2 refl refl, (letter_row 0x62 0x1C61 0x20 2 refl refl, (letter_row 0x63 0x1C60 0x20 2 refl refl, tt)))

one_letter : AllByRecursion IsLetterRow a_alone
one_letter = (letter_row 0x61 0x1C47 0x20 2 refl refl, tt)

-- the header of the new tables is one
is_header : (setting : Option Weighting) → IsHeader (new_header setting)
is_header setting = record { named = refl; ranges = header.ranges; few = header.few }

old_table : IsTable (record { header = small_header; rows = a_and_b })
old_table = record { header = header; rows = letters_table a_and_b old_letters (0x61, refl, omega arith, (0x62, refl, omega arith, tt)) (omega arith) }

pushing : IsCertificate pushing_runs
pushing = record {
  primary = record {
    rise = (
      kept.primary.rise.0,
      (
        record {
          some = omega arith;
          range = record { from_zero = omega arith; to_zero = omega arith; from_end = omega arith; to_end = omega arith };
          above = (omega arith, omega arith);
        },
        tt,
      ),
    );
    fixed = tt;
  };
  secondary = kept.secondary;
  tertiary = kept.tertiary;
}

-- ---- A letter more

is_change : IsChange (with_c (letter 0x63) pushing_runs)
is_change = record {
  old = old_table;
  new = record {
    header = is_header small_header.setting;
    rows = letters_table a_b_and_c more_letters (0x61, refl, omega arith, (0x62, refl, omega arith, (0x63, refl, omega arith, tt))) (omega arith);
  };
  maps = maps_rise pushing_runs pushing;
}

-- an element goes to its image by a map of its primary weight alone
image : (runs : CertificateContent) (p q : ℕ) → Sends (maps_of runs).primary p q → Sends (maps_of runs).secondary 0x20 0x20
    → Sends (maps_of runs).tertiary 2 2 → IsImage (maps_of runs) (plain p 0x20 2) (plain q 0x20 2)
image runs p q first second third = record { primary = first; secondary = second; tertiary = third; mark = refl }

accepted : IsAcceptedChange (with_c (letter 0x63) pushing_runs)
accepted OldIllFormed = letters_well_formed a_and_b small_properties.class old_letters
accepted NewIllFormed = letters_well_formed a_b_and_c small_properties.class more_letters
accepted RangeChanged = λ point scalar outside. refl
accepted Uncovered = (
  λ other. (record { primary = refl; secondary = refl; tertiary = refl }, tt),
  (λ other. (record { primary = refl; secondary = refl; tertiary = refl }, tt), tt),
)
accepted RowChanged = (
  λ other new found. image_found (maps_of pushing_runs) (plain 0x1C47 0x20 2) (plain 0x1C47 0x20 2) new (image pushing_runs 0x1C47 0x1C47 refl refl refl) found,
  (
    λ other new found. image_found (maps_of pushing_runs) (plain 0x1C60 0x20 2) (plain 0x1C61 0x20 2) new (image pushing_runs 0x1C60 0x1C61 refl refl refl) found,
    tt,
  ),
)
accepted RowMissing = (λ other. refl, (λ other. refl, tt))
accepted RowExtra = (inl refl, (inl refl, (inr (0, omega arith, refl), tt)))
accepted PointChanged = λ point scalar outside. record { class = refl; core = refl; other = refl }
accepted SettingChanged = refl

-- ---- A letter less, and accents of another class

is_other_change : IsChange (without_b (Some Shifted) raised)
is_other_change = record {
  old = old_table;
  new = record { header = is_header (Some Shifted); rows = letters_table a_alone one_letter (0x61, refl, omega arith, tt) (omega arith) };
  maps = maps_rise kept_runs kept;
}

-- a code point outside of the first range has the class that the others give it
same_rest : (is_first : Bool) (one other rest : ℕ) → ¬ (IsTrue (is_first || false)) → (if is_first then one else rest) ≡ (if is_first then other else rest)
same_rest true one other rest outside = absurd (outside refl)
same_rest false one other rest outside = refl

-- `b` is listed
b_listed : ¬ (Contains (letter 0x62) (0x62 ∷ [])) → ⊥
b_listed other = other (0, omega arith, refl)

other_accepted : IsAcceptedChange (without_b (Some Shifted) raised)
other_accepted OldIllFormed = letters_well_formed a_and_b small_properties.class old_letters
other_accepted NewIllFormed = letters_well_formed a_alone (without_b (Some Shifted) raised).new_properties.class one_letter
other_accepted RangeChanged = λ point scalar outside. refl
other_accepted Uncovered = (λ other. (record { primary = refl; secondary = refl; tertiary = refl }, tt), (λ other. absurd (b_listed other), tt))
other_accepted RowChanged = (
  λ other new found. image_found (maps_of kept_runs) (plain 0x1C47 0x20 2) (plain 0x1C47 0x20 2) new (image kept_runs 0x1C47 0x1C47 refl refl refl) found,
  (λ other. absurd (b_listed other), tt),
)
other_accepted RowMissing = (λ other. refl, (λ other. absurd (b_listed other), tt))
other_accepted RowExtra = (inl refl, tt)
other_accepted PointChanged = λ point scalar outside. record {
  class = same_rest (is_between 0x300 0x314 point) 230 231 _ outside;
  core = refl;
  other = refl;
}
other_accepted SettingChanged = refl

-- ---- The law

-- `b` is not `c`
b_unlisted : ¬ (Contains (letter 0x63) (0x62 ∷ []))
b_unlisted listed =
    ⊎_elim (λ same. omega (arith, ap (λ (text : List ℕ). get_or text 0 0) same)) (λ none. omega (arith, none.1))
    (Contains-cases (0x63 ∷ []) (0x62 ∷ []) [] listed)

-- acceptance, and four failures
pub worked : WorkedChanges
worked = record {
  pushing = pushing;
  kept = kept;
  is_change = is_change;
  accepted = accepted;
  is_other_change = is_other_change;
  other_accepted = other_accepted;
  extra = λ met. ⊎_elim (λ key. let none : false ≡ true = key in cc) (λ listed. omega (arith, listed.1)) met.1.1.0;
  changed = λ met. omega (arith, ap (λ (o : Option ℕ). unwrap_or o 0) (met.1.0 b_unlisted (plain 0x1C61 0x20 2 ∷ []) refl).0.primary);
  point = λ met. omega (arith, (met 0x300 refl (λ within. let none : false ≡ true = within in cc)).class);
  setting = λ met. let same : Shifted ≡ NonIgnorable = met in cc;
}
