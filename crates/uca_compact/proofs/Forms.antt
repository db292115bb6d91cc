-- The forms of a book are forms.
use Rattle.std.proofs.Common.{◌≡◌, inl, inr, ℕ, zero, suc, ◌+◌, ◌≤◌, List, [], ◌∷◌, ◌++◌, length, refl, ap, sym, subst, arith}
use Rattle.std.specs.List.{AllByRecursion}
use Rattle.uca_weights.specs.declared.Weighting.{Weighting}
use Rattle.uca_weights.specs.declared.Weighting.TheVariants.{NonIgnorable, Shifted}
use Rattle.uca_order.specs.Levels.{level_count}
use Rattle.uca_books.specs.Books.{BookContent, IsBook, RiseAfter}
use Rattle.uca_compact.specs.Forms.{AreRising, IsForm, row, accent_starts, case_starts, AreForms, forms_of}

-- the starts of a book are those of cells
starts_rise : (start greatest : ℕ) (starts : List ℕ) → RiseAfter start starts → AllByRecursion (λ w. w ≤ greatest) starts → start ≤ greatest
    → AreRising start starts (suc greatest)
starts_rise start greatest [] rise fit least = omega (arith, least)
starts_rise start greatest (next ∷ later) rise fit least = (rise.0, starts_rise next greatest later rise.1 fit.1 fit.0)

-- a row of starts, and later ones
row_rises : (start count last : ℕ) (later : List ℕ) (end : ℕ) → count + start ≡ last → AreRising last later end → AreRising start (row (suc start) count ++ later) end
row_rises start zero last later end at h =
    let same : last ≡ start = omega (arith, at) in
    subst (λ (first : ℕ). AreRising first later end) same h
row_rises start (suc count) last later end at h = (omega arith, row_rises (suc start) count last later end (omega (arith, at)) h)

accents_length : length accent_starts ≡ 111
accents_length = refl

cases_length : length case_starts ≡ 31
cases_length = refl

-- the form of each level, with so many ends
pub letters_fit : (b : BookContent) (starts : List ℕ) (ends : ℕ) → IsBook b → starts ≡ b.letters → ends ≤ 7
    → IsForm (record { common = 0; longest = 1; ends = ends; lesser = []; greater = starts })
letters_fit b starts ends h same few = record {
  common = omega arith;
  longest = omega arith;
  no_common = λ none. refl;
  lesser = inl (omega arith, refl);
  greater = inr (subst (λ (xs : List ℕ). AreRising 1 xs 65536) (sym same) (starts_rise 1 0xFFFF b.letters h.letters.rise h.letters.fit (omega arith)));
  few_lesser = omega arith;
  few_greater = omega (arith, few, h.letters.few, ap length same);
}

pub accents_fit : (ends : ℕ) → ends ≤ 5 → IsForm (record { common = 0x20; longest = 20; ends = ends; lesser = []; greater = accent_starts })
accents_fit ends few = record {
  common = omega arith;
  longest = omega arith;
  no_common = λ none. absurd (omega (arith, none));
  lesser = inr (omega arith);
  greater = inr (row_rises 0x21 110 0x8F (0x18F ∷ []) 65536 refl (omega arith, omega arith));
  few_lesser = omega arith;
  few_greater = omega (arith, few, accents_length);
}

pub cases_fit : (ends : ℕ) → ends ≤ 3 → IsForm (record { common = 2; longest = 32; ends = ends; lesser = []; greater = case_starts })
cases_fit ends few = record {
  common = omega arith;
  longest = omega arith;
  no_common = λ none. absurd (omega (arith, none));
  lesser = inr (omega arith);
  greater = inr (row_rises 3 30 0x21 (0x121 ∷ []) 65536 refl (omega arith, omega arith));
  few_lesser = omega arith;
  few_greater = omega (arith, few, cases_length);
}

pub variables_fit : (b : BookContent) (starts : List ℕ) → IsBook b → starts ≡ b.variables
    → IsForm (record { common = 0xFFFF; longest = 85; ends = 1; lesser = starts; greater = [] })
variables_fit b starts h same = record {
  common = omega arith;
  longest = omega arith;
  no_common = λ none. absurd (omega (arith, none));
  lesser = inr (subst (λ (xs : List ℕ). AreRising 1 xs 65535) (sym same) (starts_rise 1 0xFFFE b.variables h.variables.rise h.variables.fit (omega arith)));
  greater = inl (omega arith, refl);
  few_lesser = omega (arith, h.variables.few, ap length same);
  few_greater = omega arith;
}

-- the forms of a weighting
pub forms_fit : (weighting : Weighting) (b : BookContent) → IsBook b → AreForms (forms_of weighting b)
forms_fit NonIgnorable b h = (letters_fit b b.letters 5 h refl (omega arith), refl, (accents_fit 3 (omega arith), refl, (cases_fit 1 (omega arith), refl, tt)))
forms_fit Shifted b h =
    (letters_fit b b.letters 7 h refl (omega arith), refl, (accents_fit 5 (omega arith), refl, (cases_fit 3 (omega arith), refl, (variables_fit b b.variables h refl, refl, tt))))

-- as many as levels
pub forms_count : (weighting : Weighting) (b : BookContent) → length (forms_of weighting b) ≡ level_count weighting
forms_count NonIgnorable b = refl
forms_count Shifted b = refl
