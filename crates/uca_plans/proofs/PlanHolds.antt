-- What is true of drafts after some relations, and how texts are read then.
use Rattle.std.proofs.Common.{◌≡◌, ◌⊎◌, inl, inr, ℕ, ◌+◌, ◌<◌, ◌≤◌, true, false, List, [], ◌∷◌, ◌++◌, map, None, refl, sym, ap, arith, subst}
use Rattle.std.proofs.lemmas.Bool.{cases_lt}
use Rattle.std.specs.Bool.{⊤}
use Rattle.std.specs.List.{AllByRecursion}
use Rattle.uca_weights.specs.declared.Element.{Element}
use Rattle.uca_weights.specs.declared.Level.{Level}
use Rattle.uca_weights.specs.declared.Level.TheVariants.{One, Two, Three}
use Rattle.uca_weights.specs.Levels.{weight}
use Rattle.uca_values.specs.Content.{Entry, Fits, IsEntry, AreImplicitRanges}
use Rattle.uca_values.specs.Implicit.{implicit}
use Rattle.uca_values.proofs.ImplicitPairs.{each_pair}
use Rattle.uca_check.specs.WellFormed.{elements_of, MeetsWF1}
use Rattle.uca_weights.proofs.Lists.{each_weaker, each_append}
use Rattle.uca_check.proofs.RowElements.{each_of_rows}
use Rattle.uca_text.specs.Texts.{NfdText}
use Rattle.uca_plans.specs.declared.drafts.DraftWeight.{DraftWeight}
use Rattle.uca_plans.specs.declared.drafts.DraftWeight.TheVariants.{Base, New}
use Rattle.uca_plans.specs.declared.drafts.DraftElement.{DraftElement}
use Rattle.uca_plans.specs.Lists.{top_weight, base_weights}
use Rattle.uca_plans.specs.ListLaws.{IsAmong, HasWeight}
use Rattle.uca_plans.specs.Drafts.{as_draft, row_as_draft, draft_elements}
use Rattle.uca_plans.specs.Plans.{Basis, Drafting, begun}
use Rattle.uca_plans.proofs.ListMembers.{of_each}
use Rattle.uca_plans.proofs.BaseWeightLemmas.{base_to}
use Rattle.uca_plans.proofs.GoodLists.{good_fixed, base_among}
use Rattle.uca_plans.proofs.PlanLists.{list_at, HasGoodLists, HasGrownLists, good_begun}
use Rattle.uca_plans.proofs.DraftPairs.{read_each}
use Rattle.uca_plans.proofs.DraftKinds.{IsZero, IsHigh}
use Rattle.uca_plans.proofs.DraftGaps.{HasNoGaps, gaps_joined, base_gapless, pair_gapless}

-- ---- Elements

-- each weight is none, or one of the list of its level, or a primary from 8000 up
pub record IsListed (primaries secondaries tertiaries : List DraftWeight) (e : DraftElement) : Type 0 where
  pub primary : IsZero e.primary ⊎ (IsAmong primaries e.primary ⊎ IsHigh e.primary)
  pub secondary : IsZero e.secondary ⊎ IsAmong secondaries e.secondary
  pub tertiary : IsZero e.tertiary ⊎ IsAmong tertiaries e.tertiary

-- a base weight is a number of 16 bits
abbrev pub FitsWeight : DraftWeight → Type 0
FitsWeight (Base w) = w < 0x1_0000
FitsWeight (New _) = ⊤

-- the base weights of an element are numbers of 16 bits
pub record IsFitting (e : DraftElement) : Type 0 where
  pub primary : FitsWeight e.primary
  pub secondary : FitsWeight e.secondary
  pub tertiary : FitsWeight e.tertiary

-- the two elements of an implicit pair, as drafts
abbrev pub lead_draft : ℕ → DraftElement
lead_draft lead = record { primary = Base lead; secondary = Base 0x20; tertiary = Base 2; mark = false; implicit = true }

abbrev pub low_draft : ℕ → DraftElement
low_draft low = record { primary = Base (0x8000 + low); secondary = Base 0; tertiary = Base 0; mark = false; implicit = true }

-- an element that implicit weights give
abbrev pub IsReadImplicit : DraftElement → Type 0
IsReadImplicit e =
    ((lead : ℕ) × (0xFB00 ≤ lead) × (lead ≤ 0xFBFF) × (e ≡ lead_draft lead))
    ⊎ ((low : ℕ) × (low < 0x8000) × (e ≡ low_draft low))

-- ---- The invariant

-- What is true of drafts after n relations. The list of each level is good. The elements so far include those of
-- replaced rows and all that implicit weights give; they have weights of the lists, of 16 bits. The rows are made of
-- these, without gaps.
pub record Holds (basis : Basis) (n : ℕ) (a : Drafting) : Type 1 where
  pub E : DraftElement → Type 0
  pub lists : HasGoodLists basis n a
  pub listed : (e : DraftElement) → E e → IsListed (list_at One basis a) (list_at Two basis a) (list_at Three basis a) e
  pub fits : (e : DraftElement) → E e → IsFitting e
  pub implicits : (e : DraftElement) → IsReadImplicit e → E e
  pub held : AllByRecursion (λ row. AllByRecursion E row.elements) a.rows
  pub gapless : AllByRecursion (λ row. HasNoGaps None row.elements) a.rows

-- What later relations make of it: it is true after them, no element is lost, and the lists have grown.
pub record Carries (basis : Basis) (n m : ℕ) (a b : Drafting) (holds : Holds basis n a) : Type 1 where
  pub behind : Holds basis m b
  pub elements : (e : DraftElement) → holds.E e → behind.E e
  pub grown : HasGrownLists basis n a b

-- ---- Texts

-- the elements of a text are among the elements so far, without gaps
pub read_held : (basis : Basis) (n : ℕ) (a : Drafting) (holds : Holds basis n a) → AreImplicitRanges basis.ranges → (text : NfdText)
    → AllByRecursion (λ c. c < 0x11_0000) text.points
    → AllByRecursion holds.E (draft_elements basis.ranges basis.properties a.rows text)
    × HasNoGaps None (draft_elements basis.ranges basis.properties a.rows text)
read_held basis n a holds ranges text points = (
  read_each (λ es. AllByRecursion holds.E es) tt (each_append holds.E) basis.ranges basis.properties a.rows text holds.held
      (each_weaker (λ c. c < 0x11_0000) (λ c. AllByRecursion holds.E (map (as_draft true) (implicit basis.ranges basis.properties c)))
      (λ c within. each_pair (λ es. AllByRecursion holds.E (map (as_draft true) es))
      (λ lead low above below near.
      (holds.implicits (lead_draft lead) (inl (lead, above, below, refl)), (holds.implicits (low_draft low) (inr (low, near, refl)), tt)))
      basis.ranges basis.properties ranges c within) text.points points),
  read_each (HasNoGaps None) tt (gaps_joined None) basis.ranges basis.properties a.rows text holds.gapless
      (each_weaker (λ c. c < 0x11_0000) (λ c. HasNoGaps None (map (as_draft true) (implicit basis.ranges basis.properties c)))
      (λ c within. each_pair (λ es. HasNoGaps None (map (as_draft true) es)) (λ lead low above below near. pair_gapless lead low above below)
      basis.ranges basis.properties ranges c within) text.points points),
)

-- ---- The beginning

-- an element has its weights
pub has_weight : (level : Level) (es : List Element) (e : Element) → IsAmong es e → HasWeight level (weight level e) es
has_weight level [] e among = among
has_weight level (x ∷ es) e (inl here) = inl (ap (weight level) here)
has_weight level (x ∷ es) e (inr there) = inr (has_weight level es e there)

-- a weight of an element is a base weight, where it is numbered
pub weight_there : (level : Level) (es : List Element) (e : Element) → IsAmong es e → 0 < weight level e → weight level e ≤ top_weight level
    → IsAmong (base_weights level es) (weight level e)
weight_there level es e among some within = base_to level es (weight level e) (some, within, has_weight level es e among)

-- a numbered weight of a base element is in the list
base_listed : (level : Level) (basis : Basis) (e : Element) → IsAmong (elements_of basis.base) e → weight level e ≤ top_weight level
    → IsZero (Base (weight level e)) ⊎ IsAmong (list_at level basis (begun basis)) (Base (weight level e))
base_listed level basis e among within = elim (cases_lt 0 (weight level e)) [
  | inl some ↦ inr (base_among (base_weights level (elements_of basis.base)) (weight level e)
      (weight_there level (elements_of basis.base) e among some within))
  | inr none ↦ inl (ap Base (omega arith))
]

-- a base element is listed
pub element_listed : (basis : Basis) (e : Element) → IsAmong (elements_of basis.base) e → Fits e
    → IsListed (list_at One basis (begun basis)) (list_at Two basis (begun basis)) (list_at Three basis (begun basis)) (as_draft false e)
element_listed basis e among fits = record {
  primary = elim (cases_lt e.primary 0x8000) [
    | inl low ↦ elim (base_listed One basis e among (omega arith)) [
      | inl none ↦ inl none
      | inr there ↦ inr (inl there)
    ]
    | inr high ↦ inr (inr high)
  ];
  secondary = base_listed Two basis e among (omega (arith, fits.secondary));
  tertiary = base_listed Three basis e among (omega (arith, fits.tertiary));
}

-- an implicit element is listed in lists that have the fixed weights
pub implicit_listed : (basis : Basis) (n : ℕ) (a : Drafting) → HasGoodLists basis n a → (e : DraftElement) → IsReadImplicit e
    → IsListed (list_at One basis a) (list_at Two basis a) (list_at Three basis a) e
implicit_listed basis n a good e (inl lead) = subst (IsListed (list_at One basis a) (list_at Two basis a) (list_at Three basis a)) (sym lead.3) (record {
  primary = inr (inr (omega (arith, lead.1)));
  secondary = inr (good_fixed Two (elements_of basis.base) n (list_at Two basis a) (good Two));
  tertiary = inr (good_fixed Three (elements_of basis.base) n (list_at Three basis a) (good Three));
})
implicit_listed basis n a good e (inr low) = subst (IsListed (list_at One basis a) (list_at Two basis a) (list_at Three basis a)) (sym low.2) (record {
  primary = inr (inr (omega arith));
  secondary = inl refl;
  tertiary = inl refl;
})

-- an implicit element has weights of 16 bits
implicit_fits : (e : DraftElement) → IsReadImplicit e → IsFitting e
implicit_fits e (inl lead) = subst IsFitting (sym lead.3) (record { primary = omega (arith, lead.2); secondary = omega arith; tertiary = omega arith })
implicit_fits e (inr low) = subst IsFitting (sym low.2) (record { primary = omega (arith, low.1); secondary = omega arith; tertiary = omega arith })

-- the elements of all rows have weights of 16 bits
pub all_fit : (rows : List Entry) → AllByRecursion IsEntry rows → AllByRecursion Fits (elements_of rows)
all_fit rows all = each_of_rows Fits rows (each_weaker IsEntry (λ row. AllByRecursion Fits row.elements) (λ row entry. entry.fits) rows all)

-- an element that stands for one of the base
abbrev pub IsBaseDraft : Basis → DraftElement → Type 0
IsBaseDraft basis e = (x : Element) × IsAmong (elements_of basis.base) x × (e ≡ as_draft false x)

-- the base rows are made of base elements
pub base_held : (E : DraftElement → Type 0) (rows : List Entry) → ((x : Element) → IsAmong (elements_of rows) x → E (as_draft false x))
    → AllByRecursion (λ row. AllByRecursion E row.elements) (map row_as_draft rows)
base_held E [] each = tt
base_held E (row ∷ rows) each = (
  in_row row.elements (λ x among. each x (in_front row.elements x among)),
  base_held E rows (λ x among. each x (in_rest row.elements x among)),
)
  where
    -- in the first row
    in_row : (es : List Element) → ((x : Element) → IsAmong es x → E (as_draft false x)) → AllByRecursion E (map (as_draft false) es)
    in_row [] here = tt
    in_row (e ∷ es) here = (here e (inl refl), in_row es (λ x among. here x (inr among)))

    -- members of the first row are members
    in_front : (es : List Element) (x : Element) → IsAmong es x → IsAmong (es ++ elements_of rows) x
    in_front [] x among = absurd among
    in_front (e ∷ es) x (inl here) = inl here
    in_front (e ∷ es) x (inr there) = inr (in_front es x there)

    -- and so are those of the others
    in_rest : (es : List Element) (x : Element) → IsAmong (elements_of rows) x → IsAmong (es ++ elements_of rows) x
    in_rest [] x among = among
    in_rest (e ∷ es) x among = inr (in_rest es x among)

-- the base rows have no gaps
bases_gapless : (rows : List Entry) → AllByRecursion MeetsWF1 rows → AllByRecursion (λ row. HasNoGaps None row.elements) (map row_as_draft rows)
bases_gapless [] all = tt
bases_gapless (row ∷ rows) all = (base_gapless row all.0, bases_gapless rows all.1)

-- it holds before all relations
pub start : (basis : Basis) → AllByRecursion IsEntry basis.base → AllByRecursion MeetsWF1 basis.base → Holds basis 0 (begun basis)
start basis entries whole = record {
  E = λ e. IsBaseDraft basis e ⊎ IsReadImplicit e;
  lists = good_begun basis;
  listed = λ e is. elim is [
    | inl base ↦ subst (IsListed (list_at One basis (begun basis)) (list_at Two basis (begun basis)) (list_at Three basis (begun basis))) (sym base.2)
        (element_listed basis base.0 base.1 (of_each Fits (elements_of basis.base) base.0 (all_fit basis.base entries) base.1))
    | inr read ↦ implicit_listed basis 0 (begun basis) (good_begun basis) e read
  ];
  fits = λ e is. elim is [
    | inl base ↦ subst IsFitting (sym base.2) (fitting base.0 (of_each Fits (elements_of basis.base) base.0 (all_fit basis.base entries) base.1))
    | inr read ↦ implicit_fits e read
  ];
  implicits = λ e read. inr read;
  held = base_held (λ e. IsBaseDraft basis e ⊎ IsReadImplicit e) basis.base (λ x among. inl (x, among, refl));
  gapless = bases_gapless basis.base whole;
}
  where
    -- a base element has weights of 16 bits
    fitting : (x : Element) → Fits x → IsFitting (as_draft false x)
    fitting x fits = record { primary = fits.primary; secondary = fits.secondary; tertiary = fits.tertiary }
