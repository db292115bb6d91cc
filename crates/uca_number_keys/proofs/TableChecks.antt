-- What is looked at in a table, and what it says of the order of numbers.
use Rattle.std.proofs.Common.{◌≡◌, ◌≢◌, ◌⊎◌, ℕ, ◌+◌, ◌-◌, ◌<◌, ◌≤◌, List, [], ◌∷◌, length, get_or, set, take, drop, replicate, true, Some, Contains, refl, sym, ap, subst, ◌∙◌, arith, inl, inr, length-take}
use Rattle.std.specs.List.{AllByRecursion}
use Rattle.std.proofs.lemmas.Bool.{cases_eq, cases_lt, cond-true, cond-false, false_from_ne_true}
use Rattle.std.proofs.lemmas.List.{drop_all, drop_more, take_more, get_or-set_same, get_or-set_other, get_or-replicate, get_or_past, length-replicate}
use Rattle.uca_weights.specs.declared.Element.{Element}
use Rattle.uca_weights.proofs.Lists.{each_contained, each_push, inside, split_at}
use Rattle.uca_values.specs.Content.{Entry, TableContent, Properties, keys_of}
use Rattle.uca_elements.specs.Rows.{Rows, rows_of, same_key}
use Rattle.uca_elements.specs.Collations.{collation_under}
use Rattle.uca_elements.proofs.ReadingLemmas.{some_row}
use Rattle.uca_elements.proofs.RowsByKey.{same_key-true, same_key-itself, Contains-first, Contains-later, row_of_found, key_iff}
use Rattle.uca_numbers.specs.Numbers.{IsDigit}
use Rattle.uca_number_keys.specs.Tables.{lone_primary, lone_primary_at, digit_weight, OrdersNumbers, SharesDigit, IsWrongDigit, IsWrongKey, HasWrongKey, IsToBlame}
use Rattle.uca_number_keys.specs.inside.Checks.{no_entry, IsRowFrom, IsFoundFrom, IsFound, AreOrdered}

-- ---- Keys

abbrev pub StandsAlone : Entry → Type 0
StandsAlone row = SharesDigit row.key → ⊥

pub alone_more : (rows : List Entry) (at : ℕ) (key : List ℕ) → at < length rows → ((d : Entry) → key ≡ (get_or rows at d).key) → (SharesDigit key → ⊥) →
    AllByRecursion StandsAlone (take at rows) → AllByRecursion StandsAlone (take (at + 1) rows)
alone_more rows at key within is alone before =
    subst (AllByRecursion StandsAlone) (sym (take_more rows at no_entry within))
    ((each_push StandsAlone (take at rows) (get_or rows at no_entry)).1 (before, subst (λ k. SharesDigit k → ⊥) (is no_entry) alone))

each_key : (P : List ℕ → Type 0) (rows : List Entry) → ((key : List ℕ) → Contains (keys_of rows) key → P key) → AllByRecursion (λ row. P row.key) rows
each_key P [] all = tt
each_key P (row ∷ rows) all = (
  all row.key (Contains-first row.key row.key (keys_of rows) refl),
  each_key P rows (λ key there. all key (Contains-later row.key key (keys_of rows) there)),
)

-- ---- The rows of digits, from the last row on

-- a row of another key changes nothing
other_row : (row : Entry) (rows : List Entry) (d : ℕ) → row.key ≢ d ∷ [] → rows_of (row ∷ rows) (d ∷ []) ≡ rows_of rows (d ∷ [])
other_row row rows d other =
    cond-false (same_key row.key (d ∷ [])) (Some row.elements) (rows_of rows (d ∷ []))
    (false_from_ne_true (same_key row.key (d ∷ [])) (λ same. other (same_key-true row.key (d ∷ []) same)))

own_row : (row : Entry) (rows : List Entry) (d : ℕ) → row.key ≡ d ∷ [] → rows_of (row ∷ rows) (d ∷ []) ≡ Some row.elements
own_row row rows d own =
    cond-true (same_key row.key (d ∷ [])) (Some row.elements) (rows_of rows (d ∷ []))
    (subst (λ key. same_key key (d ∷ []) ≡ true) (sym own) (same_key-itself (d ∷ [])))

abbrev pub AreFoundFrom : List Entry → ℕ → List ℕ → Type 0
AreFoundFrom rows at found = (d : ℕ) → IsDigit d → IsFoundFrom rows at d (get_or found (d - 0x30) 0)

kept_row : (rows : List Entry) (at above d row : ℕ) → above ≡ at + 1 → at < length rows → (get_or rows at no_entry).key ≢ d ∷ [] →
    IsFoundFrom rows above d row → IsFoundFrom rows at d row
kept_row rows at above d row next within other is =
    let same : rows_of (drop at rows) (d ∷ []) ≡ rows_of (drop above rows) (d ∷ []) =
    ap (λ l. rows_of l (d ∷ [])) (drop_more rows at no_entry within)
    ∙ other_row (get_or rows at no_entry) (drop (at + 1) rows) d other
    ∙ ap (λ n. rows_of (drop n rows) (d ∷ [])) (sym next) in
    elim is [
      | inl none ↦ inl (none.0, same ∙ none.1)
      | inr there ↦ inr (record { some = there.some; within = there.within; key = there.key; found = same ∙ there.found })
    ]

pub one_more_row : (rows : List Entry) (at above : ℕ) (found : List ℕ) → above ≡ at + 1 → at < length rows →
    ((d : ℕ) → IsDigit d → (get_or rows at no_entry).key ≢ d ∷ []) → AreFoundFrom rows above found → AreFoundFrom rows at found
one_more_row rows at above found next within other are d digit =
    kept_row rows at above d (get_or found (d - 0x30) 0) next within (other d digit) (are d digit)

zero_at : (n i : ℕ) → ◌≡◌ {A = ℕ} (get_or (replicate n 0) i 0) 0
zero_at n i = elim (cases_lt i n) [
  | inl within ↦ get_or-replicate n i 0 0 within
  | inr past ↦ get_or_past (replicate n 0) i 0 (let many = length-replicate {A = ℕ} n 0 in omega (arith, many, past))
]

-- after the last row none is found
pub none_found : (rows : List Entry) (at : ℕ) → at ≡ length rows → AreFoundFrom rows at (0 ∷ 0 ∷ 0 ∷ 0 ∷ 0 ∷ 0 ∷ 0 ∷ 0 ∷ 0 ∷ 0 ∷ [])
none_found rows at all d digit =
    inl (zero_at 10 (d - 0x30), ap (λ l. rows_of l (d ∷ [])) (drop_all at rows (omega (arith, all))))

own_found : (rows : List Entry) (at above d : ℕ) → above ≡ at + 1 → at < length rows → (get_or rows at no_entry).key ≡ d ∷ [] → IsRowFrom rows at d above
own_found rows at above d next within key =
    let place : at ≡ above - 1 = omega (arith, next) in
    record {
      some = omega (arith, next);
      within = omega (arith, next, within);
      key = ap (λ n. (get_or rows n no_entry).key) (sym place) ∙ key;
      found = ap (λ l. rows_of l (d ∷ [])) (drop_more rows at no_entry within)
          ∙ own_row (get_or rows at no_entry) (drop (at + 1) rows) d key
          ∙ ap (λ n. Some (get_or rows n no_entry).elements) place;
    }

pub one_more_digit : (rows : List Entry) (at above : ℕ) (found : List ℕ) (digit : ℕ) → above ≡ at + 1 → at < length rows → length found ≡ 10 → digit < 10 →
    (get_or rows at no_entry).key ≡ (0x30 + digit) ∷ [] → AreFoundFrom rows above found → AreFoundFrom rows at (set found digit above)
one_more_digit rows at above found digit next within ten small key are d digit_is = elim (cases_eq d (0x30 + digit)) [
  | inl own ↦
      let place : d - 0x30 ≡ digit = omega (arith, own) in
      let here : get_or (set found digit above) (d - 0x30) 0 ≡ above =
      ap (λ n. get_or (set found digit above) n 0) place ∙ get_or-set_same found digit above 0 (omega (arith, ten, small)) in
      subst (IsFoundFrom rows at d) (sym here) (inr (own_found rows at above d next within (key ∙ ap (λ c. c ∷ []) (sym own))))
  | inr other ↦
      let low : 0x30 ≤ d = digit_is.low in
      let place : d - 0x30 ≢ digit = λ same. other (omega (arith, same, low)) in
      subst (IsFoundFrom rows at d) (sym (get_or-set_other found digit (d - 0x30) above 0 place))
      (kept_row rows at above d (get_or found (d - 0x30) 0) next within (λ same. other (first_of_one (sym key ∙ same))) (are d digit_is))
]
  where
    first_of_one : {c e : ℕ} → c ∷ [] ≡ e ∷ [] → e ≡ c
    first_of_one same = cc

-- ---- What is found of a digit

pub found_within : (rows : List Entry) (d row : ℕ) → IsFound rows d row → row ≤ length rows
found_within rows d row is = elim is [ inl none ↦ omega (arith, none.0) | inr there ↦ there.within ]

pub weight_of_none : (rows : List Entry) (row : ℕ) → row ≡ 0 → (d : ℕ) → IsFound rows d row → 0 ≡ digit_weight (rows_of rows) d
weight_of_none rows row nought d is = elim is [
  | inl none ↦ sym (ap lone_primary_at none.1)
  | inr there ↦ absurd (let some = there.some in omega (arith, nought, some))
]

pub weight_of_some : (rows : List Entry) (row weight : ℕ) (elements : List Element) → (row ≡ 0 → ⊥) → weight ≡ lone_primary elements →
    ((e : Entry) → elements ≡ (get_or rows (row - 1) e).elements) → (d : ℕ) → IsFound rows d row → weight ≡ digit_weight (rows_of rows) d
weight_of_some rows row weight elements some weight_is is d found = elim found [
  | inl none ↦ absurd (some none.0)
  | inr there ↦ weight_is ∙ ap lone_primary (is no_entry) ∙ sym (ap lone_primary_at there.found)
]

-- ---- The digits in turn

-- the digits below one are right, and `last` is the weight of the greatest of them
pub record AreOrderedBelow (properties : Properties) (rows : Rows) (digit last : ℕ) : Type 0 where
  pub starters : (d : ℕ) → IsDigit d → d < digit → properties.class d ≡ 0
  pub weighted : (d : ℕ) → IsDigit d → d < digit → 0 < digit_weight rows d
  pub least : (d : ℕ) → IsDigit d → d < digit → digit_weight rows d ≤ last
  pub rises : (d e : ℕ) → IsDigit d → IsDigit e → d < e → e < digit → digit_weight rows d < digit_weight rows e
  pub before : ((digit ≡ 0x30) × (last ≡ 0)) ⊎ ((0x30 < digit) × (last ≡ digit_weight rows (digit - 1)))

pub none_below : (properties : Properties) (rows : Rows) → AreOrderedBelow properties rows 0x30 0
none_below properties rows = record {
  starters = λ d is less. absurd (let low = is.low in omega (arith, low, less));
  weighted = λ d is less. absurd (let low = is.low in omega (arith, low, less));
  least = λ d is less. absurd (let low = is.low in omega (arith, low, less));
  rises = λ d e is other less below. absurd (let low = other.low in omega (arith, low, below));
  before = inl (refl, refl);
}

pub one_more_below : (properties : Properties) (rows : Rows) (digit last weight : ℕ) → 0x30 ≤ digit → properties.class digit ≡ 0 →
    weight ≡ digit_weight rows digit → last < weight → AreOrderedBelow properties rows digit last → AreOrderedBelow properties rows (digit + 1) weight
one_more_below properties rows digit last weight low class is above below = record {
  starters = λ d d_is less. elim (cases_eq d digit) [
    | inl same ↦ ap properties.class same ∙ class
    | inr other ↦ below.starters d d_is (omega (arith, less, other))
  ];
  weighted = λ d d_is less. elim (cases_eq d digit) [
    | inl same ↦ let w : digit_weight rows d ≡ digit_weight rows digit = ap (digit_weight rows) same in omega (arith, w, is, above)
    | inr other ↦ below.weighted d d_is (omega (arith, less, other))
  ];
  least = λ d d_is less. elim (cases_eq d digit) [
    | inl same ↦ let w : digit_weight rows d ≡ digit_weight rows digit = ap (digit_weight rows) same in omega (arith, w, is)
    | inr other ↦ let old = below.least d d_is (omega (arith, less, other)) in omega (arith, old, above)
  ];
  rises = λ d e d_is e_is less e_less. elim (cases_eq e digit) [
    | inl same ↦
        let w : digit_weight rows e ≡ digit_weight rows digit = ap (digit_weight rows) same in
        let old = below.least d d_is (omega (arith, less, same)) in
        omega (arith, old, above, w, is)
    | inr other ↦ below.rises d e d_is e_is less (omega (arith, e_less, other))
  ];
  before = inr (omega (arith, low), is ∙ ap (digit_weight rows) (omega arith));
}

pub ordered_from : (properties : Properties) (rows : Rows) (digit last : ℕ) → 0x39 < digit → AreOrderedBelow properties rows digit last → AreOrdered properties rows
ordered_from properties rows digit last all below = record {
  starters = λ d is. below.starters d is (let high = is.high in omega (arith, all, high));
  weighted = λ d is none. let w = below.weighted d is (let high = is.high in omega (arith, all, high)) in omega (arith, w, none);
  rises = λ d e is other less. below.rises d e is other less (let high = other.high in omega (arith, all, high));
}

wrong_from : (properties : Properties) (rows : Rows) (digit last weight : ℕ) → weight ≡ digit_weight rows digit → AreOrderedBelow properties rows digit last →
    (weight ≤ last) ⊎ (properties.class digit ≢ 0) → IsWrongDigit properties rows digit
wrong_from properties rows digit last weight is below wrong = elim wrong [
  | inl low ↦ elim below.before [
    | inl first ↦ let nought = first.1 in inr (inl (omega (arith, low, is, nought)))
    | inr later ↦ let before = later.1 in inr (inr (later.0, omega (arith, low, is, before)))
  ]
  | inr class ↦ inl class
]

-- ---- The row to blame

blamed_at : (properties : Properties) (rows : List Entry) (at row : ℕ) → at < length rows → row ≡ at + 1 → IsWrongKey properties (rows_of rows) (get_or rows at no_entry).key →
    HasWrongKey properties rows row
blamed_at properties rows at row within place wrong =
    let many = length-take at rows in record {
      before = take at rows;
      entry = get_or rows at no_entry;
      after = drop (at + 1) rows;
      split = split_at rows at no_entry within;
      place = omega (arith, place, many, within);
      wrong = wrong;
    }

pub blamed_key : (properties : Properties) (rows : List Entry) (at : ℕ) → at < length rows → ((d : Entry) → SharesDigit (get_or rows at d).key) →
    IsToBlame properties rows (at + 1)
blamed_key properties rows at within shared = inr (blamed_at properties rows at (at + 1) within refl (inl (shared no_entry)))

pub blamed_digit : (properties : Properties) (rows : List Entry) (digit last weight row : ℕ) → IsDigit digit → IsFound rows digit row →
    weight ≡ digit_weight (rows_of rows) digit → AreOrderedBelow properties (rows_of rows) digit last → (weight ≤ last) ⊎ (properties.class digit ≢ 0) →
    IsToBlame properties rows row
blamed_digit properties rows digit last weight row digit_is found is below wrong = elim found [
  | inl none ↦ inl (none.0, (digit, digit_is, none.1))
  | inr there ↦
      let some = there.some in
      let within = there.within in
      inr (blamed_at properties rows (row - 1) row (omega (arith, some, within)) (omega (arith, some))
      (inr (digit, digit_is, there.key, wrong_from properties (rows_of rows) digit last weight is below wrong)))
]

-- ---- All together

module _ (table : TableContent) (properties : Properties) where
  alone_at_one : (n : ℕ) → (n ≢ 1 → ⊥) → n ≡ 1
  alone_at_one n one = elim (cases_eq n 1) [ inl same ↦ same | inr other ↦ absurd (one other) ]

  pub orders_from : AllByRecursion StandsAlone table.rows → AreOrdered properties (rows_of table.rows) → OrdersNumbers (collation_under table properties)
  orders_from alone ordered = record {
    starters = ordered.starters;
    alone = λ key is has.
        let found = some_row (rows_of table.rows) key is in
        let stands = each_contained StandsAlone table.rows (record { key = key; elements = found.0 }) alone (row_of_found table.rows key found.0 found.1) in
        alone_at_one (length key) (λ many. stands (has, many));
    weighted = ordered.weighted;
    rises = ordered.rises;
  }

  alone_from : OrdersNumbers (collation_under table properties) → AllByRecursion StandsAlone table.rows
  alone_from orders = each_key (λ key. SharesDigit key → ⊥) table.rows (λ key there shares. shares.1 (orders.alone key ((key_iff table.rows key).1 there) shares.0))

  wrong_digit_not : OrdersNumbers (collation_under table properties) → (d : ℕ) → IsDigit d → IsWrongDigit properties (rows_of table.rows) d → ⊥
  wrong_digit_not orders d digit wrong = elim wrong [
    | inl class ↦ class (orders.starters d digit)
    | inr weight ↦ elim weight [
      | inl none ↦ orders.weighted d digit none
      | inr low ↦
          let above = low.0 in
          let least = low.1 in
          let high = digit.high in
          let rises = orders.rises (d - 1) d (record { low = omega (arith, above); high = omega (arith, high) }) digit (omega (arith, above)) in
          omega (arith, rises, least)
    ]
  ]

  pub unordered_by : (row : ℕ) → IsToBlame properties table.rows row → OrdersNumbers (collation_under table properties) → ⊥
  unordered_by row blame orders = elim blame [
    | inl none ↦ orders.weighted none.1.0 none.1.1 (ap lone_primary_at none.1.2)
    | inr there ↦ elim there.wrong [
      | inl shares ↦ inside StandsAlone there.before there.entry there.after (subst (AllByRecursion StandsAlone) there.split (alone_from orders)) shares
      | inr wrong ↦ wrong_digit_not orders wrong.0 wrong.1 wrong.3
    ]
  ]
