-- Bytes are UTF-8 just where their marks agree. The marks of a list are those of its first byte and twice those of the rest.
-- So all is shown byte by byte, with what the three bytes before still ask for.
use Rattle.std.proofs.Common.{◌≡◌, ℕ, ◌+◌, ◌*◌, ◌^◌, ◌<◌, ◌≤◌, ◌⊎◌, ◌↔◌, Bool, true, false, cond, List, [], ◌∷◌, map, leb, eqb, bit_and, refl, sym, ap, ◌∙◌, subst, inl, inr, arith, le-leb, eq-eqb, ne_eqb, leb-true, eqb-true}
use Rattle.std.specs.Str.{IsUtf8}
use Rattle.std.specs.Simd.Lanes.{mask_l}
use Rattle.std.proofs.lemmas.Bool.{cases_lt, cases_eq, lt-leb, leb-false}
use Rattle.std.proofs.lemmas.Nat.{and_block, and_le_l, and_le_r}
use Rattle.simdutf8.specs.Steps.{IsContinuation, least_after, most_after, IsClosed, Step, first, second, later, StepsThen}
use Rattle.simdutf8.proofs.Chars.{least_is, most_is, StepsThen-IsUtf8}
use Rattle.uca_lanes.specs.inside.Marks.{marks_from, marks_of, CountsAgree, SecondsAgree}

-- ---- one byte

-- 1 for true
abbrev pub bit : Bool → ℕ
bit t = cond t 1 0

abbrev pub from : ℕ → ℕ → ℕ
from least b = bit (leb least b)

pub bit_most : (t : Bool) → bit t ≤ 1
bit_most true = omega arith
bit_most false = omega arith

is_from : (least b : ℕ) → least ≤ b → from least b ≡ 1
is_from least b h = ap bit (le-leb least b h)

not_from : (least b : ℕ) → b < least → from least b ≡ 0
not_from least b h = ap bit (lt-leb least b h)

falls : (least more b : ℕ) → least ≤ more → from more b ≤ from least b
falls least more b h = elim (cases_lt b more) [ inl below ↦ omega (arith, not_from more b below) | inr above ↦ omega (arith, is_from more b above, is_from least b (omega (arith, h, above))) ]

-- what three bytes ask of the next ones: a bit for each that has to be one of 80 to BF
abbrev asked : ℕ → ℕ → ℕ → ℕ
asked x y z = from 0xc2 z + from 0xe0 y + from 0xf0 x

abbrev asked_later : ℕ → ℕ → ℕ
asked_later y z = from 0xe0 z + 2 * from 0xf0 z + from 0xf0 y

-- ---- the second bytes

module _ (p q : ℕ → Bool) where
  abbrev pub pair : ℕ → List ℕ → ℕ
  pair z bs = bit_and (bit (p z) + 2 * mask_l (map p bs)) (mask_l (map q bs))

  one_more : (r s a b : ℕ) → r ≤ 1 → s ≤ 1 → bit_and (r + 2 * a) (s + 2 * b) ≡ bit_and r s + 2 * bit_and a b
  one_more r s a b small little =
      let left : r + 2 * a ≡ a * 2 ^ 1 + r = omega arith in
      let right : s + 2 * b ≡ b * 2 ^ 1 + s = omega arith in
      rw (left, right) (and_block 1 a b r s (omega arith) (omega arith) ∙ omega arith)

  cons : (z b : ℕ) (bs : List ℕ) → pair z (b ∷ bs) ≡ bit_and (bit (p z)) (bit (q b)) + 2 * pair b bs
  cons z b bs = one_more (bit (p z)) (bit (q b)) (bit (p b) + 2 * mask_l (map p bs)) (mask_l (map q bs)) (bit_most (p z)) (bit_most (q b))

  -- where p holds of a byte, q holds of the next one
  abbrev pub Both : ℕ → List ℕ → Type 0
  Both z bs = pair z bs ≡ bit (p z) + 2 * mask_l (map p bs)

  -- or does not
  abbrev pub Apart : ℕ → List ℕ → Type 0
  Apart z bs = pair z bs ≡ 0

  held : (s t : Bool) → bit_and (bit s) (bit t) ≡ bit s → s ≡ true → t ≡ true
  held s true e on = refl
  held true false e on = absurd (omega (arith, e, and_le_r 1 0))
  held false false e on = on

  broken : (s t : Bool) → bit_and (bit s) (bit t) ≡ 0 → s ≡ true → t ≡ false
  broken s false e on = refl
  broken true true e on = absurd (omega (arith, e))
  broken false true e on = sym on

  Both_next : (z b : ℕ) (bs : List ℕ) → Both z (b ∷ bs) → (p z ≡ true → q b ≡ true) × Both b bs
  Both_next z b bs both =
      let e = sym (cons z b bs) ∙ both in
      let few = and_le_l (bit (p z)) (bit (q b)) in
      (held (p z) (q b) (omega (arith, e, few, bit_most (p z))), omega (arith, e, few, bit_most (p z)))

  Apart_next : (z b : ℕ) (bs : List ℕ) → Apart z (b ∷ bs) → (p z ≡ true → q b ≡ false) × Apart b bs
  Apart_next z b bs apart =
      let e = sym (cons z b bs) ∙ apart in
      (broken (p z) (q b) (omega (arith, e)), omega (arith, e))

  keeps : (s t : Bool) → (s ≡ true → t ≡ true) → bit_and (bit s) (bit t) ≡ bit s
  keeps false t h = omega (arith, and_le_l 0 (bit t))
  keeps true true h = refl
  keeps true false h = absurd (omega (arith, ap bit (h refl)))

  leaves : (s t : Bool) → (s ≡ true → t ≡ false) → bit_and (bit s) (bit t) ≡ 0
  leaves false t h = omega (arith, and_le_l 0 (bit t))
  leaves true false h = refl
  leaves true true h = absurd (omega (arith, ap bit (h refl)))

  Both_before : (z b : ℕ) (bs : List ℕ) → (p z ≡ true → q b ≡ true) → Both b bs → Both z (b ∷ bs)
  Both_before z b bs here both = cons z b bs ∙ omega (arith, keeps (p z) (q b) here, both)

  Apart_before : (z b : ℕ) (bs : List ℕ) → (p z ≡ true → q b ≡ false) → Apart b bs → Apart z (b ∷ bs)
  Apart_before z b bs here apart = cons z b bs ∙ omega (arith, leaves (p z) (q b) here, apart)

  Both_end : (z : ℕ) → p z ≡ false → Both z []
  Both_end z off = rw off refl

  Apart_end : (z : ℕ) → p z ≡ false → Apart z []
  Apart_end z off = rw off refl

-- ---- all bytes after x, y and z

-- the counts agree, with what is asked by the bytes before
record Counts (x y z : ℕ) (bs : List ℕ) : Type 0 where
  none : marks_from 0xc0 bs ≡ marks_from 0xc2 bs
  follow : 2 * marks_from 0xc2 bs + 4 * marks_from 0xe0 bs + 8 * marks_from 0xf0 bs + (asked x y z + 2 * asked_later y z) + marks_from 0xc0 bs ≡ marks_from 0x80 bs
  small : marks_from 0xf5 bs ≡ 0

abbrev is : ℕ → ℕ → Bool
is byte b = eqb b byte

record Seconds (z : ℕ) (bs : List ℕ) : Type 0 where
  e0 : Both (is 0xe0) (leb 0xa0) z bs
  ed : Apart (is 0xed) (leb 0xa0) z bs
  f0 : Both (is 0xf0) (leb 0x90) z bs
  f4 : Apart (is 0xf4) (leb 0x90) z bs

-- z is none of C0, C1 and F5 to FF
abbrev IsSound : ℕ → Type 0
IsSound z = (z < 0xc0) ⊎ ((0xc2 ≤ z) × (z ≤ 0xf4))

-- at most one of the three asks something of the next byte, and after a byte of a longer code point comes one of its others
record Fits (x y z : ℕ) : Type 0 where
  once : asked x y z ≤ 1
  later : (0xf0 ≤ x) ⊎ (0xe0 ≤ y) → IsContinuation z

-- ---- from marks to code points

-- what the counts say of the first byte: whether it is one of 80 to BF, and that it is sound
record Head (x y z b : ℕ) (bs : List ℕ) : Type 0 where
  fits : ((b < 0x80) ⊎ (0xc2 ≤ b)) × (asked x y z ≡ 0) ⊎ IsContinuation b × (asked x y z ≡ 1)
  sound : IsSound b
  rest : Counts y z b bs

module _ (x y z b : ℕ) (bs : List ℕ) (once : asked x y z ≤ 1) (counts : Counts x y z (b ∷ bs)) where
  head_ascii : b < 0x80 → Head x y z b bs
  head_ascii a =
      let n80 = not_from 0x80 b a in
      let nc0 = not_from 0xc0 b (omega (arith, a)) in
      let nc2 = not_from 0xc2 b (omega (arith, a)) in
      let ne0 = not_from 0xe0 b (omega (arith, a)) in
      let nf0 = not_from 0xf0 b (omega (arith, a)) in
      record {
        fits = inl (inl a, omega (arith, once, counts.follow, n80, nc0, nc2, ne0, nf0));
        sound = inl (omega (arith, a));
        rest = record { none = omega (arith, counts.none, nc0, nc2); follow = omega (arith, once, counts.follow, n80, nc0, nc2, ne0, nf0); small = omega (arith, counts.small) };
      }

  head_next : IsContinuation b → Head x y z b bs
  head_next g =
      let n80 = is_from 0x80 b g.0 in
      let nc0 = not_from 0xc0 b g.1 in
      let nc2 = not_from 0xc2 b (omega (arith, g.1)) in
      let ne0 = not_from 0xe0 b (omega (arith, g.1)) in
      let nf0 = not_from 0xf0 b (omega (arith, g.1)) in
      record {
        fits = inr (g, omega (arith, once, counts.follow, n80, nc0, nc2, ne0, nf0));
        sound = inl g.1;
        rest = record { none = omega (arith, counts.none, nc0, nc2); follow = omega (arith, once, counts.follow, n80, nc0, nc2, ne0, nf0); small = omega (arith, counts.small) };
      }

  head_lead : 0xc2 ≤ b → b < 0xf5 → Head x y z b bs
  head_lead g h =
      let n80 = is_from 0x80 b (omega (arith, g)) in
      let nc0 = is_from 0xc0 b (omega (arith, g)) in
      let nc2 = is_from 0xc2 b g in
      record {
        fits = inl (inr g, omega (arith, once, counts.follow, n80, nc0, nc2));
        sound = inr (g, omega (arith, h));
        rest = record { none = omega (arith, counts.none, nc0, nc2); follow = omega (arith, once, counts.follow, n80, nc0, nc2); small = omega (arith, counts.small) };
      }

  head : Head x y z b bs
  head =
      elim (cases_lt b 0x80) [
        | inl a ↦ head_ascii a
        | inr a ↦ elim (cases_lt b 0xc0) [
          | inl c ↦ head_next (a, c)
          | inr c ↦ elim (cases_lt b 0xc2) [
            | inl d ↦ absurd (omega (arith, counts.none, is_from 0xc0 b c, not_from 0xc2 b d))
            | inr d ↦ elim (cases_lt b 0xf5) [ inl e ↦ head_lead d e | inr e ↦ absurd (omega (arith, counts.small, is_from 0xf5 b e)) ]
          ]
        ]
      ]

-- the step from what the marks say of two bytes next to each other
none_asked : (x y z : ℕ) → IsSound z → asked x y z ≡ 0 → IsClosed x y z
none_asked x y z sound none = (
  elim (cases_lt x 0xf0) [ inl l ↦ l | inr g ↦ absurd (omega (arith, none, is_from 0xf0 x g)) ],
  elim (cases_lt y 0xe0) [ inl l ↦ l | inr g ↦ absurd (omega (arith, none, is_from 0xe0 y g)) ],
  elim sound [ inl l ↦ l | inr g ↦ absurd (omega (arith, none, is_from 0xc2 z g.0)) ],
)

short_before : (x y z : ℕ) → asked x y z ≤ 1 → 0xc2 ≤ z → (x < 0xf0) × (y < 0xe0)
short_before x y z once lead = (
  elim (cases_lt x 0xf0) [ inl l ↦ l | inr g ↦ absurd (omega (arith, once, is_from 0xf0 x g, is_from 0xc2 z lead)) ],
  elim (cases_lt y 0xe0) [ inl l ↦ l | inr g ↦ absurd (omega (arith, once, is_from 0xe0 y g, is_from 0xc2 z lead)) ],
)

long_before : (x y z : ℕ) → asked x y z ≡ 1 → z < 0xc2 → (0xf0 ≤ x) ⊎ (0xe0 ≤ y)
long_before x y z one low =
    elim (cases_lt x 0xf0) [
      | inr g ↦ inl g
      | inl l ↦ elim (cases_lt y 0xe0) [ inr g ↦ inr g | inl m ↦ absurd (omega (arith, one, not_from 0xf0 x l, not_from 0xe0 y m, not_from 0xc2 z low)) ]
    ]

-- what a second byte may be, by its first one
abbrev SecondFits : ℕ → ℕ → Type 0
SecondFits z b =
    (is 0xe0 z ≡ true → leb 0xa0 b ≡ true) × (is 0xed z ≡ true → leb 0xa0 b ≡ false) × (is 0xf0 z ≡ true → leb 0x90 b ≡ true) × (is 0xf4 z ≡ true → leb 0x90 b ≡ false)

in_bounds : (z b : ℕ) → IsContinuation b → SecondFits z b → (least_after z ≤ b) × (b ≤ most_after z)
in_bounds z b g h = (
  elim (least_is z) [
    | inl e ↦ omega (arith, e.1, leb-true _ _ (h.0 (eq-eqb z 0xe0 e.0)))
    | inr r ↦ elim r [ inl e ↦ omega (arith, e.1, leb-true _ _ (h.2 (eq-eqb z 0xf0 e.0))) | inr e ↦ omega (arith, e.2, g.0) ]
  ],
  elim (most_is z) [
    | inl e ↦ omega (arith, e.1, leb-false _ _ (h.1 (eq-eqb z 0xed e.0)))
    | inr r ↦ elim r [ inl e ↦ omega (arith, e.1, leb-false _ _ (h.3 (eq-eqb z 0xf4 e.0))) | inr e ↦ omega (arith, e.2, g.1) ]
  ],
)

least_e0 : (z : ℕ) → z ≡ 0xe0 → least_after z ≡ 0xa0
least_e0 z e = rw e refl

least_f0 : (z : ℕ) → z ≡ 0xf0 → least_after z ≡ 0x90
least_f0 z e = rw e refl

most_ed : (z : ℕ) → z ≡ 0xed → most_after z ≡ 0x9f
most_ed z e = rw e refl

most_f4 : (z : ℕ) → z ≡ 0xf4 → most_after z ≡ 0x8f
most_f4 z e = rw e refl

second_fits : (z b : ℕ) → (least_after z ≤ b) × (b ≤ most_after z) → SecondFits z b
second_fits z b h = (
  λ e. le-leb 0xa0 b (omega (arith, h.0, least_e0 z (eqb-true z 0xe0 e))),
  λ e. lt-leb 0xa0 b (omega (arith, h.1, most_ed z (eqb-true z 0xed e))),
  λ e. le-leb 0x90 b (omega (arith, h.0, least_f0 z (eqb-true z 0xf0 e))),
  λ e. lt-leb 0x90 b (omega (arith, h.1, most_f4 z (eqb-true z 0xf4 e))),
)

to_step : (x y z b : ℕ) (bs : List ℕ) → Fits x y z → IsSound z → Head x y z b bs → (IsContinuation b → (least_after z ≤ b) × (b ≤ most_after z)) → Step x y z b
to_step x y z b bs fit sound head bounds =
    elim head.fits [
      | inl h ↦ first (none_asked x y z sound h.1) (elim h.0 [ inl a ↦ inl a | inr g ↦ inr (omega (arith, g)) ])
      | inr h ↦ elim (cases_lt z 0xc2) [
        | inl low ↦ let before = long_before x y z h.1 low in later before (fit.later before) h.0
        | inr lead ↦ elim sound [ inl low ↦ absurd (omega (arith, low, lead)) | inr s ↦ second (short_before x y z fit.once lead) s (bounds h.0) ]
      ]
    ]

-- what holds before b holds before the byte after it
fits_next : (x y z b : ℕ) (bs : List ℕ) → asked x y z ≤ 1 → Head x y z b bs → Fits y z b
fits_next x y z b bs once head = record { once = at_most; later = is_later }
  where
    at_most : asked y z b ≤ 1
    at_most =
        elim head.fits [
          | inl h ↦ omega (arith, h.1, falls 0xc2 0xe0 z (omega arith), falls 0xe0 0xf0 y (omega arith), bit_most (leb 0xc2 b))
          | inr h ↦ omega (arith, h.1, falls 0xc2 0xe0 z (omega arith), falls 0xe0 0xf0 y (omega arith), not_from 0xc2 b (omega (arith, h.0.1)))
        ]

    is_later : (0xf0 ≤ y) ⊎ (0xe0 ≤ z) → IsContinuation b
    is_later before =
        elim head.fits [
          | inr h ↦ h.0
          | inl h ↦ elim before [ inl g ↦ absurd (omega (arith, h.1, is_from 0xe0 y (omega (arith, g)))) | inr g ↦ absurd (omega (arith, h.1, is_from 0xc2 z (omega (arith, g)))) ]
        ]

seconds_next : (z b : ℕ) (bs : List ℕ) → Seconds z (b ∷ bs) → SecondFits z b × Seconds b bs
seconds_next z b bs h =
    let e0 = Both_next (is 0xe0) (leb 0xa0) z b bs h.e0 in
    let ed = Apart_next (is 0xed) (leb 0xa0) z b bs h.ed in
    let f0 = Both_next (is 0xf0) (leb 0x90) z b bs h.f0 in
    let f4 = Apart_next (is 0xf4) (leb 0x90) z b bs h.f4 in
    ((e0.0, ed.0, f0.0, f4.0), record { e0 = e0.1; ed = ed.1; f0 = f0.1; f4 = f4.1 })

to_code_points : (x y z : ℕ) (bs : List ℕ) → Fits x y z → IsSound z → Counts x y z bs → Seconds z bs → StepsThen IsClosed x y z bs
to_code_points x y z [] fit sound counts seconds = none_asked x y z sound (omega (arith, counts.follow))
to_code_points x y z (b ∷ bs) fit sound counts seconds =
    let here = head x y z b bs fit.once counts in
    let next = seconds_next z b bs seconds in
    (to_step x y z b bs fit sound here (λ g. in_bounds z b g next.0), to_code_points y z b bs (fits_next x y z b bs fit.once here) here.sound here.rest next.1)

-- ---- from code points to marks

-- what a step says of the counts
record Foot (x y z b : ℕ) : Type 0 where
  sound : IsSound z
  next : Fits y z b
  bounds : SecondFits z b
  asks : ((b < 0x80) ⊎ (0xc0 ≤ b)) × (asked x y z ≡ 0) ⊎ IsContinuation b × (asked x y z ≡ 1)

-- none of the four bytes that ask for some of the second ones
common : (z b : ℕ) → z < 0xc2 → SecondFits z b
common z b low = (
  λ e. absurd (omega (arith, low, eqb-true z 0xe0 e)),
  λ e. absurd (omega (arith, low, eqb-true z 0xed e)),
  λ e. absurd (omega (arith, low, eqb-true z 0xf0 e)),
  λ e. absurd (omega (arith, low, eqb-true z 0xf4 e)),
)

foot : (x y z b : ℕ) → Fits x y z → Step x y z b → Foot x y z b
foot x y z b fit (first closed kind) =
    let nx = not_from 0xf0 x closed.0 in
    let ny = not_from 0xe0 y closed.1 in
    let nz = not_from 0xc2 z (omega (arith, closed.2)) in
    record {
      sound = inl closed.2;
      next = record {
        once = omega (arith, nx, ny, nz, falls 0xc2 0xe0 z (omega arith), falls 0xe0 0xf0 y (omega arith), bit_most (leb 0xc2 b));
        later = λ before. absurd (elim before [ inl g ↦ omega (arith, g, closed.1) | inr g ↦ omega (arith, g, closed.2) ]);
      };
      bounds = common z b (omega (arith, closed.2));
      asks = inl (kind, omega (arith, nx, ny, nz));
    }
foot x y z b fit (second short lead bounds) =
    let nx = not_from 0xf0 x short.0 in
    let ny = not_from 0xe0 y short.1 in
    let iz = is_from 0xc2 z lead.0 in
    let g : IsContinuation b = omega (arith, bounds, least_is z, most_is z) in
    record {
      sound = inr lead;
      next = record {
        once = omega (arith, ny, falls 0xe0 0xf0 y (omega arith), bit_most (leb 0xe0 z), not_from 0xc2 b (omega (arith, g.1)));
        later = λ _. g;
      };
      bounds = second_fits z b bounds;
      asks = inr (g, omega (arith, nx, ny, iz));
    }
foot x y z b fit (later before g h) =
    let nz = not_from 0xc2 z (omega (arith, g.1)) in
    let one : asked x y z ≡ 1 = elim before [ inl l ↦ omega (arith, fit.once, is_from 0xf0 x l) | inr l ↦ omega (arith, fit.once, is_from 0xe0 y l) ] in
    record {
      sound = inl g.1;
      next = record {
        once = omega (arith, not_from 0xe0 z (omega (arith, g.1)), bit_most (leb 0xf0 y), not_from 0xc2 b (omega (arith, h.1)));
        later = λ _. h;
      };
      bounds = common z b (omega (arith, g.1));
      asks = inr (h, one);
    }

module _ (x y z b : ℕ) (bs : List ℕ) (counts : Counts y z b bs) where
  before_ascii : b < 0x80 → asked x y z ≡ 0 → Counts x y z (b ∷ bs)
  before_ascii a zero =
      let n80 = not_from 0x80 b a in
      let nc0 = not_from 0xc0 b (omega (arith, a)) in
      let nc2 = not_from 0xc2 b (omega (arith, a)) in
      let ne0 = not_from 0xe0 b (omega (arith, a)) in
      let nf0 = not_from 0xf0 b (omega (arith, a)) in
      let nf5 = not_from 0xf5 b (omega (arith, a)) in
      record { none = omega (arith, counts.none, nc0, nc2); follow = omega (arith, zero, counts.follow, n80, nc0, nc2, ne0, nf0); small = omega (arith, counts.small, nf5) }

  before_next : IsContinuation b → asked x y z ≡ 1 → Counts x y z (b ∷ bs)
  before_next g one =
      let n80 = is_from 0x80 b g.0 in
      let nc0 = not_from 0xc0 b g.1 in
      let nc2 = not_from 0xc2 b (omega (arith, g.1)) in
      let ne0 = not_from 0xe0 b (omega (arith, g.1)) in
      let nf0 = not_from 0xf0 b (omega (arith, g.1)) in
      let nf5 = not_from 0xf5 b (omega (arith, g.1)) in
      record { none = omega (arith, counts.none, nc0, nc2); follow = omega (arith, one, counts.follow, n80, nc0, nc2, ne0, nf0); small = omega (arith, counts.small, nf5) }

  before_lead : (0xc2 ≤ b) × (b ≤ 0xf4) → asked x y z ≡ 0 → Counts x y z (b ∷ bs)
  before_lead g zero =
      let n80 = is_from 0x80 b (omega (arith, g.0)) in
      let nc0 = is_from 0xc0 b (omega (arith, g.0)) in
      let nc2 = is_from 0xc2 b g.0 in
      let nf5 = not_from 0xf5 b (omega (arith, g.1)) in
      record { none = omega (arith, counts.none, nc0, nc2); follow = omega (arith, zero, counts.follow, n80, nc0, nc2); small = omega (arith, counts.small, nf5) }

  counts_before : Foot x y z b → IsSound b → Counts x y z (b ∷ bs)
  counts_before foot sound =
      elim foot.asks [
        | inr h ↦ before_next h.0 h.1
        | inl h ↦ elim h.0 [ inl a ↦ before_ascii a h.1 | inr g ↦ elim sound [ inl low ↦ absurd (omega (arith, low, g)) | inr s ↦ before_lead s h.1 ] ]
      ]

seconds_before : (z b : ℕ) (bs : List ℕ) → SecondFits z b → Seconds b bs → Seconds z (b ∷ bs)
seconds_before z b bs here rest = record {
  e0 = Both_before (is 0xe0) (leb 0xa0) z b bs here.0 rest.e0;
  ed = Apart_before (is 0xed) (leb 0xa0) z b bs here.1 rest.ed;
  f0 = Both_before (is 0xf0) (leb 0x90) z b bs here.2 rest.f0;
  f4 = Apart_before (is 0xf4) (leb 0x90) z b bs here.3 rest.f4;
}

closes : (z : ℕ) → z < 0xc0 → Seconds z []
closes z low =
    let off : (byte : ℕ) → 0xc0 ≤ byte → is byte z ≡ false = (λ byte h. ne_eqb z byte (λ e. omega (arith, low, h, e))) in
    record {
      e0 = Both_end (is 0xe0) (leb 0xa0) z (off 0xe0 (omega arith));
      ed = Apart_end (is 0xed) (leb 0xa0) z (off 0xed (omega arith));
      f0 = Both_end (is 0xf0) (leb 0x90) z (off 0xf0 (omega arith));
      f4 = Apart_end (is 0xf4) (leb 0x90) z (off 0xf4 (omega arith));
    }

to_marks : (x y z : ℕ) (bs : List ℕ) → Fits x y z → StepsThen IsClosed x y z bs → IsSound z × Counts x y z bs × Seconds z bs
to_marks x y z [] fit closed =
    let nx = not_from 0xf0 x closed.0 in
    let ny = not_from 0xe0 y closed.1 in
    let yf = not_from 0xf0 y (omega (arith, closed.1)) in
    let nz = not_from 0xc2 z (omega (arith, closed.2)) in
    let ze = not_from 0xe0 z (omega (arith, closed.2)) in
    let zf = not_from 0xf0 z (omega (arith, closed.2)) in
    let ends = closes z closed.2 in
    (inl closed.2, record { none = refl; follow = omega (arith, nx, ny, yf, nz, ze, zf); small = refl }, ends)
to_marks x y z (b ∷ bs) fit steps =
    let here = foot x y z b fit steps.0 in
    let rest = to_marks y z b bs here.next steps.1 in
    (here.sound, counts_before x y z b bs rest.1 here rest.0, seconds_before z b bs here.bounds rest.2)

-- ---- a whole list

nothing_before : Fits 0 0 0
nothing_before = record { once = omega arith; later = λ before. absurd (elim before [ inl h ↦ omega (arith, h) | inr h ↦ omega (arith, h) ]) }

-- a bit that is not set, before the others
off_first : (n : ℕ) → 0 + 2 * n ≡ 2 * n
off_first n = omega arith

abbrev Kept : ℕ → ℕ → Type 0
Kept m n = bit_and n m ≡ n

abbrev Lost : ℕ → ℕ → Type 0
Lost m n = bit_and n m ≡ 0

pub agree-IsUtf8 : (bs : List ℕ) → (CountsAgree bs × SecondsAgree bs) ↔ IsUtf8 bs
agree-IsUtf8 bs = (λ h. (StepsThen-IsUtf8 bs).0 (there h.0 h.1), λ u. back (to_marks 0 0 0 bs nothing_before ((StepsThen-IsUtf8 bs).1 u)))
  where
    there : CountsAgree bs → SecondsAgree bs → StepsThen IsClosed 0 0 0 bs
    there counts seconds =
        to_code_points 0 0 0 bs nothing_before (inl (omega arith)) record { none = counts.none; follow = omega (arith, counts.follow); small = counts.small }
        record {
          e0 = subst (Kept (marks_from 0xa0 bs)) (sym (off_first (marks_of 0xe0 bs))) seconds.after_e0;
          ed = subst (Lost (marks_from 0xa0 bs)) (sym (off_first (marks_of 0xed bs))) seconds.after_ed;
          f0 = subst (Kept (marks_from 0x90 bs)) (sym (off_first (marks_of 0xf0 bs))) seconds.after_f0;
          f4 = subst (Lost (marks_from 0x90 bs)) (sym (off_first (marks_of 0xf4 bs))) seconds.after_f4;
        }

    back : IsSound 0 × Counts 0 0 0 bs × Seconds 0 bs → CountsAgree bs × SecondsAgree bs
    back h = (
      record { none = h.1.none; follow = omega (arith, h.1.follow); small = h.1.small },
      record {
        after_e0 = subst (Kept (marks_from 0xa0 bs)) (off_first (marks_of 0xe0 bs)) h.2.e0;
        after_ed = subst (Lost (marks_from 0xa0 bs)) (off_first (marks_of 0xed bs)) h.2.ed;
        after_f0 = subst (Kept (marks_from 0x90 bs)) (off_first (marks_of 0xf0 bs)) h.2.f0;
        after_f4 = subst (Lost (marks_from 0x90 bs)) (off_first (marks_of 0xf4 bs)) h.2.f4;
      },
    )

-- ---- code points of two bytes at most

pub falls_all : (least more : ℕ) (bs : List ℕ) → least ≤ more → marks_from more bs ≤ marks_from least bs
falls_all least more [] h = omega arith
falls_all least more (b ∷ bs) h = omega (arith, falls least more b h, falls_all least more bs h)

some_of : (least byte : ℕ) (bs : List ℕ) → least ≤ byte → marks_of byte bs ≤ marks_from least bs
some_of least byte [] h = omega arith
some_of least byte (b ∷ bs) h = omega (arith, one, some_of least byte bs h)
  where
    one : bit (is byte b) ≤ from least b
    one = elim (cases_eq b byte) [ inl e ↦ omega (arith, bit_most (is byte b), is_from least b (omega (arith, h, e))) | inr n ↦ omega (arith, ap bit (ne_eqb b byte n)) ]

none_and : (a b : ℕ) → a ≡ 0 → bit_and a b ≡ 0
none_and a b e = omega (arith, e, and_le_l a b)

pub few-IsUtf8 : (bs : List ℕ) → marks_from 0xe0 bs ≡ 0
    → ((marks_from 0xc0 bs ≡ marks_from 0xc2 bs) × (2 * marks_from 0xc2 bs + marks_from 0xc0 bs ≡ marks_from 0x80 bs)) ↔ IsUtf8 bs
few-IsUtf8 bs short = (λ h. (agree-IsUtf8 bs).0 (counts h.0 h.1, seconds), λ u. back ((agree-IsUtf8 bs).1 u).0)
  where
    nf0 : marks_from 0xf0 bs ≡ 0
    nf0 = omega (arith, short, falls_all 0xe0 0xf0 bs (omega arith))

    counts : marks_from 0xc0 bs ≡ marks_from 0xc2 bs → 2 * marks_from 0xc2 bs + marks_from 0xc0 bs ≡ marks_from 0x80 bs → CountsAgree bs
    counts none follow = record { none = none; follow = omega (arith, short, nf0, follow); small = omega (arith, short, falls_all 0xe0 0xf5 bs (omega arith)) }

    back : CountsAgree bs → (marks_from 0xc0 bs ≡ marks_from 0xc2 bs) × (2 * marks_from 0xc2 bs + marks_from 0xc0 bs ≡ marks_from 0x80 bs)
    back agree = (agree.none, omega (arith, short, nf0, agree.follow))

    absent : (byte : ℕ) → 0xe0 ≤ byte → 2 * marks_of byte bs ≡ 0
    absent byte h = omega (arith, short, some_of 0xe0 byte bs h)

    seconds : SecondsAgree bs
    seconds = record {
      after_e0 = none_and _ _ (absent 0xe0 (omega arith)) ∙ sym (absent 0xe0 (omega arith));
      after_ed = none_and _ _ (absent 0xed (omega arith));
      after_f0 = none_and _ _ (absent 0xf0 (omega arith)) ∙ sym (absent 0xf0 (omega arith));
      after_f4 = none_and _ _ (absent 0xf4 (omega arith));
    }
