-- Digits of code points and of weights in texts.
use Rattle.std.proofs.Common.{◌≡◌, ℕ, ◌-◌, List, [], ◌∷◌, ◌++◌, get_or, take, drop, refl}
use Rattle.uca_weights.specs.declared.Element.{Element}
use Rattle.uca_lines.specs.Numbers.{digits, point_width}
use Rattle.uca_lines.proofs.ManyDigits.{four_digits_are, point_digits_are}
use Rattle.uca_table.specs.CanonicalElements.{mark_byte, element_text}
use Rattle.uca_table.specs.Canonical.{point_text}

-- ---- Code points

pub point_is : (c first : ℕ) (six : List ℕ) → first ≡ 6 - point_width c → six ≡ digits 6 c → take (6 - first) (drop first six) ≡ point_text c
unfolding point_text
point_is c first six h e = point_digits_are c first six h e

-- ---- Elements

pub element_is : (e : Element) (mark : ℕ) (p s t : List ℕ) → mark ≡ mark_byte e.mark → p ≡ digits 4 e.primary → s ≡ digits 4 e.secondary
    → t ≡ digits 4 e.tertiary
    → 91 ∷ mark ∷ get_or p 0 0 ∷ get_or p 1 0 ∷ get_or p 2 0 ∷ get_or p 3 0 ∷ 46 ∷ get_or s 0 0 ∷ get_or s 1 0 ∷ get_or s 2 0 ∷ get_or s 3 0 ∷ 46 ∷
    get_or t 0 0 ∷ get_or t 1 0 ∷ get_or t 2 0 ∷ get_or t 3 0 ∷ 93 ∷ [] ≡ element_text e
unfolding element_text
element_is e mark p s t m hp hs ht = rw (m, hp, hs, ht, four_digits_are e.primary, four_digits_are e.secondary, four_digits_are e.tertiary) refl

-- ---- The end of a line

pub lead_end_is : (n : ℕ) (lead : List ℕ) → lead ≡ digits 4 n
    → 59 ∷ 32 ∷ get_or lead 0 0 ∷ get_or lead 1 0 ∷ get_or lead 2 0 ∷ get_or lead 3 0 ∷ 10 ∷ [] ≡ 59 ∷ 32 ∷ digits 4 n ++ 10 ∷ []
lead_end_is n lead h = rw (h, four_digits_are n) refl
