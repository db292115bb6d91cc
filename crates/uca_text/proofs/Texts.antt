-- Letters of a text, which are code points with their classes, and the code points that they are made of.
use Rattle.std.proofs.Common.{◌≡◌, ℕ, List, [], ◌∷◌, length, inl, refl, ap, arith}
use Rattle.uca_text.specs.Texts.{NfdText, code_points, with_classes, classed}
use Rattle.uca_text.specs.Limits.{IsNormal}
use Rattle.uca_text.specs.Occurring.{OccursInOrder}

-- where each code point has a class, letters have the code points that they are made of
pub points_of_letters : (points classes : List ℕ) → length classes ≡ length points → code_points (with_classes points classes) ≡ points
points_of_letters [] classes same = refl
points_of_letters (c ∷ points) [] same = absurd (omega arith)
points_of_letters (c ∷ points) (k ∷ classes) same = ap (λ rest. c ∷ rest) (points_of_letters points classes (omega arith))

-- a text has the code points of its NFD
pub points_of_text : (text : NfdText) → IsNormal text → code_points (classed text) ≡ text.points
points_of_text text normal = points_of_letters text.points text.classes normal.accepted.same

-- whatever the classes are, the code points of letters occur in order in what they are made of
pub letters_occur : (points classes : List ℕ) → OccursInOrder (code_points (with_classes points classes)) points
letters_occur [] classes = tt
letters_occur (c ∷ points) [] = tt
letters_occur (c ∷ points) (k ∷ classes) = inl (refl, letters_occur points classes)
