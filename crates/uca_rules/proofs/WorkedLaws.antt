-- What the definitions give for some rules.
use Rattle.std.proofs.Common.{◌≡◌, ℕ, List, [], ◌∷◌, ◌++◌, codes, false, Some, None, inl, inr, refl, sym, ap, subst, arith}
use Rattle.uca_weights.specs.declared.Strength.TheVariants.{Primary, Identical}
use Rattle.uca_relations.specs.declared.Relation.{Relation}
use Rattle.uca_relations.specs.Relations.{IsTarget, IsUsedBy, IsLate}
use Rattle.uca_rules.specs.declared.characters.Character.{Character}
use Rattle.uca_rules.specs.Pieces.{Literal, piece_at, EndsText, BeginsWritten}
use Rattle.uca_rules.specs.Statements.{BeginsReset, BeginsPlain}
use Rattle.uca_rules.specs.Worked.{from, less, WorkedRules}

-- ---- A chain

-- a text of one plain character
written : (first : Character) (after : List Character) → piece_at false (first ∷ after) ≡ Some (record { symbols = Literal first ∷ []; rest = after }) → EndsText false after
    → BeginsWritten (first ∷ after) (record { place = first.place; points = first.code ∷ [] }) after
written first after is ends = record {
  symbols = Literal first ∷ [];
  begins = record { pieces = (Literal first ∷ []) ∷ []; some = λ none. cc; are = (after, is, refl); give = refl; ends = ends };
  is = refl;
}

anchor : BeginsReset (from 0 (codes "&[before 1]a < x = y/z")) (Some Primary) (record { place = 11; points = codes "a" }) (from 12 (codes " < x = y/z"))
anchor = record {
  text = from 11 (codes "a < x = y/z");
  due = record { first = record { code = 38; place = 0 }; after = from 1 (codes "[before 1]a < x = y/z"); are = refl; is = refl; perhaps = (refl, refl) };
  begins = written (record { code = 97; place = 11 }) (from 12 (codes " < x = y/z")) refl refl;
}

first_target : BeginsPlain (from 13 (codes "< x = y/z")) Primary (record { place = 15; points = codes "x" }) None (from 16 (codes " = y/z"))
first_target = record {
  text = from 15 (codes "x = y/z");
  due = record { after = from 14 (codes " x = y/z"); sign = refl; gap = refl };
  more = from 16 (codes " = y/z");
  begins = written (record { code = 120; place = 15 }) (from 16 (codes " = y/z")) refl refl;
  expands = (λ is. omega arith, refl);
}

second_target : BeginsPlain (from 17 (codes "= y/z")) Identical (record { place = 19; points = codes "y" }) (Some (record { place = 21; points = codes "z" })) []
second_target = record {
  text = from 19 (codes "y/z");
  due = record { after = from 18 (codes " y/z"); sign = refl; gap = refl };
  more = from 20 (codes "/z");
  begins = written (record { code = 121; place = 19 }) (from 20 (codes "/z")) refl refl;
  expands = (from 21 (codes "z"), record { first = record { code = 47; place = 20 }; after = from 21 (codes "z"); are = refl; is = refl; gap = refl }, written (record { code = 122; place = 21 }) [] refl tt);
}

-- ---- Late targets

abbrev marked : List ℕ
marked = 110 ∷ 0x323 ∷ 0x303 ∷ []

late_target : IsLate (less marked (120 ∷ []) ∷ []) (less (110 ∷ []) (110 ∷ 0x303 ∷ []))
late_target = record {
  text = marked;
  held = record { before = []; after = less (110 ∷ []) (110 ∷ 0x303 ∷ []) ∷ []; r = less marked (120 ∷ []); parts = refl; used = inl refl; free = λ target. target };
  occurs = inl (refl, inr (inl (refl, tt)));
}

-- an anchor that is an earlier target is not kept
not_held : (before after : List Relation) (r : Relation) → less (121 ∷ []) marked ∷ less marked (120 ∷ []) ∷ [] ≡ before ++ r ∷ after → IsUsedBy r marked → ¬ (IsTarget before marked) → ⊥
not_held [] after r parts used free =
    let same : less (121 ∷ []) marked ≡ r = cc in
    other (subst (λ r. IsUsedBy r marked) (sym same) used)
  where
    other : IsUsedBy (less (121 ∷ []) marked) marked → ⊥
    other (inl is) = cc
    other (inr none) = none
not_held (b ∷ before) after r parts used free =
    let same : less (121 ∷ []) marked ≡ b = cc in
    free (inl (ap (λ (r : Relation). r.target.points) (sym same)))

pub worked : WorkedRules
worked = record {
  plain = refl;
  apostrophe = refl;
  quoted = refl;
  doubled = refl;
  open_quote = refl;
  four_digits = refl;
  eight_digits = refl;
  too_few_digits = refl;
  surrogate = refl;
  too_great = refl;
  itself = refl;
  nothing_escaped = refl;
  no_hyphen = refl;
  hyphen = refl;
  gaps = refl;
  last_comment = refl;
  tertiary = refl;
  starred_sign = refl;
  four = refl;
  before_two = refl;
  before_four = refl;
  reorder = refl;
  ranges = refl;
  inner_places = refl;
  chain = (from 12 (codes " < x = y/z"), anchor, (from 16 (codes " = y/z"), first_target, ([], second_target, refl)));
  late = late_target;
  exempt = λ held. not_held held.before held.after held.r held.parts held.used held.free;
}
