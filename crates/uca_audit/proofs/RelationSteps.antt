-- Going through relations: the first without a property, and what is known of anchors on the way.
use Rattle.std.proofs.Common.{◌≡◌, ℕ, suc, ◌+◌, ◌<◌, ◌≤◌, List, [], ◌∷◌, ◌++◌, Option, Some, None, is_some, MatchOption, true, false, length, take, drop, get_or, sym, ap, subst, ◌∙◌, arith, length-take}
use Rattle.std.specs.List.{AllByRecursion, AllZip}
use Rattle.std.proofs.lemmas.List.{take_all}
use Rattle.uca_weights.specs.declared.Element.{Element}
use Rattle.uca_weights.specs.declared.Level.{Level}
use Rattle.uca_weights.specs.Levels.{level_of}
use Rattle.uca_weights.proofs.Lists.{split_at, each_push, taken_more}
use Rattle.uca_text.specs.Texts.{NfdText}
use Rattle.uca_relations.specs.declared.Relation.{Relation}
use Rattle.uca_elements.specs.Collations.{Collation, elements_of}
use Rattle.uca_tailorings.specs.Placing.{IsAnchor}
use Rattle.uca_tailorings.specs.Tailorings.{Tailoring, anchor_elements, HasAnchorAt, HasAnchor}
use Rattle.uca_tailorings.specs.Laws.{ReadsAs}
use Rattle.uca_tailorings.proofs.Parts.{of_part}
use Rattle.uca_audit.specs.inside.Anchors.{IsAnchorAt, HasNoAnchor}
use Rattle.uca_audit.specs.Refusals.{IsFirstRelationWithout}

-- one more relation has the property
pub each_further : (P : Relation → Type 0) (relations : List Relation) (at : ℕ) (r : Relation) → at < length relations → r ≡ get_or relations at r →
    AllByRecursion P (take at relations) → P r → AllByRecursion P (take (at + 1) relations)
each_further P relations at r within there earlier here =
    subst (AllByRecursion P) (sym (taken_more relations at r within there)) ((each_push P (take at relations) r).1 (earlier, here))

-- all relations have the property
pub each_whole : (P : Relation → Type 0) (items relations : List Relation) (at : ℕ) → items ≡ relations → length items ≤ at →
    AllByRecursion P (take at items) → AllByRecursion P relations
each_whole P items relations at same over each = subst (AllByRecursion P) (take_all at items over ∙ same) each

-- one more member of each of two lists makes one more pair
zip_push : {X Y : Type 0} (R : X → Y → Type 0) (xs : List X) (ys : List Y) (x : X) (y : Y) → AllZip R xs ys → R x y → AllZip R (xs ++ x ∷ []) (ys ++ y ∷ [])
zip_push R [] [] x y earlier here = (here, tt)
zip_push R [] (w ∷ ys) x y earlier here = absurd earlier
zip_push R (v ∷ xs) [] x y earlier here = absurd earlier
zip_push R (v ∷ xs) (w ∷ ys) x y earlier here = (earlier.0, zip_push R xs ys x y earlier.1 here)

-- one more relation makes a pair with what is found of it
pub zip_further : {Y : Type 0} (R : Relation → Y → Type 0) (relations : List Relation) (ys : List Y) (at : ℕ) (r : Relation) (y : Y) →
    at < length relations → r ≡ get_or relations at r → AllZip R (take at relations) ys → R r y → AllZip R (take (at + 1) relations) (ys ++ y ∷ [])
zip_further R relations ys at r y within there earlier here =
    subst (λ rs. AllZip R rs (ys ++ y ∷ [])) (sym (taken_more relations at r within there)) (zip_push R (take at relations) ys r y earlier here)

-- each relation makes a pair with what is found of it
pub zip_whole : {Y : Type 0} (R : Relation → Y → Type 0) (items relations : List Relation) (ys : List Y) (at : ℕ) → items ≡ relations → length items ≤ at →
    AllZip R (take at items) ys → AllZip R relations ys
zip_whole R items relations ys at same over each = subst (λ rs. AllZip R rs ys) (take_all at items over ∙ same) each

-- the relations before it have the property, and it has not
pub first_here : (P : Relation → Type 0) (relations : List Relation) (at : ℕ) (r : Relation) → at < length relations → r ≡ get_or relations at r →
    AllByRecursion P (take at relations) → ¬ (P r) → IsFirstRelationWithout (λ before s after. P s) relations (suc at)
first_here P relations at r within there earlier without =
    record {
      before = take at relations;
      r = r;
      after = drop (at + 1) relations;
      split = split_at relations at r within ∙ ap (λ s. take at relations ++ s ∷ drop (at + 1) relations) (sym there);
      place = ap suc (omega (arith, length-take at relations));
      earlier = λ front s back whole. of_part P (take at relations) front s back earlier whole;
      without = without;
    }

-- texts are read alike by lookups that find the same
pub read_alike : (given reading : Collation) → ReadsAs given reading → (text : NfdText) → elements_of given text ≡ elements_of reading text
read_alike given reading reads text i =
    elements_of (record { rows = λ key. reads.rows key i; ranges = reads.ranges i; properties = reads.properties i }) text

-- a relation with a level has an anchor where one is found
pub found_has : (t : Tailoring) (r : Relation) (level : Level) (es : List Element) (found : Option ℕ) → level_of r.strength ≡ Some level →
    es ≡ anchor_elements t r → MatchOption found (HasNoAnchor level es) (IsAnchorAt level es) → is_some found ≡ true → HasAnchor t r
found_has t r level es None strength read at some = cc
found_has t r level es (Some place) strength read at some =
    subst (HasAnchorAt t r) (sym strength)
    (take place es, at.last, drop (place + 1) es, subst (λ fs. IsAnchor level fs (take place es) at.last (drop (place + 1) es)) read at.anchor)

-- it has none where none is found
pub none_has : (t : Tailoring) (r : Relation) (level : Level) (es : List Element) (found : Option ℕ) → level_of r.strength ≡ Some level →
    es ≡ anchor_elements t r → MatchOption found (HasNoAnchor level es) (IsAnchorAt level es) → is_some found ≡ false → ¬ (HasAnchor t r)
none_has t r level es (Some place) strength read at none has = cc
none_has t r level es None strength read at none has =
    let parts = subst (HasAnchorAt t r) strength has in
    at parts.0 parts.1 parts.2 (subst (λ fs. IsAnchor level fs parts.0 parts.1 parts.2) (sym read) parts.3)
