-- Lists of elements and of their images, element by element.
use Rattle.std.proofs.Common.{◌≡◌, ℕ, zero, suc, ◌+◌, ◌<◌, ◌≤◌, List, [], ◌∷◌, ◌++◌, length, take, drop, get_or, Bool, true, false, IsTrue, ◌↔◌, refl, sym, subst, ◌∙◌, arith}
use Rattle.std.proofs.lemmas.Bool.{false≢true}
use Rattle.std.specs.Bool.{MatchBool}
use Rattle.std.specs.List.{AllByRecursion, AllWithin, HoldsAt}
use Rattle.std.proofs.lemmas.List.{take_all, get_or_default}
use Rattle.std.proofs.lemmas.List.Elements.{recursion_from_All, All-from_all_within}
use Rattle.uca_weights.specs.declared.Element.{Element}
use Rattle.uca_weights.proofs.Lists.{each_push, inside, split_at, taken_more}
use Rattle.uca_tailorings.specs.Images.{Maps, IsImage, AreImages}
use Rattle.uca_tailorings.proofs.Images.{images-append}

-- images have the length of their originals
pub images_length : (maps : Maps) (es fs : List Element) → AreImages maps es fs → length es ≡ length fs
images_length maps [] [] h = refl
images_length maps [] (f ∷ fs) h = absurd h
images_length maps (e ∷ es) [] h = absurd h
images_length maps (e ∷ es) (f ∷ fs) h = let rest = images_length maps es fs h.1 in omega (arith, rest)

-- one element more, and its image
pub images_further : (maps : Maps) (es fs : List Element) (at : ℕ) (e f : Element) → at < length es → at < length fs
    → AreImages maps (take at es) (take at fs) → IsImage maps (get_or es at e) (get_or fs at f) → AreImages maps (take (at + 1) es) (take (at + 1) fs)
images_further maps es fs at e f within both so_far image =
    let x = get_or es at e in
    let y = get_or fs at f in
    subst (λ xs. AreImages maps xs (take (at + 1) fs)) (sym (taken_more es at x within (get_or_default es at e x within)))
    (subst (AreImages maps (take at es ++ x ∷ [])) (sym (taken_more fs at y both (get_or_default fs at f y both)))
    (images-append maps (take at es) (take at fs) (x ∷ []) (y ∷ []) so_far (image, tt)))

-- all elements
pub images_whole : (maps : Maps) (es fs : List Element) (at : ℕ) → length es ≤ at → length fs ≤ at → AreImages maps (take at es) (take at fs) → AreImages maps es fs
images_whole maps es fs at over both images =
    subst (λ xs. AreImages maps xs fs) (take_all at es over) (subst (AreImages maps (take at es)) (take_all at fs both) images)

-- of lists that are images the elements at one place are
pub image_at : (maps : Maps) (es fs : List Element) (at : ℕ) (e f : Element) → at < length es → at < length fs → AreImages maps es fs
    → IsImage maps (get_or es at e) (get_or fs at f)
image_at maps [] fs at e f within both h = absurd (omega arith)
image_at maps (x ∷ es) [] at e f within both h = absurd h
image_at maps (x ∷ es) (y ∷ fs) zero e f within both h = h.0
image_at maps (x ∷ es) (y ∷ fs) (suc at) e f within both h = image_at maps es fs at e f (omega arith) (omega arith) h.1

-- one element more has a property
pub each_further : (P : Element → Type 0) (xs : List Element) (at : ℕ) (d : Element) → at < length xs → AllByRecursion P (take at xs) → P (get_or xs at d)
    → AllByRecursion P (take (at + 1) xs)
each_further P xs at d within so_far has =
    let x = get_or xs at d in
    subst (AllByRecursion P) (sym (taken_more xs at x within (get_or_default xs at d x within))) ((each_push P (take at xs) x).1 (so_far, has))

-- all elements have it
pub each_whole : (P : Element → Type 0) (xs : List Element) (at : ℕ) → length xs ≤ at → AllByRecursion P (take at xs) → AllByRecursion P xs
each_whole P xs at over each = subst (AllByRecursion P) (take_all at xs over) each

-- so the one at a place has it
pub each_at : (P : Element → Type 0) (xs : List Element) (at : ℕ) (d : Element) → at < length xs → AllByRecursion P xs → P (get_or xs at d)
each_at P xs at d within each = inside P (take at xs) (get_or xs at d) (drop (at + 1) xs) (subst (AllByRecursion P) (split_at xs at d within) each)

-- a test that says whether the property holds
abbrev pub Told : Type 0 → Bool → Type 0
Told P told = (holds : Bool) × (told ≡ holds) × (IsTrue holds ↔ P)

pub told_true : (P : Type 0) → Told P true → P
told_true P t = t.2.0 (sym t.1)

pub told_false : (P : Type 0) → Told P false → P → ⊥
told_false P t p = false≢true (t.1 ∙ t.2.1 p)

-- an element without the property
fails_at : (P : Element → Type 0) (xs : List Element) (k : ℕ) → k < length xs → HoldsAt (λ e. P e → ⊥) xs k → ¬ (AllByRecursion P xs)
fails_at P [] k within fails all = absurd (omega arith)
fails_at P (x ∷ xs) zero within fails all = fails x all.0
fails_at P (x ∷ xs) (suc k) within fails all = fails_at P xs k (omega arith) fails all.1

-- a test of all elements says whether each has the property
pub all_told : (P : Element → Type 0) (r : Bool) (xs : List Element)
    → MatchBool r (AllWithin P xs 0 (length xs)) ((k : ℕ) × (k < length xs) × HoldsAt (λ e. P e → ⊥) xs k) → IsTrue r ↔ AllByRecursion P xs
all_told P true xs h = (λ _. recursion_from_All P xs (All-from_all_within P xs h), λ _. refl)
all_told P false xs h = (λ e. absurd (false≢true e), λ all. absurd (fails_at P xs h.0 h.1 h.2 all))
