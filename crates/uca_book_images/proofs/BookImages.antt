-- The image of a book is a book, and how a program finds it.
use Rattle.std.proofs.Common.{◌≡◌, ℕ, suc, ◌+◌, ◌<◌, ◌≤◌, List, [], ◌∷◌, ◌++◌, Bool, true, false, Option, Some, None, cond, nat_le, max, length, get_or, take, drop, refl, ap, sym, subst, ◌∙◌, append_assoc, append-nil, arith}
use Rattle.std.specs.Prelude.{unwrap_or}
use Rattle.std.specs.List.{AllByRecursion}
use Rattle.std.proofs.lemmas.Bool.Decides.{nat_tests}
use Rattle.std.proofs.lemmas.List.{drop_more, drop_all, take_more, take_all}
use Rattle.uca_weights.specs.declared.Level.{Level}
use Rattle.uca_weights.specs.declared.Level.TheVariants.{One, Two, Three}
use Rattle.uca_weights.specs.declared.maps.Run.{Run}
use Rattle.uca_weights.specs.Maps.{WeightImages}
use Rattle.uca_weights.specs.Runs.{weight_image}
use Rattle.uca_books.specs.Books.{BookContent, AreStarts, RiseAfter}
use Rattle.uca_book_images.specs.BookImages.{last_image, start_image, starts_image, book_image}
use Rattle.uca_book_images.specs.Laws.{ImagesAreBooks}

-- ---- The image of a book is a book

-- a start before others that rise, if it is there
rise_by : (before next : ℕ) (later : List ℕ) (t : Bool) → before < next → RiseAfter next later → RiseAfter before (cond t (next ∷ later) [])
rise_by before next later true less rise = (less, rise)
rise_by before next later false less rise = tt

-- each is greater than the one before it
greater : (n m : ℕ) → n < max (suc n) m
greater n m = omega arith

-- the images rise
images_rise : (images : WeightImages) (greatest before : ℕ) (starts : List ℕ) → RiseAfter before (starts_image images greatest before starts)
images_rise images greatest before [] = tt
images_rise images greatest before (start ∷ later) =
    let next : ℕ = max (suc before) (start_image images start) in
    rise_by before next (starts_image images greatest next later) (nat_le next greatest) (greater before (start_image images start))
    (images_rise images greatest next later)

-- a start before others that fit, if the test that it fits says so
fit_by : (greatest next : ℕ) (later : List ℕ) (t : Bool) → nat_le next greatest ≡ t → AllByRecursion (λ w. w ≤ greatest) later
    → AllByRecursion (λ w. w ≤ greatest) (cond t (next ∷ later) [])
fit_by greatest next later true test fit = (grind (arith, nat_tests), fit)
fit_by greatest next later false test fit = tt

-- none is above the greatest
images_fit : (images : WeightImages) (greatest before : ℕ) (starts : List ℕ) → AllByRecursion (λ w. w ≤ greatest) (starts_image images greatest before starts)
images_fit images greatest before [] = tt
images_fit images greatest before (start ∷ later) =
    let next : ℕ = max (suc before) (start_image images start) in
    fit_by greatest next (starts_image images greatest next later) (nat_le next greatest) refl (images_fit images greatest next later)

-- a start more on both sides, if it is there
few_by : (next count : ℕ) (later : List ℕ) (t : Bool) → length later ≤ count → length (cond t (next ∷ later) []) ≤ suc count
few_by next count later true few = omega (arith, few)
few_by next count later false few = omega arith

-- they are no more than the starts
images_few : (images : WeightImages) (greatest before : ℕ) (starts : List ℕ) → length (starts_image images greatest before starts) ≤ length starts
images_few images greatest before [] = omega arith
images_few images greatest before (start ∷ later) =
    let next : ℕ = max (suc before) (start_image images start) in
    few_by next (length later) (starts_image images greatest next later) (nat_le next greatest) (images_few images greatest next later)

-- the images of the starts of a level
level_image : (images : WeightImages) (greatest most : ℕ) (starts : List ℕ) → AreStarts greatest most starts → AreStarts greatest most (starts_image images greatest 1 starts)
level_image images greatest most starts h = record {
  rise = images_rise images greatest 1 starts;
  fit = images_fit images greatest 1 starts;
  few = omega (arith, h.few, images_few images greatest 1 starts);
}

-- the law
pub images_are_books : ImagesAreBooks
images_are_books images book h = record {
  letters = level_image images 0xFFFF 245 book.letters h.letters;
  variables = level_image images 0xFFFE 255 book.variables h.variables;
}

-- ---- The last image below a weight

-- one weight more
pub last_image_more : (images : WeightImages) (w last found : ℕ) → last ≡ last_image images w → found ≡ unwrap_or (images w) last
    → found ≡ last_image images (w + 1)
last_image_more images w last found before is =
    let next : suc w ≡ w + 1 = omega arith in
    is ∙ ap (unwrap_or (images w)) before ∙ ap (last_image images) next

-- 0 is its own image at every level
pub first_image : (level : Level) (runs : List Run) → 0 ≡ last_image (weight_image level runs) 1
first_image One runs = refl
first_image Two runs = refl
first_image Three runs = refl

-- ---- The image of a start

-- a start that has an image
pub start_sent : (images : WeightImages) (start x : ℕ) → Some x ≡ images start → x ≡ start_image images start
start_sent images start x sent = ap (λ (o : Option ℕ). unwrap_or o (suc (last_image images start))) sent

-- one that has none
pub start_lost : (images : WeightImages) (start last : ℕ) → None ≡ images start → last ≡ last_image images start → last + 1 ≡ start_image images start
start_lost images start last lost is =
    let after : last + 1 ≡ suc (last_image images start) = omega (arith, is) in
    after ∙ ap (λ (o : Option ℕ). unwrap_or o (suc (last_image images start))) lost

-- ---- The images of starts in turn

-- the next start is greater, and so are those after it
pub rise_more : (starts : List ℕ) (i below : ℕ) → i < length starts → RiseAfter below (drop i starts)
    → (below < get_or starts i 0) × RiseAfter (get_or starts i 0) (drop (i + 1) starts)
rise_more starts i below within rise = subst (RiseAfter below) (drop_more starts i 0 within) rise

module _ (images : WeightImages) (greatest : ℕ) where
  -- the images from a start on
  images_from : (start before next : ℕ) (later : List ℕ) → next ≡ max (suc before) (start_image images start)
      → starts_image images greatest before (start ∷ later) ≡ cond (nat_le next greatest) (next ∷ starts_image images greatest next later) []
  images_from start before next later is =
      ap (λ (n : ℕ). cond (nat_le n greatest) (n ∷ starts_image images greatest n later) []) (sym is)

  -- what is left with the next start at hand
  images_at : (starts : List ℕ) (i before next : ℕ) → i < length starts → next ≡ max (suc before) (start_image images (get_or starts i 0))
      → starts_image images greatest before (drop i starts) ≡ cond (nat_le next greatest) (next ∷ starts_image images greatest next (drop (i + 1) starts)) []
  images_at starts i before next within is =
      ap (starts_image images greatest before) (drop_more starts i 0 within) ∙ images_from (get_or starts i 0) before next (drop (i + 1) starts) is

  -- an image more
  pub image_more : (starts done new all : List ℕ) (i before next : ℕ) → i < length starts
      → next ≡ max (suc before) (start_image images (get_or starts i 0)) → next ≤ greatest → new ≡ done ++ next ∷ []
      → done ++ starts_image images greatest before (drop i starts) ≡ all
      → new ++ starts_image images greatest next (drop (i + 1) starts) ≡ all
  image_more starts done new all i before next within is fits pushed so_far =
      let test : nat_le next greatest ≡ true = grind (arith, nat_tests) in
      let rest = starts_image images greatest next (drop (i + 1) starts) in
      let here : starts_image images greatest before (drop i starts) ≡ next ∷ rest =
      images_at starts i before next within is ∙ ap (λ (t : Bool). cond t (next ∷ rest) []) test in
      ap (λ (xs : List ℕ). xs ++ rest) pushed ∙ append_assoc done (next ∷ []) rest ∙ ap (λ (xs : List ℕ). done ++ xs) (sym here) ∙ so_far

  -- the rest is above the greatest
  pub images_cut : (starts done all : List ℕ) (i before next : ℕ) → i < length starts
      → next ≡ max (suc before) (start_image images (get_or starts i 0)) → greatest < next
      → done ++ starts_image images greatest before (drop i starts) ≡ all → done ≡ all
  images_cut starts done all i before next within is above so_far =
      let test : nat_le next greatest ≡ false = grind (arith, nat_tests) in
      let rest = starts_image images greatest next (drop (i + 1) starts) in
      let here : starts_image images greatest before (drop i starts) ≡ [] =
      images_at starts i before next within is ∙ ap (λ (t : Bool). cond t (next ∷ rest) []) test in
      sym (append-nil done) ∙ ap (λ (xs : List ℕ). done ++ xs) (sym here) ∙ so_far

  -- no start is left
  pub images_end : (starts done all : List ℕ) (i before : ℕ) → length starts ≤ i
      → done ++ starts_image images greatest before (drop i starts) ≡ all → done ≡ all
  images_end starts done all i before end so_far =
      let here : starts_image images greatest before (drop i starts) ≡ [] = ap (starts_image images greatest before) (drop_all i starts end) in
      sym (append-nil done) ∙ ap (λ (xs : List ℕ). done ++ xs) (sym here) ∙ so_far

-- ---- Starts that are added to a book

-- a start more
pub added_more : (front starts old new : List ℕ) (i : ℕ) → i < length starts → old ≡ front ++ take i starts → new ≡ old ++ get_or starts i 0 ∷ []
    → new ≡ front ++ take (i + 1) starts
added_more front starts old new i within before is =
    is ∙ ap (λ (xs : List ℕ). xs ++ get_or starts i 0 ∷ []) before ∙ append_assoc front (take i starts) (get_or starts i 0 ∷ [])
    ∙ ap (λ (xs : List ℕ). front ++ xs) (sym (take_more starts i 0 within))

-- all are added
pub added_all : (front starts new : List ℕ) (i : ℕ) → length starts ≤ i → new ≡ front ++ take i starts → new ≡ front ++ starts
added_all front starts new i end is = is ∙ ap (λ (xs : List ℕ). front ++ xs) (take_all i starts end)

-- a book by its starts
pub book_is : (book : BookContent) (letters variables : List ℕ) → book.letters ≡ letters → book.variables ≡ variables
    → book ≡ record { letters = letters; variables = variables }
book_is book letters variables first fourth i = record { letters = first i; variables = fourth i }

-- the image is that of the book, by the map of level 1
pub image_is : (level : Level) (runs old : List Run) (book given made : BookContent) → level ≡ One → runs ≡ old
    → given.letters ≡ book.letters → given.variables ≡ book.variables → made ≡ book_image (weight_image level runs) given
    → made ≡ book_image (weight_image One old) book
image_is level runs old book given made one same letters variables is =
    is ∙ ap (λ (l : Level). book_image (weight_image l runs) given) one
    ∙ ap (λ (rs : List Run). book_image (weight_image One rs) given) same
    ∙ ap (book_image (weight_image One old)) (book_is given book.letters book.variables letters variables)
