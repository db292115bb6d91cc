-- Books with one more start.
use Rattle.std.proofs.Common.{◌≡◌, Some, ℕ, suc, ◌-◌, ◌<◌, ◌≤◌, List, [], ◌∷◌, ◌++◌, length, sym, ap, ◌∙◌, arith, length-append}
use Rattle.std.specs.Prelude.{slice_get}
use Rattle.std.proofs.lemmas.Option.{same_Some}
use Rattle.uca_weights.proofs.Lists.{each_push}
use Rattle.uca_books.specs.Books.{BookContent, RiseAfter, AreStarts, IsBook, Start, Letter, Variable, IsStart, last_of, MayFollow, IsFull, put_last}

-- ---- Order

-- with a member that is greater than the last one
rise_more : (n : ℕ) (xs : List ℕ) (x : ℕ) → RiseAfter n xs → last_of n xs < x → RiseAfter n (xs ++ x ∷ [])
rise_more n [] x h k = (k, tt)
rise_more n (y ∷ ys) x h k = (h.0, rise_more y ys x h.1 k)

-- without the last one
rise_less : (n : ℕ) (xs : List ℕ) (x : ℕ) → RiseAfter n (xs ++ x ∷ []) → RiseAfter n xs × (last_of n xs < x)
rise_less n [] x h = (tt, h.0)
rise_less n (y ∷ ys) x h = let rest = rise_less y ys x h.1 in ((h.0, rest.0), rest.1)

-- the last one is not below n
last_above : (n : ℕ) (xs : List ℕ) → RiseAfter n xs → n ≤ last_of n xs
last_above n [] h = omega arith
last_above n (x ∷ xs) h = omega (arith, h.0, last_above x xs h.1)

-- it is the last of the slice
pub last_is : (n : ℕ) (xs : List ℕ) (last : ℕ) → Some last ≡ slice_get xs (length xs - 1) → last_of n xs ≡ last
last_is n [] last h = absurd (cc)
last_is n (y ∷ []) last h = sym (same_Some last y h)
last_is n (y ∷ z ∷ more) last h =
    let e : length (y ∷ z ∷ more) - 1 ≡ suc (length (z ∷ more) - 1) = omega arith in
    last_is y (z ∷ more) last (h ∙ ap (slice_get (y ∷ z ∷ more)) e)

-- ---- A level

starts_more : (greatest most : ℕ) (xs : List ℕ) (w : ℕ) → AreStarts greatest most xs → last_of 1 xs < w → w ≤ greatest → ¬ (most ≤ length xs)
    → AreStarts greatest most (xs ++ w ∷ [])
starts_more greatest most xs w h due fits room = record {
  rise = rise_more 1 xs w h.rise due;
  fit = (each_push (λ x. x ≤ greatest) xs w).1 (h.fit, fits);
  few = omega (arith, room, length-append xs (w ∷ []));
}

record IsLevelLess (greatest most : ℕ) (xs : List ℕ) (w : ℕ) : Type 0 where
  starts : AreStarts greatest most xs
  due : last_of 1 xs < w
  least : 2 ≤ w
  fits : w ≤ greatest
  room : ¬ (most ≤ length xs)

starts_less : (greatest most : ℕ) (xs : List ℕ) (w : ℕ) → AreStarts greatest most (xs ++ w ∷ []) → IsLevelLess greatest most xs w
starts_less greatest most xs w h =
    let order = rise_less 1 xs w h.rise in
    let each = (each_push (λ x. x ≤ greatest) xs w).0 h.fit in
    record {
      starts = record { rise = order.0; fit = each.0; few = omega (arith, h.few, length-append xs (w ∷ [])) };
      due = order.1;
      least = omega (arith, order.1, last_above 1 xs order.0);
      fits = each.1;
      room = λ full. omega (arith, full, h.few, length-append xs (w ∷ []));
    }

-- ---- One more

-- a book with one start more
pub book_more : (book : BookContent) (start : Start) → IsBook book → IsStart start → MayFollow book start → ¬ (IsFull book start) → IsBook (put_last start book)
book_more book (Letter w) h fits due room = record { letters = starts_more 0xFFFF 245 book.letters w h.letters due.1 fits.1 room; variables = h.variables }
book_more book (Variable w) h fits due room = record { letters = h.letters; variables = starts_more 0xFFFE 255 book.variables w h.variables due fits.1 room }

-- ---- One less

-- what is true of a book without its last start, and of this start
pub record IsLess (less : BookContent) (start : Start) : Type 0 where
  pub book : IsBook less
  pub fits : IsStart start
  pub due : MayFollow less start
  pub room : ¬ (IsFull less start)

-- without its last start of level 1
pub letter_less : (less : BookContent) (w : ℕ) → less.variables ≡ [] → IsBook (put_last (Letter w) less) → IsLess less (Letter w)
letter_less less w none h =
    let l = starts_less 0xFFFF 245 less.letters w h.letters in
    record {
      book = record { letters = l.starts; variables = h.variables };
      fits = (l.least, l.fits);
      due = (none, l.due);
      room = l.room;
    }

-- without its last start of level 4
pub variable_less : (less : BookContent) (w : ℕ) → IsBook (put_last (Variable w) less) → IsLess less (Variable w)
variable_less less w h =
    let l = starts_less 0xFFFE 255 less.variables w h.variables in
    record {
      book = record { letters = h.letters; variables = l.starts };
      fits = (l.least, l.fits);
      due = l.due;
      room = l.room;
    }
