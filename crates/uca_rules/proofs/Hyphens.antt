-- The hyphens of ranges: what one more symbol shows.
use Rattle.std.proofs.Common.{◌≡◌, ◌⊎◌, inl, inr, ℕ, ◌+◌, ◌<◌, List, [], ◌∷◌, ◌++◌, length, get_or, take, drop, refl, ap, sym, subst, ◌∙◌, arith}
use Rattle.std.proofs.lemmas.List.{append_assoc, same_from_push, take_more, take-append-drop, length_push}
use Rattle.uca_rules.specs.declared.characters.Character.{Character}
use Rattle.uca_rules.specs.Pieces.{Symbol, Literal, Hyphen}
use Rattle.uca_rules.specs.Statements.{IsNoRange, No_start, Hyphen_before, Range_before, Hyphen_after, Wrong_ends, HasRangesSoFar}
use Rattle.uca_rules.proofs.Placing.{no_character}
use Rattle.uca_rules.specs.inside.Views.{EndsInHyphen, BeginsRange, ShowsWrongHyphen}

-- ---- Lists by their last member

none_of_push : {A : Type 0} (xs : List A) (x : A) → xs ++ x ∷ [] ≡ [] → ⊥
none_of_push xs x e = omega (arith, length_push xs x, ap length e)

-- a list that is not empty, by its last member
record HasLast {A : Type 0} (xs : List A) : Type 0 where
  front : List A
  last : A
  is : xs ≡ front ++ last ∷ []

has_last : {A : Type 0} (x : A) (xs : List A) → HasLast (x ∷ xs)
has_last x [] = record { front = []; last = x; is = refl }
has_last x (y ∷ ys) = let r = has_last y ys in record { front = x ∷ r.front; last = r.last; is = ap (λ zs. x ∷ zs) r.is }

last_of : {A : Type 0} (xs : List A) → (xs ≡ []) ⊎ HasLast xs
last_of [] = inl refl
last_of (x ∷ xs) = inr (has_last x xs)

-- a member of a list with one more member is at the end or in the list
record IsBefore {A : Type 0} (xs : List A) (last : A) (front : List A) (here : A) (back : List A) : Type 0 where
  more : List A
  ends : back ≡ more ++ last ∷ []
  are : xs ≡ front ++ here ∷ more

split_more : {A : Type 0} (xs : List A) (last : A) (front : List A) (here : A) (back : List A) → xs ++ last ∷ [] ≡ front ++ here ∷ back →
    ((back ≡ []) × (xs ≡ front) × (last ≡ here)) ⊎ IsBefore xs last front here back
split_more xs last front here [] e = let same = same_from_push xs front last here e in inl (refl, same.0, same.1)
split_more xs last front here (b ∷ bs) e =
    let r = has_last b bs in
    let same = same_from_push xs (front ++ here ∷ r.front) last r.last
    (e ∙ (ap (λ zs. front ++ here ∷ zs) r.is ∙ sym (append_assoc front (here ∷ r.front) (r.last ∷ [])))) in
    inr (record { more = r.front; ends = r.is ∙ ap (λ z. r.front ++ z ∷ []) (sym same.1); are = same.0 })

-- ---- What shows that a hyphen stands for no range

pub shown_longer : (front back more : List Symbol) → IsNoRange front back → IsNoRange front (back ++ more)
shown_longer front back more (No_start e) = No_start e
shown_longer front back more (Hyphen_before before place e) = Hyphen_before before place e
shown_longer front back more (Range_before before place x e) = Range_before before place x e
shown_longer front back more (Hyphen_after place after e) = Hyphen_after place (after ++ more) (ap (λ zs. zs ++ more) e)
shown_longer front back more (Wrong_ends before after x y e k wrong) = Wrong_ends before (after ++ more) x y e (ap (λ zs. zs ++ more) k) wrong

shown_before : (front : List Symbol) (b : Symbol) (back : List Symbol) (last : Symbol) → IsNoRange front ((b ∷ back) ++ last ∷ []) → IsNoRange front (b ∷ back)
shown_before front b back last (No_start e) = No_start e
shown_before front b back last (Hyphen_before before place e) = Hyphen_before before place e
shown_before front b back last (Range_before before place x e) = Range_before before place x e
shown_before front b back last (Hyphen_after place after e) = let is : b ≡ Hyphen place = cc in Hyphen_after place back (ap (λ c. c ∷ back) is)
shown_before front b back last (Wrong_ends before after x y e k wrong) = let is : b ≡ Literal y = cc in Wrong_ends before back x y e (ap (λ c. c ∷ back) is) wrong

-- one more symbol
ranges_more : (xs : List Symbol) (s : Symbol) → HasRangesSoFar xs → ((place : ℕ) → s ≡ Hyphen place → ¬ (IsNoRange xs [])) →
    ((front : List Symbol) (place : ℕ) → xs ≡ front ++ Hyphen place ∷ [] → ¬ (IsNoRange front (s ∷ []))) → HasRangesSoFar (xs ++ s ∷ [])
ranges_more xs s so_far last before front back place e wrong =
    elim (split_more xs s front (Hyphen place) back e) [
      | inl end ↦ last place end.2 (rw (end.1, ← end.0) wrong)
      | inr w ↦ within w.more w.ends w.are
    ]
  where
    within : (more : List Symbol) → back ≡ more ++ s ∷ [] → xs ≡ front ++ Hyphen place ∷ more → ⊥
    within [] ends are = before front place are (subst (IsNoRange front) ends wrong)
    within (b ∷ more) ends are = so_far front (b ∷ more) place are (shown_before front b more s (subst (IsNoRange front) ends wrong))

-- ---- By the last symbol before

hyphen_is_no_literal : {A : Type 0} (place : ℕ) (x : Character) → Hyphen place ≡ Literal x → A
hyphen_is_no_literal place x e = let no : ⊥ = cc in absurd no

-- after a hyphen a character to which there is a range
pub after_hyphen : (xs front : List Symbol) (place : ℕ) (s last : Symbol) → xs ≡ front ++ last ∷ [] → last ≡ Hyphen place → BeginsRange front s → HasRangesSoFar xs → HasRangesSoFar (xs ++ s ∷ [])
after_hyphen xs front place s last is hyphen range so_far = ranges_more xs s so_far first second
  where
    first : (p : ℕ) → s ≡ Hyphen p → ¬ (IsNoRange xs [])
    first p e wrong = hyphen_is_no_literal p range.y (sym e ∙ range.is)

    inside : (b : List Symbol) → b ≡ s ∷ [] → ¬ (IsNoRange front b)
    inside b e (No_start k) = so_far front [] place (is ∙ ap (λ z. front ++ z ∷ []) hyphen) (No_start k)
    inside b e (Hyphen_before before p k) = so_far front [] place (is ∙ ap (λ z. front ++ z ∷ []) hyphen) (Hyphen_before before p k)
    inside b e (Range_before before p x k) = so_far front [] place (is ∙ ap (λ z. front ++ z ∷ []) hyphen) (Range_before before p x k)
    inside b e (Hyphen_after p more k) = let same : s ≡ Hyphen p = cc in hyphen_is_no_literal p range.y (sym same ∙ range.is)
    inside b e (Wrong_ends before more x y k l wrong) =
        let start = same_from_push before range.front (Literal x) (Literal range.x) (sym k ∙ range.are) in
        let e1 : x ≡ range.x = cc (start.1) in
        let e2 : y ≡ range.y = cc (range.is, l, e) in
        wrong (rw (e1, e2) range.range)

    second : (f : List Symbol) (p : ℕ) → xs ≡ f ++ Hyphen p ∷ [] → ¬ (IsNoRange f (s ∷ []))
    second f p e wrong = let same = same_from_push f front (Hyphen p) last (sym e ∙ is) in inside (s ∷ []) refl (rw (← same.0) wrong)

-- after a hyphen another symbol
pub no_range_there : (xs front : List Symbol) (place : ℕ) (s last : Symbol) → xs ≡ front ++ last ∷ [] → last ≡ Hyphen place → ¬ (BeginsRange front s) → ShowsWrongHyphen (xs ++ s ∷ []) place
no_range_there xs front place s last is hyphen none = record {
  front = front;
  back = s ∷ [];
  are = rw (is, hyphen) (append_assoc front (Hyphen place ∷ []) (s ∷ []));
  wrong = by_end s refl;
}
  where
    by_front : (y : Character) → s ≡ Literal y → (front ≡ []) ⊎ HasLast front → IsNoRange front (s ∷ [])
    by_front y e (inl empty) = No_start empty
    by_front y e (inr w) = by_last w.last refl
      where
        by_last : (last : Symbol) → w.last ≡ last → IsNoRange front (s ∷ [])
        by_last (Hyphen p) k = Hyphen_before w.front p (w.is ∙ ap (λ z. w.front ++ z ∷ []) k)
        by_last (Literal x) k =
            let are : front ≡ w.front ++ Literal x ∷ [] = w.is ∙ ap (λ z. w.front ++ z ∷ []) k in
            Wrong_ends w.front [] x y are (ap (λ z. z ∷ []) e) (λ range. none (record { front = w.front; x = x; y = y; are = are; is = e; range = range }))

    by_end : (t : Symbol) → s ≡ t → IsNoRange front (s ∷ [])
    by_end (Hyphen p) e = Hyphen_after p [] (ap (λ z. z ∷ []) e)
    by_end (Literal y) e = by_front y e (last_of front)

-- a hyphen after a range
pub after_range : (xs front : List Symbol) (x : Character) (place : ℕ) (s last : Symbol) → xs ≡ front ++ last ∷ [] → last ≡ Literal x → s ≡ Hyphen place → (p : ℕ) → EndsInHyphen front p → ShowsWrongHyphen (xs ++ s ∷ []) place
after_range xs front x place s last is letter hyphen p ends = record {
  front = xs;
  back = [];
  are = ap (λ z. xs ++ z ∷ []) hyphen;
  wrong = Range_before ends.front p x (is ∙ (ap (λ z. front ++ z ∷ []) letter ∙ (ap (λ zs. zs ++ Literal x ∷ []) ends.are ∙ append_assoc ends.front (Hyphen p ∷ []) (Literal x ∷ []))));
}

-- a hyphen after another character
pub hyphen_after : (xs front : List Symbol) (x : Character) (s last : Symbol) → xs ≡ front ++ last ∷ [] → last ≡ Literal x → ((p : ℕ) → ¬ (EndsInHyphen front p)) → HasRangesSoFar xs → HasRangesSoFar (xs ++ s ∷ [])
hyphen_after xs front x s last is letter none so_far = ranges_more xs s so_far first second
  where
    inside : (b : List Symbol) → b ≡ [] → ¬ (IsNoRange xs b)
    inside b e (No_start k) = none_of_push front last (sym is ∙ k)
    inside b e (Hyphen_before before p k) = let same = same_from_push front before last (Hyphen p) (sym is ∙ k) in hyphen_is_no_literal p x (sym same.1 ∙ letter)
    inside b e (Range_before before p y k) =
        let same = same_from_push front (before ++ Hyphen p ∷ []) last (Literal y) (sym is ∙ (k ∙ sym (append_assoc before (Hyphen p ∷ []) (Literal y ∷ [])))) in
        none p (record { front = before; are = same.0 })
    inside b e (Hyphen_after p more k) = let no : ⊥ = cc in no
    inside b e (Wrong_ends before more y z k l wrong) = let no : ⊥ = cc (e, l) in no

    first : (p : ℕ) → s ≡ Hyphen p → ¬ (IsNoRange xs [])
    first p e wrong = inside [] refl wrong

    second : (f : List Symbol) (p : ℕ) → xs ≡ f ++ Hyphen p ∷ [] → ¬ (IsNoRange f (s ∷ []))
    second f p e wrong = let same = same_from_push front f last (Hyphen p) (sym is ∙ e) in hyphen_is_no_literal p x (sym same.1 ∙ letter)

-- a character after another one
pub letter_after : (xs front : List Symbol) (x y : Character) (s last : Symbol) → xs ≡ front ++ last ∷ [] → last ≡ Literal x → s ≡ Literal y → HasRangesSoFar xs → HasRangesSoFar (xs ++ s ∷ [])
letter_after xs front x y s last is letter end so_far = ranges_more xs s so_far first second
  where
    first : (p : ℕ) → s ≡ Hyphen p → ¬ (IsNoRange xs [])
    first p e wrong = hyphen_is_no_literal p y (sym e ∙ end)

    second : (f : List Symbol) (p : ℕ) → xs ≡ f ++ Hyphen p ∷ [] → ¬ (IsNoRange f (s ∷ []))
    second f p e wrong = let same = same_from_push front f last (Hyphen p) (sym is ∙ e) in hyphen_is_no_literal p x (sym same.1 ∙ letter)

-- ---- In a longer list

-- what is read past the end
abbrev pub no_symbol : Symbol
no_symbol = Literal no_character

pub shows_longer : (xs more : List Symbol) (place : ℕ) → ShowsWrongHyphen xs place → ShowsWrongHyphen (xs ++ more) place
shows_longer xs more place h = record {
  front = h.front;
  back = h.back ++ more;
  are = ap (λ zs. zs ++ more) h.are ∙ append_assoc h.front (Hyphen place ∷ h.back) more;
  wrong = shown_longer h.front h.back more h.wrong;
}

pub shows_in : (xs : List Symbol) (i : ℕ) (d : Symbol) (place : ℕ) → i < length xs → ShowsWrongHyphen (take i xs ++ get_or xs i d ∷ []) place → ShowsWrongHyphen xs place
shows_in xs i d place within h =
    let P : List Symbol → Type 0 = λ zs. ShowsWrongHyphen zs place in
    subst P (take-append-drop (i + 1) xs) (shows_longer (take (i + 1) xs) (drop (i + 1) xs) place (rw (take_more xs i d within) h))

pub so_far_more : (xs : List Symbol) (i : ℕ) (d : Symbol) → i < length xs → HasRangesSoFar (take i xs ++ get_or xs i d ∷ []) → HasRangesSoFar (take (i + 1) xs)
so_far_more xs i d within h = subst HasRangesSoFar (sym (take_more xs i d within)) h
