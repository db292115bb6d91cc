-- The longest key at the front of a text, the non-starters after it, and the walk to it.
use Rattle.std.proofs.Common.{◌≡◌, ℕ, zero, suc, ◌<◌, ◌≤◌, List, [], ◌∷◌, ◌++◌, length, take, Bool, true, false, cond, IsFalse, sym, ap, subst, refl}
use Rattle.std.proofs.Common.{◌∙◌, append-nil, ⊎_elim, arith, ◌+◌, drop, get_or, Option, Some, None, add-one, length-drop, length-take-le, take-append-drop, append_assoc}
use Rattle.std.proofs.lemmas.Bool.{cond_both, cond-true, cond-false, cases_Bool, cases_eq, both_ways}
use Rattle.std.specs.List.{AllByRecursion}
use Rattle.uca_text.specs.Texts.{ClassedCodePoint, Text, code_points, is_starter, NfdText}
use Rattle.uca_elements.specs.Rows.{Keys}
use Rattle.uca_elements.specs.Reading.{is_taken, removed, members, others, longest_key, non_starters_at_front, after_non_starters, IsAtStarter}
use Rattle.uca_elements.specs.Reading.{AreNonStartersBefore}
use Rattle.uca_elements.proofs.RemovedLemmas.{IsKeyOf, members_taken, members_skipped, taken_iff, code_points-append, code_points-push}
use Rattle.std.proofs.lemmas.List.{take-take}
use Rattle.std.proofs.Math.Seq.{take-suc, drop-cons}
use Rattle.uca_elements.specs.Lookups.{BeginsNoKeyIn}
use Rattle.uca_elements.specs.Places.{is_gone, left_at}
use Rattle.uca_elements.specs.Matches.{IsLongest}
use Rattle.uca_elements.specs.declared.places.Place.{Place}
use Rattle.uca_elements.specs.declared.matches.Longest.{Longest}
use Rattle.uca_elements.proofs.PlaceLemmas.{not_true, classed_at, left_gone, left_kept, left_end}

-- ---- The longest key at the front of a text, and the non-starters after it

-- ---- The longest key

pub longest_within : (keys : Keys) (t : Text) (n : ℕ) → longest_key keys t n ≤ n
longest_within keys t zero = omega arith
longest_within keys t (suc n) =
    let shorter : longest_key keys t n ≤ n = longest_within keys t n in
    cond_both (keys (code_points (take (suc n) t))) (suc n) (longest_key keys t n) (λ k. k ≤ suc n) (λ e. omega arith) (λ e. omega arith)

pub longest_is_key : (keys : Keys) (t : Text) (n k : ℕ) → longest_key keys t n ≡ suc k → IsKeyOf keys (code_points (take (suc k) t))
longest_is_key keys t zero k h = absurd (omega arith)
longest_is_key keys t (suc n) k h =
    cond_both (keys (code_points (take (suc n) t))) (suc n) (longest_key keys t n) (λ m. m ≡ suc k → IsKeyOf keys (code_points (take (suc k) t)))
    (λ e same. subst (λ m. IsKeyOf keys (code_points (take m t))) same e)
    (λ e same. longest_is_key keys t n k same)
    h

-- no key that begins the text is longer
pub longest_is_last : (keys : Keys) (t : Text) (n m : ℕ) → m ≤ n → IsKeyOf keys (code_points (take m t)) → longest_key keys t n < m → ⊥
longest_is_last keys t zero m within key longer = omega arith
longest_is_last keys t (suc n) m within key longer =
    cond_both (keys (code_points (take (suc n) t))) (suc n) (longest_key keys t n) (λ k. k < m → ⊥)
    (λ e less. omega arith)
    (λ e less. ⊎_elim (λ same. both_ways (keys (code_points (take (suc n) t))) e (subst (λ k. IsKeyOf keys (code_points (take k t))) same key))
    (λ other. longest_is_last keys t n m (omega arith) key less) (cases_eq m (suc n)))
    longer

-- where no key ends past p, it is enough to look up to p
pub no_longer : (keys : Keys) (t : Text) (p q : ℕ) → p ≤ q → ((m : ℕ) → p < m → m ≤ q → keys (code_points (take m t)) ≡ false) →
    longest_key keys t q ≡ longest_key keys t p
no_longer keys t p zero within none = ap (longest_key keys t) (let same : zero ≡ p = omega arith in same)
no_longer keys t p (suc q) within none =
    ⊎_elim
    (λ same. ap (longest_key keys t) (sym same))
    (λ other.
    cond-false (keys (code_points (take (suc q) t))) (suc q) (longest_key keys t q) (none (suc q) (omega arith) (omega arith))
    ∙ no_longer keys t p q (omega arith) (λ m above below. none m above (omega arith)))
    (cases_eq p (suc q))

-- ---- The non-starters

-- a text that begins with a non-starter, and one that begins with a starter
pub marks_more : (c : ClassedCodePoint) (t : Text) → is_starter c ≡ false → non_starters_at_front (c ∷ t) ≡ c ∷ non_starters_at_front t
marks_more c t h = cond-false (is_starter c) [] (c ∷ non_starters_at_front t) h

pub after_more : (c : ClassedCodePoint) (t : Text) → is_starter c ≡ false → after_non_starters (c ∷ t) ≡ after_non_starters t
after_more c t h = cond-false (is_starter c) (c ∷ t) (after_non_starters t) h

pub marks_none : (c : ClassedCodePoint) (t : Text) → is_starter c ≡ true → non_starters_at_front (c ∷ t) ≡ []
marks_none c t h = cond-true (is_starter c) [] (c ∷ non_starters_at_front t) h

pub after_none : (c : ClassedCodePoint) (t : Text) → is_starter c ≡ true → after_non_starters (c ∷ t) ≡ c ∷ t
after_none c t h = cond-true (is_starter c) (c ∷ t) (after_non_starters t) h

pub marks-append : (t : Text) → non_starters_at_front t ++ after_non_starters t ≡ t
marks-append [] = refl
marks-append (c ∷ t) =
    elim (is_starter c) as (λ b. cond b [] (c ∷ non_starters_at_front t) ++ cond b (c ∷ t) (after_non_starters t) ≡ c ∷ t)
    [ true ↦ refl | false ↦ ap (λ more. c ∷ more) (marks-append t) ]

pub marks_are : (t : Text) → AllByRecursion (λ c. IsFalse (is_starter c)) (non_starters_at_front t)
marks_are [] = tt
marks_are (c ∷ t) =
    cond_both (is_starter c) [] (c ∷ non_starters_at_front t) (λ marks. AllByRecursion (λ d. IsFalse (is_starter d)) marks) (λ e. tt)
    (λ e. (e, marks_are t))

pub after_is : (t : Text) → IsAtStarter (after_non_starters t)
after_is [] = tt
after_is (c ∷ t) = cond_both (is_starter c) (c ∷ t) (after_non_starters t) (λ rest. IsAtStarter rest) (λ e. e) (λ e. after_is t)

pub AreNonStartersBefore-split : (t : Text) → AreNonStartersBefore (non_starters_at_front t) (after_non_starters t)
AreNonStartersBefore-split t = record { are_non_starters = marks_are t; ends = after_is t }

pub marks_of_split : (marks rest : Text) → AllByRecursion (λ c. IsFalse (is_starter c)) marks → IsAtStarter rest →
    non_starters_at_front (marks ++ rest) ≡ marks
marks_of_split [] [] h starts = refl
marks_of_split [] (c ∷ rest) h starts = marks_none c rest starts
marks_of_split (c ∷ marks) rest h starts = marks_more c (marks ++ rest) h.0 ∙ ap (λ more. c ∷ more) (marks_of_split marks rest h.1 starts)

pub after_of_split : (marks rest : Text) → AllByRecursion (λ c. IsFalse (is_starter c)) marks → IsAtStarter rest → after_non_starters (marks ++ rest) ≡ rest
after_of_split [] [] h starts = refl
after_of_split [] (c ∷ rest) h starts = after_none c rest starts
after_of_split (c ∷ marks) rest h starts = after_more c (marks ++ rest) h.0 ∙ after_of_split marks rest h.1 starts

pub length-others : (set : List Bool) (t : Text) → length (others set t) ≤ length t
length-others [] t = omega arith
length-others (b ∷ set) [] = omega arith
length-others (true ∷ set) (c ∷ t) = let fewer = length-others set t in omega arith
length-others (false ∷ set) (c ∷ t) = let fewer = length-others set t in omega arith

-- ---- The extended key

pub extended_is_key : (keys : Keys) (start skipped marks : Text) → IsKeyOf keys (code_points start) →
    IsKeyOf keys (code_points (start ++ members (removed keys start skipped marks) marks))
extended_is_key keys start skipped [] key = rw append-nil key
extended_is_key keys start skipped (c ∷ marks) key =
    ⊎_elim
    (λ taken. subst (λ t. IsKeyOf keys (code_points t)) (sym (members_taken keys start skipped c marks taken))
    (extended_is_key keys (start ++ c ∷ []) skipped marks ((taken_iff keys start skipped c).0 taken).1))
    (λ left. subst (λ t. IsKeyOf keys (code_points t)) (sym (members_skipped keys start skipped c marks left))
    (extended_is_key keys start (skipped ++ c ∷ []) marks key))
    (cases_Bool (is_taken keys start skipped c))

-- ---- The walk to the longest key at the front of what is left

-- a node stands for the code points that are left between `first` and i, and `best` is the longest key among their beginnings
pub record IsWalked {N : Type 0} (stands_for : N → List ℕ → Type 0) (keys : Keys) (s : NfdText) (place : Place) (first i : ℕ) (node : N)
    (best : Option (Longest N)) : Type 0 where
  pub count : ℕ
  pub begun : first ≤ i
  pub passed : count ≤ length (left_at s place first)
  pub left : left_at s place i ≡ drop count (left_at s place first)
  pub node_is : stands_for node (code_points (take count (left_at s place first)))
  pub best_is : IsLongest stands_for keys s place first count best

-- one more code point of a list
one_more : (t rest : Text) (count : ℕ) (c : ClassedCodePoint) → count ≤ length t → c ∷ rest ≡ drop count t →
    (suc count ≤ length t) × (rest ≡ drop (suc count) t) × (take (suc count) t ≡ take count t ++ c ∷ [])
one_more t rest count c within split =
    let some : count < length t = omega (arith, length-drop count t, ap length split) in
    let cons = drop-cons t count c some in
    let first : c ≡ get_or t count c = cc in
    (some, (let same : rest ≡ drop (suc count) t = cc in same), take-suc t count c some ∙ ap (λ d. take count t ++ d ∷ []) (sym first))

longest_same : {N : Type 0} (stands_for : N → List ℕ → Type 0) (keys : Keys) (s : NfdText) (place : Place) (first n m : ℕ)
    (best : Option (Longest N)) → longest_key keys (left_at s place first) n ≡ longest_key keys (left_at s place first) m →
    IsLongest stands_for keys s place first m best → IsLongest stands_for keys s place first n best
longest_same stands_for keys s place first n m None same h = same ∙ h
longest_same stands_for keys s place first n m (Some key) same h =
    record { count = h.count; longest = same ∙ h.longest; stands = h.stands; left = h.left; onward = h.onward; within = h.within }

-- no key begins with a list with which no longer one begins, and goes on
no_key_past_leaf : (keys : Keys) (begin rest : Text) → 0 < length rest → ((c : ℕ) → BeginsNoKeyIn keys (code_points begin ++ c ∷ [])) →
    IsKeyOf keys (code_points (begin ++ rest)) → ⊥
no_key_past_leaf keys begin [] some leaf key = absurd (omega arith)
no_key_past_leaf keys begin (c ∷ rest) some leaf key =
    let split : code_points (begin ++ c ∷ rest) ≡ (code_points begin ++ c.code ∷ []) ++ code_points rest = code_points-append begin (c ∷ rest)
    ∙ sym (append_assoc (code_points begin) (c.code ∷ []) (code_points rest)) in
    leaf c.code (code_points rest, subst (λ k. keys k ≡ true) split key)

module _ {N : Type 0} (stands_for : N → List ℕ → Type 0) (keys : Keys) (s : NfdText) (place : Place) (first : ℕ) where
  pub walked_gone : (i : ℕ) (node : N) (best : Option (Longest N)) → length s.classes ≡ length s.points → i < length s.points →
      is_gone place i ≡ true → IsWalked stands_for keys s place first i node best → IsWalked stands_for keys s place first (i + 1) node best
  walked_gone i node best same within gone walked =
      record {
        count = walked.count;
        begun = omega (arith, walked.begun);
        passed = walked.passed;
        left = ap (left_at s place) (add-one i) ∙ sym (left_gone s place i same within gone) ∙ walked.left;
        node_is = walked.node_is;
        best_is = walked.best_is;
      }

  -- the walk comes to a code point
  module _ (i : ℕ) (node : N) (best : Option (Longest N)) (same : length s.classes ≡ length s.points) (within : i < length s.points)
      (kept : is_gone place i ≡ false) (walked : IsWalked stands_for keys s place first i node best) where
    here : (suc walked.count ≤ length (left_at s place first)) × (left_at s place (suc i) ≡ drop (suc walked.count) (left_at s place first)) ×
        (take (suc walked.count) (left_at s place first) ≡ take walked.count (left_at s place first) ++ classed_at s i ∷ [])
    here = one_more (left_at s place first) (left_at s place (suc i)) walked.count (classed_at s i) walked.passed
        (sym (left_kept s place i same within kept) ∙ walked.left)

    -- the code points up to the code point
    pub so_far : code_points (take (suc walked.count) (left_at s place first)) ≡ code_points (take walked.count (left_at s place first))
        ++ get_or s.points i 0 ∷ []
    so_far = ap code_points here.2 ∙ code_points-push (take walked.count (left_at s place first)) (classed_at s i)

    -- no key goes on so
    pub walked_out : BeginsNoKeyIn keys (code_points (take walked.count (left_at s place first)) ++ get_or s.points i 0 ∷ []) →
        IsLongest stands_for keys s place first (length (left_at s place first)) best
    walked_out none =
        let t : Text = left_at s place first in
        let n : ℕ = suc walked.count in
        let no_key : (m : ℕ) → walked.count < m → m ≤ length t → keys (code_points (take m t)) ≡ false = λ m above below.
        not_true (keys (code_points (take m t)))
        (λ key.
        let front : take n (take m t) ≡ take n t = take-take n m t (omega arith) in
        let split : code_points (take m t) ≡ code_points (take n t) ++ code_points (drop n (take m t)) =
        ap code_points (sym (take-append-drop n (take m t)) ∙ ap (λ f. f ++ drop n (take m t)) front)
        ∙ code_points-append (take n t) (drop n (take m t)) in
        none (code_points (drop n (take m t)), subst (λ k. keys k ≡ true) (split ∙ ap (λ f. f ++ code_points (drop n (take m t))) so_far) key)) in
        longest_same stands_for keys s place first (length t) walked.count best (no_longer keys t walked.count (length t) walked.passed no_key)
        walked.best_is

    pub walked_on : (next : N) (new : Option (Longest N)) →
        stands_for next (code_points (take walked.count (left_at s place first)) ++ get_or s.points i 0 ∷ []) →
        IsLongest stands_for keys s place first (suc walked.count) new → IsWalked stands_for keys s place first (i + 1) next new
    walked_on next new stands longest =
        record {
          count = suc walked.count;
          begun = omega (arith, walked.begun);
          passed = here.0;
          left = ap (left_at s place) (add-one i) ∙ here.1;
          node_is = subst (λ k. stands_for next k) (sym so_far) stands;
          best_is = longest;
        }

    pub longest_as_before : keys (code_points (take walked.count (left_at s place first)) ++ get_or s.points i 0 ∷ []) ≡ false →
        IsLongest stands_for keys s place first (suc walked.count) best
    longest_as_before none =
        let t : Text = left_at s place first in
        let no_key : keys (code_points (take (suc walked.count) t)) ≡ false = ap keys so_far ∙ none in
        longest_same stands_for keys s place first (suc walked.count) walked.count best
        (cond-false (keys (code_points (take (suc walked.count) t))) (suc walked.count) (longest_key keys t walked.count) no_key) walked.best_is

    pub longest_now : (next : N) →
        stands_for next (code_points (take walked.count (left_at s place first)) ++ get_or s.points i 0 ∷ []) →
        keys (code_points (take walked.count (left_at s place first)) ++ get_or s.points i 0 ∷ []) ≡ true →
        IsLongest stands_for keys s place first (suc walked.count) (Some (record { node = next; after = i + 1 }))
    longest_now next stands some =
        let t : Text = left_at s place first in
        let key : keys (code_points (take (suc walked.count) t)) ≡ true = ap keys so_far ∙ some in
        record {
          count = walked.count;
          longest = cond-true (keys (code_points (take (suc walked.count) t))) (suc walked.count) (longest_key keys t walked.count) key;
          stands = subst (λ k. stands_for next k) (sym so_far) stands;
          left = ap (left_at s place) (add-one i) ∙ here.1;
          onward = omega (arith, walked.begun);
          within = omega arith;
        }

  -- no longer key begins with what the walk has come to
  pub walked_to_leaf : (i : ℕ) (node : N) (best : Option (Longest N)) → (walked : IsWalked stands_for keys s place first i node best) →
      ((c : ℕ) → BeginsNoKeyIn keys (code_points (take walked.count (left_at s place first)) ++ c ∷ [])) →
      IsLongest stands_for keys s place first (length (left_at s place first)) best
  walked_to_leaf i node best walked leaf =
      let t : Text = left_at s place first in
      let n : ℕ = walked.count in
      let no_key : (m : ℕ) → n < m → m ≤ length t → keys (code_points (take m t)) ≡ false = λ m above below.
      not_true (keys (code_points (take m t)))
      (λ key.
      let split : take m t ≡ take n t ++ drop n (take m t) = sym (take-append-drop n (take m t))
      ∙ ap (λ f. f ++ drop n (take m t)) (take-take n m t (omega arith)) in
      no_key_past_leaf keys (take n t) (drop n (take m t)) (omega (arith, length-drop n (take m t), length-take-le m t below)) leaf
      (subst (λ f. IsKeyOf keys (code_points f)) split key)) in
      longest_same stands_for keys s place first (length t) n best (no_longer keys t n (length t) walked.passed no_key) walked.best_is

  -- the walk comes to the end of the text
  pub walked_through : (i : ℕ) (node : N) (best : Option (Longest N)) → length s.classes ≡ length s.points → length s.points ≤ i →
      IsWalked stands_for keys s place first i node best → IsLongest stands_for keys s place first (length (left_at s place first)) best
  walked_through i node best same past walked =
      let t : Text = left_at s place first in
      let none : drop walked.count t ≡ [] = sym walked.left ∙ left_end s place i same past in
      let all : length t ≡ walked.count = omega (arith, length-drop walked.count t, ap length none, walked.passed) in
      longest_same stands_for keys s place first (length t) walked.count best (ap (longest_key keys t) all) walked.best_is
