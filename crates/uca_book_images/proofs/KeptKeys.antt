-- Keys that keep their places have one compact key.
use Rattle.std.proofs.Common.{◌≡◌, ℕ, zero, suc, ◌+◌, ◌-◌, ◌*◌, List, [], ◌∷◌, ◌++◌, Bool, true, false, cond, length, map, refl, ap, ap₂, sym, ◌∙◌, encode_utf8_all}
use Rattle.std.specs.List.{AllZip}
use Rattle.std.specs.Ordering.{nat_cmp, ordering_then, is_eq}
use Rattle.std.specs.declared.cmp.Ordering.{Ordering}
use Rattle.std.specs.declared.cmp.Ordering.TheVariants.{Less, Equal, Greater}
use Rattle.std.proofs.lemmas.List.Elements.{length_all_zip}
use Rattle.uca_weights.specs.declared.Depth.TheVariants.{Weights, Identical}
use Rattle.uca_weights.specs.declared.Weighting.{Weighting}
use Rattle.uca_weights.specs.declared.Weighting.TheVariants.{NonIgnorable, Shifted}
use Rattle.uca_order.specs.Levels.{lexicographic}
use Rattle.uca_books.specs.Books.{BookContent}
use Rattle.uca_compact.specs.Forms.{Form, step, accent_starts, case_starts, letters_form, accents_form, cases_form, variables_form, forms_of}
use Rattle.uca_compact.specs.PlainLevels.{copies, is_lead, letters_after, letter_count, plain_level}
use Rattle.uca_compact.specs.CompactKeys.{Plain, run_before_greater, written, run_after, level_code, end_by, compact}
use Rattle.uca_compact.proofs.LaterLevels.{three_levels, four_levels}
use Rattle.uca_book_images.specs.KeptKeys.{cell_by, KeepsPlace, LevelsKeepPlaces, leads_of}
use Rattle.uca_book_images.specs.Laws.{KeptKeysStay}

-- ---- A level

-- the form with other starts
abbrev with_starts : Form → (lesser greater : List ℕ) → Form
with_starts f lesser greater = record f { lesser = lesser; greater = greater }

-- a run before a greater weight does not go by the starts
run_kept : (f : Form) (lesser greater : List ℕ) (run : ℕ) → run_before_greater f run ≡ run_before_greater (with_starts f lesser greater) run
run_kept f lesser greater zero = refl
run_kept f lesser greater (suc run) = refl

-- what is written for a weight, by its place
written_kept : (f : Form) (lesser greater : List ℕ) (run w x : ℕ) (o : Ordering) → cell_by f w o ≡ cell_by (with_starts f lesser greater) x o
    → written f run w o ≡ written (with_starts f lesser greater) run x o
written_kept f lesser greater run w x Less place = ap (λ (bytes : List ℕ). (run * step f + f.ends) ∷ bytes) place
written_kept f lesser greater run w x Equal place = refl
written_kept f lesser greater run w x Greater place = ap₂ (λ (xs ys : List ℕ). xs ++ ys) (run_kept f lesser greater run) place

-- nor does the run after a weight
after_kept : (f : Form) (lesser greater : List ℕ) (run : ℕ) (o : Ordering) → run_after f run o ≡ run_after (with_starts f lesser greater) run o
after_kept f lesser greater run Less = refl
after_kept f lesser greater run Equal = refl
after_kept f lesser greater run Greater = refl

-- a level whose weights keep their places
level_kept : (f : Form) (lesser greater : List ℕ) (end run : ℕ) (ws xs : List ℕ) → AllZip (KeepsPlace f (with_starts f lesser greater)) ws xs
    → level_code f end run ws ≡ level_code (with_starts f lesser greater) end run xs
level_kept f lesser greater end run [] [] kept = refl
level_kept f lesser greater end run [] (x ∷ xs) kept = absurd kept
level_kept f lesser greater end run (w ∷ ws) [] kept = absurd kept
level_kept f lesser greater end run (w ∷ ws) (x ∷ xs) kept =
    let g : Form = with_starts f lesser greater in
    let o : Ordering = nat_cmp w f.common in
    let p : Ordering = nat_cmp x f.common in
    let side : o ≡ p = kept.0.side in
    let place : cell_by f w o ≡ cell_by g x o = kept.0.place ∙ ap (cell_by g x) (sym side) in
    let front : written f run w o ≡ written g run x p = written_kept f lesser greater run w x o place ∙ ap (written g run x) side in
    let next : run_after f run o ≡ run_after g run p = after_kept f lesser greater run o ∙ ap (run_after g run) side in
    let rest : level_code f end (run_after f run o) ws ≡ level_code g end (run_after g run p) xs =
    level_kept f lesser greater end (run_after f run o) ws xs kept.1 ∙ ap (λ (n : ℕ). level_code g end n xs) next in
    ap₂ (λ (a b : List ℕ). a ++ b) front rest

-- it compares as before to any number of common weights
order_kept : (f : Form) (lesser greater : List ℕ) (n : ℕ) (ws xs : List ℕ) → AllZip (KeepsPlace f (with_starts f lesser greater)) ws xs
    → lexicographic ws (copies f.common n) ≡ lexicographic xs (copies f.common n)
order_kept f lesser greater n [] [] kept = refl
order_kept f lesser greater n [] (x ∷ xs) kept = absurd kept
order_kept f lesser greater n (w ∷ ws) [] kept = absurd kept
order_kept f lesser greater zero (w ∷ ws) (x ∷ xs) kept = refl
order_kept f lesser greater (suc n) (w ∷ ws) (x ∷ xs) kept =
    ap₂ (λ (o p : Ordering). ordering_then o p) kept.0.side (order_kept f lesser greater n ws xs kept.1)

-- and has as many weights
count_kept : (f g : Form) (ws xs : List ℕ) → AllZip (KeepsPlace f g) ws xs → length ws ≡ length xs
count_kept f g ws xs kept = length_all_zip (KeepsPlace f g) ws xs kept

-- ---- Letters

-- how many letters count, by which of them are leads
counted : (lead : Bool) → List Bool → ℕ
counted true [] = 0
counted false [] = 0
counted true (t ∷ ts) = counted false ts
counted false (t ∷ ts) = suc (counted t ts)

letters_are : (lead : Bool) (ws : List ℕ) → letters_after lead ws ≡ counted lead (map is_lead ws)
unfolding counted
letters_are true [] = refl
letters_are false [] = refl
letters_are true (w ∷ ws) = letters_are false ws
letters_are false (w ∷ ws) = ap suc (letters_are (is_lead w) ws)

-- so where leads stay, as many count
letters_kept : (ws xs : List ℕ) → map is_lead ws ≡ map is_lead xs → letter_count ws ≡ letter_count xs
letters_kept ws xs leads = letters_are false ws ∙ ap (counted false) leads ∙ sym (letters_are false xs)

-- ---- Three levels, and four

-- the levels of two keys are written alike, if each is, and compares as the other to the plain level
three_kept : (plain : Plain) (f g h ff gg hh : Form) (a b c x y z : List ℕ)
    → ((end : ℕ) → level_code f end 0 a ≡ level_code ff end 0 x) → ((end : ℕ) → level_code g end 0 b ≡ level_code gg end 0 y)
    → ((end : ℕ) → level_code h end 0 c ≡ level_code hh end 0 z)
    → lexicographic b (plain (a ∷ [])) ≡ lexicographic y (plain (x ∷ []))
    → lexicographic c (plain (a ∷ b ∷ [])) ≡ lexicographic z (plain (x ∷ y ∷ []))
    → compact plain (f ∷ g ∷ h ∷ []) (a ∷ b ∷ c ∷ []) ≡ compact plain (ff ∷ gg ∷ hh ∷ []) (x ∷ y ∷ z ∷ [])
three_kept plain f g h ff gg hh a b c x y z one two three second third =
    let code = λ (s t : Ordering).
    level_code f (end_by s 2 1 (end_by t 2 0 2)) 0 a
    ++ (cond (is_eq s) [] (level_code g (end_by t 1 0 1) 0 b) ++ (cond (is_eq t) [] (level_code h 0 0 c) ++ [])) in
    let s : Ordering = lexicographic y (plain (x ∷ [])) in
    let t : Ordering = lexicographic z (plain (x ∷ y ∷ [])) in
    sym (three_levels plain f g h a b c)
    ∙ ap₂ code second third
    ∙ ap₂ (λ (p q : List ℕ). p ++ q) (one (end_by s 2 1 (end_by t 2 0 2)))
    (ap₂ (λ (p q : List ℕ). p ++ q) (ap (λ (p : List ℕ). cond (is_eq s) [] p) (two (end_by t 1 0 1)))
    (ap (λ (p : List ℕ). cond (is_eq t) [] p ++ []) (three 0)))
    ∙ three_levels plain ff gg hh x y z

four_kept : (plain : Plain) (f g h k ff gg hh kk : Form) (a b c d x y z v : List ℕ)
    → ((end : ℕ) → level_code f end 0 a ≡ level_code ff end 0 x) → ((end : ℕ) → level_code g end 0 b ≡ level_code gg end 0 y)
    → ((end : ℕ) → level_code h end 0 c ≡ level_code hh end 0 z) → ((end : ℕ) → level_code k end 0 d ≡ level_code kk end 0 v)
    → lexicographic b (plain (a ∷ [])) ≡ lexicographic y (plain (x ∷ []))
    → lexicographic c (plain (a ∷ b ∷ [])) ≡ lexicographic z (plain (x ∷ y ∷ []))
    → lexicographic d (plain (a ∷ b ∷ c ∷ [])) ≡ lexicographic v (plain (x ∷ y ∷ z ∷ []))
    → compact plain (f ∷ g ∷ h ∷ k ∷ []) (a ∷ b ∷ c ∷ d ∷ []) ≡ compact plain (ff ∷ gg ∷ hh ∷ kk ∷ []) (x ∷ y ∷ z ∷ v ∷ [])
four_kept plain f g h k ff gg hh kk a b c d x y z v one two three four second third fourth =
    let first_end = λ (s t u : Ordering). end_by s 3 2 (end_by t 3 1 (end_by u 3 0 3)) in
    let second_end = λ (t u : Ordering). end_by t 2 1 (end_by u 2 0 2) in
    let last = λ (u : Ordering). cond (is_eq u) [] (level_code k 0 0 d) ++ [] in
    let code = λ (s t u : Ordering).
    level_code f (first_end s t u) 0 a
    ++ (cond (is_eq s) [] (level_code g (second_end t u) 0 b) ++ (cond (is_eq t) [] (level_code h (end_by u 1 0 1) 0 c) ++ last u)) in
    let s : Ordering = lexicographic y (plain (x ∷ [])) in
    let t : Ordering = lexicographic z (plain (x ∷ y ∷ [])) in
    let u : Ordering = lexicographic v (plain (x ∷ y ∷ z ∷ [])) in
    sym (four_levels plain f g h k a b c d)
    ∙ ap (λ (o : Ordering). code o (lexicographic c (plain (a ∷ b ∷ []))) (lexicographic d (plain (a ∷ b ∷ c ∷ [])))) second
    ∙ ap₂ (code s) third fourth
    ∙ ap₂ (λ (p q : List ℕ). p ++ q) (one (first_end s t u))
    (ap₂ (λ (p q : List ℕ). p ++ q) (ap (λ (p : List ℕ). cond (is_eq s) [] p) (two (second_end t u)))
    (ap₂ (λ (p q : List ℕ). p ++ q) (ap (λ (p : List ℕ). cond (is_eq t) [] p) (three (end_by u 1 0 1)))
    (ap (λ (p : List ℕ). cond (is_eq u) [] p ++ []) (four 0))))
    ∙ four_levels plain ff gg hh kk x y z v

-- ---- The levels of keys

-- level 2 after these letters
second_kept : (later : ℕ) (a b x y : List ℕ) → map is_lead a ≡ map is_lead x → AllZip (KeepsPlace (accents_form later) (accents_form later)) b y
    → lexicographic b (plain_level (a ∷ [])) ≡ lexicographic y (plain_level (x ∷ []))
second_kept later a b x y leads kept =
    order_kept (accents_form later) [] accent_starts (letter_count a) b y kept
    ∙ ap (λ (n : ℕ). lexicographic y (copies 0x20 n)) (letters_kept a x leads)

-- level 3 after these accents
third_kept : (m n : ℕ) (a b c x y z : List ℕ) → AllZip (KeepsPlace (accents_form m) (accents_form m)) b y → AllZip (KeepsPlace (cases_form n) (cases_form n)) c z
    → lexicographic c (plain_level (a ∷ b ∷ [])) ≡ lexicographic z (plain_level (x ∷ y ∷ []))
third_kept m n a b c x y z second kept =
    order_kept (cases_form n) [] case_starts (length b) c z kept
    ∙ ap (λ (k : ℕ). lexicographic z (copies 2 k)) (count_kept (accents_form m) (accents_form m) b y second)

-- level 4
fourth_kept : (book new_book : BookContent) (a b c d x y z v : List ℕ) → AllZip (KeepsPlace (letters_form book 3) (letters_form new_book 3)) a x
    → map is_lead a ≡ map is_lead x → AllZip (KeepsPlace (cases_form 1) (cases_form 1)) c z
    → AllZip (KeepsPlace (variables_form book 0) (variables_form new_book 0)) d v
    → lexicographic d (plain_level (a ∷ b ∷ c ∷ [])) ≡ lexicographic v (plain_level (x ∷ y ∷ z ∷ []))
fourth_kept book new_book a b c d x y z v first leads third kept =
    let cases = count_kept (cases_form 1) (cases_form 1) c z third in
    let letters = count_kept (letters_form book 3) (letters_form new_book 3) a x first in
    let counts = letters_kept a x leads in
    let same : length c + (length a - letter_count a) ≡ length z + (length x - letter_count x) =
    ap₂ (λ (m n : ℕ). m + n) cases (ap₂ (λ (m n : ℕ). m - n) letters counts) in
    order_kept (variables_form book 0) new_book.variables [] (length c + (length a - letter_count a)) d v kept
    ∙ ap (λ (n : ℕ). lexicographic v (copies 0xFFFF n)) same

-- three levels of keys
three_levels_kept : (book new_book : BookContent) (a b c x y z : List ℕ) → AllZip (KeepsPlace (letters_form book 2) (letters_form new_book 2)) a x
    → AllZip (KeepsPlace (accents_form 1) (accents_form 1)) b y → AllZip (KeepsPlace (cases_form 0) (cases_form 0)) c z → map is_lead a ≡ map is_lead x
    → compact plain_level (forms_of NonIgnorable book) (a ∷ b ∷ c ∷ []) ≡ compact plain_level (forms_of NonIgnorable new_book) (x ∷ y ∷ z ∷ [])
three_levels_kept book new_book a b c x y z first second third leads =
    three_kept plain_level (letters_form book 2) (accents_form 1) (cases_form 0) (letters_form new_book 2) (accents_form 1) (cases_form 0) a b c x y z
    (λ end. level_kept (letters_form book 2) [] new_book.letters end 0 a x first)
    (λ end. level_kept (accents_form 1) [] accent_starts end 0 b y second)
    (λ end. level_kept (cases_form 0) [] case_starts end 0 c z third)
    (second_kept 1 a b x y leads second) (third_kept 1 0 a b c x y z second third)

-- four levels
four_levels_kept : (book new_book : BookContent) (a b c d x y z v : List ℕ) → AllZip (KeepsPlace (letters_form book 3) (letters_form new_book 3)) a x
    → AllZip (KeepsPlace (accents_form 2) (accents_form 2)) b y → AllZip (KeepsPlace (cases_form 1) (cases_form 1)) c z
    → AllZip (KeepsPlace (variables_form book 0) (variables_form new_book 0)) d v → map is_lead a ≡ map is_lead x
    → compact plain_level (forms_of Shifted book) (a ∷ b ∷ c ∷ d ∷ []) ≡ compact plain_level (forms_of Shifted new_book) (x ∷ y ∷ z ∷ v ∷ [])
four_levels_kept book new_book a b c d x y z v first second third fourth leads =
    four_kept plain_level (letters_form book 3) (accents_form 2) (cases_form 1) (variables_form book 0)
    (letters_form new_book 3) (accents_form 2) (cases_form 1) (variables_form new_book 0) a b c d x y z v
    (λ end. level_kept (letters_form book 3) [] new_book.letters end 0 a x first)
    (λ end. level_kept (accents_form 2) [] accent_starts end 0 b y second)
    (λ end. level_kept (cases_form 1) [] case_starts end 0 c z third)
    (λ end. level_kept (variables_form book 0) new_book.variables [] end 0 d v fourth)
    (second_kept 2 a b x y leads second) (third_kept 2 1 a b c x y z second third)
    (fourth_kept book new_book a b c d x y z v first leads third fourth)

-- ---- Level by level

-- levels that keep their places have a first level, if there is a form
first_of_levels : (f g : Form) (forms new_forms : List Form) (P : List (List ℕ) → List (List ℕ) → Type 0)
    → ((ws xs : List ℕ) (levels new_levels : List (List ℕ)) → AllZip (KeepsPlace f g) ws xs → LevelsKeepPlaces forms new_forms levels new_levels
    → P (ws ∷ levels) (xs ∷ new_levels))
    → (levels new_levels : List (List ℕ)) → LevelsKeepPlaces (f ∷ forms) (g ∷ new_forms) levels new_levels → P levels new_levels
first_of_levels f g forms new_forms P made [] [] kept = absurd kept
first_of_levels f g forms new_forms P made [] (xs ∷ new_levels) kept = absurd kept
first_of_levels f g forms new_forms P made (ws ∷ levels) [] kept = absurd kept
first_of_levels f g forms new_forms P made (ws ∷ levels) (xs ∷ new_levels) kept = made ws xs levels new_levels kept.0 kept.1

-- and none, if there is none
no_levels : (P : List (List ℕ) → List (List ℕ) → Type 0) → P [] [] → (levels new_levels : List (List ℕ)) → LevelsKeepPlaces [] [] levels new_levels
    → P levels new_levels
no_levels P made [] [] kept = made
no_levels P made [] (xs ∷ new_levels) kept = absurd kept
no_levels P made (ws ∷ levels) [] kept = absurd kept
no_levels P made (ws ∷ levels) (xs ∷ new_levels) kept = absurd kept

-- the levels are written alike
abbrev AreWrittenAlike : Weighting → BookContent → BookContent → List (List ℕ) → List (List ℕ) → Type 0
AreWrittenAlike weighting book new_book levels new_levels =
    compact plain_level (forms_of weighting book) levels ≡ compact plain_level (forms_of weighting new_book) new_levels

-- the levels of keys, from the first on
levels_kept : (weighting : Weighting) (book new_book : BookContent) (levels new_levels : List (List ℕ))
    → LevelsKeepPlaces (forms_of weighting book) (forms_of weighting new_book) levels new_levels → leads_of levels ≡ leads_of new_levels
    → AreWrittenAlike weighting book new_book levels new_levels
levels_kept NonIgnorable book new_book levels new_levels kept =
    first_of_levels (letters_form book 2) (letters_form new_book 2) (accents_form 1 ∷ cases_form 0 ∷ []) (accents_form 1 ∷ cases_form 0 ∷ [])
    (λ ls ns. leads_of ls ≡ leads_of ns → AreWrittenAlike NonIgnorable book new_book ls ns)
    (λ a x ls ns first more.
    first_of_levels (accents_form 1) (accents_form 1) (cases_form 0 ∷ []) (cases_form 0 ∷ [])
    (λ ls ns. map is_lead a ≡ map is_lead x → AreWrittenAlike NonIgnorable book new_book (a ∷ ls) (x ∷ ns))
    (λ b y ls ns second more.
    first_of_levels (cases_form 0) (cases_form 0) [] []
    (λ ls ns. map is_lead a ≡ map is_lead x → AreWrittenAlike NonIgnorable book new_book (a ∷ b ∷ ls) (x ∷ y ∷ ns))
    (λ c z ls ns third more.
    no_levels (λ ls ns. map is_lead a ≡ map is_lead x → AreWrittenAlike NonIgnorable book new_book (a ∷ b ∷ c ∷ ls) (x ∷ y ∷ z ∷ ns))
    (λ leads. three_levels_kept book new_book a b c x y z first second third leads) ls ns more)
    ls ns more)
    ls ns more)
    levels new_levels kept
levels_kept Shifted book new_book levels new_levels kept =
    first_of_levels (letters_form book 3) (letters_form new_book 3) (accents_form 2 ∷ cases_form 1 ∷ variables_form book 0 ∷ [])
    (accents_form 2 ∷ cases_form 1 ∷ variables_form new_book 0 ∷ [])
    (λ ls ns. leads_of ls ≡ leads_of ns → AreWrittenAlike Shifted book new_book ls ns)
    (λ a x ls ns first more.
    first_of_levels (accents_form 2) (accents_form 2) (cases_form 1 ∷ variables_form book 0 ∷ []) (cases_form 1 ∷ variables_form new_book 0 ∷ [])
    (λ ls ns. map is_lead a ≡ map is_lead x → AreWrittenAlike Shifted book new_book (a ∷ ls) (x ∷ ns))
    (λ b y ls ns second more.
    first_of_levels (cases_form 1) (cases_form 1) (variables_form book 0 ∷ []) (variables_form new_book 0 ∷ [])
    (λ ls ns. map is_lead a ≡ map is_lead x → AreWrittenAlike Shifted book new_book (a ∷ b ∷ ls) (x ∷ y ∷ ns))
    (λ c z ls ns third more.
    first_of_levels (variables_form book 0) (variables_form new_book 0) [] []
    (λ ls ns. map is_lead a ≡ map is_lead x → AreWrittenAlike Shifted book new_book (a ∷ b ∷ c ∷ ls) (x ∷ y ∷ z ∷ ns))
    (λ d v ls ns fourth more.
    no_levels (λ ls ns. map is_lead a ≡ map is_lead x → AreWrittenAlike Shifted book new_book (a ∷ b ∷ c ∷ d ∷ ls) (x ∷ y ∷ z ∷ v ∷ ns))
    (λ leads. four_levels_kept book new_book a b c d x y z v first second third fourth leads) ls ns more)
    ls ns more)
    ls ns more)
    ls ns more)
    levels new_levels kept

-- ---- Keys

-- the law
pub kept_keys_stay : KeptKeysStay
kept_keys_stay Weights weighting book new_book k new kept = levels_kept weighting book new_book k.levels new.levels kept.places kept.leads
kept_keys_stay Identical weighting book new_book k new kept =
    ap₂ (λ (xs ys : List ℕ). xs ++ ys) (levels_kept weighting book new_book k.levels new.levels kept.places kept.leads) (ap encode_utf8_all kept.points)
