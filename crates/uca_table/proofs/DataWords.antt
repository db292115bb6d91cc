-- The words of a text, in turn. Each text has one list of words.
use Rattle.std.proofs.Common.{◌≡◌, ◌≢◌, ℕ, zero, suc, ◌≤◌, Bool, true, false, not, eqb, List, [], ◌∷◌, length, refl, sym, ap, ◌∙◌, subst, arith, length-append}
use Rattle.std.proofs.lemmas.Bool.Decides.{nat_tests}
use Rattle.std.proofs.lemmas.List.{nil_from_length}
use Rattle.uca_lines.specs.Fields.{is_blank, skip_blanks, word_of, after_word}
use Rattle.uca_lines.specs.Leads.{BeginsWord}
use Rattle.uca_lines.proofs.FieldLemmas.{parts_of_cut, word_some}
use Rattle.uca_lines.proofs.LeadLemmas.{exact_words, leads_same}
use Rattle.uca_table.specs.DataLines.{AreWords}
use Rattle.uca_lines.proofs.FieldLemmas.{length-from_first}

-- a text is one list of words
pub words_same : (text : List ℕ) (xs ys : List (List ℕ)) → AreWords text xs → AreWords text ys → xs ≡ ys
words_same text xs ys h k = leads_same BeginsWord exact_words text xs ys h k

pub empty_from_test : (text : List ℕ) (b : Bool) → b ≡ eqb (length text) 0 → b ≡ true → text ≡ []
empty_from_test text b e t = nil_from_length text (let l : length text ≡ 0 = grind (arith, nat_tests) in l)

pub some_from_test : (text : List ℕ) (b : Bool) → b ≡ eqb (length text) 0 → b ≡ false → text ≢ []
some_from_test text b e f nothing = let l : length text ≡ 0 = ap length nothing in contradiction (length text) b l e f
  where
    contradiction : (n : ℕ) (b : Bool) → n ≡ 0 → b ≡ eqb n 0 → b ≡ false → ⊥
    contradiction n b l e f = grind (arith, nat_tests)

pub no_words : (text blank : List ℕ) → blank ≡ skip_blanks text → blank ≡ [] → (words : List (List ℕ)) → AreWords text words → words ≡ []
no_words text blank is nothing [] h = refl
no_words text blank is nothing (w ∷ words) h =
    absurd (exact_words.some w h.0 (let P : List ℕ → Type 0 = λ t. BeginsWord t w h.0 in subst P (sym is ∙ nothing) h.1))

pub first_word : (text front word rest : List ℕ) → front ≡ skip_blanks text → front ≢ [] → word ≡ word_of front → rest ≡ after_word front
    → (words : List (List ℕ)) → AreWords text words → (tail : List (List ℕ)) × (words ≡ word ∷ tail) × AreWords rest tail
first_word text front word rest is some cut after [] h = absurd (some (is ∙ h))
first_word text front word rest is some cut after (w ∷ words) h =
    let word_is : w ≡ word = sym h.1.word ∙ ap word_of (sym is) ∙ sym cut in
    let rest_is : h.0 ≡ rest = sym h.1.rest ∙ ap after_word (sym is) ∙ sym after in
    (words, ap (λ x. x ∷ words) word_is, (let P : List ℕ → Type 0 = λ t. AreWords t words in subst P rest_is h.2))

after_word_short : (text : List ℕ) → 1 ≤ length (word_of text) → suc (length (after_word text)) ≤ length text
after_word_short text some = let parts = ap length (parts_of_cut is_blank text) in omega (arith, parts, length-append (word_of text) (after_word text))

more_words : (text : List ℕ) (n : ℕ) → length text ≤ suc n → ((t : List ℕ) → length t ≤ n → (words : List (List ℕ)) × AreWords t words)
    → (front : List ℕ) → skip_blanks text ≡ front → (words : List (List ℕ)) × AreWords text words
more_words text n small rest [] e = ([], e)
more_words text n small rest (b ∷ bs) e =
    let some = word_some text b bs e in
    let short = after_word_short (b ∷ bs) some in
    let fits = length-from_first (λ c. not (is_blank c)) text in
    let long = ap length e in
    let others = rest (after_word (b ∷ bs)) (omega arith) in
    let here : BeginsWord (b ∷ bs) (word_of (b ∷ bs)) (after_word (b ∷ bs)) = record { some = some; word = refl; rest = refl } in
    let P : List ℕ → Type 0 = λ t. BeginsWord t (word_of (b ∷ bs)) (after_word (b ∷ bs)) in
    (word_of (b ∷ bs) ∷ others.0, (after_word (b ∷ bs), subst P (sym e) here, others.1))

words_within : (n : ℕ) (text : List ℕ) → length text ≤ n → (words : List (List ℕ)) × AreWords text words
words_within zero text small =
    ([], nil_from_length (skip_blanks text) (let short = length-from_first (λ b. not (is_blank b)) text in omega arith))
words_within (suc n) text small =
    more_words text n small (λ t short. words_within n t short) (skip_blanks text) refl

pub words_exist : (text : List ℕ) → (words : List (List ℕ)) × AreWords text words
words_exist text = words_within (length text) text (omega arith)
