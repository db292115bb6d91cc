-- A text has one reading, and `read` gives it.
use Rattle.std.proofs.Common.{◌≡◌, ◌≢◌, ℕ, zero, suc, ◌+◌, ◌-◌, ◌<◌, ◌≤◌, List, [], ◌∷◌, ◌++◌, length, take, drop, Bool, Option, Some, None}
use Rattle.std.proofs.Common.{unwrap_or, sym, ap, subst, refl, ◌∙◌, append_assoc, append-nil, ⊎_elim, arith, length-append, length-drop}
use Rattle.std.proofs.Common.{length-take-le, take-append-drop, take_at, drop_at, ap₂, is_some}
use Rattle.std.specs.List.{flat_map}
use Rattle.std.proofs.lemmas.Bool.{cases_order, false≢true}
use Rattle.std.proofs.Math.Seq.{take-append-add}
use Rattle.uca_weights.specs.declared.Element.{Element}
use Rattle.uca_text.specs.Texts.{ClassedCodePoint, Text, code_points}
use Rattle.uca_elements.specs.Rows.{Rows, Keys, is_key, IsKey}
use Rattle.uca_elements.specs.Parts.{Part, Row, Implicit, part_elements}
use Rattle.uca_elements.specs.Reading.{IsRowMatch, NoRowBegins, AreNonStartersBefore, AreRemoved, IsReading, removed, members, others, longest_key}
use Rattle.uca_elements.specs.Reading.{non_starters_at_front, after_non_starters, Portion, row_portion, portion_at, portion, parts_within, parts, read}
use Rattle.uca_elements.proofs.RemovedLemmas.{AreRemoved-removed, removed_unique}
use Rattle.uca_elements.proofs.MatchLemmas.{longest_within, longest_is_key, longest_is_last, marks-append, AreNonStartersBefore-split, marks_of_split}
use Rattle.uca_elements.proofs.MatchLemmas.{after_of_split, length-others, extended_is_key}

-- ---- The key at the front

pub unlisted_longest : (rows : Rows) (t : Text) → longest_key (is_key rows) t (length t) ≡ 0 → NoRowBegins rows t
unlisted_longest rows t none [] rest split some key = some refl
unlisted_longest rows t none (c ∷ front) rest split some key =
    let within : length (c ∷ front) ≤ length t = omega (arith, ap length split, length-append (c ∷ front) rest) in
    let at_front : take (length (c ∷ front)) t ≡ c ∷ front = ap (take (length (c ∷ front))) split ∙ take_at (c ∷ front) rest (length (c ∷ front)) refl in
    longest_is_last (is_key rows) t (length t) (length (c ∷ front)) within (subst (λ s. IsKey rows (code_points s)) (sym at_front) key) (omega arith)

pub longest_unlisted : (rows : Rows) (t : Text) → NoRowBegins rows t → longest_key (is_key rows) t (length t) ≡ 0
longest_unlisted rows t none = go (longest_key (is_key rows) t (length t)) refl
  where
    go : (k : ℕ) → longest_key (is_key rows) t (length t) ≡ k → k ≡ 0
    go zero e = refl
    go (suc k) e =
        let within = longest_within (is_key rows) t (length t) in
        let at_front : take (suc k) t ≢ [] = λ empty. let l : length (take (suc k) t) ≡ suc k = length-take-le (suc k) t (omega arith) in
        omega (arith, ap length empty) in
        absurd (none (take (suc k) t) (drop (suc k) t) (sym (take-append-drop (suc k) t)) at_front (longest_is_key (is_key rows) t (length t) k e))

not_nil : (s : Text) → s ≢ [] → 0 < length s
not_nil [] some = absurd (some refl)
not_nil (c ∷ s) some = omega arith

pub match_longest : (rows : Rows) (t : Text) (k : ℕ) → longest_key (is_key rows) t (length t) ≡ suc k → IsRowMatch rows (take (suc k) t) (drop (suc k) t)
match_longest rows t k e =
    let within = longest_within (is_key rows) t (length t) in
    let some_length : length (take (suc k) t) ≡ suc k = length-take-le (suc k) t (omega arith) in
    record {
      some = λ empty. omega (arith, ap length empty);
      key = longest_is_key (is_key rows) t (length t) k e;
      longest = λ more after split some key.
          let cut : (take (suc k) t ++ more) ++ after ≡ t = append_assoc (take (suc k) t) more after ∙ ap (λ s. take (suc k) t ++ s) (sym split)
          ∙ take-append-drop (suc k) t in
          let longer : length (take (suc k) t ++ more) ≡ suc k + length more = omega (arith, length-append (take (suc k) t) more) in
          let within_t : length (take (suc k) t ++ more) ≤ length t = omega (arith, ap length cut, length-append (take (suc k) t ++ more) after) in
          let not_empty : 0 < length more = not_nil more some in
          let at_front : take (length (take (suc k) t ++ more)) t ≡ take (suc k) t ++ more = ap (take (length (take (suc k) t ++ more))) (sym cut)
          ∙ take_at (take (suc k) t ++ more) after (length (take (suc k) t ++ more)) refl in
          longest_is_last (is_key rows) t (length t) (length (take (suc k) t ++ more)) within_t (subst (λ s. IsKey rows (code_points s)) (sym at_front) key)
          (omega arith);
    }

pub longest_match : (rows : Rows) (front rest : Text) → IsRowMatch rows front rest →
    longest_key (is_key rows) (front ++ rest) (length (front ++ rest)) ≡ length front
longest_match rows front rest found =
    ⊎_elim
    (λ same. same)
    (⊎_elim
    (λ less. absurd (longest_is_last (is_key rows) (front ++ rest) (length (front ++ rest)) (length front) (omega (arith, length-append front rest)) at_front less))
    (λ more. absurd (go (longest_key (is_key rows) (front ++ rest) (length (front ++ rest)) - length front) (omega arith) (omega arith))))
    (cases_order (longest_key (is_key rows) (front ++ rest) (length (front ++ rest))) (length front))
  where
    at_front : IsKey rows (code_points (take (length front) (front ++ rest)))
    at_front = subst (λ s. IsKey rows (code_points s)) (sym (take_at front rest (length front) refl)) found.key

    go : (d : ℕ) → 0 < d → longest_key (is_key rows) (front ++ rest) (length (front ++ rest)) ≡ length front + d → ⊥
    go zero some e = omega arith
    go (suc d) some e =
        let within = longest_within (is_key rows) (front ++ rest) (length (front ++ rest)) in
        let enough : suc d ≤ length rest = omega (arith, length-append front rest) in
        let key : IsKey rows (code_points (take (suc (length front + d)) (front ++ rest))) =
        longest_is_key (is_key rows) (front ++ rest) (length (front ++ rest)) (length front + d) (omega arith) in
        let cut : take (suc (length front + d)) (front ++ rest) ≡ front ++ take (suc d) rest =
        ap (λ n. take n (front ++ rest)) (let same : suc (length front + d) ≡ length front + suc d = omega arith in same)
        ∙ take-append-add front rest (suc d) in
        let not_empty : take (suc d) rest ≢ [] = λ empty. let l : length (take (suc d) rest) ≡ suc d = length-take-le (suc d) rest enough in
        omega (arith, ap length empty) in
        found.longest (take (suc d) rest) (drop (suc d) rest) (sym (take-append-drop (suc d) rest)) not_empty
        (subst (λ s. IsKey rows (code_points s)) cut key)

-- ---- One portion

-- a portion by its non-starters, the set of those that are removed, and what follows
abbrev pub portion_of : Text → Text → List Bool → Text → Portion
portion_of front marks set rest = record { part = Row (code_points (front ++ members set marks)); rest = others set marks ++ rest }

pub row_portion_is : (rows : Rows) (front marks rest : Text) (set : List Bool) → AreNonStartersBefore marks rest → AreRemoved rows front marks set →
    row_portion (is_key rows) front (marks ++ rest) ≡ portion_of front marks set rest
row_portion_is rows front marks rest set before gone =
    ap₂ (λ m r. portion_of front m (removed (is_key rows) front [] m) r) (marks_of_split marks rest before.are_non_starters before.ends)
    (after_of_split marks rest before.are_non_starters before.ends)
    ∙ ap (λ s. portion_of front marks s rest) (sym (removed_unique rows front marks set gone))

pub portion_unlisted : (rows : Rows) (c : ClassedCodePoint) (t : Text) → NoRowBegins rows (c ∷ t) →
    portion (is_key rows) c t ≡ record { part = Implicit c.code; rest = t }
portion_unlisted rows c t none = ap (portion_at (is_key rows) c t) (longest_unlisted rows (c ∷ t) none)

pub portion_listed : (rows : Rows) (c : ClassedCodePoint) (front rest : Text) → IsRowMatch rows (c ∷ front) rest →
    portion (is_key rows) c (front ++ rest) ≡ row_portion (is_key rows) (c ∷ front) rest
portion_listed rows c front rest found =
    ap (portion_at (is_key rows) c (front ++ rest)) (longest_match rows (c ∷ front) rest found)
    ∙ ap₂ (λ f r. row_portion (is_key rows) (c ∷ f) r) (take_at front rest (length front) refl) (drop_at front rest (length front) refl)

pub row_portion_shorter : (keys : Keys) (front s : Text) → length (row_portion keys front s).rest ≤ length s
row_portion_shorter keys front s =
    let set : List Bool = removed keys front [] (non_starters_at_front s) in
    omega (
      arith,
      length-append (others set (non_starters_at_front s)) (after_non_starters s),
      length-others set (non_starters_at_front s),
      length-append (non_starters_at_front s) (after_non_starters s),
      ap length (marks-append s),
    )

portion_at_shorter : (keys : Keys) (c : ClassedCodePoint) (t : Text) (n : ℕ) → length (portion_at keys c t n).rest ≤ length t
portion_at_shorter keys c t zero = omega arith
portion_at_shorter keys c t (suc n) = omega (arith, row_portion_shorter keys (c ∷ take n t) (drop n t), length-drop n t)

pub portion_shorter : (keys : Keys) (c : ClassedCodePoint) (t : Text) → length (portion keys c t).rest ≤ length t
portion_shorter keys c t = portion_at_shorter keys c t (longest_key keys (c ∷ t) (length (c ∷ t)))

-- ---- The whole text

pub parts_within_same : (keys : Keys) (n m : ℕ) (t : Text) → length t ≤ n → length t ≤ m → parts_within keys n t ≡ parts_within keys m t
parts_within_same keys zero zero t h k = refl
parts_within_same keys zero (suc m) [] h k = refl
parts_within_same keys (suc n) zero [] h k = refl
parts_within_same keys (suc n) (suc m) [] h k = refl
parts_within_same keys zero (suc m) (c ∷ t) h k = absurd (omega arith)
parts_within_same keys (suc n) zero (c ∷ t) h k = absurd (omega arith)
parts_within_same keys (suc n) (suc m) (c ∷ t) h k =
    let shorter = portion_shorter keys c t in
    let first : Portion = portion keys c t in
    ap (λ ps. first.part ∷ ps) (parts_within_same keys n m first.rest (omega arith) (omega arith))

-- the first part, and those of what is left after it
pub parts_portion : (keys : Keys) (c : ClassedCodePoint) (t : Text) → parts keys (c ∷ t) ≡ (portion keys c t).part ∷ parts keys (portion keys c t).rest
parts_portion keys c t =
    let shorter = portion_shorter keys c t in
    let first : Portion = portion keys c t in
    ap (λ ps. first.part ∷ ps) (parts_within_same keys (length t) (length first.rest) first.rest shorter (omega arith))

-- what a portion gives, and then what is left after it
abbrev pub portion_reads : (ℕ → List Element) → Rows → Portion → List Element
portion_reads implicit rows p = part_elements implicit rows p.part ++ read implicit rows p.rest

pub read_portion : (implicit : ℕ → List Element) (rows : Rows) (c : ClassedCodePoint) (t : Text) →
    read implicit rows (c ∷ t) ≡ portion_reads implicit rows (portion (is_key rows) c t)
read_portion implicit rows c t = ap (flat_map (part_elements implicit rows)) (parts_portion (is_key rows) c t)

pub read_unlisted : (implicit : ℕ → List Element) (rows : Rows) (c : ClassedCodePoint) (t : Text) → NoRowBegins rows (c ∷ t) →
    read implicit rows (c ∷ t) ≡ implicit c.code ++ read implicit rows t
read_unlisted implicit rows c t none =
    read_portion implicit rows c t
    ∙ ap (portion_reads implicit rows) (portion_unlisted rows c t none)

pub read_listed : (implicit : ℕ → List Element) (rows : Rows) (front marks rest : Text) (set : List Bool) (row : List Element) →
    IsRowMatch rows front (marks ++ rest) → AreNonStartersBefore marks rest → AreRemoved rows front marks set →
    rows (code_points (front ++ members set marks)) ≡ Some row →
    read implicit rows (front ++ (marks ++ rest)) ≡ row ++ read implicit rows (others set marks ++ rest)
read_listed implicit rows [] marks rest set row at_front before gone found = absurd (at_front.some refl)
read_listed implicit rows (c ∷ front) marks rest set row at_front before gone found =
    read_portion implicit rows c (front ++ (marks ++ rest))
    ∙ ap (portion_reads implicit rows)
    (portion_listed rows c front (marks ++ rest) at_front ∙ row_portion_is rows (c ∷ front) marks rest set before gone)
    ∙ ap (λ o. unwrap_or o [] ++ read implicit rows (others set marks ++ rest)) found

pub IsReading-read : (implicit : ℕ → List Element) (rows : Rows) → IsReading implicit rows (read implicit rows)
IsReading-read implicit rows = record { empty = refl; unlisted = read_unlisted implicit rows; listed = read_listed implicit rows }

pub some_row : (rows : Rows) (key : List ℕ) → IsKey rows key → (row : List Element) × (rows key ≡ Some row)
some_row rows key h = go (rows key) refl
  where
    go : (o : Option (List Element)) → rows key ≡ o → (row : List Element) × (rows key ≡ Some row)
    go None e = absurd (false≢true (ap is_some (sym e) ∙ h))
    go (Some row) e = (row, e)

-- where two readings agree on shorter texts, they agree on the whole
unique_step : (implicit : ℕ → List Element) (rows : Rows) (E : Text → List Element) → IsReading implicit rows E → (c : ClassedCodePoint) (t : Text) →
    ((s : Text) → length s ≤ length t → E s ≡ read implicit rows s) → (k : ℕ) → longest_key (is_key rows) (c ∷ t) (length (c ∷ t)) ≡ k →
    E (c ∷ t) ≡ read implicit rows (c ∷ t)
unique_step implicit rows E reading c t shorter zero e =
    let none = unlisted_longest rows (c ∷ t) e in
    reading.unlisted c t none ∙ ap (λ es. implicit c.code ++ es) (shorter t (omega arith)) ∙ sym (read_unlisted implicit rows c t none)
unique_step implicit rows E reading c t shorter (suc k) e =
    let front : Text = take (suc k) (c ∷ t) in
    let after : Text = drop (suc k) (c ∷ t) in
    let marks : Text = non_starters_at_front after in
    let rest : Text = after_non_starters after in
    let set : List Bool = removed (is_key rows) front [] marks in
    let at_front = match_longest rows (c ∷ t) k e in
    let matched : IsRowMatch rows front (marks ++ rest) = subst (λ s. IsRowMatch rows front s) (sym (marks-append after)) at_front in
    let before = AreNonStartersBefore-split after in
    let gone = AreRemoved-removed rows front marks in
    let found = some_row rows (code_points (front ++ members set marks)) (extended_is_key (is_key rows) front [] marks at_front.key) in
    let whole : c ∷ t ≡ front ++ (marks ++ rest) = sym (ap (λ s. front ++ s) (marks-append after) ∙ take-append-drop (suc k) (c ∷ t)) in
    let fewer : length (others set marks ++ rest) ≤ length t = omega (arith, row_portion_shorter (is_key rows) front after, length-drop k t) in
    ap E whole
    ∙ reading.listed front marks rest set found.0 matched before gone found.1
    ∙ ap (λ es. found.0 ++ es) (shorter (others set marks ++ rest) fewer)
    ∙ sym (read_listed implicit rows front marks rest set found.0 matched before gone found.1)
    ∙ sym (ap (read implicit rows) whole)

read_unique_within : (implicit : ℕ → List Element) (rows : Rows) (E : Text → List Element) → IsReading implicit rows E → (n : ℕ) (t : Text) →
    length t ≤ n → E t ≡ read implicit rows t
read_unique_within implicit rows E reading n [] h = reading.empty
read_unique_within implicit rows E reading zero (c ∷ t) h = absurd (omega arith)
read_unique_within implicit rows E reading (suc n) (c ∷ t) h =
    unique_step implicit rows E reading c t (λ s l. read_unique_within implicit rows E reading n s (omega arith))
    (longest_key (is_key rows) (c ∷ t) (length (c ∷ t))) refl

pub read_unique : (implicit : ℕ → List Element) (rows : Rows) (E : Text → List Element) → IsReading implicit rows E → (t : Text) →
    E t ≡ read implicit rows t
read_unique implicit rows E reading t = read_unique_within implicit rows E reading (length t) t (omega arith)

-- ---- The same by what `longest_key` finds

-- a text that no key begins: its first part is its first code point
pub parts_of_none : (keys : Keys) (c : ClassedCodePoint) (t : Text) → longest_key keys (c ∷ t) (length (c ∷ t)) ≡ 0 →
    parts keys (c ∷ t) ≡ Implicit c.code ∷ parts keys t
parts_of_none keys c t none =
    parts_portion keys c t ∙ ap (λ n. (portion_at keys c t n).part ∷ parts keys (portion_at keys c t n).rest) none

-- the parts of a portion and what is left after it
abbrev pub portion_parts : Keys → Portion → List Part
portion_parts keys p = p.part ∷ parts keys p.rest

-- a text that a key begins
pub parts_of_longest : (keys : Keys) (t : Text) (k : ℕ) → longest_key keys t (length t) ≡ suc k →
    parts keys t ≡ portion_parts keys (row_portion keys (take (suc k) t) (drop (suc k) t))
parts_of_longest keys [] k found = absurd (omega arith)
parts_of_longest keys (c ∷ t) k found = parts_portion keys c t ∙ ap (λ n. portion_parts keys (portion_at keys c t n)) found

-- ---- A text that is a key

-- no code point follows it, so it is its longest key and takes no non-starters
pub key_reads_as_row : (implicit : ℕ → List Element) (rows : Rows) (t : Text) (row : List Element) → t ≢ [] → rows (code_points t) ≡ Some row →
    read implicit rows t ≡ row
key_reads_as_row implicit rows t row some found =
    let all : t ++ [] ≡ t = append-nil t in
    let nothing_more : (more after : Text) → [] ≡ more ++ after → more ≢ [] → IsKey rows (code_points (t ++ more)) →
    ⊥ = λ more after split there key. let left : 0 < length more = not_nil more there in omega (arith, ap length split, length-append more after) in
    let matched : IsRowMatch rows t [] = record { some = some; key = ap is_some found; longest = nothing_more } in
    ap (read implicit rows) (sym all)
    ∙ read_listed implicit rows t [] [] [] row matched (record { are_non_starters = tt; ends = tt }) (AreRemoved-removed rows t [])
    (ap (λ s. rows (code_points s)) all ∙ found)
    ∙ append-nil row
