-- The parts of a text: they are keys that occur in it and code points of it, and depend on nothing else.
use Rattle.std.proofs.Common.{◌≡◌, ◌≢◌, ℕ, zero, suc, ◌≤◌, List, [], ◌∷◌, ◌++◌, length, take, drop, Bool, true, false, cond, ◌&&◌, nat_lt, Contains}
use Rattle.std.proofs.Common.{inl, refl, sym, ap, ap₂, subst, ◌∙◌, append_assoc, append-nil, arith, take-append-drop}
use Rattle.std.proofs.Math.Seq.{take-length, drop-length}
use Rattle.std.proofs.lemmas.Bool.{cond-true}
use Rattle.std.specs.List.{AllByRecursion, list_all}
use Rattle.std.proofs.lemmas.List.Elements.{recursion_from_All, All-contains_itself}
use Rattle.uca_text.specs.Texts.{ClassedCodePoint, Text, code_points}
use Rattle.uca_text.specs.Occurring.{OccursInOrder}
use Rattle.uca_text.proofs.Occurring.{occurs_refl, occurs_more, occurs_front, occurs_trans, occurs_append, occurs_take, occurs_code_points, each_occurring}
use Rattle.uca_elements.specs.Rows.{Keys}
use Rattle.uca_elements.specs.Parts.{Row, IsPartOf}
use Rattle.uca_elements.specs.Reading.{is_taken, removed, members, others, longest_key, non_starters_at_front, after_non_starters, Portion, portion_at, portion, parts}
use Rattle.uca_elements.proofs.OccurringMembers.{occurs_members, occurs_others}
use Rattle.uca_elements.proofs.MatchLemmas.{marks-append, longest_is_key, extended_is_key}
use Rattle.uca_elements.proofs.ReadingLemmas.{portion_of, portion_shorter, parts_portion}

-- ---- The same keys

-- two sets have the same keys among those that occur in order in a text
abbrev pub HaveSameKeys : Keys → Keys → Text → Type 0
HaveSameKeys keys new t = (key : List ℕ) → OccursInOrder key (code_points t) → keys key ≡ new key

-- the longest key at the front
longest_same : (keys new : Keys) (t : Text) → HaveSameKeys keys new t → (n : ℕ) → longest_key keys t n ≡ longest_key new t n
longest_same keys new t same zero = refl
longest_same keys new t same (suc n) =
    ap₂ (λ b m. cond b (suc n) m) (same (code_points (take (suc n) t)) (occurs_code_points (take (suc n) t) t (occurs_take (suc n) t)))
    (longest_same keys new t same n)

-- one non-starter is taken under both, or under neither
taken_same : (keys new : Keys) (t key skipped : Text) (c : ClassedCodePoint) → HaveSameKeys keys new t → OccursInOrder (key ++ c ∷ []) t →
    is_taken keys key skipped c ≡ is_taken new key skipped c
taken_same keys new t key skipped c same occurs =
    ap (λ b. list_all (λ d. nat_lt d.class c.class) skipped && b) (same (code_points (key ++ c ∷ [])) (occurs_code_points (key ++ c ∷ []) t occurs))

-- the non-starters that are removed
removed_same : (keys new : Keys) (t key skipped marks : Text) → HaveSameKeys keys new t → OccursInOrder (key ++ marks) t →
    removed keys key skipped marks ≡ removed new key skipped marks
removed_same keys new t key skipped [] same occurs = refl
removed_same keys new t key skipped (c ∷ marks) same occurs =
    let first : OccursInOrder (key ++ c ∷ []) t =
    occurs_trans (key ++ c ∷ []) (key ++ c ∷ marks) t (occurs_append key key (c ∷ []) (c ∷ marks) (occurs_refl key) (inl (refl, tt))) occurs in
    let longer : OccursInOrder ((key ++ c ∷ []) ++ marks) t = subst (λ s. OccursInOrder s t) (sym (append_assoc key (c ∷ []) marks)) occurs in
    let shorter : OccursInOrder (key ++ marks) t =
    occurs_trans (key ++ marks) (key ++ c ∷ marks) t
    (occurs_append key key marks (c ∷ marks) (occurs_refl key) (occurs_more marks c marks (occurs_refl marks))) occurs in
    let taken : Bool = is_taken keys key skipped c in
    let later : OccursInOrder (cond taken (key ++ c ∷ []) key ++ marks) t =
    elim taken as (λ b. OccursInOrder (cond b (key ++ c ∷ []) key ++ marks) t) [ true ↦ longer | false ↦ shorter ] in
    ap (λ set. taken ∷ set) (removed_same keys new t (cond taken (key ++ c ∷ []) key) (cond taken skipped (skipped ++ c ∷ [])) marks same later)
    ∙ ap (λ b. b ∷ removed new (cond b (key ++ c ∷ []) key) (cond b skipped (skipped ++ c ∷ [])) marks) (taken_same keys new t key skipped c same first)

-- ---- A key at the front, and what follows it

module _ (front tail t : Text) (whole : front ++ tail ≡ t) where
  marks_occur : OccursInOrder (front ++ non_starters_at_front tail) t
  marks_occur =
      let before : OccursInOrder (non_starters_at_front tail) (non_starters_at_front tail ++ after_non_starters tail) =
      occurs_front (non_starters_at_front tail) (after_non_starters tail) in
      let marks : OccursInOrder (non_starters_at_front tail) tail = subst (OccursInOrder (non_starters_at_front tail)) (marks-append tail) before in
      subst (OccursInOrder (front ++ non_starters_at_front tail)) whole
      (occurs_append front front (non_starters_at_front tail) tail (occurs_refl front) marks)

  -- the extended key occurs in the text
  key_occurs : (set : List Bool) → OccursInOrder (front ++ members set (non_starters_at_front tail)) t
  key_occurs set =
      occurs_trans (front ++ members set (non_starters_at_front tail)) (front ++ non_starters_at_front tail) t
      (occurs_append front front (members set (non_starters_at_front tail)) (non_starters_at_front tail) (occurs_refl front)
      (occurs_members set (non_starters_at_front tail))) marks_occur

  -- and so does what is read after it
  rest_occurs : (set : List Bool) → OccursInOrder (others set (non_starters_at_front tail) ++ after_non_starters tail) t
  rest_occurs set =
      let inside : OccursInOrder (others set (non_starters_at_front tail) ++ after_non_starters tail)
      (non_starters_at_front tail ++ after_non_starters tail) =
      occurs_append (others set (non_starters_at_front tail)) (non_starters_at_front tail) (after_non_starters tail)
      (after_non_starters tail) (occurs_others set (non_starters_at_front tail)) (occurs_refl (after_non_starters tail)) in
      let later : OccursInOrder (others set (non_starters_at_front tail) ++ after_non_starters tail) tail =
      subst (OccursInOrder (others set (non_starters_at_front tail) ++ after_non_starters tail)) (marks-append tail) inside in
      subst (OccursInOrder (others set (non_starters_at_front tail) ++ after_non_starters tail)) whole
      (occurs_append [] front (others set (non_starters_at_front tail) ++ after_non_starters tail) tail tt later)

-- ---- One part

-- what is left after the first part occurs in the text
portion_rest_occurs : (keys : Keys) (c : ClassedCodePoint) (t : Text) (n : ℕ) → OccursInOrder (portion_at keys c t n).rest (c ∷ t)
portion_rest_occurs keys c t zero = occurs_more t c t (occurs_refl t)
portion_rest_occurs keys c t (suc n) =
    let front : Text = take (suc n) (c ∷ t) in
    let after : Text = drop (suc n) (c ∷ t) in
    rest_occurs front after (c ∷ t) (take-append-drop (suc n) (c ∷ t)) (removed keys front [] (non_starters_at_front after))

-- two sets of keys that agree on a text give an equal first part
portion_at_same : (keys new : Keys) (c : ClassedCodePoint) (t : Text) (n : ℕ) → HaveSameKeys keys new (c ∷ t) → portion_at keys c t n ≡ portion_at new c t n
portion_at_same keys new c t zero same = refl
portion_at_same keys new c t (suc n) same =
    let front : Text = take (suc n) (c ∷ t) in
    let after : Text = drop (suc n) (c ∷ t) in
    ap (λ set. portion_of front (non_starters_at_front after) set (after_non_starters after))
    (removed_same keys new (c ∷ t) front [] (non_starters_at_front after) same
    (marks_occur front after (c ∷ t) (take-append-drop (suc n) (c ∷ t))))

portion_same : (keys new : Keys) (c : ClassedCodePoint) (t : Text) → HaveSameKeys keys new (c ∷ t) → portion keys c t ≡ portion new c t
portion_same keys new c t same =
    portion_at_same keys new c t (longest_key keys (c ∷ t) (length (c ∷ t))) same
    ∙ ap (portion_at new c t) (longest_same keys new (c ∷ t) same (length (c ∷ t)))

-- it is a key that occurs in a text, or a code point of it
portion_is_part : (keys : Keys) (c : ClassedCodePoint) (t whole : Text) (n : ℕ) → OccursInOrder (c ∷ t) whole →
    longest_key keys (c ∷ t) (length (c ∷ t)) ≡ n → IsPartOf keys whole (portion_at keys c t n).part
portion_is_part keys c t whole zero occurs none =
    (each_occurring (Contains (code_points whole)) (code_points (c ∷ t)) (code_points whole) (occurs_code_points (c ∷ t) whole occurs)
    (recursion_from_All (Contains (code_points whole)) (code_points whole) (All-contains_itself (code_points whole)))).0
portion_is_part keys c t whole (suc n) occurs found =
    let front : Text = take (suc n) (c ∷ t) in
    let after : Text = drop (suc n) (c ∷ t) in
    let marks : Text = non_starters_at_front after in
    let set : List Bool = removed keys front [] marks in
    let within = key_occurs front after (c ∷ t) (take-append-drop (suc n) (c ∷ t)) set in (
      extended_is_key keys front [] marks (longest_is_key keys (c ∷ t) (length (c ∷ t)) n found),
      occurs_code_points (front ++ members set marks) whole (occurs_trans (front ++ members set marks) (c ∷ t) whole within occurs),
    )

-- ---- All parts

keys_within : (keys new : Keys) (s t : Text) → OccursInOrder s t → HaveSameKeys keys new t → HaveSameKeys keys new s
keys_within keys new s t within same key occurs =
    same key (occurs_trans key (code_points s) (code_points t) occurs (occurs_code_points s t within))

same_within : (keys new : Keys) (n : ℕ) (t : Text) → length t ≤ n → HaveSameKeys keys new t → parts keys t ≡ parts new t
same_within keys new n [] few same = refl
same_within keys new zero (c ∷ t) few same = absurd (omega arith)
same_within keys new (suc n) (c ∷ t) few same =
    let first : Portion = portion keys c t in
    let rest = portion_rest_occurs keys c t (longest_key keys (c ∷ t) (length (c ∷ t))) in
    let shorter = portion_shorter keys c t in
    parts_portion keys c t
    ∙ ap (λ ps. first.part ∷ ps) (same_within keys new n first.rest (omega arith) (keys_within keys new first.rest (c ∷ t) rest same))
    ∙ ap (λ p. p.part ∷ parts new p.rest) (portion_same keys new c t same)
    ∙ sym (parts_portion new c t)

-- two sets of keys that agree on a text give equal parts
pub parts_same : (keys new : Keys) (t : Text) → HaveSameKeys keys new t → parts keys t ≡ parts new t
parts_same keys new t same = same_within keys new (length t) t (omega arith) same

each_within : (keys : Keys) (whole : Text) (n : ℕ) (t : Text) → length t ≤ n → OccursInOrder t whole → AllByRecursion (IsPartOf keys whole) (parts keys t)
each_within keys whole n [] few occurs = tt
each_within keys whole zero (c ∷ t) few occurs = absurd (omega arith)
each_within keys whole (suc n) (c ∷ t) few occurs =
    let first : Portion = portion keys c t in
    let rest = portion_rest_occurs keys c t (longest_key keys (c ∷ t) (length (c ∷ t))) in
    let shorter = portion_shorter keys c t in
    subst (AllByRecursion (IsPartOf keys whole)) (sym (parts_portion keys c t)) (
      portion_is_part keys c t whole (longest_key keys (c ∷ t) (length (c ∷ t))) occurs refl,
      each_within keys whole n first.rest (omega arith) (occurs_trans first.rest (c ∷ t) whole rest occurs),
    )

-- each is a key that occurs in the text, or a code point of it
pub each_part : (keys : Keys) (t : Text) → AllByRecursion (IsPartOf keys t) (parts keys t)
each_part keys t = each_within keys t (length t) t (omega arith) (occurs_refl t)

-- ---- A text that is a key

-- it is its own longest key, and nothing follows it
pub key_is_part : (keys : Keys) (t : Text) → t ≢ [] → keys (code_points t) ≡ true → parts keys t ≡ Row (code_points t) ∷ []
key_is_part keys [] some key = absurd (some refl)
key_is_part keys (c ∷ t) some key =
    let n : ℕ = length t in
    let all : take (suc n) (c ∷ t) ≡ c ∷ t = take-length (c ∷ t) in
    let none : drop (suc n) (c ∷ t) ≡ [] = drop-length (c ∷ t) in
    let longest : longest_key keys (c ∷ t) (suc n) ≡ suc n =
    cond-true (keys (code_points (take (suc n) (c ∷ t)))) (suc n) (longest_key keys (c ∷ t) n) (ap (λ s. keys (code_points s)) all ∙ key) in
    let whole : Portion = record { part = Row (code_points (c ∷ t)); rest = [] } in
    let first : portion keys c t ≡ whole =
    ap (portion_at keys c t) longest
    ∙ ap₂ (λ f r. portion_of f (non_starters_at_front r) (removed keys f [] (non_starters_at_front r)) (after_non_starters r)) all none
    ∙ ap (λ s. let p : Portion = record { part = Row (code_points s); rest = [] } in p) (append-nil (c ∷ t)) in
    parts_portion keys c t ∙ ap (λ p. p.part ∷ parts keys p.rest) first
