-- Which non-starters a key takes, one at a time.
use Rattle.std.proofs.Common.{◌≡◌, ℕ, [], ◌∷◌, ◌++◌, true, false, cond, sym, ap, refl, append_assoc, ◌∙◌, suc, List, length, Bool, ◌↔◌, IsTrue, subst₂}
use Rattle.std.proofs.Common.{append-nil, arith, nat_lt}
use Rattle.uca_text.specs.Texts.{ClassedCodePoint, Text, code_points}
use Rattle.uca_elements.specs.Rows.{Rows, Keys, is_key}
use Rattle.uca_elements.specs.Reading.{is_taken, removed, members, others, IsFree, AreRemoved}
use Rattle.std.proofs.lemmas.Bool.{and_parts, and_from, ltb-true, lt-ltb}
use Rattle.std.specs.List.{list_all}

-- the key is one of these
abbrev pub IsKeyOf : Keys → List ℕ → Type 0
IsKeyOf keys key = IsTrue (keys key)

-- ---- How the non-starters after a key are gone through, one at a time

pub code_points-append : (s t : Text) → code_points (s ++ t) ≡ code_points s ++ code_points t
code_points-append [] t = refl
code_points-append (c ∷ s) t = ap (λ more. c.code ∷ more) (code_points-append s t)

pub code_points-push : (t : Text) (c : ClassedCodePoint) → code_points (t ++ c ∷ []) ≡ code_points t ++ c.code ∷ []
code_points-push t c = code_points-append t (c ∷ [])

pub removed_taken : (keys : Keys) (key skipped : Text) (c : ClassedCodePoint) (marks : Text) → is_taken keys key skipped c ≡ true →
    removed keys key skipped (c ∷ marks) ≡ true ∷ removed keys (key ++ c ∷ []) skipped marks
removed_taken keys key skipped c marks h =
    ap (λ b. b ∷ removed keys (cond b (key ++ c ∷ []) key) (cond b skipped (skipped ++ c ∷ [])) marks) h

pub removed_skipped : (keys : Keys) (key skipped : Text) (c : ClassedCodePoint) (marks : Text) → is_taken keys key skipped c ≡ false →
    removed keys key skipped (c ∷ marks) ≡ false ∷ removed keys key (skipped ++ c ∷ []) marks
removed_skipped keys key skipped c marks h =
    ap (λ b. b ∷ removed keys (cond b (key ++ c ∷ []) key) (cond b skipped (skipped ++ c ∷ [])) marks) h

pub members_taken : (keys : Keys) (key skipped : Text) (c : ClassedCodePoint) (marks : Text) → is_taken keys key skipped c ≡ true →
    key ++ members (removed keys key skipped (c ∷ marks)) (c ∷ marks) ≡ (key ++ c ∷ []) ++ members (removed keys (key ++ c ∷ []) skipped marks) marks
members_taken keys key skipped c marks h =
    ap (λ set. key ++ members set (c ∷ marks)) (removed_taken keys key skipped c marks h)
    ∙ sym (append_assoc key (c ∷ []) (members (removed keys (key ++ c ∷ []) skipped marks) marks))

pub others_taken : (keys : Keys) (key skipped : Text) (c : ClassedCodePoint) (marks : Text) → is_taken keys key skipped c ≡ true →
    skipped ++ others (removed keys key skipped (c ∷ marks)) (c ∷ marks) ≡ skipped ++ others (removed keys (key ++ c ∷ []) skipped marks) marks
others_taken keys key skipped c marks h =
    ap (λ set. skipped ++ others set (c ∷ marks)) (removed_taken keys key skipped c marks h)

pub members_skipped : (keys : Keys) (key skipped : Text) (c : ClassedCodePoint) (marks : Text) → is_taken keys key skipped c ≡ false →
    key ++ members (removed keys key skipped (c ∷ marks)) (c ∷ marks) ≡ key ++ members (removed keys key (skipped ++ c ∷ []) marks) marks
members_skipped keys key skipped c marks h =
    ap (λ set. key ++ members set (c ∷ marks)) (removed_skipped keys key skipped c marks h)

pub others_skipped : (keys : Keys) (key skipped : Text) (c : ClassedCodePoint) (marks : Text) → is_taken keys key skipped c ≡ false →
    skipped ++ others (removed keys key skipped (c ∷ marks)) (c ∷ marks) ≡ (skipped ++ c ∷ []) ++ others (removed keys key (skipped ++ c ∷ []) marks) marks
others_skipped keys key skipped c marks h =
    ap (λ set. skipped ++ others set (c ∷ marks)) (removed_skipped keys key skipped c marks h)
    ∙ sym (append_assoc skipped (c ∷ []) (others (removed keys key (skipped ++ c ∷ []) marks) marks))

-- ---- The removed positions are one set, and `removed` computes it

-- a non-starter after a key is removed
abbrev pub Takes : Keys → Text → Text → ClassedCodePoint → Type 0
Takes keys start skipped c = IsFree skipped c × IsKeyOf keys (code_points (start ++ c ∷ []))

-- at every position of the non-starters the set says what is removed, after a start and skipped code points before all of them
abbrev pub EachPlace : Keys → Text → Text → Text → List Bool → Type 0
EachPlace keys start skipped marks set = (before after : Text) (c : ClassedCodePoint) (here : List Bool) (b : Bool) (later : List Bool) →
    marks ≡ before ++ c ∷ after → set ≡ here ++ b ∷ later → length here ≡ length before →
    IsTrue b ↔ (IsFree (skipped ++ others here before) c × IsKeyOf keys (code_points (start ++ (members here before ++ c ∷ []))))

pub free_from_test : (skipped : Text) (c : ClassedCodePoint) → list_all (λ d. nat_lt d.class c.class) skipped ≡ true → IsFree skipped c
free_from_test [] c h = tt
free_from_test (d ∷ skipped) c h =
    let parts = and_parts (nat_lt d.class c.class) (list_all (λ e. nat_lt e.class c.class) skipped) h in
    (ltb-true d.class c.class parts.0, free_from_test skipped c parts.1)

pub test_from_free : (skipped : Text) (c : ClassedCodePoint) → IsFree skipped c → list_all (λ d. nat_lt d.class c.class) skipped ≡ true
test_from_free [] c h = refl
test_from_free (d ∷ skipped) c h =
    and_from (nat_lt d.class c.class) (list_all (λ e. nat_lt e.class c.class) skipped) (lt-ltb d.class c.class h.0) (test_from_free skipped c h.1)

pub taken_iff : (keys : Keys) (start skipped : Text) (c : ClassedCodePoint) → IsTrue (is_taken keys start skipped c) ↔ Takes keys start skipped c
taken_iff keys start skipped c =
    let free : Bool = list_all (λ d. nat_lt d.class c.class) skipped in
    let key : Bool = keys (code_points (start ++ c ∷ [])) in (
      (λ h. let parts = and_parts free key h in (free_from_test skipped c parts.0, parts.1)),
      (λ h. and_from free key (test_from_free skipped c h.0) h.1),
    )

-- what a position later on says of what was gone through, where the first code point was removed or skipped
same_place : (keys : Keys) (start skipped : Text) (c d : ClassedCodePoint) (before : Text) (here : List Bool) (b e : Bool) →
    IsTrue e ↔ (IsFree (cond b skipped (skipped ++ c ∷ []) ++ others here before) d × IsKeyOf keys
    (code_points (cond b (start ++ c ∷ []) start ++ (members here before ++ d ∷ [])))) →
    IsTrue e ↔ (IsFree (skipped ++ others (b ∷ here) (c ∷ before)) d × IsKeyOf keys (code_points (start ++ (members (b ∷ here) (c ∷ before) ++ d ∷ []))))
same_place keys start skipped c d before here true e h = rw append_assoc at h
same_place keys start skipped c d before here false e h = rw append_assoc at h

place_back : (keys : Keys) (start skipped : Text) (c d : ClassedCodePoint) (before : Text) (here : List Bool) (b e : Bool) →
    IsTrue e ↔ (IsFree (skipped ++ others (b ∷ here) (c ∷ before)) d × IsKeyOf keys
    (code_points (start ++ (members (b ∷ here) (c ∷ before) ++ d ∷ [])))) →
    IsTrue e ↔ (IsFree (cond b skipped (skipped ++ c ∷ []) ++ others here before) d × IsKeyOf keys
    (code_points (cond b (start ++ c ∷ []) start ++ (members here before ++ d ∷ []))))
place_back keys start skipped c d before here true e h = rw append_assoc h
place_back keys start skipped c d before here false e h = rw append_assoc h

pub places_from : (keys : Keys) (start skipped : Text) (c : ClassedCodePoint) (marks : Text) (b : Bool) (set : List Bool) →
    (IsTrue b ↔ Takes keys start skipped c) → EachPlace keys (cond b (start ++ c ∷ []) start) (cond b skipped (skipped ++ c ∷ [])) marks set →
    EachPlace keys start skipped (c ∷ marks) (b ∷ set)
places_from keys start skipped c marks b set first rest [] after d [] e later p q l =
    let same_letter : c ≡ d = cc in
    let same_bit : b ≡ e = cc in
    rw append-nil (subst₂ (λ x y. IsTrue y ↔ Takes keys start skipped x) same_letter same_bit first)
places_from keys start skipped c marks b set first rest (x ∷ before) after d (y ∷ here) e later p q l =
    let same_letter : c ≡ x = cc in
    let same_bit : b ≡ y = cc in
    let same_length : length here ≡ length before = omega arith in
    let deeper = rest before after d here e later (cc) (cc) same_length in
    subst₂ (λ v w. IsTrue e ↔ (IsFree (skipped ++ others (w ∷ here) (v ∷ before)) d × IsKeyOf keys
    (code_points (start ++ (members (w ∷ here) (v ∷ before) ++ d ∷ []))))) same_letter same_bit
    (same_place keys start skipped c d before here b e deeper)
places_from keys start skipped c marks b set first rest [] after d (y ∷ here) e later p q l = absurd (omega arith)
places_from keys start skipped c marks b set first rest (x ∷ before) after d [] e later p q l = absurd (omega arith)

pub length-removed : (keys : Keys) (start skipped marks : Text) → length (removed keys start skipped marks) ≡ length marks
length-removed keys start skipped [] = refl
length-removed keys start skipped (c ∷ marks) =
    let taken = is_taken keys start skipped c in
    ap suc (length-removed keys (cond taken (start ++ c ∷ []) start) (cond taken skipped (skipped ++ c ∷ [])) marks)

no_place : {A : Type 0} (before after : List A) (c : A) → [] ≡ before ++ c ∷ after → ⊥
no_place [] after c e = cc
no_place (x ∷ before) after c e = cc

pub places-removed : (keys : Keys) (start skipped marks : Text) → EachPlace keys start skipped marks (removed keys start skipped marks)
places-removed keys start skipped [] before after d here e later p q l = absurd (no_place before after d p)
places-removed keys start skipped (c ∷ marks) before after d here e later p q l =
    let taken = is_taken keys start skipped c in
    places_from keys start skipped c marks taken _ (taken_iff keys start skipped c)
    (places-removed keys (cond taken (start ++ c ∷ []) start) (cond taken skipped (skipped ++ c ∷ [])) marks) before after d here e later p q l

pub same_test : {P : Type 0} (a b : Bool) → IsTrue a ↔ P → IsTrue b ↔ P → a ≡ b
same_test true true f g = refl
same_test true false f g = sym (g.1 (f.0 refl))
same_test false true f g = f.1 (g.0 refl)
same_test false false f g = refl

pub first_place : (keys : Keys) (start skipped : Text) (c : ClassedCodePoint) (marks : Text) (b : Bool) (set : List Bool) →
    EachPlace keys start skipped (c ∷ marks) (b ∷ set) → IsTrue b ↔ Takes keys start skipped c
first_place keys start skipped c marks b set each = rw append-nil at (each [] marks c [] b set refl refl refl)

pub later_places : (keys : Keys) (start skipped : Text) (c : ClassedCodePoint) (marks : Text) (b : Bool) (set : List Bool) →
    EachPlace keys start skipped (c ∷ marks) (b ∷ set) → EachPlace keys (cond b (start ++ c ∷ []) start) (cond b skipped (skipped ++ c ∷ [])) marks set
later_places keys start skipped c marks b set each before after d here e later p q l =
    place_back keys start skipped c d before here b e
    (each (c ∷ before) after d (b ∷ here) e later (ap (λ t. c ∷ t) p) (ap (λ t. b ∷ t) q) (ap suc l))

pub same_places : (keys : Keys) (start skipped marks : Text) (set : List Bool) → length set ≡ length marks → EachPlace keys start skipped marks set →
    set ≡ removed keys start skipped marks
same_places keys start skipped [] [] l each = refl
same_places keys start skipped (c ∷ marks) (b ∷ set) l each =
    let same_bit : b ≡ is_taken keys start skipped c =
    same_test b (is_taken keys start skipped c) (first_place keys start skipped c marks b set each) (taken_iff keys start skipped c) in
    let same_length : length set ≡ length marks = omega arith in
    let same_rest = same_places keys (cond b (start ++ c ∷ []) start) (cond b skipped (skipped ++ c ∷ [])) marks set same_length
    (later_places keys start skipped c marks b set each) in
    ap (λ t. b ∷ t) same_rest ∙ ap (λ x. x ∷ removed keys (cond x (start ++ c ∷ []) start) (cond x skipped (skipped ++ c ∷ [])) marks) same_bit
same_places keys start skipped [] (b ∷ set) l each = absurd (omega arith)
same_places keys start skipped (c ∷ marks) [] l each = absurd (omega arith)

pub AreRemoved-removed : (rows : Rows) (start marks : Text) → AreRemoved rows start marks (removed (is_key rows) start [] marks)
AreRemoved-removed rows start marks =
    record { places = length-removed (is_key rows) start [] marks; each = places-removed (is_key rows) start [] marks }

pub removed_unique : (rows : Rows) (start marks : Text) (set : List Bool) → AreRemoved rows start marks set →
    set ≡ removed (is_key rows) start [] marks
removed_unique rows start marks set h = same_places (is_key rows) start [] marks set h.places h.each
