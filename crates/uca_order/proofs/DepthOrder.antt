-- Keys of texts compare as the texts do, at either depth.
use Rattle.std.proofs.Common.{◌≡◌, ◌≢◌, ◌↔◌, ℕ, suc, ◌+◌, ◌/◌, ◌%◌, ◌<◌, ◌≤◌, List, [], ◌∷◌, ◌++◌, length, Bool, true, false, cond, nat_eq, refl, sym, ap, ◌∙◌, arith, min, bytes_eq, eq-eqb}
use Rattle.std.proofs.lemmas.Bool.{eqb-true, ne_eqb}
use Rattle.std.proofs.lemmas.List.{append_assoc}
use Rattle.std.proofs.lemmas.Slice.Eq.{bytes_eq-Decides}
use Rattle.std.specs.Ordering.{nat_cmp, ordering_then}
use Rattle.std.specs.declared.cmp.Ordering.{Ordering}
use Rattle.std.specs.declared.cmp.Ordering.TheVariants.{Less, Equal, Greater}
use Rattle.uca_weights.specs.declared.Depth.{Depth}
use Rattle.uca_weights.specs.declared.Depth.TheVariants.{Weights, Identical}
use Rattle.uca_weights.specs.declared.Weighting.{Weighting}
use Rattle.uca_weights.specs.declared.Weighting.TheVariants.{NonIgnorable, Shifted}
use Rattle.uca_order.specs.Levels.{Comparison, level_list, level_lists_from, weighted, lexicographic, decided, compare_from, weight_bytes, level_bytes, levels_bytes}
use Rattle.uca_order.specs.Depths.{ReadText, read_points, levels_at, lists_at, compared_at, points_bytes, key_at}
use Rattle.uca_order.specs.StoredKeys.{shared_separators, stored_level}
use Rattle.uca_order.specs.Laws.{KeysCompareAsTexts, StoredKeysCompareAsTexts, IdenticalKeysAreOfEquivalentTexts}
use Rattle.uca_order.proofs.KeyOrder.{cmp_less, cmp_greater, then_assoc, then_equal, bytes_order, lexicographic_itself, same_from_lexicographic, AreNonZero, AreLevels, AreLevels-from, order-decided}
use Rattle.uca_order.proofs.KeyOrder.{level_zero, order_equal, key_order}
use Rattle.uca_weights.proofs.Tests.{same_bytes, other_bytes}
use Rattle.uca_order.proofs.StoredOrder.{is_separator, separators_same, separators_other, other_weight, separates, stored_key_level}

-- ---- Order

-- the bytes of weights that are not 0, each followed by 00 00 and more, compare first by the weights and then by what follows
bytes_zero : (vs ws xs ys : List ℕ) → AreNonZero vs → AreNonZero ws
    → lexicographic (level_bytes vs ++ (0 ∷ 0 ∷ xs)) (level_bytes ws ++ (0 ∷ 0 ∷ ys)) ≡ ordering_then (lexicographic vs ws) (lexicographic xs ys)
bytes_zero [] [] xs ys a b = refl
bytes_zero [] (w ∷ ws) xs ys a b =
    let above : 0 < w = let apart : w ≢ 0 = b.0 in omega arith in
    let rest = lexicographic xs (level_bytes ws ++ (0 ∷ 0 ∷ ys)) in
    sym (then_assoc (nat_cmp 0 (w / 256)) (nat_cmp 0 (w % 256)) rest) ∙ ap (λ o. ordering_then o rest) (bytes_order 0 w ∙ cmp_less 0 w above)
bytes_zero (v ∷ vs) [] xs ys a b =
    let above : 0 < v = let apart : v ≢ 0 = a.0 in omega arith in
    let rest = lexicographic (level_bytes vs ++ (0 ∷ 0 ∷ xs)) ys in
    sym (then_assoc (nat_cmp (v / 256) 0) (nat_cmp (v % 256) 0) rest) ∙ ap (λ o. ordering_then o rest) (bytes_order v 0 ∙ cmp_greater v 0 above)
bytes_zero (v ∷ vs) (w ∷ ws) xs ys a b =
    let rest = lexicographic (level_bytes vs ++ (0 ∷ 0 ∷ xs)) (level_bytes ws ++ (0 ∷ 0 ∷ ys)) in
    sym (then_assoc (nat_cmp (v / 256) (w / 256)) (nat_cmp (v % 256) (w % 256)) rest)
    ∙ ap (λ o. ordering_then o rest) (bytes_order v w)
    ∙ ap (ordering_then (nat_cmp v w)) (bytes_zero vs ws xs ys a.1 b.1)
    ∙ sym (then_assoc (nat_cmp v w) (lexicographic vs ws) (lexicographic xs ys))

-- one level decides by its lists
one_level : (n : ℕ) (a b : List ℕ) → (compare_from n (a ∷ []) (b ∷ [])).order ≡ lexicographic a b
one_level n a b = order-decided (lexicographic a b) n (record { order = Equal; level = 0 }) ∙ then_equal (lexicographic a b)

-- what follows the bytes of a level and of the levels after it
after_level : (a b : List ℕ) (more : List (List ℕ)) (xs : List ℕ)
    → levels_bytes (a ∷ b ∷ more) ++ (0 ∷ 0 ∷ xs) ≡ level_bytes a ++ (0 ∷ 0 ∷ (levels_bytes (b ∷ more) ++ (0 ∷ 0 ∷ xs)))
after_level a b more xs = append_assoc (level_bytes a) (0 ∷ 0 ∷ levels_bytes (b ∷ more)) (0 ∷ 0 ∷ xs)

-- levels, each followed by 00 00 and more
levels_order : (n : ℕ) (a b : List ℕ) (left right : List (List ℕ)) (xs ys : List ℕ) → AreLevels (a ∷ left) (b ∷ right)
    → lexicographic (levels_bytes (a ∷ left) ++ (0 ∷ 0 ∷ xs)) (levels_bytes (b ∷ right) ++ (0 ∷ 0 ∷ ys))
    ≡ ordering_then (compare_from n (a ∷ left) (b ∷ right)).order (lexicographic xs ys)
levels_order n a b [] [] xs ys h = bytes_zero a b xs ys h.0 h.1 ∙ ap (λ o. ordering_then o (lexicographic xs ys)) (sym (one_level n a b))
levels_order n a b [] (d ∷ right) xs ys h = absurd h.2
levels_order n a b (c ∷ left) [] xs ys h = absurd h.2
levels_order n a b (c ∷ left) (d ∷ right) xs ys h =
    ap (λ l. lexicographic l (levels_bytes (b ∷ d ∷ right) ++ (0 ∷ 0 ∷ ys))) (after_level a c left xs)
    ∙ ap (lexicographic (level_bytes a ++ (0 ∷ 0 ∷ (levels_bytes (c ∷ left) ++ (0 ∷ 0 ∷ xs))))) (after_level b d right ys)
    ∙ bytes_zero a b (levels_bytes (c ∷ left) ++ (0 ∷ 0 ∷ xs)) (levels_bytes (d ∷ right) ++ (0 ∷ 0 ∷ ys)) h.0 h.1
    ∙ ap (ordering_then (lexicographic a b)) (levels_order (suc n) c d left right xs ys h.2)
    ∙ sym (then_assoc (lexicographic a b) (compare_from (suc n) (c ∷ left) (d ∷ right)).order (lexicographic xs ys))
    ∙ ap (λ o. ordering_then o (lexicographic xs ys)) (sym (order-decided (lexicographic a b) n (compare_from (suc n) (c ∷ left) (d ∷ right))))

-- three bytes compare as the code point
high_is : (c : ℕ) → c / 65536 ≡ c / 256 / 256
high_is c = omega arith

point_order : (c d : ℕ) (rest : Ordering)
    → ordering_then (nat_cmp (c / 65536) (d / 65536)) (ordering_then (nat_cmp (c / 256 % 256) (d / 256 % 256)) (ordering_then (nat_cmp (c % 256) (d % 256)) rest))
    ≡ ordering_then (nat_cmp c d) rest
point_order c d rest =
    let middle = nat_cmp (c / 256 % 256) (d / 256 % 256) in
    let low = nat_cmp (c % 256) (d % 256) in
    ap (λ n. ordering_then (nat_cmp n (d / 65536)) (ordering_then middle (ordering_then low rest))) (high_is c)
    ∙ ap (λ n. ordering_then (nat_cmp (c / 256 / 256) n) (ordering_then middle (ordering_then low rest))) (high_is d)
    ∙ sym (then_assoc (nat_cmp (c / 256 / 256) (d / 256 / 256)) middle (ordering_then low rest))
    ∙ ap (λ o. ordering_then o (ordering_then low rest)) (bytes_order (c / 256) (d / 256))
    ∙ sym (then_assoc (nat_cmp (c / 256) (d / 256)) low rest)
    ∙ ap (λ o. ordering_then o rest) (bytes_order c d)

points_order : (ps qs : List ℕ) → lexicographic (points_bytes ps) (points_bytes qs) ≡ lexicographic ps qs
points_order [] [] = refl
points_order [] (q ∷ qs) = refl
points_order (p ∷ ps) [] = refl
points_order (p ∷ ps) (q ∷ qs) = point_order p q (lexicographic (points_bytes ps) (points_bytes qs)) ∙ ap (ordering_then (nat_cmp p q)) (points_order ps qs)

-- one level more decides where all before are equal
more_order : (n : ℕ) (left right : List (List ℕ)) (ps qs : List ℕ) → AreLevels left right
    → (compare_from n (left ++ ps ∷ []) (right ++ qs ∷ [])).order ≡ ordering_then (compare_from n left right).order (lexicographic ps qs)
more_order n [] [] ps qs h = one_level n ps qs
more_order n [] (b ∷ right) ps qs h = absurd h
more_order n (a ∷ left) [] ps qs h = absurd h
more_order n (a ∷ left) (b ∷ right) ps qs h =
    order-decided (lexicographic a b) n (compare_from (suc n) (left ++ ps ∷ []) (right ++ qs ∷ []))
    ∙ ap (ordering_then (lexicographic a b)) (more_order (suc n) left right ps qs h.2)
    ∙ sym (then_assoc (lexicographic a b) (compare_from (suc n) left right).order (lexicographic ps qs))
    ∙ ap (λ o. ordering_then o (lexicographic ps qs)) (sym (order-decided (lexicographic a b) n (compare_from (suc n) left right)))

-- so keys with an identical level compare as the texts
identical_order : (a b : List ℕ) (left right : List (List ℕ)) (ps qs : List ℕ) → AreLevels (a ∷ left) (b ∷ right)
    → lexicographic (levels_bytes (a ∷ left) ++ (0 ∷ 0 ∷ points_bytes ps)) (levels_bytes (b ∷ right) ++ (0 ∷ 0 ∷ points_bytes qs))
    ≡ (compare_from 1 ((a ∷ left) ++ ps ∷ []) ((b ∷ right) ++ qs ∷ [])).order
identical_order a b left right ps qs h =
    levels_order 1 a b left right (points_bytes ps) (points_bytes qs) h
    ∙ ap (ordering_then (compare_from 1 (a ∷ left) (b ∷ right)).order) (points_order ps qs)
    ∙ sym (more_order 1 (a ∷ left) (b ∷ right) ps qs h)

pub depth_order : (depth : Depth) (weighting : Weighting) (left right : ReadText)
    → lexicographic (key_at depth weighting left) (key_at depth weighting right) ≡ (compared_at depth weighting left right).order
depth_order Weights weighting left right = key_order weighting left.elements right.elements
depth_order Identical NonIgnorable left right =
    let vs = weighted NonIgnorable left.elements in
    let ws = weighted NonIgnorable right.elements in
    identical_order (level_list 1 vs) (level_list 1 ws) (level_lists_from 2 2 vs) (level_lists_from 2 2 ws) left.points right.points (AreLevels-from 1 3 vs ws)
depth_order Identical Shifted left right =
    let vs = weighted Shifted left.elements in
    let ws = weighted Shifted right.elements in
    identical_order (level_list 1 vs) (level_list 1 ws) (level_lists_from 2 3 vs) (level_lists_from 2 3 ws) left.points right.points (AreLevels-from 1 4 vs ws)

-- keys are equal exactly where no level differs
pub depth_equal : (depth : Depth) (weighting : Weighting) (left right : ReadText)
    → (key_at depth weighting left ≡ key_at depth weighting right) ↔ ((compared_at depth weighting left right).level ≡ 0)
depth_equal depth weighting left right =
    let key = key_at depth weighting left in
    let first = lists_at depth weighting left in
    let second = lists_at depth weighting right in (
      (λ same. level_zero 0 first second (sym (depth_order depth weighting left right) ∙ (ap (lexicographic key) (sym same) ∙ lexicographic_itself key))),
      (λ none. same_from_lexicographic key (key_at depth weighting right) (depth_order depth weighting left right ∙ order_equal 0 first second none)),
    )

-- ---- The level of stored keys

-- a shared level and its separator
separators_equal : (vs xs ys : List ℕ) → AreNonZero vs
    → shared_separators (level_bytes vs ++ (0 ∷ 0 ∷ xs)) (level_bytes vs ++ (0 ∷ 0 ∷ ys)) ≡ suc (shared_separators xs ys)
separators_equal [] xs ys a = let one = separators_same 0 0 xs ys in omega (arith, one)
separators_equal (v ∷ vs) xs ys a =
    let rest = shared_separators (level_bytes vs ++ (0 ∷ 0 ∷ xs)) (level_bytes vs ++ (0 ∷ 0 ∷ ys)) in
    let none : nat_eq v 0 ≡ false = ne_eqb v 0 a.0 in
    let step = separators_same (v / 256) (v % 256) (level_bytes vs ++ (0 ∷ 0 ∷ xs)) (level_bytes vs ++ (0 ∷ 0 ∷ ys)) in
    let zero : cond (is_separator (weight_bytes v)) 1 0 + rest ≡ rest = rw (separates v, none) (omega arith) in
    step ∙ zero ∙ separators_equal vs xs ys a.1

-- levels that differ, with one weight more
differ_step : (v w : ℕ) (vs ws xs ys : List ℕ) (same : Bool) → nat_eq v w ≡ same → v ≢ 0
    → (v ≡ w → shared_separators (level_bytes vs ++ (0 ∷ 0 ∷ xs)) (level_bytes ws ++ (0 ∷ 0 ∷ ys)) ≡ 0)
    → shared_separators (level_bytes (v ∷ vs) ++ (0 ∷ 0 ∷ xs)) (level_bytes (w ∷ ws) ++ (0 ∷ 0 ∷ ys)) ≡ 0
differ_step v w vs ws xs ys true is apart later =
    let same : v ≡ w = eqb-true v w is in
    let none : nat_eq v 0 ≡ false = ne_eqb v 0 apart in
    ap (λ u. shared_separators (level_bytes (v ∷ vs) ++ (0 ∷ 0 ∷ xs)) (level_bytes (u ∷ ws) ++ (0 ∷ 0 ∷ ys))) (sym same)
    ∙ separators_same (v / 256) (v % 256) (level_bytes vs ++ (0 ∷ 0 ∷ xs)) (level_bytes ws ++ (0 ∷ 0 ∷ ys))
    ∙ rw (separates v, none, later same) refl
differ_step v w vs ws xs ys false is apart later =
    separators_other (v / 256) (v % 256) (w / 256) (w % 256) (level_bytes vs ++ (0 ∷ 0 ∷ xs)) (level_bytes ws ++ (0 ∷ 0 ∷ ys))
    (other_bytes (weight_bytes v) (weight_bytes w) (other_weight v w (λ e. let t : nat_eq v w ≡ true = eq-eqb v w e in cc)))

-- levels that differ
separators_differ : (vs ws xs ys : List ℕ) → AreNonZero vs → AreNonZero ws → (vs ≡ ws → ⊥)
    → shared_separators (level_bytes vs ++ (0 ∷ 0 ∷ xs)) (level_bytes ws ++ (0 ∷ 0 ∷ ys)) ≡ 0
separators_differ [] [] xs ys a b other = absurd (other refl)
separators_differ [] (w ∷ ws) xs ys a b other =
    let none : nat_eq w 0 ≡ false = ne_eqb w 0 b.0 in
    separators_other 0 0 (w / 256) (w % 256) xs (level_bytes ws ++ (0 ∷ 0 ∷ ys)) (separates w ∙ none)
separators_differ (v ∷ vs) [] xs ys a b other =
    separators_other (v / 256) (v % 256) 0 0 (level_bytes vs ++ (0 ∷ 0 ∷ xs)) ys (other_bytes (weight_bytes v) (0 ∷ 0 ∷ []) (other_weight v 0 a.0))
separators_differ (v ∷ vs) (w ∷ ws) xs ys a b other =
    differ_step v w vs ws xs ys (nat_eq v w) refl a.0
    (λ first. separators_differ vs ws xs ys a.1 b.1 (λ rest. other (let e : v ∷ vs ≡ w ∷ ws = cc in e)))

-- what the separators before the first difference say of a comparison of `count` levels
record TellsLevel (n count separators : ℕ) (answer : Comparison) : Type 0 where
  differs : (answer.order ≡ Equal → ⊥) → (answer.level ≡ n + separators) × (suc separators ≤ count)
  same : answer.order ≡ Equal → count ≤ separators

tells_step : (o : Ordering) (n count separators rest : ℕ) (later : Comparison) → ((o ≡ Equal → ⊥) → separators ≡ 0) → (o ≡ Equal → separators ≡ suc rest)
    → TellsLevel (suc n) count rest later → TellsLevel n (suc count) separators (decided o n later)
tells_step Less n count separators rest later apart equal tells =
    let none : separators ≡ 0 = apart (λ e. cc) in
    record { differs = λ d. (omega arith, omega arith); same = λ e. absurd cc }
tells_step Equal n count separators rest later apart equal tells =
    let more : separators ≡ suc rest = equal refl in
    record {
      differs = λ d. (let l : later.level ≡ suc n + rest = (tells.differs d).0 in omega arith, let f : suc rest ≤ count = (tells.differs d).1 in omega arith);
      same = λ e. let f : count ≤ rest = tells.same e in omega arith;
    }
tells_step Greater n count separators rest later apart equal tells =
    let none : separators ≡ 0 = apart (λ e. cc) in
    record { differs = λ d. (omega arith, omega arith); same = λ e. absurd cc }

nothing_told : (n rest : ℕ) → TellsLevel n 0 rest (record { order = Equal; level = 0 })
nothing_told n rest = record { differs = λ d. absurd (d refl); same = λ e. omega arith }

-- a level with what follows it
level_separators : (a b xs ys : List ℕ) → AreNonZero a → AreNonZero b
    → ((lexicographic a b ≡ Equal → ⊥) → shared_separators (level_bytes a ++ (0 ∷ 0 ∷ xs)) (level_bytes b ++ (0 ∷ 0 ∷ ys)) ≡ 0)
    × (lexicographic a b ≡ Equal → shared_separators (level_bytes a ++ (0 ∷ 0 ∷ xs)) (level_bytes b ++ (0 ∷ 0 ∷ ys)) ≡ suc (shared_separators xs ys))
level_separators a b xs ys first second = (
  (λ differ. separators_differ a b xs ys first second (λ same. differ (ap (lexicographic a) (sym same) ∙ lexicographic_itself a))),
  (λ equal. ap (λ l. shared_separators (level_bytes a ++ (0 ∷ 0 ∷ xs)) (level_bytes l ++ (0 ∷ 0 ∷ ys))) (sym (same_from_lexicographic a b equal))
      ∙ separators_equal a xs ys first),
)

levels_separators : (n : ℕ) (a b : List ℕ) (left right : List (List ℕ)) (xs ys : List ℕ) → AreLevels (a ∷ left) (b ∷ right)
    → TellsLevel n (length (a ∷ left)) (shared_separators (levels_bytes (a ∷ left) ++ (0 ∷ 0 ∷ xs)) (levels_bytes (b ∷ right) ++ (0 ∷ 0 ∷ ys))) (compare_from n (a ∷ left) (b ∷ right))
levels_separators n a b [] [] xs ys h =
    let here = level_separators a b xs ys h.0 h.1 in
    tells_step (lexicographic a b) n 0 _ (shared_separators xs ys) (record { order = Equal; level = 0 }) here.0 here.1 (nothing_told (suc n) (shared_separators xs ys))
levels_separators n a b [] (d ∷ right) xs ys h = absurd h.2
levels_separators n a b (c ∷ left) [] xs ys h = absurd h.2
levels_separators n a b (c ∷ left) (d ∷ right) xs ys h =
    let more = levels_bytes (c ∷ left) ++ (0 ∷ 0 ∷ xs) in
    let more_right = levels_bytes (d ∷ right) ++ (0 ∷ 0 ∷ ys) in
    let here = level_separators a b more more_right h.0 h.1 in
    let all : shared_separators (levels_bytes (a ∷ c ∷ left) ++ (0 ∷ 0 ∷ xs)) (levels_bytes (b ∷ d ∷ right) ++ (0 ∷ 0 ∷ ys))
    ≡ shared_separators (level_bytes a ++ (0 ∷ 0 ∷ more)) (level_bytes b ++ (0 ∷ 0 ∷ more_right)) =
    ap (λ l. shared_separators l (levels_bytes (b ∷ d ∷ right) ++ (0 ∷ 0 ∷ ys))) (after_level a c left xs)
    ∙ ap (shared_separators (level_bytes a ++ (0 ∷ 0 ∷ more))) (after_level b d right ys) in
    tells_step (lexicographic a b) n (length (c ∷ left)) _ (shared_separators more more_right) (compare_from (suc n) (c ∷ left) (d ∷ right))
    (λ e. all ∙ here.0 e) (λ e. all ∙ here.1 e) (levels_separators (suc n) c d left right xs ys h.2)

-- a level before one level more
more_step : (o : Ordering) (n count : ℕ) (later more : Comparison) (Differs : Type 0) → ((later.order ≡ Equal → ⊥) → more.level ≡ later.level)
    × (later.order ≡ Equal → Differs → more.level ≡ suc n + count)
    → (((decided o n later).order ≡ Equal → ⊥) → (decided o n more).level ≡ (decided o n later).level)
    × ((decided o n later).order ≡ Equal → Differs → (decided o n more).level ≡ n + suc count)
more_step Less n count later more Differs h = ((λ d. refl), (λ e d. absurd cc))
more_step Equal n count later more Differs h = ((λ d. h.0 d), (λ e d. let l : more.level ≡ suc n + count = h.1 e d in omega arith))
more_step Greater n count later more Differs h = ((λ d. refl), (λ e d. absurd cc))

last_level : (o : Ordering) (n : ℕ) → (o ≡ Equal → ⊥) → (decided o n (record { order = Equal; level = 0 })).level ≡ n + 0
last_level Less n d = omega arith
last_level Equal n d = absurd (d refl)
last_level Greater n d = omega arith

-- the level of a comparison with one level more
more_level : (n : ℕ) (left right : List (List ℕ)) (ps qs : List ℕ) → AreLevels left right
    → (((compare_from n left right).order ≡ Equal → ⊥) → (compare_from n (left ++ ps ∷ []) (right ++ qs ∷ [])).level ≡ (compare_from n left right).level)
    × ((compare_from n left right).order ≡ Equal → (lexicographic ps qs ≡ Equal → ⊥) → (compare_from n (left ++ ps ∷ []) (right ++ qs ∷ [])).level ≡ n + length left)
more_level n [] [] ps qs h = ((λ d. absurd (d refl)), (λ e d. last_level (lexicographic ps qs) n d))
more_level n [] (b ∷ right) ps qs h = absurd h
more_level n (a ∷ left) [] ps qs h = absurd h
more_level n (a ∷ left) (b ∷ right) ps qs h =
    more_step (lexicographic a b) n (length left) (compare_from (suc n) left right) (compare_from (suc n) (left ++ ps ∷ []) (right ++ qs ∷ []))
    (lexicographic ps qs ≡ Equal → ⊥) (more_level (suc n) left right ps qs h.2)

-- so the level at which two keys differ is that of their texts
stored_where : (levels separators count : ℕ) (first whole : Comparison) → levels ≡ suc count → TellsLevel 1 count separators first
    → ((first.order ≡ Equal → ⊥) → whole.level ≡ first.level) → (first.order ≡ Equal → whole.level ≡ 1 + count)
    → (o : Ordering) → first.order ≡ o → min levels (1 + separators) ≡ whole.level
stored_where levels separators count first whole is tells before behind Less o =
    let d : first.order ≡ Equal → ⊥ = λ e. cc in
    let at : first.level ≡ 1 + separators = (tells.differs d).0 in
    let few : suc separators ≤ count = (tells.differs d).1 in
    let same : whole.level ≡ first.level = before d in
    omega arith
stored_where levels separators count first whole is tells before behind Equal o =
    let many : count ≤ separators = tells.same o in
    let same : whole.level ≡ 1 + count = behind o in
    omega arith
stored_where levels separators count first whole is tells before behind Greater o =
    let d : first.order ≡ Equal → ⊥ = λ e. cc in
    let at : first.level ≡ 1 + separators = (tells.differs d).0 in
    let few : suc separators ≤ count = (tells.differs d).1 in
    let same : whole.level ≡ first.level = before d in
    omega arith

identical_level : (a b : List ℕ) (left right : List (List ℕ)) (ps qs : List ℕ) (levels : ℕ) → levels ≡ suc (length (a ∷ left)) → AreLevels (a ∷ left) (b ∷ right)
    → (same : Bool) → bytes_eq (levels_bytes (a ∷ left) ++ (0 ∷ 0 ∷ points_bytes ps)) (levels_bytes (b ∷ right) ++ (0 ∷ 0 ∷ points_bytes qs)) ≡ same
    → cond same 0 (min levels (1 + shared_separators (levels_bytes (a ∷ left) ++ (0 ∷ 0 ∷ points_bytes ps)) (levels_bytes (b ∷ right) ++ (0 ∷ 0 ∷ points_bytes qs))))
    ≡ (compare_from 1 ((a ∷ left) ++ ps ∷ []) ((b ∷ right) ++ qs ∷ [])).level
identical_level a b left right ps qs levels is h true same =
    let one = levels_bytes (a ∷ left) ++ (0 ∷ 0 ∷ points_bytes ps) in
    let other = levels_bytes (b ∷ right) ++ (0 ∷ 0 ∷ points_bytes qs) in
    let equal : one ≡ other = (bytes_eq-Decides one other).0 same in
    sym (level_zero 0 ((a ∷ left) ++ ps ∷ []) ((b ∷ right) ++ qs ∷ []) (sym (identical_order a b left right ps qs h) ∙ (ap (lexicographic one) (sym equal) ∙ lexicographic_itself one)))
identical_level a b left right ps qs levels is h false apart =
    let one = levels_bytes (a ∷ left) ++ (0 ∷ 0 ∷ points_bytes ps) in
    let other = levels_bytes (b ∷ right) ++ (0 ∷ 0 ∷ points_bytes qs) in
    let first = compare_from 1 (a ∷ left) (b ∷ right) in
    let more = more_level 1 (a ∷ left) (b ∷ right) ps qs h in
    let points_differ : first.order ≡ Equal → lexicographic ps qs ≡ Equal → ⊥ = λ e d.
    let equal : lexicographic one other ≡ Equal =
    identical_order a b left right ps qs h ∙ more_order 1 (a ∷ left) (b ∷ right) ps qs h ∙ ap (λ o. ordering_then o (lexicographic ps qs)) e ∙ d in
    let t : bytes_eq one other ≡ true = same_bytes one other (same_from_lexicographic one other equal) in cc in
    stored_where levels (shared_separators one other) (length (a ∷ left)) first (compare_from 1 ((a ∷ left) ++ ps ∷ []) ((b ∷ right) ++ qs ∷ [])) is
    (levels_separators 1 a b left right (points_bytes ps) (points_bytes qs) h) more.0 (λ e. more.1 e (points_differ e)) first.order refl

pub depth_level : (depth : Depth) (weighting : Weighting) (left right : ReadText)
    → stored_level (levels_at depth weighting) (key_at depth weighting left) (key_at depth weighting right) ≡ (compared_at depth weighting left right).level
depth_level Weights weighting left right = stored_key_level weighting left.elements right.elements
depth_level Identical NonIgnorable left right =
    let vs = weighted NonIgnorable left.elements in
    let ws = weighted NonIgnorable right.elements in
    identical_level (level_list 1 vs) (level_list 1 ws) (level_lists_from 2 2 vs) (level_lists_from 2 2 ws) left.points right.points 4 (omega arith) (AreLevels-from 1 3 vs ws) _ refl
depth_level Identical Shifted left right =
    let vs = weighted Shifted left.elements in
    let ws = weighted Shifted right.elements in
    identical_level (level_list 1 vs) (level_list 1 ws) (level_lists_from 2 3 vs) (level_lists_from 2 3 ws) left.points right.points 5 (omega arith) (AreLevels-from 1 4 vs ws) _ refl

-- ---- The laws

pub keys_compare_as_texts : KeysCompareAsTexts
keys_compare_as_texts = record { order = depth_order; level = depth_level; equal = depth_equal }

pub stored_texts_compare : StoredKeysCompareAsTexts
stored_texts_compare c settings left right =
    let one = read_points c settings.numbers left in
    let other = read_points c settings.numbers right in
    (depth_order settings.depth settings.weighting one other, depth_level settings.depth settings.weighting one other)

-- the last of two orders that are equal together
last_equal : (a b : Ordering) → ordering_then a b ≡ Equal → b ≡ Equal
last_equal Less b h = absurd cc
last_equal Equal b h = h
last_equal Greater b h = absurd cc

points_equal : (a b : List ℕ) (left right : List (List ℕ)) (ps qs : List ℕ) → AreLevels (a ∷ left) (b ∷ right)
    → levels_bytes (a ∷ left) ++ (0 ∷ 0 ∷ points_bytes ps) ≡ levels_bytes (b ∷ right) ++ (0 ∷ 0 ∷ points_bytes qs) → ps ≡ qs
points_equal a b left right ps qs h same =
    let one = levels_bytes (a ∷ left) ++ (0 ∷ 0 ∷ points_bytes ps) in
    same_from_lexicographic ps qs
    (last_equal (compare_from 1 (a ∷ left) (b ∷ right)).order (lexicographic ps qs)
    (sym (more_order 1 (a ∷ left) (b ∷ right) ps qs h) ∙ sym (identical_order a b left right ps qs h) ∙ ap (lexicographic one) (sym same) ∙ lexicographic_itself one))

identical_points : (weighting : Weighting) (left right : ReadText) → key_at Identical weighting left ≡ key_at Identical weighting right → left.points ≡ right.points
identical_points NonIgnorable left right same =
    let vs = weighted NonIgnorable left.elements in
    let ws = weighted NonIgnorable right.elements in
    points_equal (level_list 1 vs) (level_list 1 ws) (level_lists_from 2 2 vs) (level_lists_from 2 2 ws) left.points right.points (AreLevels-from 1 3 vs ws) same
identical_points Shifted left right same =
    let vs = weighted Shifted left.elements in
    let ws = weighted Shifted right.elements in
    points_equal (level_list 1 vs) (level_list 1 ws) (level_lists_from 2 3 vs) (level_lists_from 2 3 ws) left.points right.points (AreLevels-from 1 4 vs ws) same

pub identical_texts : IdenticalKeysAreOfEquivalentTexts
identical_texts c weighting numbers left right same = identical_points weighting (read_points c numbers left) (read_points c numbers right) same

-- ---- How many levels a comparison can name

level_step : (o : Ordering) (n count : ℕ) (later : Comparison) → later.level ≤ suc n + count → (decided o (suc n) later).level ≤ n + suc count
level_step Less n count later few = omega arith
level_step Equal n count later few = omega (arith, few)
level_step Greater n count later few = omega arith

level_within : (n : ℕ) (left right : List (List ℕ)) → (compare_from (suc n) left right).level ≤ n + length left
level_within n [] right = omega arith
level_within n (a ∷ left) [] = omega arith
level_within n (a ∷ left) (b ∷ right) =
    level_step (lexicographic a b) n (length left) (compare_from (suc (suc n)) left right) (level_within (suc n) left right)

-- at most five
pub five_levels : (depth : Depth) (weighting : Weighting) (left right : ReadText) → (compared_at depth weighting left right).level ≤ 5
five_levels Weights NonIgnorable left right = omega (arith, level_within 0 (lists_at Weights NonIgnorable left) (lists_at Weights NonIgnorable right))
five_levels Weights Shifted left right = omega (arith, level_within 0 (lists_at Weights Shifted left) (lists_at Weights Shifted right))
five_levels Identical NonIgnorable left right = omega (arith, level_within 0 (lists_at Identical NonIgnorable left) (lists_at Identical NonIgnorable right))
five_levels Identical Shifted left right = omega (arith, level_within 0 (lists_at Identical Shifted left) (lists_at Identical Shifted right))
