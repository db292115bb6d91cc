-- Steps of reading a stored key.
use Rattle.std.proofs.Common.{◌≡◌, ◌≢◌, ℕ, zero, suc, ◌+◌, ◌*◌, ◌-◌, ◌<◌, ◌≤◌, List, [], ◌∷◌, ◌++◌, Bool, true, false, cond, Option, Some, None, option_map, nat_eq, length, length-append, get_or, take, drop, drop-cons, Bor, refl, ap, sym, subst, ◌∙◌, arith, append_assoc, append-nil, encode_utf8, encode_utf8_all}
use Rattle.std.specs.List.{AllByRecursion}
use Rattle.std.proofs.lemmas.List.{drop_all}
use Rattle.std.proofs.lemmas.Bool.Decides.{nat_tests}
use lib.Utf8.{scalar}
use Rattle.uca_weights.specs.declared.Depth.{Depth}
use Rattle.uca_weights.specs.declared.Depth.TheVariants.{Weights, Identical}
use Rattle.uca_weights.specs.declared.Weighting.{Weighting}
use Rattle.uca_books.specs.Books.{BookContent}
use Rattle.uca_compact.specs.Forms.{AreWeights, forms_of}
use Rattle.uca_compact.specs.PlainLevels.{plain_level}
use Rattle.uca_compact.specs.CompactKeys.{compact, compact_key}
use Rattle.uca_compact.specs.StoredParts.{StoredLevel, weight_then, stored_level, stored_points}
use Rattle.uca_compact.specs.declared.stored.StoredEnd.{StoredEnd}
use Rattle.uca_compact.specs.declared.stored.StoredEnd.TheVariants.{Next, Key, Single}
use Rattle.uca_compact.specs.LevelBytes.{weights_in}
use Rattle.uca_compact.specs.inside.StoredEnds.{level_of, weights_before, IsSplitTo, points_of, with_points}
use Rattle.uca_compact.proofs.OnlyLevels.{weights_append}

-- ---- The next bytes

one_at : (bytes : List ℕ) (at : ℕ) → at < length bytes → drop at bytes ≡ get_or bytes at 0 ∷ drop (at + 1) bytes
one_at bytes at h = let next : suc at ≡ at + 1 = omega arith in drop-cons bytes at 0 h ∙ ap (λ (n : ℕ). get_or bytes at 0 ∷ drop n bytes) next

pub two_at : (bytes : List ℕ) (at : ℕ) → at + 1 < length bytes → drop at bytes ≡ get_or bytes at 0 ∷ get_or bytes (at + 1) 0 ∷ drop (at + 2) bytes
two_at bytes at h =
    let next : at + 1 + 1 ≡ at + 2 = omega arith in
    one_at bytes at (omega arith)
    ∙ ap (λ (xs : List ℕ). get_or bytes at 0 ∷ xs) (one_at bytes (at + 1) h)
    ∙ ap (λ (n : ℕ). get_or bytes at 0 ∷ get_or bytes (at + 1) 0 ∷ drop n bytes) next

three_at : (bytes : List ℕ) (at : ℕ) → at + 2 < length bytes
    → drop at bytes ≡ get_or bytes at 0 ∷ get_or bytes (at + 1) 0 ∷ get_or bytes (at + 2) 0 ∷ drop (at + 3) bytes
three_at bytes at h =
    let next : at + 2 + 1 ≡ at + 3 = omega arith in
    two_at bytes at (omega arith)
    ∙ ap (λ (xs : List ℕ). get_or bytes at 0 ∷ get_or bytes (at + 1) 0 ∷ xs) (one_at bytes (at + 2) h)
    ∙ ap (λ (n : ℕ). get_or bytes at 0 ∷ get_or bytes (at + 1) 0 ∷ get_or bytes (at + 2) 0 ∷ drop n bytes) next

-- ---- Weights

before_then : (front : List ℕ) (w : ℕ) (o : Option StoredLevel) → weights_before front (weight_then w o) ≡ weights_before (front ++ w ∷ []) o
before_then front w None = refl
before_then front w (Some l) = ap (λ (xs : List ℕ). Some (record { weights = xs; rest = l.rest })) (sym (append_assoc front (w ∷ []) l.weights))

-- a level with one weight more
pub level_step : (a b : ℕ) (bytes : List ℕ) (w : ℕ) → w ≡ 256 * a + b → w ≢ 0 → stored_level (a ∷ b ∷ bytes) ≡ weight_then w (stored_level bytes)
level_step a b bytes w is some =
    let test : nat_eq w 0 ≡ false = grind (arith, nat_tests) in
    let ended : Option StoredLevel = Some (record { weights = []; rest = Some bytes }) in
    ap (λ (n : ℕ). cond (nat_eq n 0) ended (weight_then n (stored_level bytes))) (sym is)
    ∙ ap (λ (t : Bool). cond t ended (weight_then w (stored_level bytes))) test

-- one more weight is read
pub weights_step : (front bytes items : List ℕ) (at w : ℕ) (all : Option StoredLevel) → at + 1 < length bytes
    → w ≡ 256 * get_or bytes at 0 + get_or bytes (at + 1) 0 → w ≢ 0 → w < 65536 → AreWeights front → items ≡ front ++ w ∷ []
    → weights_before front (stored_level (drop at bytes)) ≡ all
    → (at + 2 ≤ length bytes) × AreWeights items × (weights_before items (stored_level (drop (at + 2) bytes)) ≡ all)
weights_step front bytes items at w all within is some small weights added h =
    let more = drop (at + 2) bytes in (
      omega arith,
      subst AreWeights (sym added) (weights_append front (w ∷ []) weights ((omega (arith, some), small), tt)),
      ap (λ (xs : List ℕ). weights_before xs (stored_level more)) added
          ∙ sym (before_then front w (stored_level more))
          ∙ ap (weights_before front) (sym (ap stored_level (two_at bytes at within) ∙ level_step (get_or bytes at 0) (get_or bytes (at + 1) 0) more w is some))
          ∙ h,
    )

-- the weights of one more pair of bytes
taken_more : (bytes : List ℕ) (n : ℕ) → 2 * n + 1 < length bytes
    → weights_in (take (suc (suc (2 * n))) bytes) ≡ weights_in (take (2 * n) bytes) ++ (256 * get_or bytes (2 * n) 0 + get_or bytes (suc (2 * n)) 0) ∷ []
taken_more [] n within = absurd (omega arith)
taken_more (a ∷ []) n within = absurd (omega (arith, within))
taken_more (a ∷ b ∷ bytes) zero within = refl
taken_more (a ∷ b ∷ bytes) (suc n) within =
    let twice : suc (suc (2 * n)) ≡ 2 * suc n = omega arith in
    subst (λ (m : ℕ). weights_in (take (suc (suc m)) (a ∷ b ∷ bytes))
    ≡ weights_in (take m (a ∷ b ∷ bytes)) ++ (256 * get_or (a ∷ b ∷ bytes) m 0 + get_or (a ∷ b ∷ bytes) (suc m) 0) ∷ []) twice
    (ap (λ (ws : List ℕ). (256 * a + b) ∷ ws) (taken_more bytes n (omega (arith, within))))

all_more : (ws : List ℕ) (w : ℕ) → AllByRecursion (λ (v : ℕ). 0 < v) ws → 0 < w → AllByRecursion (λ (v : ℕ). 0 < v) (ws ++ w ∷ [])
all_more [] w all some = (some, tt)
all_more (v ∷ ws) w all some = (all.0, all_more ws w all.1 some)

before_none : (o : Option StoredLevel) → weights_before [] o ≡ o
before_none None = refl
before_none (Some l) = refl

-- nothing was read yet
pub none_split : (bytes : List ℕ) → IsSplitTo bytes 0
none_split bytes = record { number = 0; size = refl; within = omega arith; len = refl; some = tt; read = before_none (stored_level bytes) }

-- one more weight is read
pub more_split : (bytes : List ℕ) (at : ℕ) → IsSplitTo bytes at → at + 1 < length bytes → 0 < 256 * get_or bytes at 0 + get_or bytes (at + 1) 0 → IsSplitTo bytes (at + 2)
more_split bytes at so_far within some =
    let n = so_far.number in
    let size = so_far.size in
    let len = so_far.len in
    let w = 256 * get_or bytes at 0 + get_or bytes (at + 1) 0 in
    let front = weights_in (take at bytes) in
    let next : suc (suc at) ≡ at + 2 = omega arith in
    let beside : suc at ≡ at + 1 = omega arith in
    let more : weights_in (take (at + 2) bytes) ≡ front ++ w ∷ [] =
    ap (λ (m : ℕ). weights_in (take m bytes)) (sym next)
    ∙ subst (λ (m : ℕ). weights_in (take (suc (suc m)) bytes) ≡ weights_in (take m bytes) ++ (256 * get_or bytes m 0 + get_or bytes (suc m) 0) ∷ []) size
    (taken_more bytes n (omega (arith, within, size)))
    ∙ ap (λ (m : ℕ). front ++ (256 * get_or bytes at 0 + get_or bytes m 0) ∷ []) beside in
    let longer : length (front ++ w ∷ []) ≡ length front + 1 = length-append front (w ∷ []) in
    let rest = drop (at + 2) bytes in
    record {
      number = n + 1;
      size = omega (arith, size);
      within = omega arith;
      len = ap length more ∙ omega (arith, longer, len);
      some = subst (AllByRecursion (λ (v : ℕ). 0 < v)) (sym more) (all_more front w so_far.some some);
      read = ap (λ (ws : List ℕ). weights_before ws (stored_level rest)) more
          ∙ sym (before_then front w (stored_level rest))
          ∙ ap (weights_before front) (sym (ap stored_level (two_at bytes at within) ∙ level_step (get_or bytes at 0) (get_or bytes (at + 1) 0) rest w refl (λ none. omega (arith, none, some))))
          ∙ so_far.read;
    }

-- 00 00 ends the level
ended_level : (a b : ℕ) (bytes : List ℕ) → a ≡ 0 → b ≡ 0 → stored_level (a ∷ b ∷ bytes) ≡ Some (record { weights = []; rest = Some bytes })
ended_level a b bytes first second =
    let zero_is : 256 * a + b ≡ 0 = omega (arith, first, second) in
    ap (λ (n : ℕ). cond (nat_eq n 0) (Some (record { weights = []; rest = Some bytes })) (weight_then n (stored_level bytes))) zero_is

pub split_next : (bytes level : List ℕ) (at : ℕ) (e : StoredEnd) (rest : Bor (List ℕ)) → IsSplitTo bytes at → level ≡ take at bytes → at + 1 < length bytes
    → get_or bytes at 0 ≡ 0 → get_or bytes (at + 1) 0 ≡ 0 → e ≡ Next rest → rest.now ≡ drop (at + 2) bytes → stored_level bytes ≡ level_of e (weights_in level)
split_next bytes level at e rest so_far is within first second is_end is_rest =
    let front = weights_in (take at bytes) in
    let more = drop (at + 2) bytes in
    sym so_far.read
    ∙ ap (λ (xs : List ℕ). weights_before front (stored_level xs)) (two_at bytes at within)
    ∙ ap (weights_before front) (ended_level (get_or bytes at 0) (get_or bytes (at + 1) 0) more first second)
    ∙ ap (λ (ws : List ℕ). Some (record { weights = ws; rest = Some more })) (append-nil front)
    ∙ ap (λ (xs : List ℕ). Some (record { weights = front; rest = Some xs })) (sym is_rest)
    ∙ ap (λ (x : StoredEnd). level_of x front) (sym is_end)
    ∙ ap (λ (xs : List ℕ). level_of e (weights_in xs)) (sym is)

-- the key does
pub split_key_end : (bytes level : List ℕ) (at : ℕ) (e : StoredEnd) → IsSplitTo bytes at → level ≡ take at bytes → at ≡ length bytes → e ≡ Key
    → stored_level bytes ≡ level_of e (weights_in level)
split_key_end bytes level at e so_far is last is_end =
    let front = weights_in (take at bytes) in
    sym so_far.read
    ∙ ap (λ (xs : List ℕ). weights_before front (stored_level xs)) (drop_all at bytes (omega (arith, last)))
    ∙ ap (λ (ws : List ℕ). Some (record { weights = ws; rest = None })) (append-nil front)
    ∙ ap (λ (x : StoredEnd). level_of x front) (sym is_end)
    ∙ ap (λ (xs : List ℕ). level_of e (weights_in xs)) (sym is)

-- a single byte is left
pub single_left : (front bytes : List ℕ) (at : ℕ) (all : Option StoredLevel) → at ≤ length bytes → length bytes ≤ at + 1 → at ≢ length bytes
    → weights_before front (stored_level (drop at bytes)) ≡ all → all ≡ None
single_left front bytes at all within end apart h =
    let one : drop at bytes ≡ get_or bytes at 0 ∷ [] = one_at bytes at (omega (arith, apart)) ∙ ap (λ (xs : List ℕ). get_or bytes at 0 ∷ xs) (drop_all (at + 1) bytes end) in
    sym h ∙ ap (λ (xs : List ℕ). weights_before front (stored_level xs)) one

-- a single byte does
pub split_single : (bytes level : List ℕ) (at : ℕ) (e : StoredEnd) → IsSplitTo bytes at → length bytes ≤ at + 1 → at ≢ length bytes → e ≡ Single
    → stored_level bytes ≡ level_of e (weights_in level)
split_single bytes level at e so_far last apart is_end =
    single_left (weights_in (take at bytes)) bytes at (stored_level bytes) so_far.within last apart so_far.read
    ∙ ap (λ (x : StoredEnd). level_of x (weights_in level)) (sym is_end)

-- ---- Code points

with_then : (out : List ℕ) (n : ℕ) (o : Option (List ℕ))
    → with_points out (option_map (λ points. n ∷ points) o) ≡ with_points (out ++ encode_utf8 n) o
with_then out n None = refl
with_then out n (Some ps) = ap (λ (xs : List ℕ). Some xs) (sym (append_assoc out (encode_utf8 n) (encode_utf8_all ps)))

point_step : (a b c : ℕ) (bytes : List ℕ) (n : ℕ) → n ≡ 65536 * a + 256 * b + c → scalar n ≡ true
    → stored_points (a ∷ b ∷ c ∷ bytes) ≡ option_map (λ points. n ∷ points) (stored_points bytes)
point_step a b c bytes n is test =
    ap (λ (m : ℕ). cond (scalar m) (option_map (λ (points : List ℕ). m ∷ points) (stored_points bytes)) None) (sym is)
    ∙ ap (λ (t : Bool). cond t (option_map (λ (points : List ℕ). n ∷ points) (stored_points bytes)) None) test

-- one more code point is read
pub points_step : (out bytes items : List ℕ) (at n : ℕ) (all : Option (List ℕ)) → at + 2 < length bytes
    → n ≡ 65536 * get_or bytes at 0 + 256 * get_or bytes (at + 1) 0 + get_or bytes (at + 2) 0 → scalar n ≡ true → items ≡ out ++ encode_utf8 n
    → with_points out (stored_points (drop at bytes)) ≡ all
    → (at + 3 ≤ length bytes) × (with_points items (stored_points (drop (at + 3) bytes)) ≡ all)
points_step out bytes items at n all within is test added h =
    let more = drop (at + 3) bytes in (
      omega arith,
      ap (λ (xs : List ℕ). with_points xs (stored_points more)) added
          ∙ sym (with_then out n (stored_points more))
          ∙ ap (with_points out)
          (sym (ap stored_points (three_at bytes at within) ∙ point_step (get_or bytes at 0) (get_or bytes (at + 1) 0) (get_or bytes (at + 2) 0) more n is test))
          ∙ h,
    )

-- the bytes end with a code point, or not
ends_by : (out bytes : List ℕ) (at : ℕ) (all : Option (List ℕ)) (t : Bool) → nat_eq at (length bytes) ≡ t → at ≤ length bytes → length bytes ≤ at + 2
    → with_points out (stored_points (drop at bytes)) ≡ all → all ≡ cond t (Some out) None
ends_by out bytes at all true test within end h =
    let none : drop at bytes ≡ [] = drop_all at bytes (let e : at ≡ length bytes = grind (arith, nat_tests) in omega arith) in
    sym h ∙ ap (λ (xs : List ℕ). with_points out (stored_points xs)) none ∙ ap (λ (xs : List ℕ). Some xs) (append-nil out)
ends_by out bytes at all false test within end h =
    let apart : at ≢ length bytes = grind (arith, nat_tests) in
    left_by apart (length bytes - at) refl
  where
    left_by : at ≢ length bytes → (n : ℕ) → length bytes - at ≡ n → all ≡ None
    left_by apart zero is = absurd (apart (omega arith))
    left_by apart (suc zero) is =
        let one : drop at bytes ≡ get_or bytes at 0 ∷ [] = one_at bytes at (omega arith) ∙ ap (λ (xs : List ℕ). get_or bytes at 0 ∷ xs) (drop_all (at + 1) bytes (omega arith)) in
        sym h ∙ ap (λ (xs : List ℕ). with_points out (stored_points xs)) one
    left_by apart (suc (suc n)) is =
        let two : drop at bytes ≡ get_or bytes at 0 ∷ get_or bytes (at + 1) 0 ∷ [] =
        two_at bytes at (omega arith) ∙ ap (λ (xs : List ℕ). get_or bytes at 0 ∷ get_or bytes (at + 1) 0 ∷ xs) (drop_all (at + 2) bytes end) in
        sym h ∙ ap (λ (xs : List ℕ). with_points out (stored_points xs)) two

pub points_end : (out bytes : List ℕ) (at : ℕ) (all : Option (List ℕ)) → at ≤ length bytes → length bytes ≤ at + 2
    → with_points out (stored_points (drop at bytes)) ≡ all → all ≡ cond (nat_eq at (length bytes)) (Some out) None
points_end out bytes at all within end h = ends_by out bytes at all (nat_eq at (length bytes)) refl within end h

-- ---- Levels of a key

-- the compact key is the levels and what is written for the code points
pub written_parts : (depth : Depth) (weighting : Weighting) (b : BookContent) (levels : List (List ℕ)) (e : StoredEnd)
    → option_map (compact_key depth weighting b) (option_map (λ points. record { levels = levels; points = points }) (points_of depth e))
    ≡ with_points (compact plain_level (forms_of weighting b) levels) (points_of depth e)
written_parts Weights weighting b levels (Next rest) = refl
written_parts Weights weighting b levels Key = ap (λ (xs : List ℕ). Some xs) (sym (append-nil (compact plain_level (forms_of weighting b) levels)))
written_parts Weights weighting b levels Single = refl
written_parts Identical weighting b levels (Next rest) = by_points (stored_points rest.now)
  where
    by_points : (o : Option (List ℕ)) → option_map (compact_key Identical weighting b) (option_map (λ points. record { levels = levels; points = points }) o)
        ≡ with_points (compact plain_level (forms_of weighting b) levels) o
    by_points None = refl
    by_points (Some ps) = refl
written_parts Identical weighting b levels Key = refl
written_parts Identical weighting b levels Single = refl
