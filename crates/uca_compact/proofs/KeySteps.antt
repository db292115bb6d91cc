-- Steps of reading all levels of a key.
use Rattle.std.proofs.Common.{◌≡◌, ℕ, zero, suc, ◌+◌, ◌-◌, ◌<◌, List, [], ◌∷◌, ◌++◌, Bool, true, false, cond, Option, Some, None, option_map, length, refl, ap, sym, subst, ◌∙◌, arith, append_assoc, append-nil}
use Rattle.std.specs.Ordering.{nat_cmp}
use Rattle.std.specs.Str.{chars, is_utf8}
use Rattle.std.specs.declared.cmp.Ordering.{Ordering}
use Rattle.uca_weights.specs.declared.Depth.{Depth}
use Rattle.uca_weights.specs.declared.Depth.TheVariants.{Weights, Identical}
use Rattle.uca_weights.specs.declared.Weighting.{Weighting}
use Rattle.uca_weights.specs.declared.Weighting.TheVariants.{NonIgnorable, Shifted}
use Rattle.uca_order.specs.Levels.{lexicographic, level_bytes, levels_bytes}
use Rattle.uca_order.specs.Depths.{points_bytes}
use Rattle.uca_books.specs.Books.{BookContent}
use Rattle.uca_compact.specs.Forms.{Form, IsForm, letters_form, accents_form, cases_form, variables_form}
use Rattle.uca_compact.specs.PlainLevels.{copies, letter_count, plain_level}
use Rattle.uca_compact.specs.CompactKeys.{Plain, stored_key}
use Rattle.uca_compact.specs.inside.Reading.{ReadLevel, read_level, ReadLevels, with_level, level_then, plain_count, is_on_side, read_later, read_levels, with_rest}
use Rattle.uca_compact.specs.inside.LevelSteps.{level_of_end, LevelThen, then_of, told_of, passed, level_by, level_after, levels_of, AreRead, key_end, IsExpanded}
use Rattle.uca_compact.specs.declared.level_reader.LevelEnd.{LevelEnd}
use Rattle.uca_compact.specs.declared.key_reader.Later.{Later}
use Rattle.uca_compact.proofs.OnlyCells.{nothing}

-- ---- What a level tells

-- a level that was read
pub is_told : (later : ℕ) (e : LevelEnd) (k : Later) (ws : List ℕ) (o : Option ReadLevel) → level_of_end (Some e) ws ≡ o
    → k.count ≡ plain_count later e.end → k.side ≡ nat_cmp e.end later → k.rest.now ≡ e.rest.now → told_of later o ≡ then_of (Some k) ws
is_told later e k ws o is count side rest =
    ap (told_of later) (sym is)
    ∙ ap (λ (n : ℕ). Some (record { level = ws; count = n; side = nat_cmp e.end later; rest = e.rest.now })) (sym count)
    ∙ ap (λ (s : Ordering). Some (record { level = ws; count = k.count; side = s; rest = e.rest.now })) (sym side)
    ∙ ap (λ (xs : List ℕ). Some (record { level = ws; count = k.count; side = k.side; rest = xs })) (sym rest)

-- a plain level
pub plain_next : (f : Form) (later count left : ℕ) (plain ws : List ℕ) (side : Ordering) (bytes : List ℕ) → 0 < count → left ≡ count - 1 → ws ≡ plain
    → level_by f later plain count side bytes ≡ Some (record { level = ws; count = left; side = side; rest = bytes })
plain_next f later zero left plain ws side bytes some is same = absurd (omega arith)
plain_next f later (suc count) left plain ws side bytes some is same =
    let back : count ≡ left = omega (arith, is) in
    ap (λ (n : ℕ). Some (record { level = plain; count = n; side = side; rest = bytes })) back
    ∙ ap (λ (xs : List ℕ). Some (record { level = xs; count = left; side = side; rest = bytes })) (sym same)

-- no level passes the test where none is read
passed_by : (test : List ℕ → Bool) (o : Option Later) (ws : List ℕ) (b : Bool) → test ws ≡ b → passed test (then_of o ws) ≡ cond b (then_of o ws) None
passed_by test None ws true is = refl
passed_by test None ws false is = refl
passed_by test (Some k) ws b is = ap (λ (t : Bool). cond t (then_of (Some k) ws) None) is

-- a level that is written
pub written_next : (f : Form) (later count : ℕ) (plain read ws : List ℕ) (side order : Ordering) (bytes : List ℕ) (o : Option Later) (b t : Bool) → count ≡ 0
    → told_of later (read_level f bytes) ≡ then_of o ws → read ≡ ws → order ≡ lexicographic read plain → b ≡ is_on_side side order → b ≡ t
    → level_by f later plain count side bytes ≡ cond t (then_of o ws) None
written_next f later (suc count) plain read ws side order bytes o b t none is same compared test so = absurd (omega arith)
written_next f later zero plain read ws side order bytes o b t none is same compared test so =
    ap (passed (λ (level : List ℕ). is_on_side side (lexicographic level plain))) is
    ∙ passed_by (λ (level : List ℕ). is_on_side side (lexicographic level plain)) o ws t
    (sym (ap (λ (xs : List ℕ). is_on_side side (lexicographic xs plain)) same) ∙ sym (test ∙ ap (is_on_side side) compared) ∙ so)

-- ---- Levels after one another

-- a level, and those after it
abbrev pub levels_then : Plain → List Form → (earlier : List (List ℕ)) → Option LevelThen → Option ReadLevels
levels_then plain forms earlier None = None
levels_then plain forms earlier (Some t) = with_level t.level (read_later plain forms (earlier ++ t.level ∷ []) t.count t.side t.rest)

-- those after it, by what it told
abbrev pub told_levels : Plain → List Form → (earlier : List (List ℕ)) → Option Later → Option ReadLevels
told_levels plain forms earlier None = None
told_levels plain forms earlier (Some k) = read_later plain forms earlier k.count k.side k.rest.now

first_by : (plain : Plain) (forms : List Form) (o : Option ReadLevel)
    → level_then (λ level. true) o (λ level end rest. read_later plain forms (level ∷ []) (plain_count (length forms) end) (nat_cmp end (length forms)) rest)
    ≡ levels_then plain forms [] (told_of (length forms) o)
first_by plain forms None = refl
first_by plain forms (Some r) = refl

cond_levels : (plain : Plain) (forms : List Form) (earlier : List (List ℕ)) (t : LevelThen) (b : Bool)
    → cond b (levels_then plain forms earlier (Some t)) None ≡ levels_then plain forms earlier (cond b (Some t) None)
cond_levels plain forms earlier t true = refl
cond_levels plain forms earlier t false = refl

later_by : (plain : Plain) (forms : List Form) (earlier : List (List ℕ)) (test : List ℕ → Bool) (o : Option ReadLevel)
    → level_then test o (λ level end rest. read_later plain forms (earlier ++ level ∷ []) (plain_count (length forms) end) (nat_cmp end (length forms)) rest)
    ≡ levels_then plain forms earlier (passed test (told_of (length forms) o))
later_by plain forms earlier test None = refl
later_by plain forms earlier test (Some r) =
    cond_levels plain forms earlier (record { level = r.weights; count = plain_count (length forms) r.end; side = nat_cmp r.end (length forms); rest = r.rest }) (test r.weights)

later_is : (plain : Plain) (f : Form) (forms : List Form) (earlier : List (List ℕ)) (count : ℕ) (side : Ordering) (bytes : List ℕ)
    → read_later plain (f ∷ forms) earlier count side bytes ≡ levels_then plain forms earlier (level_by f (length forms) (plain earlier) count side bytes)
later_is plain f forms earlier zero side bytes =
    later_by plain forms earlier (λ level. is_on_side side (lexicographic level (plain earlier))) (read_level f bytes)
later_is plain f forms earlier (suc count) side bytes = refl

-- a level that was read, or none
level_told : (plain : Plain) (forms : List Form) (earlier : List (List ℕ)) (o : Option Later) (ws : List ℕ)
    → levels_then plain forms earlier (then_of o ws) ≡ with_level ws (told_levels plain forms (earlier ++ ws ∷ []) o)
level_told plain forms earlier None ws = refl
level_told plain forms earlier (Some k) ws = refl

-- the first level
pub first_level : (plain : Plain) (f : Form) (forms : List Form) (bytes ws : List ℕ) (o : Option Later)
    → told_of (length forms) (read_level f bytes) ≡ then_of o ws → read_levels plain (f ∷ forms) bytes ≡ with_level ws (told_levels plain forms (ws ∷ []) o)
first_level plain f forms bytes ws o is =
    first_by plain forms (read_level f bytes) ∙ ap (levels_then plain forms []) is ∙ level_told plain forms [] o ws

-- a later one
pub next_level : (plain : Plain) (f : Form) (forms : List Form) (earlier : List (List ℕ)) (ws level : List ℕ) (o p : Option Later)
    → level ≡ plain earlier → level_after f (length forms) level o ≡ then_of p ws
    → told_levels plain (f ∷ forms) earlier o ≡ with_level ws (told_levels plain forms (earlier ++ ws ∷ []) p)
next_level plain f forms earlier ws level None None same is = refl
next_level plain f forms earlier ws level None (Some k) same is = nothing is
next_level plain f forms earlier ws level (Some k) p same is =
    later_is plain f forms earlier k.count k.side k.rest.now
    ∙ ap (λ (xs : List ℕ). levels_then plain forms earlier (level_by f (length forms) xs k.count k.side k.rest.now)) (sym same)
    ∙ ap (levels_then plain forms earlier) is ∙ level_told plain forms earlier p ws

-- none after the last
pub last_level : (plain : Plain) (earlier : List (List ℕ)) (o : Option Later) → told_levels plain [] earlier o ≡ levels_of o []
last_level plain earlier None = refl
last_level plain earlier (Some k) = refl

pub level_joined : (ws : List ℕ) (levels : List (List ℕ)) (o : Option Later) → with_level ws (levels_of o levels) ≡ levels_of o (ws ∷ levels)
level_joined ws levels None = refl
level_joined ws levels (Some k) = refl

-- by the form that a program has
told_form : (later : ℕ) (f g : Form) (bytes ws : List ℕ) (o : Option Later) → f ≡ g → told_of later (read_level f bytes) ≡ then_of o ws
    → told_of later (read_level g bytes) ≡ then_of o ws
told_form later f g bytes ws o same is = subst (λ (h : Form). told_of later (read_level h bytes) ≡ then_of o ws) same is

after_form : (later : ℕ) (f g : Form) (plain ws : List ℕ) (o p : Option Later) → f ≡ g → level_after f later plain o ≡ then_of p ws → level_after g later plain o ≡ then_of p ws
after_form later f g plain ws o p same is = subst (λ (h : Form). level_after h later plain o ≡ then_of p ws) same is

fits_form : (f g : Form) → f ≡ g → IsForm f → IsForm g
fits_form f g same is = subst IsForm same is

-- ---- Three levels

pub three_read : (b : BookContent) (bytes letters accents cases : List ℕ) (f g h : Form) (m n : ℕ) (o p q : Option Later)
    → f ≡ letters_form b 2 → g ≡ accents_form 1 → h ≡ cases_form 0 → IsForm f → IsForm g → IsForm h
    → m ≡ letter_count letters → n ≡ length accents
    → told_of 2 (read_level f bytes) ≡ then_of o letters
    → level_after g 1 (copies 0x20 m) o ≡ then_of p accents
    → level_after h 0 (copies 2 n) p ≡ then_of q cases
    → AreRead NonIgnorable b bytes q (letters ∷ accents ∷ cases ∷ [])
three_read b bytes letters accents cases f g h m n o p q fe ge he ff gf hf me ne one two three =
    record {
      forms = (fits_form f (letters_form b 2) fe ff, refl, (fits_form g (accents_form 1) ge gf, refl, (fits_form h (cases_form 0) he hf, refl, tt)));
      read = first_level plain_level (letters_form b 2) (accents_form 1 ∷ cases_form 0 ∷ []) bytes letters o (told_form 2 f (letters_form b 2) bytes letters o fe one)
          ∙ ap (with_level letters) (next_level plain_level (accents_form 1) (cases_form 0 ∷ []) (letters ∷ []) accents (copies 0x20 m) o p
          (ap (copies 0x20) me) (after_form 1 g (accents_form 1) (copies 0x20 m) accents o p ge two)
          ∙ ap (with_level accents) (next_level plain_level (cases_form 0) [] (letters ∷ accents ∷ []) cases (copies 2 n) p q
          (ap (copies 2) ne) (after_form 0 h (cases_form 0) (copies 2 n) cases p q he three)
          ∙ ap (with_level cases) (last_level plain_level (letters ∷ accents ∷ cases ∷ []) q) ∙ level_joined cases [] q)
          ∙ level_joined accents (cases ∷ []) q)
          ∙ level_joined letters (accents ∷ cases ∷ []) q;
    }

-- ---- Four levels

-- how long the plain level is, by the counts that a program has
pub plain_count_is : (cases all count : ℕ) (letters third : List ℕ) → cases ≡ length third → all ≡ length letters → count ≡ letter_count letters
    → cases + (all - count) ≡ length third + (length letters - letter_count letters)
plain_count_is cases all count letters third is_cases is_all is_count =
    ap (λ (n : ℕ). n + (all - count)) is_cases
    ∙ ap (λ (n : ℕ). length third + (n - count)) is_all
    ∙ ap (λ (n : ℕ). length third + (length letters - n)) is_count

pub four_read : (b : BookContent) (bytes letters accents cases variables : List ℕ) (f g h v : Form) (l m n : ℕ) (o p q r : Option Later)
    → f ≡ letters_form b 3 → g ≡ accents_form 2 → h ≡ cases_form 1 → v ≡ variables_form b 0 → IsForm f → IsForm g → IsForm h → IsForm v
    → l ≡ letter_count letters → m ≡ length accents → n ≡ length cases + (length letters - letter_count letters)
    → told_of 3 (read_level f bytes) ≡ then_of o letters
    → level_after g 2 (copies 0x20 l) o ≡ then_of p accents
    → level_after h 1 (copies 2 m) p ≡ then_of q cases
    → level_after v 0 (copies 0xFFFF n) q ≡ then_of r variables
    → AreRead Shifted b bytes r (letters ∷ accents ∷ cases ∷ variables ∷ [])
four_read b bytes letters accents cases variables f g h v l m n o p q r fe ge he ve ff gf hf vf le me ne one two three four =
    record {
      forms = (
        fits_form f (letters_form b 3) fe ff,
        refl,
        (fits_form g (accents_form 2) ge gf, refl, (fits_form h (cases_form 1) he hf, refl, (fits_form v (variables_form b 0) ve vf, refl, tt))),
      );
      read = first_level plain_level (letters_form b 3) (accents_form 2 ∷ cases_form 1 ∷ variables_form b 0 ∷ []) bytes letters o
          (told_form 3 f (letters_form b 3) bytes letters o fe one)
          ∙ ap (with_level letters) (next_level plain_level (accents_form 2) (cases_form 1 ∷ variables_form b 0 ∷ []) (letters ∷ []) accents (copies 0x20 l) o p
          (ap (copies 0x20) le) (after_form 2 g (accents_form 2) (copies 0x20 l) accents o p ge two)
          ∙ ap (with_level accents) (next_level plain_level (cases_form 1) (variables_form b 0 ∷ []) (letters ∷ accents ∷ []) cases (copies 2 m) p q
          (ap (copies 2) me) (after_form 1 h (cases_form 1) (copies 2 m) cases p q he three)
          ∙ ap (with_level cases) (next_level plain_level (variables_form b 0) [] (letters ∷ accents ∷ cases ∷ []) variables (copies 0xFFFF n) q r
          (ap (copies 0xFFFF) ne) (after_form 0 v (variables_form b 0) (copies 0xFFFF n) variables q r ve four)
          ∙ ap (with_level variables) (last_level plain_level (letters ∷ accents ∷ cases ∷ variables ∷ []) r) ∙ level_joined variables [] r)
          ∙ level_joined cases (variables ∷ []) r)
          ∙ level_joined accents (cases ∷ variables ∷ []) r)
          ∙ level_joined letters (accents ∷ cases ∷ variables ∷ []) r;
    }

-- ---- Keys

-- code points after levels
utf8_key : (levels : List (List ℕ)) (bytes : List ℕ) (t : Bool)
    → option_map (stored_key Identical) (cond t (Some (record { levels = levels; points = chars bytes })) None)
    ≡ option_map (λ more. levels_bytes levels ++ more) (cond t (Some (0 ∷ 0 ∷ points_bytes (chars bytes))) None)
utf8_key levels bytes true = refl
utf8_key levels bytes false = refl

-- the key of levels that were read, by what follows them
ended_key : (depth : Depth) (levels : List (List ℕ)) (bytes : List ℕ)
    → option_map (stored_key depth) (with_rest depth (Some (record { levels = levels; rest = bytes })))
    ≡ option_map (λ more. levels_bytes levels ++ more) (key_end depth bytes)
ended_key Weights levels [] = ap (λ (xs : List ℕ). Some xs) (sym (append-nil (levels_bytes levels)))
ended_key Weights levels (b ∷ bytes) = refl
ended_key Identical levels bytes = utf8_key levels bytes (is_utf8 bytes)

-- a key that was written
pub key_written : (weighting : Weighting) (depth : Depth) (b : BookContent) (compact : List ℕ) (last : Option Later) (k : Later) (levels : List (List ℕ)) (front key : List ℕ) (found : Bool)
    → AreRead weighting b compact last levels → last ≡ Some k → front ≡ levels_bytes levels
    → option_map (λ more. front ++ more) (key_end depth k.rest.now) ≡ cond found (Some key) None → IsExpanded depth weighting b compact key found
key_written weighting depth b compact last k levels front key found h is written ended =
    record {
      forms = h.forms;
      read = ap (λ (o : Option ReadLevels). option_map (stored_key depth) (with_rest depth o)) (h.read ∙ ap (λ (o : Option Later). levels_of o levels) is)
          ∙ ended_key depth levels k.rest.now
          ∙ ap (λ (xs : List ℕ). option_map (λ (more : List ℕ). xs ++ more) (key_end depth k.rest.now)) (sym written) ∙ ended;
    }

-- ---- Bytes of levels

-- three levels that were written one after another
pub three_bytes : (start one two three a b c : List ℕ) → start ≡ [] → one ≡ start ++ level_bytes a → two ≡ one ++ (0 ∷ 0 ∷ level_bytes b) → three ≡ two ++ (0 ∷ 0 ∷ level_bytes c)
    → three ≡ levels_bytes (a ∷ b ∷ c ∷ [])
three_bytes start one two three a b c none w1 w2 w3 =
    w3 ∙ ap (λ (xs : List ℕ). xs ++ (0 ∷ 0 ∷ level_bytes c)) (w2 ∙ ap (λ (xs : List ℕ). xs ++ (0 ∷ 0 ∷ level_bytes b)) (w1 ∙ ap (λ (xs : List ℕ). xs ++ level_bytes a) none))
    ∙ append_assoc (level_bytes a) (0 ∷ 0 ∷ level_bytes b) (0 ∷ 0 ∷ level_bytes c)

pub four_bytes : (start one two three four a b c d : List ℕ) → start ≡ [] → one ≡ start ++ level_bytes a → two ≡ one ++ (0 ∷ 0 ∷ level_bytes b)
    → three ≡ two ++ (0 ∷ 0 ∷ level_bytes c) → four ≡ three ++ (0 ∷ 0 ∷ level_bytes d) → four ≡ levels_bytes (a ∷ b ∷ c ∷ d ∷ [])
four_bytes start one two three four a b c d none w1 w2 w3 w4 =
    w4
    ∙ ap (λ (xs : List ℕ). xs ++ (0 ∷ 0 ∷ level_bytes d))
    (w3 ∙ ap (λ (xs : List ℕ). xs ++ (0 ∷ 0 ∷ level_bytes c)) (w2 ∙ ap (λ (xs : List ℕ). xs ++ (0 ∷ 0 ∷ level_bytes b)) (w1 ∙ ap (λ (xs : List ℕ). xs ++ level_bytes a) none)))
    ∙ append_assoc (level_bytes a ++ (0 ∷ 0 ∷ level_bytes b)) (0 ∷ 0 ∷ level_bytes c) (0 ∷ 0 ∷ level_bytes d)
    ∙ append_assoc (level_bytes a) (0 ∷ 0 ∷ level_bytes b) (0 ∷ 0 ∷ (level_bytes c ++ (0 ∷ 0 ∷ level_bytes d)))
