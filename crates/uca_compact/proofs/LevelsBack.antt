-- Levels are read back.
use Rattle.std.proofs.Common.{◌≡◌, ℕ, suc, ◌+◌, ◌<◌, ◌≤◌, List, [], ◌∷◌, ◌++◌, Bool, true, cond, Option, Some, None, length, refl, ap, sym, ◌∙◌, arith, append_assoc}
use Rattle.std.specs.Ordering.{nat_cmp, ordering_then, is_eq}
use Rattle.std.specs.declared.cmp.Ordering.{Ordering}
use Rattle.std.specs.declared.cmp.Ordering.TheVariants.{Less, Equal, Greater}
use Rattle.std.proofs.lemmas.Map.Text.{is_eq-slice_cmp}
use Rattle.uca_order.specs.Levels.{lexicographic}
use Rattle.uca_order.proofs.KeyOrder.{cmp_less, cmp_equal, cmp_greater, same_from_lexicographic}
use Rattle.uca_compact.specs.Forms.{Form, IsForm, ends_before, AreForms, AreWeights, AreLevels}
use Rattle.uca_compact.specs.CompactKeys.{Plain, level_code, end_by, end_of, ended_level, later_levels, compact}
use Rattle.uca_compact.specs.inside.Reading.{ReadLevel, read_level, ReadLevels, with_level, level_then, plain_count, is_on_side, read_later, read_levels}
use Rattle.uca_compact.proofs.LevelsOrder.{AreFor, each_level, end_fits, levels_length}
use Rattle.uca_compact.proofs.ReadBack.{level_back}

-- ---- What an end tells

-- how many of the levels are plain before the first that is not
abbrev pub count_of : Plain → (earlier levels : List (List ℕ)) → ℕ
count_of plain earlier [] = 0
count_of plain earlier (level ∷ later) = cond (is_eq (lexicographic level (plain earlier))) (suc (count_of plain (earlier ++ level ∷ []) later)) 0

-- on which side of the plain one that one is
abbrev pub side_of : Plain → (earlier levels : List (List ℕ)) → Ordering
side_of plain earlier [] = Equal
side_of plain earlier (level ∷ later) = ordering_then (lexicographic level (plain earlier)) (side_of plain (earlier ++ level ∷ []) later)

-- the end tells both, of so many levels
abbrev pub Tells : (all end levels count : ℕ) → Ordering → Type 0
Tells all end levels count Less = (end + levels ≡ all + count) × (count < levels)
Tells all end levels count Equal = (end ≡ all) × (count ≡ levels)
Tells all end levels count Greater = (end + count ≡ all + levels) × (count < levels)

-- one plain level before them
pub tells_plain : (all levels end count : ℕ) (side : Ordering) → Tells all end levels count side → Tells all end (suc levels) (suc count) side
tells_plain all levels end count Less h = (omega (arith, h.0), omega (arith, h.1))
tells_plain all levels end count Equal h = (h.0, ap suc h.1)
tells_plain all levels end count Greater h = (omega (arith, h.0), omega (arith, h.1))

tells_by : (all levels end count : ℕ) (side o : Ordering) → suc levels ≤ all → Tells all end levels count side
    → Tells all (end_by o all levels end) (suc levels) (cond (is_eq o) (suc count) 0) (ordering_then o side)
tells_by all levels end count side Less room h = (omega arith, omega arith)
tells_by all levels end count side Greater room h = (omega arith, omega arith)
tells_by all levels end count side Equal room h = tells_plain all levels end count side h

-- the end of a level tells them
pub tells : (plain : Plain) (all : ℕ) (earlier levels : List (List ℕ)) → length levels ≤ all
    → Tells all (end_of plain all earlier levels) (length levels) (count_of plain earlier levels) (side_of plain earlier levels)
tells plain all earlier [] h = (refl, refl)
tells plain all earlier (level ∷ later) h =
    tells_by all (length later) (end_of plain all (earlier ++ level ∷ []) later) (count_of plain (earlier ++ level ∷ []) later)
    (side_of plain (earlier ++ level ∷ []) later) (lexicographic level (plain earlier)) h (tells plain all (earlier ++ level ∷ []) later (omega arith))

-- a reader finds both by the end
pub told : (levels end count : ℕ) (side : Ordering) → Tells levels end levels count side → (plain_count levels end ≡ count) × (nat_cmp end levels ≡ side)
told levels end count Less h = (omega (arith, h.0, h.1), cmp_less end levels (omega (arith, h.0, h.1)))
told levels end count Equal h = (omega (arith, h.0, h.1), cmp_equal end levels h.0)
told levels end count Greater h = (omega (arith, h.0, h.1), cmp_greater end levels (omega (arith, h.0, h.1)))

-- ---- Levels

-- these levels
abbrev pub levels_read : List (List ℕ) → List ℕ → Option ReadLevels
levels_read levels rest = Some (record { levels = levels; rest = rest })

-- those after some are read back
abbrev pub LaterReadBack : Plain → List Form → (earlier later : List (List ℕ)) → List ℕ → Type 0
LaterReadBack plain forms earlier later rest =
    read_later plain forms earlier (count_of plain earlier later) (side_of plain earlier later) (later_levels plain forms earlier later ++ rest) ≡ levels_read later rest

-- what is read after a level
abbrev pub then_later : Plain → List Form → (earlier : List (List ℕ)) → List ℕ → ℕ → List ℕ → Option ReadLevels
then_later plain forms earlier level end rest =
    read_later plain forms (earlier ++ level ∷ []) (plain_count (length forms) end) (nat_cmp end (length forms)) rest

-- a level that is written, if those after it are read back
pub written_back : (plain : Plain) (f : Form) (forms : List Form) (earlier : List (List ℕ)) (level : List ℕ) (later : List (List ℕ)) (rest : List ℕ) (passes : List ℕ → Bool)
    → IsForm f → f.ends ≡ ends_before (length forms) → AreWeights level → length later ≡ length forms → passes level ≡ true
    → LaterReadBack plain forms (earlier ++ level ∷ []) later rest
    → level_then passes (read_level f ((ended_level plain f earlier level later ++ later_levels plain forms (earlier ++ level ∷ []) later) ++ rest)) (then_later plain forms earlier)
    ≡ levels_read (level ∷ later) rest
written_back plain f forms earlier level later rest passes form ends weights same pass more =
    let end = end_of plain (length later) (earlier ++ level ∷ []) later in
    let code = later_levels plain forms (earlier ++ level ∷ []) later in
    let go = then_later plain forms earlier in
    let found = told (length later) end (count_of plain (earlier ++ level ∷ []) later) (side_of plain (earlier ++ level ∷ []) later) (tells plain (length later) (earlier ++ level ∷ []) later (omega arith)) in
    ap (λ (bytes : List ℕ). level_then passes (read_level f bytes) go) (append_assoc (level_code f end 0 level) code rest)
    ∙ ap (λ (o : Option ReadLevel). level_then passes o go) (level_back f form level end weights (end_fits plain f forms (earlier ++ level ∷ []) later ends same) (code ++ rest))
    ∙ ap (λ (t : Bool). cond t (with_level level (go level end (code ++ rest))) None) pass
    ∙ ap (λ (n : ℕ). with_level level (read_later plain forms (earlier ++ level ∷ []) (plain_count n end) (nat_cmp end n) (code ++ rest))) (sym same)
    ∙ ap (λ (n : ℕ). with_level level (read_later plain forms (earlier ++ level ∷ []) n (nat_cmp end (length later)) (code ++ rest))) found.0
    ∙ ap (λ (o : Ordering). with_level level (read_later plain forms (earlier ++ level ∷ []) (count_of plain (earlier ++ level ∷ []) later) o (code ++ rest))) found.1
    ∙ ap (with_level level) more

-- a level after others, by how it compares to the plain one
later_by : (plain : Plain) (f : Form) (forms : List Form) (earlier : List (List ℕ)) (level : List ℕ) (later : List (List ℕ)) (rest : List ℕ)
    → IsForm f → f.ends ≡ ends_before (length forms) → AreWeights level → length later ≡ length forms → LaterReadBack plain forms (earlier ++ level ∷ []) later rest
    → (o : Ordering) → lexicographic level (plain earlier) ≡ o
    → read_later plain (f ∷ forms) earlier (cond (is_eq o) (suc (count_of plain (earlier ++ level ∷ []) later)) 0) (ordering_then o (side_of plain (earlier ++ level ∷ []) later))
    (cond (is_eq o) (later_levels plain forms (earlier ++ level ∷ []) later) (ended_level plain f earlier level later ++ later_levels plain forms (earlier ++ level ∷ []) later) ++ rest)
    ≡ levels_read (level ∷ later) rest
later_by plain f forms earlier level later rest form ends weights same more Less is =
    written_back plain f forms earlier level later rest (λ l. is_on_side Less (lexicographic l (plain earlier))) form ends weights same (ap (is_on_side Less) is) more
later_by plain f forms earlier level later rest form ends weights same more Greater is =
    written_back plain f forms earlier level later rest (λ l. is_on_side Greater (lexicographic l (plain earlier))) form ends weights same (ap (is_on_side Greater) is) more
later_by plain f forms earlier level later rest form ends weights same more Equal is =
    let equal : level ≡ plain earlier = same_from_lexicographic level (plain earlier) is in
    ap (λ (l : List ℕ). with_level l (read_later plain forms (earlier ++ l ∷ []) (count_of plain (earlier ++ level ∷ []) later) (side_of plain (earlier ++ level ∷ []) later)
    (later_levels plain forms (earlier ++ level ∷ []) later ++ rest))) (sym equal)
    ∙ ap (with_level level) more

-- the levels after some
pub later_back : (plain : Plain) (forms : List Form) (earlier levels : List (List ℕ)) (rest : List ℕ) → AreForms forms → AreFor forms levels → LaterReadBack plain forms earlier levels rest
later_back plain [] earlier [] rest fs ls = refl
later_back plain [] earlier (a ∷ levels) rest fs ls = absurd ls
later_back plain (f ∷ forms) earlier [] rest fs ls = absurd ls
later_back plain (f ∷ forms) earlier (a ∷ levels) rest fs ls =
    rw (← is_eq-slice_cmp a (plain earlier))
    (later_by plain f forms earlier a levels rest fs.0 fs.1 ls.0 (levels_length forms levels ls.1) (later_back plain forms (earlier ++ a ∷ []) levels rest fs.2 ls.1)
    (lexicographic a (plain earlier)) refl)

-- all levels
pub all_back : (plain : Plain) (forms : List Form) (levels : List (List ℕ)) (rest : List ℕ) → AreForms forms → AreFor forms levels
    → read_levels plain forms (compact plain forms levels ++ rest) ≡ levels_read levels rest
all_back plain [] [] rest fs ls = refl
all_back plain [] (a ∷ levels) rest fs ls = absurd ls
all_back plain (f ∷ forms) [] rest fs ls = absurd ls
all_back plain (f ∷ forms) (a ∷ levels) rest fs ls =
    written_back plain f forms [] a levels rest (λ l. true) fs.0 fs.1 ls.0 (levels_length forms levels ls.1) refl (later_back plain forms (a ∷ []) levels rest fs.2 ls.1)

-- What is written for levels is read again as these, whatever follows it.
pub levels_back : (plain : Plain) (forms : List Form) (levels : List (List ℕ)) (rest : List ℕ) → AreForms forms → AreLevels (length forms) levels
    → read_levels plain forms (compact plain forms levels ++ rest) ≡ levels_read levels rest
levels_back plain forms levels rest fs ls = all_back plain forms levels rest fs (each_level forms levels ls)
