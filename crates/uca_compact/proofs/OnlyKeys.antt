-- Levels are read only from the bytes that are written for them.
use Rattle.std.proofs.Common.{◌≡◌, ℕ, zero, suc, ◌<◌, List, [], ◌∷◌, ◌++◌, Bool, true, false, cond, Option, Some, None, length, refl, ap, sym, subst, ◌∙◌, arith, append_assoc}
use Rattle.std.specs.Ordering.{nat_cmp, is_eq}
use Rattle.std.specs.Str.{bytes_eq}
use Rattle.std.specs.declared.cmp.Ordering.{Ordering}
use Rattle.std.specs.declared.cmp.Ordering.TheVariants.{Less, Equal, Greater}
use Rattle.std.proofs.lemmas.Bool.Decides.{nat_tests}
use Rattle.std.proofs.lemmas.Map.Text.{is_eq-slice_cmp}
use Rattle.uca_order.specs.Levels.{lexicographic}
use Rattle.uca_order.proofs.KeyOrder.{lexicographic_itself}
use Rattle.uca_compact.specs.Forms.{Form, IsForm, ends_before, AreForms, AreWeights, AreLevels}
use Rattle.uca_compact.specs.CompactKeys.{Plain, level_code, end_by, end_of, ended_level, later_levels, compact}
use Rattle.uca_compact.specs.inside.Reading.{ReadLevel, read_level, ReadLevels, with_level, level_then, plain_count, is_on_side, read_later, read_levels}
use Rattle.uca_compact.proofs.OnlyCells.{AreBytes, bytes_after, nothing, same_some}
use Rattle.uca_compact.proofs.OnlyLevels.{IsWritten, level_only}
use Rattle.uca_compact.proofs.LevelsBack.{Tells, then_later}

-- what a reader finds by an end is what the end tells
told_by : (levels end : ℕ) (o : Ordering) → nat_cmp end levels ≡ o → end < ends_before levels → Tells levels end levels (plain_count levels end) o
told_by levels end Less is h = let less : end < levels = grind (arith, nat_tests) in (omega arith, omega arith)
told_by levels end Equal is h = let same : end ≡ levels = grind (arith, nat_tests) in (same, omega arith)
told_by levels end Greater is h = let more : levels < end = grind (arith, nat_tests) in (omega arith, omega arith)

-- one plain level less
one_less : (all end levels count : ℕ) (side : Ordering) → Tells all end (suc levels) (suc count) side → Tells all end levels count side
one_less all end levels count Less h = (omega (arith, h.0), omega (arith, h.1))
one_less all end levels count Equal h = (h.0, omega (arith, h.1))
one_less all end levels count Greater h = (omega (arith, h.0), omega (arith, h.1))

-- ---- Levels after some

-- later levels that were read are ones that were written, after a level with this end
pub record AreLaterWritten (plain : Plain) (forms : List Form) (earlier : List (List ℕ)) (all end : ℕ) (bytes : List ℕ) (k : ReadLevels) : Type 0 where
  pub levels : AreLevels (length forms) k.levels
  pub told : end_of plain all earlier k.levels ≡ end
  pub is : bytes ≡ later_levels plain forms earlier k.levels ++ k.rest

-- each plain level is one of weights
abbrev pub PlainWeights : Plain → Type 0
PlainWeights plain = (earlier : List (List ℕ)) → AreWeights (plain earlier)

-- of fewer forms this is known
abbrev LaterAreWritten : Plain → List Form → Type 0
LaterAreWritten plain forms =
    (earlier : List (List ℕ)) (all end count : ℕ) (side : Ordering) (bytes : List ℕ) (k : ReadLevels) → AreBytes bytes
    → Tells all end (length forms) count side → read_later plain forms earlier count side bytes ≡ Some k → AreLaterWritten plain forms earlier all end bytes k

-- levels before others
abbrev joined_levels : List ℕ → ReadLevels → ReadLevels
joined_levels level later = record { levels = level ∷ later.levels; rest = later.rest }

-- a plain level
plain_written : (plain : Plain) → PlainWeights plain → (f : Form) (forms : List Form) → LaterAreWritten plain forms
    → (earlier : List (List ℕ)) (all end count : ℕ) (side : Ordering) (bytes : List ℕ) (k : ReadLevels) (o : Option ReadLevels) → AreBytes bytes
    → Tells all end (suc (length forms)) (suc count) side → read_later plain forms (earlier ++ plain earlier ∷ []) count side bytes ≡ o
    → with_level (plain earlier) o ≡ Some k → AreLaterWritten plain (f ∷ forms) earlier all end bytes k
plain_written plain weights f forms known earlier all end count side bytes k None are tells is h = nothing h
plain_written plain weights f forms known earlier all end count side bytes k (Some l) are tells is h =
    let more = known (earlier ++ plain earlier ∷ []) all end count side bytes l are (one_less all end (length forms) count side tells) is in
    let same : lexicographic (plain earlier) (plain earlier) ≡ Equal = lexicographic_itself (plain earlier) in
    let test : bytes_eq (plain earlier) (plain earlier) ≡ true = sym (is_eq-slice_cmp (plain earlier) (plain earlier)) ∙ ap is_eq same in
    subst (λ (y : ReadLevels). AreLaterWritten plain (f ∷ forms) earlier all end bytes y) (same_some (joined_levels (plain earlier) l) k h)
    (record {
      levels = (ap suc more.levels.0, (weights earlier, more.levels.1));
      told = ap (λ (o : Ordering). end_by o all (length l.levels) (end_of plain all (earlier ++ plain earlier ∷ []) l.levels)) same ∙ more.told;
      is = more.is ∙ ap (λ (t : Bool). cond t (later_levels plain forms (earlier ++ plain earlier ∷ []) l.levels)
          (ended_level plain f earlier (plain earlier) l.levels ++ later_levels plain forms (earlier ++ plain earlier ∷ []) l.levels) ++ l.rest) (sym test);
    })

-- what follows a level that was read
pub record IsLevelThen (plain : Plain) (f : Form) (forms : List Form) (earlier : List (List ℕ)) (bytes : List ℕ) (k : ReadLevels) (passes : List ℕ → Bool) : Type 0 where
  pub level : List ℕ
  pub later : List (List ℕ)
  pub weights : AreWeights level
  pub others : AreLevels (length forms) later
  pub passed : passes level ≡ true
  pub levels : k.levels ≡ level ∷ later
  pub is : bytes ≡ (ended_level plain f earlier level later ++ later_levels plain forms (earlier ++ level ∷ []) later) ++ k.rest

then_by : (plain : Plain) (f : Form) (forms : List Form) → f.ends ≡ ends_before (length forms) → LaterAreWritten plain forms
    → (earlier : List (List ℕ)) (bytes : List ℕ) (k : ReadLevels) (passes : List ℕ → Bool) (r : ReadLevel) (b : Bool) (o : Option ReadLevels) → AreBytes bytes
    → IsWritten f bytes r → passes r.weights ≡ b → then_later plain forms earlier r.weights r.end r.rest ≡ o
    → cond b (with_level r.weights o) None ≡ Some k → IsLevelThen plain f forms earlier bytes k passes
then_by plain f forms ends known earlier bytes k passes r false o are written pass is h = nothing h
then_by plain f forms ends known earlier bytes k passes r true None are written pass is h = nothing h
then_by plain f forms ends known earlier bytes k passes r true (Some l) are written pass is h =
    let rest : AreBytes r.rest = bytes_after (level_code f r.end 0 r.weights) r.rest (subst AreBytes written.is are) in
    let fits : r.end < ends_before (length forms) = omega (arith, written.end, ends) in
    let more = known (earlier ++ r.weights ∷ []) (length forms) r.end (plain_count (length forms) r.end) (nat_cmp r.end (length forms)) r.rest l rest
    (told_by (length forms) r.end (nat_cmp r.end (length forms)) refl fits) is in
    let same : joined_levels r.weights l ≡ k = same_some (joined_levels r.weights l) k h in
    let end : r.end ≡ end_of plain (length l.levels) (earlier ++ r.weights ∷ []) l.levels =
    sym more.told ∙ ap (λ (n : ℕ). end_of plain n (earlier ++ r.weights ∷ []) l.levels) (sym more.levels.0) in
    subst (λ (y : ReadLevels). IsLevelThen plain f forms earlier bytes y passes) same
    (record {
      level = r.weights;
      later = l.levels;
      weights = written.weights;
      others = more.levels;
      passed = pass;
      levels = refl;
      is = written.is ∙ ap (λ (xs : List ℕ). level_code f r.end 0 r.weights ++ xs) more.is
          ∙ ap (λ (e : ℕ). level_code f e 0 r.weights ++ (later_levels plain forms (earlier ++ r.weights ∷ []) l.levels ++ l.rest)) end
          ∙ sym (append_assoc (ended_level plain f earlier r.weights l.levels) (later_levels plain forms (earlier ++ r.weights ∷ []) l.levels) l.rest);
    })

level_then_only : (plain : Plain) (f : Form) (forms : List Form) → IsForm f → f.ends ≡ ends_before (length forms) → LaterAreWritten plain forms
    → (earlier : List (List ℕ)) (bytes : List ℕ) (k : ReadLevels) (passes : List ℕ → Bool) (o : Option ReadLevel) → AreBytes bytes → read_level f bytes ≡ o
    → level_then passes o (then_later plain forms earlier) ≡ Some k → IsLevelThen plain f forms earlier bytes k passes
level_then_only plain f forms form ends known earlier bytes k passes None are is h = nothing h
level_then_only plain f forms form ends known earlier bytes k passes (Some r) are is h =
    then_by plain f forms ends known earlier bytes k passes r (passes r.weights) (then_later plain forms earlier r.weights r.end r.rest) are
    (level_only f form bytes are r is) refl refl h

-- a level on this side is not plain
side_by : (side o : Ordering) → is_on_side side o ≡ true → (o ≡ side) × (is_eq o ≡ false)
side_by Less Less h = (refl, refl)
side_by Less Equal h = absurd (cc)
side_by Less Greater h = absurd (cc)
side_by Equal o h = absurd (cc)
side_by Greater Less h = absurd (cc)
side_by Greater Equal h = absurd (cc)
side_by Greater Greater h = (refl, refl)

-- its end is the one that told the side
end_told : (all end levels more : ℕ) (side : Ordering) → is_on_side side side ≡ true → Tells all end (suc levels) 0 side → end_by side all levels more ≡ end
end_told all end levels more Less test h = omega (arith, h.0)
end_told all end levels more Equal test h = absurd (cc)
end_told all end levels more Greater test h = omega (arith, h.0)

-- a level that is written, after some
written_only : (plain : Plain) (f : Form) (forms : List Form) → (earlier : List (List ℕ)) (all end : ℕ) (side : Ordering) (bytes : List ℕ) (k : ReadLevels)
    → Tells all end (suc (length forms)) 0 side
    → IsLevelThen plain f forms earlier bytes k (λ level. is_on_side side (lexicographic level (plain earlier)))
    → AreLaterWritten plain (f ∷ forms) earlier all end bytes k
written_only plain f forms earlier all end side bytes k tells found =
    let order = side_by side (lexicographic found.level (plain earlier)) found.passed in
    let itself : is_on_side side side ≡ true = ap (is_on_side side) (sym order.0) ∙ found.passed in
    let test : bytes_eq found.level (plain earlier) ≡ false = sym (is_eq-slice_cmp found.level (plain earlier)) ∙ order.1 in
    let count : length found.later ≡ length forms = found.others.0 in
    let later_end = end_of plain all (earlier ++ found.level ∷ []) found.later in
    let last : end_of plain all earlier (found.level ∷ found.later) ≡ end =
    ap (λ (o : Ordering). end_by o all (length found.later) later_end) order.0
    ∙ ap (λ (n : ℕ). end_by side all n later_end) count
    ∙ end_told all end (length forms) later_end side itself tells in
    record {
      levels = subst (AreLevels (suc (length forms))) (sym found.levels) (ap suc found.others.0, (found.weights, found.others.1));
      told = ap (λ (ls : List (List ℕ)). end_of plain all earlier ls) found.levels ∙ last;
      is = found.is
          ∙ ap (λ (t : Bool). cond t (later_levels plain forms (earlier ++ found.level ∷ []) found.later)
          (ended_level plain f earlier found.level found.later ++ later_levels plain forms (earlier ++ found.level ∷ []) found.later) ++ k.rest) (sym test)
          ∙ ap (λ (ls : List (List ℕ)). later_levels plain (f ∷ forms) earlier ls ++ k.rest) (sym found.levels);
    }

-- without forms
none_left : (all end count : ℕ) (side : Ordering) → Tells all end 0 count side → all ≡ end
none_left all end count Less h = absurd (omega (arith, h.1))
none_left all end count Equal h = sym h.0
none_left all end count Greater h = absurd (omega (arith, h.1))

pub later_only : (plain : Plain) → PlainWeights plain → (forms : List Form) → AreForms forms → LaterAreWritten plain forms
later_only plain weights [] fs earlier all end count side bytes k are tells h =
    subst (λ (y : ReadLevels). AreLaterWritten plain [] earlier all end bytes y) (same_some (record { levels = []; rest = bytes }) k h)
    (record { levels = (refl, tt); told = none_left all end count side tells; is = refl })
later_only plain weights (f ∷ forms) fs earlier all end (suc count) side bytes k are tells h =
    plain_written plain weights f forms (later_only plain weights forms fs.2) earlier all end count side bytes k
    (read_later plain forms (earlier ++ plain earlier ∷ []) count side bytes) are tells refl h
later_only plain weights (f ∷ forms) fs earlier all end zero side bytes k are tells h =
    written_only plain f forms earlier all end side bytes k tells
    (level_then_only plain f forms fs.0 fs.1 (later_only plain weights forms fs.2) earlier bytes k (λ level. is_on_side side (lexicographic level (plain earlier)))
    (read_level f bytes) are refl h)

-- ---- All levels

-- Nothing else is read, if each plain level is one of weights.
pub levels_only : (plain : Plain) → PlainWeights plain → (forms : List Form) → AreForms forms
    → (bytes : List ℕ) → AreBytes bytes → (read : ReadLevels) → read_levels plain forms bytes ≡ Some read
    → AreLevels (length forms) read.levels × (bytes ≡ compact plain forms read.levels ++ read.rest)
levels_only plain weights [] fs bytes are k h =
    subst (λ (y : ReadLevels). AreLevels 0 y.levels × (bytes ≡ compact plain [] y.levels ++ y.rest)) (same_some (record { levels = []; rest = bytes }) k h) ((refl, tt), refl)
levels_only plain weights (f ∷ forms) fs bytes are k h =
    let found = level_then_only plain f forms fs.0 fs.1 (later_only plain weights forms fs.2) [] bytes k (λ level. true) (read_level f bytes) are refl h in
    subst (λ (ls : List (List ℕ)). AreLevels (suc (length forms)) ls × (bytes ≡ compact plain (f ∷ forms) ls ++ k.rest)) (sym found.levels)
    ((ap suc found.others.0, (found.weights, found.others.1)), found.is)
