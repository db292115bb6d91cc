-- Two texts that differ at level 1 after what they have in common at their begin.
use Rattle.std.proofs.Common.{◌≡◌, ℕ, Option, Some, None, List, [], ◌∷◌, ◌++◌, take, drop, take-append-drop, take-take, refl, sym, ap, ◌∙◌, append-nil}
use Rattle.std.specs.Prelude.{◌≤◌, IfSome}
use Rattle.std.specs.Str.{chars, IsUtf8, IsCharBoundary}
use Rattle.std.proofs.lemmas.Str.{chars-append, IsUtf8-take}
use Rattle.std.specs.declared.cmp.Ordering.{Ordering}
use Rattle.std.specs.declared.cmp.Ordering.TheVariants.{Less, Equal, Greater}
use Rattle.uca_weights.specs.declared.Depth.{Depth}
use Rattle.uca_weights.specs.declared.Depth.TheVariants.{Weights, Identical}
use Rattle.uca_weights.specs.declared.Settings.{Settings}
use Rattle.uca_elements.specs.Collations.{Collation}
use Rattle.uca_order.specs.Depths.{compared_at, texts_compared}
use Rattle.uca_comparison.specs.inside.Comparisons.{NothingElseDecides}
use Rattle.uca_plain.proofs.PlainTexts.{read_before, plain_texts}
use Rattle.uca_text_comparer.specs.inside.Beginnings.{HaveRests, DifferFirst, AreReadAsText}
use Rattle.uca_text_comparer.specs.inside.Pairs.{read_as}
use Rattle.uca_text_comparer.specs.inside.Shared.{BeginsPlain, text_elements}
use Rattle.uca_text_comparer.proofs.PairSteps.{of_both}

-- ---- What both texts begin with

-- their first bytes are the same, and are cut where a code point begins
pub rests_cut : (left right left_rest right_rest : List ℕ) (shared at : ℕ) → IsUtf8 left → take shared left ≡ take shared right
    → at ≤ shared → IsCharBoundary left at → left_rest ≡ drop at left → right_rest ≡ drop at right
    → HaveRests (chars left) (chars right) (chars left_rest) (chars right_rest)
rests_cut left right left_rest right_rest shared at text same within boundary left_is right_is =
    let front = IsUtf8-take left at text boundary in
    let other : take at right ≡ take at left = sym (take-take at shared right within) ∙ ap (take at) (sym same) ∙ take-take at shared left within in
    record {
      shared = chars (take at left);
      left_is = ap chars (sym (take-append-drop at left)) ∙ chars-append (take at left) (drop at left) front
          ∙ ap (λ xs. chars (take at left) ++ chars xs) (sym left_is);
      right_is = ap chars (sym (take-append-drop at right) ∙ ap (λ xs. xs ++ drop at right) other) ∙ chars-append (take at left) (drop at right) front
          ∙ ap (λ xs. chars (take at left) ++ chars xs) (sym right_is);
    }

-- a text reads as what comes before a plain code point, and what follows
pub elements_cut : (c : Collation) (before left : List ℕ) → BeginsPlain c left
    → text_elements c (before ++ left) ≡ text_elements c before ++ text_elements c left
elements_cut c before [] begins =
    ap (text_elements c) (append-nil before)
    ∙ sym (ap (λ es. text_elements c before ++ es) (plain_texts c [] tt) ∙ append-nil (text_elements c before))
elements_cut c before (x ∷ xs) begins = read_before c before x xs begins

-- ---- The order

pub none_else : (order : Ordering) (depth : Depth) (xs ys : List ℕ) → (order ≡ Equal → ⊥) → NothingElseDecides order depth xs ys
none_else Less depth xs ys differ = tt
none_else Greater depth xs ys differ = tt
none_else Equal Weights xs ys differ = tt
none_else Equal Identical xs ys differ = absurd (differ refl)

-- what is so without a result is so of one
pub with_some : {T : Type 0} (P : Type 0) (o : Option T) → P → IfSome o (λ _. P)
with_some P None p = tt
with_some P (Some x) p = p

-- texts that are read as they are have this order under all settings
pub differ_first_by : (c : Collation) (settings : Settings) (xs ys : List ℕ) (o : Option Ordering) → AreReadAsText settings.numbers xs ys
    → IfSome o (DifferFirst c settings.weighting xs ys)
    → IfSome o (λ order. let answer = texts_compared c settings xs ys in (answer.order ≡ order) × (answer.level ≡ 1))
differ_first_by c settings xs ys None both differ = tt
differ_first_by c settings xs ys (Some order) both differ =
    of_both (λ l m. let answer = compared_at settings.depth settings.weighting (read_as c l xs) (read_as c m ys) in (answer.order ≡ order) × (answer.level ≡ 1))
    (sym both.0) (sym both.1) (differ settings.depth)
