-- Levels that are written one after another.
use Rattle.std.proofs.Common.{◌≡◌, ℕ, List, [], ◌∷◌, ◌++◌, Bool, true, false, cond, refl, ap, sym, ◌∙◌, append_assoc, append-nil}
use Rattle.std.specs.Ordering.{is_eq}
use Rattle.std.specs.Str.{bytes_eq}
use Rattle.std.specs.declared.cmp.Ordering.{Ordering}
use Rattle.std.proofs.lemmas.Map.Text.{is_eq-slice_cmp}
use Rattle.uca_order.specs.Levels.{lexicographic}
use Rattle.uca_compact.specs.Forms.{Form}
use Rattle.uca_compact.specs.CompactKeys.{Plain, level_code, end_by, ended_level, later_levels, compact}

-- a level that is left out if it is plain
abbrev pub later_level : Plain → Form → (earlier : List (List ℕ)) → List ℕ → (later : List (List ℕ)) → List ℕ
later_level plain f earlier level later = cond (is_eq (lexicographic level (plain earlier))) [] (ended_level plain f earlier level later)

left_out : (b c : Bool) (here more : List ℕ) → c ≡ b → cond b more (here ++ more) ≡ cond c [] here ++ more
left_out true c here more is = ap (λ (t : Bool). cond t [] here ++ more) (sym is)
left_out false c here more is = ap (λ (t : Bool). cond t [] here ++ more) (sym is)

-- the levels from one on are that one and those after it
pub later_levels_is : (plain : Plain) (f : Form) (forms : List Form) (earlier : List (List ℕ)) (level : List ℕ) (later : List (List ℕ))
    → later_levels plain (f ∷ forms) earlier (level ∷ later) ≡ later_level plain f earlier level later ++ later_levels plain forms (earlier ++ level ∷ []) later
later_levels_is plain f forms earlier level later =
    left_out (bytes_eq level (plain earlier)) (is_eq (lexicographic level (plain earlier))) (ended_level plain f earlier level later)
    (later_levels plain forms (earlier ++ level ∷ []) later) (is_eq-slice_cmp level (plain earlier))

-- bytes that are added in turn
pub three_added : (out a b c : List ℕ) → ((out ++ a) ++ b) ++ c ≡ out ++ (a ++ (b ++ (c ++ [])))
three_added out a b c = append_assoc (out ++ a) b c ∙ append_assoc out a (b ++ c) ∙ ap (λ (xs : List ℕ). out ++ (a ++ (b ++ xs))) (sym (append-nil c))

pub four_added : (out a b c d : List ℕ) → (((out ++ a) ++ b) ++ c) ++ d ≡ out ++ (a ++ (b ++ (c ++ (d ++ []))))
four_added out a b c d =
    append_assoc ((out ++ a) ++ b) c d ∙ append_assoc (out ++ a) b (c ++ d) ∙ append_assoc out a (b ++ (c ++ d))
    ∙ ap (λ (xs : List ℕ). out ++ (a ++ (b ++ (c ++ xs)))) (sym (append-nil d))

-- ---- What a program wrote, by what it found

-- a level with its form and end
level_same : (f g : Form) (d e : ℕ) (ws : List ℕ) → f ≡ g → d ≡ e → level_code f d 0 ws ≡ level_code g e 0 ws
level_same f g d e ws form end = ap (λ (h : Form). level_code h d 0 ws) form ∙ ap (λ (n : ℕ). level_code g n 0 ws) end

-- a level that may be left out
later_same : (f g : Form) (o p : Ordering) (d e : ℕ) (ws : List ℕ) → f ≡ g → o ≡ p → d ≡ e
    → cond (is_eq o) [] (level_code f d 0 ws) ≡ cond (is_eq p) [] (level_code g e 0 ws)
later_same f g o p d e ws form order end =
    ap (λ (x : Ordering). cond (is_eq x) [] (level_code f d 0 ws)) order ∙ ap (λ (xs : List ℕ). cond (is_eq p) [] xs) (level_same f g d e ws form end)

-- an end by one order, and by two
end_same : (o p : Ordering) (all later m n : ℕ) → o ≡ p → m ≡ n → end_by o all later m ≡ end_by p all later n
end_same o p all later m n order more = ap (λ (x : Ordering). end_by x all later m) order ∙ ap (end_by p all later) more

-- lists that are appended
append_same : (xs ys vs ws : List ℕ) → xs ≡ ys → vs ≡ ws → xs ++ vs ≡ ys ++ ws
append_same xs ys vs ws front back = ap (λ (zs : List ℕ). zs ++ vs) front ∙ ap (λ (zs : List ℕ). ys ++ zs) back

-- three levels
pub three_levels : (plain : Plain) (f g h : Form) (a b c : List ℕ)
    → level_code f (end_by (lexicographic b (plain (a ∷ []))) 2 1 (end_by (lexicographic c (plain (a ∷ b ∷ []))) 2 0 2)) 0 a
    ++ (cond (is_eq (lexicographic b (plain (a ∷ [])))) [] (level_code g (end_by (lexicographic c (plain (a ∷ b ∷ []))) 1 0 1) 0 b)
    ++ (cond (is_eq (lexicographic c (plain (a ∷ b ∷ [])))) [] (level_code h 0 0 c) ++ []))
    ≡ compact plain (f ∷ g ∷ h ∷ []) (a ∷ b ∷ c ∷ [])
three_levels plain f g h a b c =
    let last = later_levels_is plain h [] (a ∷ b ∷ []) c [] in
    let second = later_levels_is plain g (h ∷ []) (a ∷ []) b (c ∷ []) in
    ap (λ (xs : List ℕ). ended_level plain f [] a (b ∷ c ∷ []) ++ xs)
    (sym (second ∙ ap (λ (xs : List ℕ). later_level plain g (a ∷ []) b (c ∷ []) ++ xs) last))

pub three_written : (plain : Plain) (f g h ff gg hh : Form) (a b c : List ℕ) (s t : Ordering) (d e m : ℕ) (out one two three : List ℕ)
    → ff ≡ f → gg ≡ g → hh ≡ h → s ≡ lexicographic b (plain (a ∷ [])) → t ≡ lexicographic c (plain (a ∷ b ∷ []))
    → m ≡ end_by t 2 0 2 → d ≡ end_by s 2 1 m → e ≡ end_by t 1 0 1
    → one ≡ out ++ level_code ff d 0 a → two ≡ one ++ cond (is_eq s) [] (level_code gg e 0 b) → three ≡ two ++ cond (is_eq t) [] (level_code hh 0 0 c)
    → three ≡ out ++ compact plain (f ∷ g ∷ h ∷ []) (a ∷ b ∷ c ∷ [])
three_written plain f g h ff gg hh a b c s t d e m out one two three fe ge he se te me de ee w1 w2 w3 =
    let x = level_code ff d 0 a in
    let y = cond (is_eq s) [] (level_code gg e 0 b) in
    let z = cond (is_eq t) [] (level_code hh 0 0 c) in
    let second = lexicographic b (plain (a ∷ [])) in
    let third = lexicographic c (plain (a ∷ b ∷ [])) in
    let first_end : d ≡ end_by second 2 1 (end_by third 2 0 2) =
    de ∙ end_same s second 2 1 m (end_by third 2 0 2) se (me ∙ end_same t third 2 0 2 2 te refl) in
    w3 ∙ ap (λ (xs : List ℕ). xs ++ z) (w2 ∙ ap (λ (xs : List ℕ). xs ++ y) w1)
    ∙ three_added out x y z
    ∙ ap (λ (xs : List ℕ). out ++ xs)
    (append_same x _ (y ++ (z ++ [])) _ (level_same ff f d _ a fe first_end)
    (append_same y _ (z ++ []) _ (later_same gg g s second e _ b ge se (ee ∙ end_same t third 1 0 1 1 te refl))
    (ap (λ (xs : List ℕ). xs ++ []) (later_same hh h t third 0 0 c he te refl)))
    ∙ three_levels plain f g h a b c)

-- four levels
pub four_levels : (plain : Plain) (f g h k : Form) (a b c v : List ℕ)
    → level_code f (end_by (lexicographic b (plain (a ∷ []))) 3 2 (end_by (lexicographic c (plain (a ∷ b ∷ []))) 3 1 (end_by (lexicographic v (plain (a ∷ b ∷ c ∷ []))) 3 0 3))) 0 a
    ++ (cond (is_eq (lexicographic b (plain (a ∷ [])))) [] (level_code g (end_by (lexicographic c (plain (a ∷ b ∷ []))) 2 1 (end_by (lexicographic v (plain (a ∷ b ∷ c ∷ []))) 2 0 2)) 0 b)
    ++ (cond (is_eq (lexicographic c (plain (a ∷ b ∷ [])))) [] (level_code h (end_by (lexicographic v (plain (a ∷ b ∷ c ∷ []))) 1 0 1) 0 c)
    ++ (cond (is_eq (lexicographic v (plain (a ∷ b ∷ c ∷ [])))) [] (level_code k 0 0 v) ++ [])))
    ≡ compact plain (f ∷ g ∷ h ∷ k ∷ []) (a ∷ b ∷ c ∷ v ∷ [])
four_levels plain f g h k a b c v =
    let last = later_levels_is plain k [] (a ∷ b ∷ c ∷ []) v [] in
    let third = later_levels_is plain h (k ∷ []) (a ∷ b ∷ []) c (v ∷ []) in
    let second = later_levels_is plain g (h ∷ k ∷ []) (a ∷ []) b (c ∷ v ∷ []) in
    ap (λ (xs : List ℕ). ended_level plain f [] a (b ∷ c ∷ v ∷ []) ++ xs)
    (sym (second ∙ ap (λ (xs : List ℕ). later_level plain g (a ∷ []) b (c ∷ v ∷ []) ++ xs)
    (third ∙ ap (λ (xs : List ℕ). later_level plain h (a ∷ b ∷ []) c (v ∷ []) ++ xs) last)))

pub four_written : (plain : Plain) (f g h k ff gg hh kk : Form) (a b c v : List ℕ) (s t u : Ordering) (d e l m n p : ℕ) (out one two three four : List ℕ)
    → ff ≡ f → gg ≡ g → hh ≡ h → kk ≡ k
    → s ≡ lexicographic b (plain (a ∷ [])) → t ≡ lexicographic c (plain (a ∷ b ∷ [])) → u ≡ lexicographic v (plain (a ∷ b ∷ c ∷ []))
    → m ≡ end_by u 3 0 3 → n ≡ end_by t 3 1 m → d ≡ end_by s 3 2 n → p ≡ end_by u 2 0 2 → e ≡ end_by t 2 1 p → l ≡ end_by u 1 0 1
    → one ≡ out ++ level_code ff d 0 a → two ≡ one ++ cond (is_eq s) [] (level_code gg e 0 b) → three ≡ two ++ cond (is_eq t) [] (level_code hh l 0 c)
    → four ≡ three ++ cond (is_eq u) [] (level_code kk 0 0 v)
    → four ≡ out ++ compact plain (f ∷ g ∷ h ∷ k ∷ []) (a ∷ b ∷ c ∷ v ∷ [])
four_written plain f g h k ff gg hh kk a b c v s t u d e l m n p out one two three four fe ge he ke se te ue me ne de pe ee le w1 w2 w3 w4 =
    let x = level_code ff d 0 a in
    let y = cond (is_eq s) [] (level_code gg e 0 b) in
    let z = cond (is_eq t) [] (level_code hh l 0 c) in
    let w = cond (is_eq u) [] (level_code kk 0 0 v) in
    let second = lexicographic b (plain (a ∷ [])) in
    let third = lexicographic c (plain (a ∷ b ∷ [])) in
    let fourth = lexicographic v (plain (a ∷ b ∷ c ∷ [])) in
    let first_end : d ≡ end_by second 3 2 (end_by third 3 1 (end_by fourth 3 0 3)) =
    de ∙ end_same s second 3 2 n (end_by third 3 1 (end_by fourth 3 0 3)) se
    (ne ∙ end_same t third 3 1 m (end_by fourth 3 0 3) te (me ∙ end_same u fourth 3 0 3 3 ue refl)) in
    let second_end : e ≡ end_by third 2 1 (end_by fourth 2 0 2) = ee ∙ end_same t third 2 1 p (end_by fourth 2 0 2) te (pe ∙ end_same u fourth 2 0 2 2 ue refl) in
    w4 ∙ ap (λ (xs : List ℕ). xs ++ w) (w3 ∙ ap (λ (xs : List ℕ). xs ++ z) (w2 ∙ ap (λ (xs : List ℕ). xs ++ y) w1))
    ∙ four_added out x y z w
    ∙ ap (λ (xs : List ℕ). out ++ xs)
    (append_same x _ (y ++ (z ++ (w ++ []))) _ (level_same ff f d _ a fe first_end)
    (append_same y _ (z ++ (w ++ [])) _ (later_same gg g s second e _ b ge se second_end)
    (append_same z _ (w ++ []) _ (later_same hh h t third l _ c he te (le ∙ end_same u fourth 1 0 1 1 ue refl))
    (ap (λ (xs : List ℕ). xs ++ []) (later_same kk k u fourth 0 0 v ke ue refl))))
    ∙ four_levels plain f g h k a b c v)
