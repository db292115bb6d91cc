-- Bytes are cut into lines in one way.
use Rattle.std.proofs.Common.{◌≡◌, ℕ, false, List, [], ◌∷◌, ◌++◌, refl, sym, ◌∙◌, ap, subst, append_assoc, append-nil}
use Rattle.std.specs.List.{flat_map, AllByRecursion}
use Rattle.uca_lines.specs.Lines.{is_lf, Lacks, ended}
use Rattle.uca_lines.specs.declared.files.FileForm.{FileForm}
use Rattle.uca_lines.specs.Files.{EndsLine, IsFileLine, AreLines}

-- a byte that is no LF is not 10
lf_stands : (z : ℕ) → is_lf z ≡ false → z ≡ 10 → ⊥
lf_stands z h e = let k : is_lf 10 ≡ false = subst (λ (n : ℕ). is_lf n ≡ false) e h in cc

-- the first line of a text that is cut in two ways is one
pub line_cut : (a b x more : List ℕ) → Lacks is_lf a → Lacks is_lf b → EndsLine more → a ++ 10 ∷ x ≡ b ++ more → (b ≡ a) × (more ≡ 10 ∷ x)
line_cut [] [] x more ha hb hm e = (refl, sym e)
line_cut [] (y ∷ ys) x more ha hb hm e = absurd (lf_stands y hb.0 (cc))
line_cut (z ∷ zs) [] x [] ha hb hm e = absurd (cc)
line_cut (z ∷ zs) [] x (m ∷ ms) ha hb hm e = absurd (lf_stands z ha.0 (cc))
line_cut (z ∷ zs) (y ∷ ys) x more ha hb hm e =
    let t : zs ++ 10 ∷ x ≡ ys ++ more = cc in
    let r = line_cut zs ys x more ha.1 hb.1 hm t in
    let h : z ≡ y = cc in
    let q : ys ≡ zs = r.0 in
    (cc, r.1)

-- a line that is ended, and what follows it
pub ended-append : (line x : List ℕ) → ended line ++ x ≡ line ++ 10 ∷ x
ended-append line x = append_assoc line (10 ∷ []) x

-- it is not empty
pub ended-not_empty : (line x : List ℕ) → [] ≡ ended line ++ x → ⊥
ended-not_empty [] x e = cc
ended-not_empty (b ∷ bs) x e = cc

-- lines that begin with other lines go on as the text does
pub lines_cut : {K : Type 0} (form : FileForm K) (before lines : List (List ℕ)) (rest : List ℕ) → AllByRecursion (IsFileLine form) before
    → AllByRecursion (IsFileLine form) lines → flat_map ended lines ≡ flat_map ended before ++ rest
    → (more : List (List ℕ)) × (lines ≡ before ++ more) × (rest ≡ flat_map ended more)
lines_cut form [] lines rest hb hl e = (lines, refl, sym e)
lines_cut form (b ∷ bs) [] rest hb hl e = absurd (ended-not_empty b (flat_map ended bs ++ rest) (e ∙ append_assoc (ended b) (flat_map ended bs) rest))
lines_cut form (b ∷ bs) (l ∷ ls) rest hb hl e =
    let left = ended-append l (flat_map ended ls) in
    let right = ended-append b (flat_map ended bs ++ rest) in
    let joined = append_assoc (ended b) (flat_map ended bs) rest in
    let cut = line_cut l b (flat_map ended ls) (10 ∷ (flat_map ended bs ++ rest)) hl.0.lacks hb.0.lacks refl (sym left ∙ e ∙ joined ∙ right) in
    let same : b ≡ l = cut.0 in
    let tail : 10 ∷ (flat_map ended bs ++ rest) ≡ 10 ∷ flat_map ended ls = cut.1 in
    let on : flat_map ended ls ≡ flat_map ended bs ++ rest = cc in
    let r = lines_cut form bs ls rest hb.1 hl.1 on in
    let others : ls ≡ bs ++ r.0 = r.1 in
    (r.0, cc, r.2)

-- no bytes are no lines
no_lines : (lines : List (List ℕ)) → [] ≡ flat_map ended lines → lines ≡ []
no_lines [] e = refl
no_lines (l ∷ ls) e = absurd (ended-not_empty l (flat_map ended ls) e)

-- bytes are cut into lines in one way
pub lines_same : {K : Type 0} (form : FileForm K) (bytes : List ℕ) (these those : List (List ℕ)) → AreLines form bytes these
    → AreLines form bytes those → these ≡ those
lines_same form bytes these those h k =
    let e : flat_map ended those ≡ flat_map ended these ++ [] = sym k.parts ∙ h.parts ∙ sym (append-nil (flat_map ended these)) in
    let r = lines_cut form these those [] h.each k.each e in
    let none : r.0 ≡ [] = no_lines r.0 r.2 in
    let whole : those ≡ these ++ r.0 = r.1 in
    sym (whole ∙ ap (λ ls. these ++ ls) none ∙ append-nil these)
