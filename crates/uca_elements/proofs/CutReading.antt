-- A text is matched, and reads, as the two pieces on either side of a cut.
use Rattle.std.proofs.Common.{◌≡◌, ℕ, zero, suc, ◌+◌, ◌-◌, ◌<◌, ◌≤◌, List, [], ◌∷◌, ◌++◌, length, take, drop, Bool, true, false, cond, refl, sym, ap, ap₂, subst, ◌∙◌}
use Rattle.std.proofs.Common.{append_assoc, arith, length-append}
use Rattle.std.proofs.Math.Seq.{take-append-add}
use Rattle.std.specs.List.{flat_map}
use Rattle.std.proofs.lemmas.Bool.{false_from_ne_true}
use Rattle.std.proofs.lemmas.Grind.{flat_map-append}
use Rattle.std.proofs.lemmas.List.{take-append-le, drop-append-le}
use Rattle.uca_weights.specs.declared.Element.{Element}
use Rattle.uca_text.specs.Texts.{ClassedCodePoint, Text, code_points, is_starter}
use Rattle.uca_elements.specs.Rows.{Rows, Keys, is_key}
use Rattle.uca_elements.specs.Parts.{part_elements}
use Rattle.uca_elements.specs.Reading.{longest_key, non_starters_at_front, after_non_starters, removed, others, Portion, row_portion, portion_at, portion, parts, read}
use Rattle.uca_elements.specs.Cuts.{IsCut}
use Rattle.uca_elements.proofs.RemovedLemmas.{code_points-append}
use Rattle.uca_elements.proofs.MatchLemmas.{longest_within, no_longer, marks_none, after_none}
use Rattle.uca_elements.proofs.ReadingLemmas.{portion_of, portion_shorter, parts_portion}

-- a portion after whose rest a text follows
abbrev followed_by : Text → Portion → Portion
followed_by t p = record { part = p.part; rest = p.rest ++ t }

module _ (keys : Keys) (t : Text) (cut : IsCut keys t) where
  -- ---- The key at the front

  -- no key goes from before a cut past it
  no_key_past : (c : ClassedCodePoint) (s u : Text) (d : ℕ) → t ≡ u → 0 < d → d ≤ length u → keys (code_points ((c ∷ s) ++ take d u)) ≡ false
  no_key_past c s u zero same some within = absurd (omega arith)
  no_key_past c s [] (suc d) same some within = absurd (omega arith)
  no_key_past c s (e ∷ u) (suc d) same some within =
      let at_cut : IsCut keys (e ∷ u) = subst (IsCut keys) same cut in
      let points : code_points ((c ∷ s) ++ e ∷ take d u) ≡ c.code ∷ (code_points s ++ e.code ∷ code_points (take d u)) =
      code_points-append (c ∷ s) (e ∷ take d u) in
      ap keys points
      ∙ false_from_ne_true (keys (c.code ∷ (code_points s ++ e.code ∷ code_points (take d u)))) (at_cut.1 c.code (code_points s) (code_points (take d u)))

  -- up to the cut, the keys at the front are those of the first piece
  longest_before : (s : Text) (n : ℕ) → n ≤ length s → longest_key keys (s ++ t) n ≡ longest_key keys s n
  longest_before s zero within = refl
  longest_before s (suc n) within =
      ap (λ front. cond (keys (code_points front)) (suc n) (longest_key keys (s ++ t) n)) (take-append-le (suc n) s t within)
      ∙ ap (cond (keys (code_points (take (suc n) s))) (suc n)) (longest_before s n (omega arith))

  longest_of_piece : (c : ClassedCodePoint) (s : Text) → longest_key keys ((c ∷ s) ++ t) (length ((c ∷ s) ++ t)) ≡ longest_key keys (c ∷ s) (length (c ∷ s))
  longest_of_piece c s =
      let long = length-append (c ∷ s) t in
      no_longer keys ((c ∷ s) ++ t) (length (c ∷ s)) (length ((c ∷ s) ++ t)) (omega (arith, long))
      (λ m above below.
      let d : ℕ = m - length (c ∷ s) in
      let more : m ≡ length (c ∷ s) + d = omega arith in
      ap (λ front. keys (code_points front)) (ap (λ n. take n ((c ∷ s) ++ t)) more ∙ take-append-add (c ∷ s) t d)
      ∙ no_key_past c s t d refl (omega arith) (omega (arith, long)))
      ∙ longest_before (c ∷ s) (length (c ∷ s)) (omega arith)

  -- ---- The non-starters after it

  -- a piece has the non-starters at the front of the text, and what follows them is the rest of the piece and then the other one
  marks_before : (s : Text) → non_starters_at_front (s ++ t) ≡ non_starters_at_front s
  marks_before [] = go t cut
    where
      go : (u : Text) → IsCut keys u → non_starters_at_front u ≡ []
      go [] at_cut = refl
      go (c ∷ u) at_cut = marks_none c u at_cut.0
  marks_before (c ∷ s) = ap (λ marks. cond (is_starter c) [] (c ∷ marks)) (marks_before s)

  after_before : (s : Text) → after_non_starters (s ++ t) ≡ after_non_starters s ++ t
  after_before [] = go t cut
    where
      go : (u : Text) → IsCut keys u → after_non_starters u ≡ u
      go [] at_cut = refl
      go (c ∷ u) at_cut = after_none c u at_cut.0
  after_before (c ∷ s) =
      elim (is_starter c) as (λ b. cond b (c ∷ (s ++ t)) (after_non_starters (s ++ t)) ≡ cond b (c ∷ s) (after_non_starters s) ++ t)
      [ true ↦ refl | false ↦ after_before s ]

  row_portion_before : (front tail : Text) → row_portion keys front (tail ++ t) ≡ followed_by t (row_portion keys front tail)
  row_portion_before front tail =
      let marks : Text = non_starters_at_front tail in
      let set : List Bool = removed keys front [] marks in
      ap₂ (λ m r. portion_of front m (removed keys front [] m) r) (marks_before tail) (after_before tail)
      ∙ ap (λ rest. let p : Portion = record { part = (portion_of front marks set []).part; rest = rest } in p)
      (sym (append_assoc (others set marks) (after_non_starters tail) t))

  -- ---- One portion

  portion_at_before : (c : ClassedCodePoint) (s : Text) (n : ℕ) → n ≤ length (c ∷ s) → portion_at keys c (s ++ t) n ≡ followed_by t (portion_at keys c s n)
  portion_at_before c s zero within = refl
  portion_at_before c s (suc n) within =
      ap₂ (row_portion keys) (take-append-le (suc n) (c ∷ s) t within) (drop-append-le (suc n) (c ∷ s) t within)
      ∙ row_portion_before (take (suc n) (c ∷ s)) (drop (suc n) (c ∷ s))

  portion_before : (c : ClassedCodePoint) (s : Text) → portion keys c (s ++ t) ≡ followed_by t (portion keys c s)
  portion_before c s =
      ap (portion_at keys c (s ++ t)) (longest_of_piece c s)
      ∙ portion_at_before c s (longest_key keys (c ∷ s) (length (c ∷ s))) (longest_within keys (c ∷ s) (length (c ∷ s)))

  -- ---- The whole text

  pieces_within : (n : ℕ) (s : Text) → length s ≤ n → parts keys (s ++ t) ≡ parts keys s ++ parts keys t
  pieces_within n [] few = refl
  pieces_within zero (c ∷ s) few = absurd (omega arith)
  pieces_within (suc n) (c ∷ s) few =
      let first : Portion = portion keys c s in
      let shorter = portion_shorter keys c s in
      parts_portion keys c (s ++ t)
      ∙ ap (λ p. p.part ∷ parts keys p.rest) (portion_before c s)
      ∙ ap (λ ps. first.part ∷ ps) (pieces_within n first.rest (omega arith))
      ∙ ap (λ ps. ps ++ parts keys t) (sym (parts_portion keys c s))

  pub parts_pieces : (s : Text) → parts keys (s ++ t) ≡ parts keys s ++ parts keys t
  parts_pieces s = pieces_within (length s) s (omega arith)

pub read_pieces : (implicit : ℕ → List Element) (rows : Rows) (t : Text) → IsCut (is_key rows) t → (s : Text) →
    read implicit rows (s ++ t) ≡ read implicit rows s ++ read implicit rows t
read_pieces implicit rows t cut s =
    ap (flat_map (part_elements implicit rows)) (parts_pieces (is_key rows) t cut s)
    ∙ flat_map-append (part_elements implicit rows) (parts (is_key rows) s) (parts (is_key rows) t)
