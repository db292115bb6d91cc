-- The elements of the row at a position of the draft rows.
use Rattle.std.proofs.Common.{◌≡◌, ℕ, zero, suc, ◌<◌, ◌≤◌, List, [], ◌∷◌, length, get_or, refl, ap, sym, arith}
use Rattle.uca_plans.specs.Drafts.{DraftRow}
use Rattle.uca_tailor.specs.inside.MatchDrafts.{elements_at}

-- the elements of the row at a position
pub elements_there : (rows : List DraftRow) (at : ℕ) (row : DraftRow) → at < length rows → row ≡ get_or rows at row →
    elements_at at rows ≡ row.elements
elements_there [] at row within is = absurd (omega arith)
elements_there (r ∷ rows) zero row within is = ap (λ (s : DraftRow). s.elements) (sym is)
elements_there (r ∷ rows) (suc at) row within is = elements_there rows at row (omega arith) is

-- none past the last row
pub elements_past : (rows : List DraftRow) (at : ℕ) → length rows ≤ at → elements_at at rows ≡ []
elements_past [] zero past = refl
elements_past [] (suc at) past = refl
elements_past (r ∷ rows) zero past = absurd (omega arith)
elements_past (r ∷ rows) (suc at) past = elements_past rows at (omega arith)
