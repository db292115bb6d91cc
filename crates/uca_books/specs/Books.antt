-- Where cells of weights begin. The first cell of each level begins at 1 by itself.
use Rattle.std.specs.Prelude.{◌≡◌, ◌⊎◌, ℕ, ◌<◌, ◌≤◌, List, [], ◌∷◌, ◌++◌, length, ⊤}
use Rattle.std.specs.List.{AllByRecursion}
use Rattle.uca_values.specs.declared.faults.FaultKind.{FaultKind}
use Rattle.uca_values.specs.declared.faults.FaultKind.TheVariants as kinds

-- the starts at level 1, and those at level 4
pub record BookContent : Type 0 where
  pub letters : List ℕ
  pub variables : List ℕ

-- ---- Which starts a book may have

-- the first is greater than n, and each other one than the one before it
abbrev pub RiseAfter : ℕ → List ℕ → Type 0
RiseAfter n [] = ⊤
RiseAfter n (x ∷ xs) = (n < x) × RiseAfter x xs

-- the starts of a level, which has a greatest weight and room for this many
pub record AreStarts (greatest most : ℕ) (starts : List ℕ) : Type 0 where
  pub rise : RiseAfter 1 starts
  pub fit : AllByRecursion (λ w. w ≤ greatest) starts
  pub few : length starts ≤ most

-- which starts there may be
pub record IsBook (book : BookContent) : Type 0 where
  pub letters : AreStarts 0xFFFF 245 book.letters
  pub variables : AreStarts 0xFFFE 255 book.variables

-- ---- One more

-- a start of level 1, or of level 4
pub data Start : Type 0 where
  Letter : ℕ → Start
  Variable : ℕ → Start

-- the weights that may be starts
abbrev pub IsStart : Start → Type 0
IsStart (Letter w) = (2 ≤ w) × (w ≤ 0xFFFF)
IsStart (Variable w) = (2 ≤ w) × (w ≤ 0xFFFE)

-- the last member, or n if there is none
abbrev pub last_of : ℕ → List ℕ → ℕ
last_of n [] = n
last_of n (x ∷ xs) = last_of x xs

-- level 1 comes before level 4, and in each the starts rise
abbrev pub MayFollow : BookContent → Start → Type 0
MayFollow book (Letter w) = (book.variables ≡ []) × (last_of 1 book.letters < w)
MayFollow book (Variable w) = last_of 1 book.variables < w

-- the level of the start has as many as it may have
abbrev pub IsFull : BookContent → Start → Type 0
IsFull book (Letter w) = 245 ≤ length book.letters
IsFull book (Variable w) = 255 ≤ length book.variables

abbrev pub put_last : Start → BookContent → BookContent
put_last (Letter w) book = record book { letters = book.letters ++ w ∷ [] }
put_last (Variable w) book = record book { variables = book.variables ++ w ∷ [] }

-- the start is added
pub record Adds (old : BookContent) (start : Start) (new : BookContent) : Type 0 where
  pub fits : IsStart start
  pub due : MayFollow old start
  pub room : ¬ (IsFull old start)
  pub adds : new ≡ put_last start old

-- why it is not, the first of these: it is none, it may not follow, or it is one too many
abbrev pub Refuses : BookContent → Start → FaultKind → Type 0
Refuses book start kind =
    ((kind ≡ kinds.Weight) × ¬ (IsStart start))
    ⊎ ((kind ≡ kinds.Order) × IsStart start × ¬ (MayFollow book start))
    ⊎ ((kind ≡ kinds.Limit) × IsStart start × MayFollow book start × IsFull book start)
