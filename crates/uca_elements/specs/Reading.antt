-- The collation elements of a text (UTS #10, step S2), first by equations, then by a function that computes them.
use Rattle.std.specs.Prelude.{◌≡◌, ◌≢◌, ℕ, zero, suc, ◌<◌, List, [], ◌∷◌, ◌++◌, Bool, true, false, ◌&&◌, ◌↔◌, length, take, drop, Some, IsTrue}
use Rattle.std.specs.Prelude.{IsFalse, nat_lt, ⊤, if◌then◌else◌}
use Rattle.std.specs.List.{AllByRecursion, list_all, flat_map}
use Rattle.uca_weights.specs.declared.Element.{Element}
use Rattle.uca_text.specs.Texts.{ClassedCodePoint, Text, code_points, is_starter}
use Rattle.uca_elements.specs.Rows.{Rows, Keys, is_key, IsKey}
use Rattle.uca_elements.specs.Parts.{Part, Row, Implicit, part_elements}
use Rattle.uca_values.specs.declared.ImplicitRange.{ImplicitRange}
use Rattle.uca_values.specs.Content.{Properties}
use Rattle.uca_values.specs.Implicit.{implicit}

-- ---- By equations

-- the longest match (S2.1): front is a key, and no longer beginning of front ++ rest is one
pub record IsRowMatch (rows : Rows) (front rest : Text) : Type 0 where
  pub some : front ≢ []
  pub key : IsKey rows (code_points front)
  pub longest : (more after : Text) → rest ≡ more ++ after → more ≢ [] → IsKey rows (code_points (front ++ more)) → ⊥

-- no beginning of the text is a key
abbrev pub NoRowBegins : Rows → Text → Type 0
NoRowBegins rows t = (front rest : Text) → t ≡ front ++ rest → front ≢ [] → IsKey rows (code_points front) → ⊥

-- the text begins with a starter, or is empty
abbrev pub IsAtStarter : Text → Type 0
IsAtStarter [] = ⊤
IsAtStarter (c ∷ t) = IsTrue (is_starter c)

-- these are the non-starters up to the next starter, and after them the text goes on with the rest
pub record AreNonStartersBefore (non_starters rest : Text) : Type 0 where
  pub are_non_starters : AllByRecursion (λ c. IsFalse (is_starter c)) non_starters
  pub ends : IsAtStarter rest

-- the code points at the positions of a set, and those at the others
abbrev pub members : List Bool → Text → Text
members (true ∷ set) (c ∷ t) = c ∷ members set t
members (false ∷ set) (c ∷ t) = members set t
members [] t = []
members (b ∷ set) [] = []

abbrev pub others : List Bool → Text → Text
others (true ∷ set) (c ∷ t) = others set t
others (false ∷ set) (c ∷ t) = c ∷ others set t
others [] t = t
others (b ∷ set) [] = []

-- the code points that are skipped do not block c (S2.1.2): each has a class less than that of c
abbrev pub IsFree : Text → ClassedCodePoint → Type 0
IsFree skipped c = AllByRecursion (λ d. d.class < c.class) skipped

-- The discontiguous match (S2.1.1 to S2.1.3), as the set of positions of the non-starters that are removed. The code point
-- at a position is removed exactly if two conditions are met. The code points before it that are not removed do not block
-- it. And this is a key: the start, then the removed code points before it, and then this code point. A removed code point is no
-- longer between others, and blocks nothing.
pub record AreRemoved (rows : Rows) (start : Text) (non_starters : Text) (set : List Bool) : Type 0 where
  pub places : length set ≡ length non_starters
  pub each : (before after : Text) (c : ClassedCodePoint) (here : List Bool) (b : Bool) (later : List Bool) → non_starters ≡ before ++ c ∷ after →
      set ≡ here ++ b ∷ later → length here ≡ length before →
      IsTrue b ↔ (IsFree (others here before) c × IsKey rows (code_points (start ++ (members here before ++ c ∷ []))))

-- What the elements of all texts are: E is the one function with these three equations. A text that no key begins gives
-- the implicit weights of its first code point, which is not extended. One that a key begins gives the row of the
-- extended key; then the skipped non-starters are read, in their order, with all that follows them.
pub record IsReading (implicit : ℕ → List Element) (rows : Rows) (E : Text → List Element) : Type 0 where
  pub empty : E [] ≡ []
  pub unlisted : (c : ClassedCodePoint) (t : Text) → NoRowBegins rows (c ∷ t) → E (c ∷ t) ≡ implicit c.code ++ E t
  pub listed : (front non_starters rest : Text) (set : List Bool) (row : List Element) → IsRowMatch rows front (non_starters ++ rest) →
      AreNonStartersBefore non_starters rest → AreRemoved rows front non_starters set →
      rows (code_points (front ++ members set non_starters)) ≡ Some row → E (front ++ (non_starters ++ rest)) ≡ row ++ E (others set non_starters ++ rest)

-- ---- By a function

-- the length of the longest key, of at most n code points, that begins the text; 0 if there is none
abbrev pub longest_key : Keys → Text → ℕ → ℕ
longest_key keys t zero = 0
longest_key keys t (suc n) = if keys (code_points (take (suc n) t)) then suc n else longest_key keys t n

-- the non-starters at the front, and what follows them
abbrev pub non_starters_at_front : Text → Text
non_starters_at_front [] = []
non_starters_at_front (c ∷ t) = if is_starter c then [] else c ∷ non_starters_at_front t

abbrev pub after_non_starters : Text → Text
after_non_starters [] = []
after_non_starters (c ∷ t) = if is_starter c then c ∷ t else after_non_starters t

-- whether a non-starter is removed after a key and the code points skipped so far: none of them blocks it, and with it the key is a key
abbrev pub is_taken : Keys → Text → Text → ClassedCodePoint → Bool
is_taken keys key skipped c = list_all (λ d. nat_lt d.class c.class) skipped && keys (code_points (key ++ c ∷ []))

-- which of the non-starters are removed after the key and the code points skipped so far
abbrev pub removed : Keys → Text → Text → Text → List Bool
removed keys key skipped [] = []
removed keys key skipped (c ∷ non_starters) =
    let taken = is_taken keys key skipped c in
    taken ∷ removed keys (if taken then key ++ c ∷ [] else key) (if taken then skipped else skipped ++ c ∷ []) non_starters

-- the part that the front of a text is matched as, and what is matched after it
pub record Portion : Type 0 where
  pub part : Part
  pub rest : Text

-- a key at the front, after which the rest follows: it is extended by the non-starters that are removed
abbrev pub row_portion : Keys → Text → Text → Portion
row_portion keys front rest =
    let non_starters = non_starters_at_front rest in
    let set = removed keys front [] non_starters in
    record { part = Row (code_points (front ++ members set non_starters)); rest = others set non_starters ++ after_non_starters rest }

abbrev pub portion_at : Keys → ClassedCodePoint → Text → ℕ → Portion
portion_at keys c t zero = record { part = Implicit c.code; rest = t }
portion_at keys c t (suc n) = row_portion keys (take (suc n) (c ∷ t)) (drop (suc n) (c ∷ t))

abbrev pub portion : Keys → ClassedCodePoint → Text → Portion
portion keys c t = portion_at keys c t (longest_key keys (c ∷ t) (length (c ∷ t)))

-- the parts of a text of at most n code points
abbrev pub parts_within : Keys → ℕ → Text → List Part
parts_within keys zero t = []
parts_within keys (suc n) [] = []
parts_within keys (suc n) (c ∷ t) =
    let first = portion keys c t in
    first.part ∷ parts_within keys n first.rest

-- what a text is matched as
abbrev pub parts : Keys → Text → List Part
parts keys t = parts_within keys (length t) t

-- the elements of its parts
abbrev pub read : (ℕ → List Element) → Rows → Text → List Element
read implicit rows t = flat_map (part_elements implicit rows) (parts (is_key rows) t)

-- the collation elements of a text (UTS #10, S2) under the rows of a table, its ranges for implicit weights, and a data file
abbrev pub collation_elements : Rows → List ImplicitRange → Properties → Text → List Element
collation_elements rows ranges properties t = read (implicit ranges properties) rows t
