-- What calls with a book write.
use Rattle.std.specs.Prelude.{ℕ, List, Option, Some, None}
use Rattle.uca_order.specs.Keyings.{Keying}
use Rattle.uca_books.specs.Books.{BookContent}
use Rattle.uca_compact.specs.StoredParts.{IsCompactOf, IsOfNoKey}
use Rattle.uca_c.specs.Results.{WritesKey, IsTooSmall}

-- bytes of this kind are at the beginning of the caller's memory
abbrev pub WritesOne : (Is : List ℕ → Type 0) → (before after : List ℕ) → (count : ℕ) → Type 0
WritesOne Is before after count = (bytes : List ℕ) × Is bytes × WritesKey bytes before after count

-- bytes of this kind are more than there is room for
abbrev pub IsOneTooSmall : (Is : List ℕ → Type 0) → (before : List ℕ) → (count : ℕ) → Type 0
IsOneTooSmall Is before count = (bytes : List ℕ) × Is bytes × IsTooSmall bytes before count

-- there is a book, and by it this whole key has this compact key
abbrev pub HasCompactKey : Keying → Option BookContent → (key compact : List ℕ) → Type 0
HasCompactKey k None key compact = ⊥
HasCompactKey k (Some b) key compact = IsCompactOf k.settings.depth k.settings.weighting b key compact

-- there is a book, and by it these are the compact bytes of no key
abbrev pub IsNoCompactKey : Keying → Option BookContent → (compact : List ℕ) → Type 0
IsNoCompactKey k None compact = ⊥
IsNoCompactKey k (Some b) compact = IsOfNoKey k.settings.depth k.settings.weighting b compact
