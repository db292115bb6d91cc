-- The inside of quotes, one character further and at its end.
use Rattle.std.proofs.Common.{◌≡◌, ◌≢◌, ℕ, ◌+◌, ◌<◌, ◌≤◌, List, [], ◌∷◌, ◌++◌, length, get_or, take, drop, Option, Some, None, refl, ap, sym, subst, ◌∙◌, eq-eqb, arith}
use Rattle.std.proofs.lemmas.Bool.{ne_eqb}
use Rattle.std.proofs.lemmas.List.{append_assoc, append-nil, drop_all, drop_more, take_at, get_or-drop, length-drop}
use Rattle.uca_rules.specs.declared.characters.Character.{Character}
use Rattle.uca_rules.specs.Characters.{apostrophe}
use Rattle.uca_rules.specs.Pieces.{Symbol, Literal, Piece, with_literal, inside_quotes}

-- a piece after other symbols
abbrev pub after : List Symbol → Option Piece → Option Piece
after front None = None
after front (Some piece) = Some (record { symbols = front ++ piece.symbols; rest = piece.rest })

after_none : (piece : Option Piece) → piece ≡ after [] piece
after_none None = refl
after_none (Some piece) = refl

after_one : (front : List Symbol) (c : Character) (piece : Option Piece) → after front (with_literal c piece) ≡ after (front ++ Literal c ∷ []) piece
after_one front c None = refl
after_one front c (Some piece) = rw append_assoc refl

-- `at` characters of the inside of quotes were read, and they are not its end
pub record IsInside (old new : List Symbol) (cs : List Character) (at : ℕ) : Type 0 where
  pub front : List Symbol
  pub written : new ≡ old ++ front
  pub whole : inside_quotes cs ≡ after front (inside_quotes (drop at cs))

pub inside_first : (old : List Symbol) (cs : List Character) → IsInside old old cs 0
inside_first old cs = record { front = []; written = sym (append-nil old); whole = after_none (inside_quotes cs) }

-- a character that stands for itself
pub letter : (c : Character) (cs : List Character) → c.code ≢ apostrophe → inside_quotes (c ∷ cs) ≡ with_literal c (inside_quotes cs)
letter c [] other = rw (ne_eqb c.code apostrophe other) refl
letter c (d ∷ cs) other = rw (ne_eqb c.code apostrophe other) refl

-- two apostrophes
double : (c d : Character) (cs : List Character) → c.code ≡ apostrophe → d.code ≡ apostrophe → inside_quotes (c ∷ d ∷ cs) ≡ with_literal c (inside_quotes cs)
double c d cs first second = rw (eq-eqb c.code apostrophe first, eq-eqb d.code apostrophe second) refl

-- one more character is read
further : (old new new' : List Symbol) (cs : List Character) (at next : ℕ) (c : Character) → IsInside old new cs at → new' ≡ new ++ Literal c ∷ [] →
    inside_quotes (drop at cs) ≡ with_literal c (inside_quotes (drop next cs)) → IsInside old new' cs next
further old new new' cs at next c i more step = record {
  front = i.front ++ Literal c ∷ [];
  written = more ∙ (ap (λ symbols. symbols ++ Literal c ∷ []) i.written ∙ append_assoc old i.front (Literal c ∷ []));
  whole = i.whole ∙ (ap (after i.front) step ∙ after_one i.front c (inside_quotes (drop next cs)));
}

pub inside_letter : (old new new' : List Symbol) (cs : List Character) (at : ℕ) (d : Character) → IsInside old new cs at → at < length cs →
    (get_or cs at d).code ≢ apostrophe → new' ≡ new ++ Literal (get_or cs at d) ∷ [] → IsInside old new' cs (at + 1)
inside_letter old new new' cs at d i within other more =
    further old new new' cs at (at + 1) (get_or cs at d) i more (ap inside_quotes (drop_more cs at d within) ∙ letter (get_or cs at d) (drop (at + 1) cs) other)

pub inside_double : (old new new' : List Symbol) (cs : List Character) (at next : ℕ) (d : Character) → IsInside old new cs at → at + 1 < length cs → next ≡ at + 1 + 1 →
    (get_or cs at d).code ≡ apostrophe → (get_or cs (at + 1) d).code ≡ apostrophe → new' ≡ new ++ Literal (get_or cs at d) ∷ [] → IsInside old new' cs next
inside_double old new new' cs at next d i within is first second more =
    further old new new' cs at next (get_or cs at d) i more (ap inside_quotes (drop_more cs at d (omega arith)) ∙
    (ap (λ rest. inside_quotes (get_or cs at d ∷ rest)) (drop_more cs (at + 1) d within) ∙
    (double (get_or cs at d) (get_or cs (at + 1) d) (drop (at + 1 + 1) cs) first second ∙ ap (λ n. with_literal (get_or cs at d) (inside_quotes (drop n cs))) (sym is))))

-- Where all characters are inside the quotes there is no piece, since the quotes have no end.
pub inside_all : (old new : List Symbol) (cs : List Character) (at : ℕ) → IsInside old new cs at → length cs ≤ at → (inside_quotes cs ≡ None) × (take (length old) new ≡ old)
inside_all old new cs at i past = (
  i.whole ∙ ap (λ rest. after i.front (inside_quotes rest)) (drop_all at cs past),
  ap (take (length old)) i.written ∙ take_at old i.front (length old) refl,
)

-- one apostrophe is the end
last_one : (c : Character) (rest : List Character) (d : Character) → c.code ≡ apostrophe → (0 < length rest → (get_or rest 0 d).code ≢ apostrophe) →
    inside_quotes (c ∷ rest) ≡ Some (record { symbols = []; rest = rest })
last_one c [] d first other = rw (eq-eqb c.code apostrophe first) refl
last_one c (e ∷ rest) d first other = rw (eq-eqb c.code apostrophe first, ne_eqb e.code apostrophe (other (omega arith))) refl

-- where one apostrophe comes, the piece ends
pub inside_end : (old new : List Symbol) (cs : List Character) (at : ℕ) (d : Character) → IsInside old new cs at → at < length cs →
    (get_or cs at d).code ≡ apostrophe → (at + 1 < length cs → (get_or cs (at + 1) d).code ≢ apostrophe) →
    (symbols : List Symbol) × (inside_quotes cs ≡ Some (record { symbols = symbols; rest = drop (at + 1) cs })) × (new ≡ old ++ symbols)
inside_end old new cs at d i within is other =
    let rest = drop (at + 1) cs in
    let here = get_or cs at d in
    let same : get_or rest 0 d ≡ get_or cs (at + 1) d = grind (arith, get_or-drop) in
    let next : 0 < length rest → (get_or rest 0 d).code ≢ apostrophe = λ some.
    subst (λ (c : Character). c.code ≢ apostrophe) (sym same) (other (omega (arith, some, length-drop (at + 1) cs))) in (
      i.front,
      i.whole ∙ (ap (λ left. after i.front (inside_quotes left)) (drop_more cs at d within) ∙ (ap (after i.front) (last_one here rest d is next)
          ∙ ap (λ symbols. Some (record { symbols = symbols; rest = rest })) (append-nil i.front))),
      i.written,
    )
