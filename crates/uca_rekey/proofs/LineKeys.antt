-- The key of a line, read and written digit by digit.
use Rattle.std.proofs.Common.{◌≡◌, ℕ, ◌+◌, ◌*◌, ◌-◌, ◌<◌, ◌≤◌, List, [], ◌∷◌, ◌++◌, length, length-drop, take, drop, get_or, set, Bool, true, false, cond, nat_eq, ◌&&◌, Option, Some, None, refl, ap, sym, subst, ◌∙◌, append_assoc, append-nil, arith, take-append-drop}
use Rattle.std.specs.List.{flat_map, list_all}
use Rattle.std.specs.Option.{option_map}
use Rattle.std.proofs.lemmas.List.{drop_all, take_all, take_more_set}
use Rattle.std.specs.Str.Parse.{digits_value}
use Rattle.std.proofs.lemmas.Bool.Decides.{nat_tests}
use Rattle.uca_lines.specs.Numbers.{hex_of, is_hex_digit}
use Rattle.uca_run_parts.specs.Print.{byte_digits}
use Rattle.uca_compact.proofs.StoredSteps.{two_at}
use Rattle.uca_rekey.specs.inside.LinesInPlace.{ReadsBytes}
use Rattle.uca_rekey.specs.ChangedLines.{digits_of, byte_before, bytes_of, from_tab, key_in, with_digits}

-- ---- The key of a line

-- no byte was read yet
pub none_read : (text key : List ℕ) → key ≡ [] → ReadsBytes text key text
none_read text key none = record { key = go (key_in text); tab = refl }
  where
    go : (o : Option (List ℕ)) → o ≡ option_map (λ more. key ++ more) o
    go None = refl
    go (Some bytes) = ap (λ front. Some (front ++ bytes)) (sym none)

-- more bytes were read after these
pub more_read : (text key rest bytes after new : List ℕ) → ReadsBytes text key rest → ReadsBytes rest bytes after → new ≡ key ++ bytes → ReadsBytes text new after
more_read text key rest bytes after new one two added = record {
  key = one.key ∙ ap (option_map (λ more. key ++ more)) two.key ∙ go (key_in after);
  tab = one.tab ∙ two.tab;
}
  where
    go : (o : Option (List ℕ)) → option_map (λ more. key ++ more) (option_map (λ more. bytes ++ more) o) ≡ option_map (λ more. new ++ more) o
    go None = refl
    go (Some more) = ap (λ all. Some all) (sym (append_assoc key bytes more) ∙ ap (λ front. front ++ more) (sym added))

-- as many as had room
pub room_read : (text key rest bytes new : List ℕ) (count : ℕ) → ReadsBytes text key rest → ReadsBytes rest bytes (drop (2 * count) rest) → new ≡ key ++ bytes
    → ReadsBytes text new (take (length rest - 2 * count) (drop (2 * count) rest))
room_read text key rest bytes new count one two added =
    let after = drop (2 * count) rest in
    subst (λ (l : List ℕ). ReadsBytes text new l) (sym (take_all (length rest - 2 * count) after (omega (arith, length-drop (2 * count) rest))))
    (more_read text key rest bytes after new one two added)

module _ (all : Option (List ℕ)) (key text : List ℕ) (so_far : all ≡ option_map (λ more. key ++ more) (key_in text)) where
  -- there is no byte any more
  pub key_read : key_in text ≡ Some [] → all ≡ Some key
  key_read none = so_far ∙ ap (option_map (λ more. key ++ more)) none ∙ ap (λ k. Some k) (append-nil key)

  -- what comes next is no byte
  pub no_key_read : key_in text ≡ None → all ≡ None
  no_key_read none = so_far ∙ ap (option_map (λ more. key ++ more)) none

-- ---- The next byte of a key

-- there is no digit
pub no_digit : (text : List ℕ) → digits_of text ≡ [] → key_in text ≡ Some []
no_digit text none = ap bytes_of none

-- there is one digit alone
pub one_digit : (text rest : List ℕ) (high : ℕ) → digits_of text ≡ high ∷ digits_of rest → digits_of rest ≡ [] → key_in text ≡ None
one_digit text rest high one none = ap bytes_of (one ∙ ap (λ ds. high ∷ ds) none)

-- there are two digits, or other bytes
two_digits : (text rest after : List ℕ) (high low : ℕ) (byte : Option ℕ) → digits_of text ≡ high ∷ digits_of rest → digits_of rest ≡ low ∷ digits_of after
    → byte ≡ hex_of (high ∷ low ∷ []) → key_in text ≡ byte_before byte (key_in after)
two_digits text rest after high low byte one two is = ap bytes_of (one ∙ ap (λ ds. high ∷ ds) two) ∙ ap (λ b. byte_before b (key_in after)) (sym is)

pub byte_by_digits : (text rest after : List ℕ) (high low byte : ℕ) → digits_of text ≡ high ∷ digits_of rest → digits_of rest ≡ low ∷ digits_of after
    → Some byte ≡ hex_of (high ∷ low ∷ []) → key_in text ≡ byte_before (Some byte) (key_in after)
byte_by_digits text rest after high low byte = two_digits text rest after high low (Some byte)

pub no_byte_by_digits : (text rest after : List ℕ) (high low : ℕ) → digits_of text ≡ high ∷ digits_of rest → digits_of rest ≡ low ∷ digits_of after
    → None ≡ hex_of (high ∷ low ∷ []) → key_in text ≡ None
no_byte_by_digits text rest after high low = two_digits text rest after high low None

-- a digit is neither a tab nor a space
digit_apart : (b : ℕ) → is_hex_digit b ≡ true → (nat_eq b 9 ≡ false) × (nat_eq b 32 ≡ false)
digit_apart b is = by_tests (nat_eq b 9) (nat_eq b 32) refl refl
  where
    by_tests : (t s : Bool) → nat_eq b 9 ≡ t → nat_eq b 32 ≡ s → (t ≡ false) × (s ≡ false)
    by_tests false false e f = (refl, refl)
    by_tests true s e f = absurd (let tab : b ≡ 9 = grind (arith, nat_tests) in (let none : false ≡ true = ap is_hex_digit (sym tab) ∙ is in cc))
    by_tests false true e f = absurd (let space : b ≡ 32 = grind (arith, nat_tests) in (let none : false ≡ true = ap is_hex_digit (sym space) ∙ is in cc))

both : (a b : Bool) → (a && (b && true)) ≡ true → (a ≡ true) × (b ≡ true)
both true true h = (refl, refl)
both true false h = absurd (cc)
both false b h = absurd (cc)

digits_by : (high low byte : ℕ) (t : Bool) → list_all is_hex_digit (high ∷ low ∷ []) ≡ t → Some byte ≡ hex_of (high ∷ low ∷ [])
    → (is_hex_digit high ≡ true) × (is_hex_digit low ≡ true)
digits_by high low byte true test is = both (is_hex_digit high) (is_hex_digit low) test
digits_by high low byte false test is =
    absurd (let none : Some byte ≡ None = is ∙ ap (λ (b : Bool). cond b (Some (digits_value 16 (high ∷ low ∷ []))) None) test in cc)

one_first : (b : ℕ) (rest : List ℕ) → is_hex_digit b ≡ true → (digits_of (b ∷ rest) ≡ b ∷ digits_of rest) × (from_tab (b ∷ rest) ≡ from_tab rest)
one_first b rest is =
    let apart = digit_apart b is in (
      ap (λ (t : Bool). cond t [] (cond (nat_eq b 32) (digits_of rest) (b ∷ digits_of rest))) apart.0
          ∙ ap (λ (t : Bool). cond t (digits_of rest) (b ∷ digits_of rest)) apart.1,
      ap (λ (t : Bool). cond t (b ∷ rest) (from_tab rest)) apart.0,
    )

-- the text begins with two digits
pub byte_first : (high low byte : ℕ) (text rest : List ℕ) → text ≡ high ∷ low ∷ rest → Some byte ≡ hex_of (high ∷ low ∷ [])
    → (key_in text ≡ byte_before (Some byte) (key_in rest)) × (from_tab text ≡ from_tab rest) × (length rest < length text)
byte_first high low byte text rest parts is =
    let digits = digits_by high low byte (list_all is_hex_digit (high ∷ low ∷ [])) refl is in
    let first = one_first high (low ∷ rest) digits.0 in
    let second = one_first low rest digits.1 in (
      ap key_in parts ∙ byte_by_digits (high ∷ low ∷ rest) (low ∷ rest) rest high low byte first.0 second.0 is,
      ap from_tab parts ∙ first.1 ∙ second.1,
      omega (arith, ap length parts),
    )

-- one more byte was read into the room
pub byte_taken : (text room : List ℕ) (count byte : ℕ) → 2 * count + 1 < length text → count < length room
    → Some byte ≡ hex_of (get_or text (2 * count) 0 ∷ get_or text (2 * count + 1) 0 ∷ []) → ReadsBytes text (take count room) (drop (2 * count) text)
    → ReadsBytes text (take (count + 1) (set room count byte)) (drop (2 * (count + 1)) text)
byte_taken text room count byte within has_room is so_far =
    let next : 2 * (count + 1) ≡ 2 * count + 2 = omega arith in
    let rest = drop (2 * count) text in
    let after = drop (2 * (count + 1)) text in
    let parts = two_at text (2 * count) within ∙ ap (λ n. get_or text (2 * count) 0 ∷ get_or text (2 * count + 1) 0 ∷ drop n text) (sym next) in
    let first = byte_first (get_or text (2 * count) 0) (get_or text (2 * count + 1) 0) byte rest after parts is in
    more_read text (take count room) rest (byte ∷ []) after (take (count + 1) (set room count byte)) so_far (record { key = first.0; tab = first.1 })
    (take_more_set room count byte has_room)

-- ---- Another key in its place

-- with no digit left the line stays
pub with_no_digits : (line : List ℕ) → with_digits line [] ≡ line
with_no_digits [] = refl
with_no_digits (byte ∷ line) = refl

-- the line with digits from a position on
abbrev pub written_from : List ℕ → ℕ → List ℕ → List ℕ
written_from line at digits = take at line ++ with_digits (drop at line) digits

-- the digits of all bytes were written
pub all_written : (line key : List ℕ) (at i : ℕ) → length key ≤ i → written_from line at (flat_map byte_digits (drop i key)) ≡ line
all_written line key at i end =
    ap (λ rest. written_from line at (flat_map byte_digits rest)) (drop_all i key end)
    ∙ ap (λ l. take at line ++ l) (with_no_digits (drop at line)) ∙ take-append-drop at line
