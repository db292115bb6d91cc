-- The line of output of a line, by its key and by the code points that are printed.
use Rattle.std.proofs.Common.{◌≡◌, ℕ, ◌^◌, ◌<◌, ◌≤◌, Bool, true, false, List, [], Option, length, chars, refl, ap, arith, ◌∙◌}
use Rattle.std.specs.Bool.{OnTrue}
use Rattle.std.specs.Str.{IsUtf8}
use Rattle.unicode_normalization.specs.Forms.{nfd, Nfd}
use Rattle.unicode_normalization.proofs.LengthLemmas.{length-normalize-chars}
use Rattle.uca_weights.specs.declared.Depth.{Depth}
use Rattle.uca_weights.specs.declared.Depth.TheVariants.{Weights, Identical}
use Rattle.uca_weights.specs.declared.Settings.{Settings}
use Rattle.uca_elements.specs.Collations.{Collation}
use Rattle.uca_books.specs.Books.{BookContent}
use Rattle.uca_order.specs.Depths.{read_points}
use Rattle.uca_order.specs.Keyings.{keying_by}
use Rattle.uca_key_runs.specs.declared.keys.KeyForm.{KeyForm}
use Rattle.uca_key_runs.specs.declared.keys.KeyForm.TheVariants.{Alone, Digits, BeforeLine}
use Rattle.uca_key_runs.specs.inside.KeyForms.{depth_as, shows_points, printed_as, shown_at, line_as}
use Rattle.uca_run_parts.specs.Print.{print_line_at}
use Rattle.uca_run_parts.proofs.PrintLemmas.{line_is_short, digits_are_short, keyed_is_short}

-- code points that are not printed do not matter
same_printed : (form : KeyForm) (depth : Depth) (key points others line : List ℕ) → (shows_points form depth ≡ true → points ≡ others)
    → printed_as form depth key points line ≡ printed_as form depth key others line
same_printed Alone Weights key points others line shown = refl
same_printed Alone Identical key points others line shown = ap (λ ps. print_line_at Identical key ps) (shown refl)
same_printed Digits depth key points others line shown = refl
same_printed BeforeLine depth key points others line shown = refl

-- what is printed of a line is its line of output
pub line_made : (form : KeyForm) (book : Option BookContent) (depth : Depth) (collation : Collation) (made : Settings) (key points line : List ℕ)
    → key ≡ shown_at book made.depth made.weighting (read_points collation made.numbers (chars line)) → made.depth ≡ depth_as form depth
    → (shows_points form depth ≡ true → points ≡ nfd (chars line))
    → printed_as form depth key points line ≡ line_as form book (keying_by collation (record { weighting = made.weighting; depth = depth; numbers = made.numbers })) line
line_made form book depth collation made key points line is at shown =
    let text = read_points collation made.numbers (chars line) in
    ap (λ k. printed_as form depth k points line) (is ∙ ap (λ d. shown_at book d made.weighting text) at)
    ∙ same_printed form depth (shown_at book (depth_as form depth) made.weighting text) points text.points line shown

-- a line of each form is short
pub printed_is_short : (form : KeyForm) (depth : Depth) (key points line : List ℕ) → length key < 2 ^ 41 → (shows_points form depth ≡ true → length points ≤ 2 ^ 23)
    → length line ≤ 4194304 → length (printed_as form depth key points line) < 2 ^ 43
printed_is_short Alone Weights key points line short few line_short = line_is_short Weights key [] short (omega arith)
printed_is_short Alone Identical key points line short few line_short = line_is_short Identical key points short (few refl)
printed_is_short Digits depth key points line short few line_short = digits_are_short key short
printed_is_short BeforeLine depth key points line short few line_short = keyed_is_short key line short line_short

-- a line has at most two code points for each byte, in Normalization Form D
pub few_points : (points text : List ℕ) → IsUtf8 text → length text ≤ 4194304 → points ≡ nfd (chars text) → length points ≤ 2 ^ 23
few_points points text utf8 short are = omega (arith, length-normalize-chars Nfd text utf8, ap length are, short)

-- a line is shorter than the texts whose keys have a known length
pub short_line : (text line : List ℕ) → text ≡ line → length line ≤ 4194304 → length text < 2 ^ 36
short_line text line same short = omega (arith, ap length same, short)

-- what follows from a fact that holds where a test does
pub if_true : {P Q : Type 0} (b : Bool) → (P → Q) → OnTrue b P → OnTrue b Q
if_true true f p = f p
if_true false f p = tt
