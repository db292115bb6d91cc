-- Whole files of changes: their lines are such as a file may have, so bytes mean one list at most.
use Rattle.std.proofs.Common.{◌≡◌, ℕ, ◌*◌, ◌≤◌, Bool, true, false, List, [], ◌∷◌, ◌++◌, length, map, codes, Option, Some, None, Result, Ok, Err, IfSome, IfOk, IfErr, MatchResult, refl, sym, ap, ◌∙◌, lit≤, arith, length-append}
use Rattle.std.specs.Prelude.{nat_lt}
use Rattle.std.specs.Char.{IsScalar}
use Rattle.std.specs.List.{flat_map, AllByRecursion}
use Rattle.std.proofs.lemmas.List.{length-map}
use Rattle.uca_weights.proofs.Lists.{each_append}
use Rattle.uca_values.specs.declared.CodePointRange.{CodePointRange}
use Rattle.uca_values.specs.declared.faults.TableFault.{TableFault}
use Rattle.uca_lines.specs.Lines.{is_lf, Lacks}
use Rattle.uca_lines.specs.Files as files
use Rattle.uca_lines.specs.Files.{IsFileLine}
use Rattle.uca_lines.specs.FileStops.{IsStop}
use Rattle.uca_lines.specs.declared.files.TheConstants.{TABLE_FORM}
use Rattle.uca_lines.proofs.DigitLemmas.{length-digits}
use Rattle.uca_lines.proofs.LineLemmas.{Lacks-append}
use Rattle.uca_lines.proofs.FileLemmas.{one_value, only_result}
use Rattle.uca_lines.specs.Numbers.{point_width}
use Rattle.uca_table.specs.Canonical.{point_text}
use Rattle.uca_table.proofs.CanonicalBytes.{list_lacks, lacks_digits, digit_no_lf, point_all}
use Rattle.uca_change_files.specs.Changes.{ChangeContent, Item, OfText, OfRange, IsItem, IsText, IsRange, IsChangeList}
use Rattle.uca_change_files.specs.ChangeTexts.{Said, Says, Cause, IsUnfinished, Means, Refuses, AreScalars, HasScalars, header, spaced, text_line, range_line, item_line, change_lines}
use Rattle.uca_change_files.proofs.Exact.{exact}

-- ---- Lines are short

-- of a code point
short_width : (c : ℕ) → point_width c ≤ 6
short_width c = cases (nat_lt c 0x1_0000) refl (nat_lt c 0x10_0000) refl
  where
    cases : (a : Bool) → nat_lt c 0x1_0000 ≡ a → (b : Bool) → nat_lt c 0x10_0000 ≡ b → point_width c ≤ 6
    cases true p b q = rw p (lit≤ tt)
    cases false p true q = rw (p, q) (lit≤ tt)
    cases false p false q = rw (p, q) (lit≤ tt)

short_point : (c : ℕ) → length (point_text c) ≤ 6
unfolding point_text
short_point c = omega (arith, length-digits (point_width c) c, short_width c)

-- of code points after spaces
short_points : (points : List ℕ) → length (flat_map spaced points) ≤ length points * 7
unfolding spaced
short_points [] = omega arith
short_points (c ∷ cs) = omega (arith, length-append (point_text c) (flat_map spaced cs), short_point c, short_points cs)

-- of a text or a range
pub short_line : (item : Item) → IsItem item → length (item_line item) ≤ 116
unfolding text_line range_line
short_line (OfText text) h = omega (arith, length-append (codes "text") (flat_map spaced text), short_points text, h.few)
short_line (OfRange r) h =
    let last : List ℕ = 46 ∷ 46 ∷ point_text r.last in
    omega (
      arith,
      length-append (codes "range ") (point_text r.first ++ last),
      length-append (point_text r.first) last,
      short_point r.first,
      short_point r.last,
    )

-- ---- No LF is in a line

plain_point : (c : ℕ) → IsScalar c → Lacks is_lf (point_text c)
plain_point c h = lacks_digits is_lf digit_no_lf (point_text c) (point_all c h)

plain_points : (points : List ℕ) → AllByRecursion IsScalar points → Lacks is_lf (flat_map spaced points)
unfolding spaced
plain_points [] h = tt
plain_points (c ∷ cs) h = (refl, Lacks-append is_lf (point_text c) (flat_map spaced cs) (plain_point c h.0) (plain_points cs h.1))

plain_line : (item : Item) → IsItem item → HasScalars item → Lacks is_lf (item_line item)
unfolding text_line range_line
plain_line (OfText text) h scalars = Lacks-append is_lf (codes "text") (flat_map spaced text) (list_lacks is_lf (codes "text") refl) (plain_points text scalars)
plain_line (OfRange r) h scalars =
    let last : List ℕ = 46 ∷ 46 ∷ point_text r.last in
    Lacks-append is_lf (codes "range ") (point_text r.first ++ last) (list_lacks is_lf (codes "range ") refl)
    (Lacks-append is_lf (point_text r.first) last (plain_point r.first h.first)
    (Lacks-append is_lf (46 ∷ 46 ∷ []) (point_text r.last) (list_lacks is_lf (46 ∷ 46 ∷ []) refl) (plain_point r.last h.last)))

-- ---- A file may have these lines

file_line : (item : Item) → IsItem item → HasScalars item → IsFileLine TABLE_FORM (item_line item)
file_line item h scalars = record { lacks = plain_line item h scalars; short = omega (arith, short_line item h) }

text_file_lines : (texts : List (List ℕ)) → AllByRecursion IsText texts → AreScalars texts → AllByRecursion (IsFileLine TABLE_FORM) (map text_line texts)
text_file_lines [] h scalars = tt
text_file_lines (t ∷ ts) h scalars = (file_line (OfText t) h.0 scalars.0, text_file_lines ts h.1 scalars.1)

range_file_lines : (ranges : List CodePointRange) → AllByRecursion IsRange ranges → AllByRecursion (IsFileLine TABLE_FORM) (map range_line ranges)
range_file_lines [] h = tt
range_file_lines (r ∷ rs) h = (file_line (OfRange r) h.0 tt, range_file_lines rs h.1)

few_lines : (content : ChangeContent) → IsChangeList content → length (change_lines content) ≤ 1000000
few_lines content h = omega (
  arith,
  length-append (map text_line content.texts) (map range_line content.ranges),
  length-map content.texts text_line,
  length-map content.ranges range_line,
  h.few,
)

-- the lines of a file say a list of changes when the header was there
abbrev Gives : Said → ChangeContent → Type 0
Gives said content = said ≡ record { started = true; content = content }

-- the text of a list is lines that say it
means_file : (bytes : List ℕ) (content : ChangeContent) → Means bytes content → files.Means TABLE_FORM Says Gives bytes content
means_file bytes content h = (
  record { started = true; content = content },
  (
    length (change_lines content),
    record {
      lines = change_lines content;
      divides = record {
        parts = h.text;
        each = (
          record { lacks = list_lacks is_lf header refl; short = omega arith },
          each_append (IsFileLine TABLE_FORM) (map text_line content.texts) (map range_line content.ranges)
              (text_file_lines content.texts h.list.texts h.scalars) (range_file_lines content.ranges h.list.ranges),
        );
        count = few_lines content h.list;
      };
      says = record { text = refl; list = h.list; scalars = h.scalars; none = λ e. absurd (cc) };
      many = refl;
    },
  ),
  refl,
)

-- ---- What bytes mean

gives_one : (s : Said) (v w : ChangeContent) → Gives s v → Gives s w → v ≡ w
gives_one s v w h k = ap (λ (x : Said). x.content) (sym h ∙ k)

gives_finished : (s : Said) (v : ChangeContent) → Gives s v → IsUnfinished s → ⊥
gives_finished s v h unfinished = let e : true ≡ false = sym (ap (λ (x : Said). x.started) h) ∙ unfinished in cc

-- bytes mean one list of changes
pub means_same : (bytes : List ℕ) (a b : ChangeContent) → Means bytes a → Means bytes b → a ≡ b
means_same bytes a b h k = one_value TABLE_FORM Says Gives exact.same gives_one bytes a b (means_file bytes a h) (means_file bytes b k)

-- what bytes mean is returned, unless reading stops
pub only_known : (known left : Option (List ℕ)) (r : Result ChangeContent TableFault) → IfSome known (λ bytes. IfOk r (Means bytes))
    → IfSome known (λ bytes. IfErr r (Refuses bytes left))
    → IfSome known (λ bytes. (content : ChangeContent) → Means bytes content → MatchResult r (λ read. read ≡ content) (λ fault. IsStop fault.kind))
only_known None left r found fault = tt
only_known (Some bytes) left (Ok read) found fault = λ content means. means_same bytes read content found means
only_known (Some bytes) left (Err e) found fault = λ content means.
    only_result {X = ChangeContent} {F = TableFault} (λ x. x) (λ f. f.line) (λ f. f.kind) TABLE_FORM Says Cause IsUnfinished Gives exact gives_one
    gives_finished bytes left (Err e) tt fault content (means_file bytes content means)
