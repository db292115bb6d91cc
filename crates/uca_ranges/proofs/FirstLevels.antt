-- The first levels of a compact key, whatever comes after them.
use Rattle.std.proofs.Common.{◌≡◌, ◌⊎◌, inl, inr, ℕ, zero, suc, ◌+◌, ◌*◌, ◌<◌, ◌≤◌, List, [], ◌∷◌, ◌++◌, Bool, true, false, cond, nat_eq, length, bytes_eq, refl, ap, sym, ◌∙◌, arith, append_assoc, append-nil, length-append}
use Rattle.std.specs.Prelude.{⊤}
use Rattle.std.specs.Ordering.{nat_cmp, is_eq}
use Rattle.std.specs.declared.cmp.Ordering.{Ordering}
use Rattle.std.specs.declared.cmp.Ordering.TheVariants.{Less, Equal, Greater}
use Rattle.std.proofs.lemmas.Bool.Decides.{nat_tests}
use Rattle.std.proofs.lemmas.Map.Text.{is_eq-slice_cmp}
use Rattle.uca_order.specs.Levels.{lexicographic}
use Rattle.uca_order.proofs.KeyOrder.{lexicographic_itself}
use Rattle.uca_weights.proofs.Tests.{same_bytes}
use Rattle.uca_compact.specs.Forms.{Form, step, full, ends_before, IsForm, AreForms}
use Rattle.uca_compact.specs.PlainLevels.{plain_level}
use Rattle.uca_compact.specs.CompactKeys.{Plain, written, run_after, level_code, end_by, end_of, ended_level, later_levels, compact}
use Rattle.uca_compact.proofs.RunOrder.{room}
use Rattle.uca_ranges.specs.Ranges.{plain_levels}

-- ---- Levels before `count` others

-- The end of a level before these and the others. Where these are all plain, it is what the others make of `all`.
abbrev pub first_end : Plain → (count : ℕ) → (ends : ℕ → ℕ) → (all : ℕ) → (earlier levels : List (List ℕ)) → ℕ
first_end plain count ends all earlier [] = ends all
first_end plain count ends all earlier (level ∷ later) =
    end_by (lexicographic level (plain earlier)) all (length later + count) (first_end plain count ends all (earlier ++ level ∷ []) later)

-- a level with its end, and what comes after it
abbrev pub ended : Form → (end : ℕ) → List ℕ → List ℕ → List ℕ
ended f end level more = level_code f end 0 level ++ more

-- the levels after the first, before the bytes of the others
abbrev pub first_later : Plain → List Form → (count : ℕ) → (ends : ℕ → ℕ) → (more : List ℕ) → (earlier levels : List (List ℕ)) → List ℕ
first_later plain forms count ends more earlier [] = more
first_later plain [] count ends more earlier (level ∷ later) = []
first_later plain (f ∷ forms) count ends more earlier (level ∷ later) =
    cond (is_eq (lexicographic level (plain earlier))) (first_later plain forms count ends more (earlier ++ level ∷ []) later)
    (ended f (first_end plain count ends (length forms) (earlier ++ level ∷ []) later) level (first_later plain forms count ends more (earlier ++ level ∷ []) later))

-- all of these levels
abbrev pub first_code : Plain → List Form → (count : ℕ) → (ends : ℕ → ℕ) → (more : List ℕ) → (levels : List (List ℕ)) → List ℕ
first_code plain forms count ends more [] = more
first_code plain [] count ends more (level ∷ later) = []
first_code plain (f ∷ forms) count ends more (level ∷ later) =
    ended f (first_end plain count ends (length forms) (level ∷ []) later) level (first_later plain forms count ends more (level ∷ []) later)

-- the forms of the others
abbrev pub forms_after : List Form → List (List ℕ) → List Form
forms_after forms [] = forms
forms_after [] (level ∷ later) = []
forms_after (f ∷ forms) (level ∷ later) = forms_after forms later

-- ---- A compact key is so

-- the end
end_is : (plain : Plain) (all count : ℕ) (earlier levels rest total : List (List ℕ)) → length rest ≡ count → earlier ++ levels ≡ total
    → end_of plain all earlier (levels ++ rest) ≡ first_end plain count (λ n. end_of plain n total rest) all earlier levels
end_is plain all count earlier [] rest total tie same =
    ap (λ (e : List (List ℕ)). end_of plain all e rest) (sym (append-nil earlier) ∙ same)
end_is plain all count earlier (level ∷ later) rest total tie same =
    let o = lexicographic level (plain earlier) in
    let long : length (later ++ rest) ≡ length later + count = length-append later rest ∙ ap (λ (n : ℕ). length later + n) tie in
    ap (λ (n : ℕ). end_by o all n (end_of plain all (earlier ++ level ∷ []) (later ++ rest))) long
    ∙ ap (end_by o all (length later + count))
    (end_is plain all count (earlier ++ level ∷ []) later rest total tie (append_assoc earlier (level ∷ []) later ∙ same))

-- a level that may be left out, by its test, its end and what comes after it
same_by : (b c : Bool) (f : Form) (level : List ℕ) (d e : ℕ) (xs ys : List ℕ) → b ≡ c → d ≡ e → xs ≡ ys
    → cond b xs (ended f d level xs) ≡ cond c ys (ended f e level ys)
same_by b c f level d e xs ys test end more =
    ap (λ (t : Bool). cond t xs (ended f d level xs)) test
    ∙ ap (λ (n : ℕ). cond c xs (ended f n level xs)) end
    ∙ ap (λ (zs : List ℕ). cond c zs (ended f e level zs)) more

-- the later levels
later_is : (plain : Plain) (forms : List Form) (count : ℕ) (earlier levels rest total : List (List ℕ)) → length rest ≡ count → length (levels ++ rest) ≡ length forms
    → earlier ++ levels ≡ total
    → later_levels plain forms earlier (levels ++ rest)
    ≡ first_later plain forms count (λ n. end_of plain n total rest) (later_levels plain (forms_after forms levels) total rest) earlier levels
later_is plain forms count earlier [] rest total tie long same =
    ap (λ (e : List (List ℕ)). later_levels plain forms e rest) (sym (append-nil earlier) ∙ same)
later_is plain [] count earlier (level ∷ later) rest total tie long same = refl
later_is plain (f ∷ forms) count earlier (level ∷ later) rest total tie long same =
    let next = append_assoc earlier (level ∷ []) later ∙ same in
    let rest_long : length (later ++ rest) ≡ length forms = omega (arith, long) in
    same_by (bytes_eq level (plain earlier)) (is_eq (lexicographic level (plain earlier))) f level
    (end_of plain (length (later ++ rest)) (earlier ++ level ∷ []) (later ++ rest))
    (first_end plain count (λ n. end_of plain n total rest) (length forms) (earlier ++ level ∷ []) later)
    (later_levels plain forms (earlier ++ level ∷ []) (later ++ rest))
    (first_later plain forms count (λ n. end_of plain n total rest) (later_levels plain (forms_after forms later) total rest) (earlier ++ level ∷ []) later)
    (sym (is_eq-slice_cmp level (plain earlier)))
    (ap (λ (n : ℕ). end_of plain n (earlier ++ level ∷ []) (later ++ rest)) rest_long
    ∙ end_is plain (length forms) count (earlier ++ level ∷ []) later rest total tie next)
    (later_is plain forms count (earlier ++ level ∷ []) later rest total tie rest_long next)

-- some levels and others
pub code_is : (plain : Plain) (f : Form) (forms : List Form) (count : ℕ) (a : List ℕ) (levels rest : List (List ℕ)) → length rest ≡ count
    → length (levels ++ rest) ≡ length forms
    → compact plain (f ∷ forms) ((a ∷ levels) ++ rest)
    ≡ first_code plain (f ∷ forms) count (λ n. end_of plain n (a ∷ levels) rest) (later_levels plain (forms_after forms levels) (a ∷ levels) rest) (a ∷ levels)
code_is plain f forms count a levels rest tie long =
    let ends = λ (n : ℕ). end_of plain n (a ∷ levels) rest in
    let more = later_levels plain (forms_after forms levels) (a ∷ levels) rest in
    ap (λ (n : ℕ). ended f n a (later_levels plain forms (a ∷ []) (levels ++ rest)))
    (ap (λ (n : ℕ). end_of plain n (a ∷ []) (levels ++ rest)) long ∙ end_is plain (length forms) count (a ∷ []) levels rest (a ∷ levels) tie refl)
    ∙ ap (λ (xs : List ℕ). ended f (first_end plain count ends (length forms) (a ∷ []) levels) a xs)
    (later_is plain forms count (a ∷ []) levels rest (a ∷ levels) tie long refl)

-- ---- The end of these levels, and what comes before and after it

-- Levels of these forms end in bytes.
abbrev pub HaveRoom : List Form → Type 0
HaveRoom [] = ⊤
HaveRoom (f ∷ forms) = (0 < f.longest) × (full f < 256) × (f.ends ≡ ends_before (length forms)) × HaveRoom forms

-- all forms do
pub forms_have_room : (forms : List Form) → AreForms forms → HaveRoom forms
forms_have_room [] are = tt
forms_have_room (f ∷ forms) are =
    let form : IsForm f = are.0 in
    (form.longest, omega (arith, form.few_greater), are.1, forms_have_room forms are.2)

-- These bytes, then the end that the others make, and then their bytes.
pub record HasEnding (count : ℕ) (code : (ℕ → ℕ) → List ℕ → List ℕ) : Type 0 where
  pub front : List ℕ
  pub base : ℕ
  pub last : ℕ
  pub room : count ≤ last
  pub top : base + last + suc count < 256
  pub is : (ends : ℕ → ℕ) (more : List ℕ) → code ends more ≡ front ++ (base + ends last) ∷ more

-- a run stays shorter than a full one
run_short : (f : Form) (run : ℕ) (o : Ordering) → 0 < f.longest → run < f.longest → run_after f run o < f.longest
run_short f run Less some short = some
run_short f run Equal some short = equal_by (nat_eq (suc run) f.longest) refl
  where
    equal_by : (t : Bool) → nat_eq (suc run) f.longest ≡ t → cond t 0 (suc run) < f.longest
    equal_by true is = some
    equal_by false is = grind (arith, nat_tests)
run_short f run Greater some short = some

-- a level is some bytes, and then its end
level_end : (f : Form) (run : ℕ) (ws : List ℕ) → 0 < f.longest → run < f.longest
    → (front : List ℕ) × (base : ℕ) × (base + f.ends < full f) × ((end : ℕ) → level_code f end run ws ≡ front ++ (base + end) ∷ [])
level_end f run [] some short = ([], run * step f, omega (arith, room run f.longest (step f) short), (λ end. refl))
level_end f run (w ∷ ws) some short =
    let o = nat_cmp w f.common in
    let more = level_end f (run_after f run o) ws some (run_short f run o some short) in (
      written f run w o ++ more.0,
      more.1,
      more.2,
      (λ end. ap (λ (xs : List ℕ). written f run w o ++ xs) (more.3 end) ∙ sym (append_assoc (written f run w o) more.0 ((more.1 + end) ∷ []))),
    )

-- Later levels are all plain, or have an end of their own. Then what is after them does not change the end before them.
abbrev pub AllPlain : Plain → List Form → ℕ → (earlier levels : List (List ℕ)) → Type 0
AllPlain plain forms count earlier levels =
    ((all : ℕ) (ends : ℕ → ℕ) → first_end plain count ends all earlier levels ≡ ends all)
    × ((ends : ℕ → ℕ) (more : List ℕ) → first_later plain forms count ends more earlier levels ≡ more)

abbrev pub HasOwnEnd : Plain → List Form → ℕ → (earlier levels : List (List ℕ)) → Type 0
HasOwnEnd plain forms count earlier levels =
    ((all : ℕ) (ends others : ℕ → ℕ) → first_end plain count ends all earlier levels ≡ first_end plain count others all earlier levels)
    × HasEnding count (λ ends more. first_later plain forms count ends more earlier levels)

-- a level that is written, by what comes after it
written_ending : (plain : Plain) (f : Form) (forms : List Form) (count all : ℕ) (earlier later : List (List ℕ)) (level : List ℕ) → count ≤ all
    → 0 < f.longest → full f < 256 → f.ends ≡ ends_before all → AllPlain plain forms count earlier later ⊎ HasOwnEnd plain forms count earlier later
    → HasEnding count (λ ends more. ended f (first_end plain count ends all earlier later) level (first_later plain forms count ends more earlier later))
written_ending plain f forms count all earlier later level fits some short ends_are (inl h) =
    let code = level_end f 0 level some some in
    record {
      front = code.0;
      base = code.1;
      last = all;
      room = fits;
      top = omega (arith, fits, code.2, short, ends_are);
      is = λ ends more.
          (ap (λ (n : ℕ). ended f n level (first_later plain forms count ends more earlier later)) (h.0 all ends)
          ∙ ap (λ (xs : List ℕ). ended f (ends all) level xs) (h.1 ends more)
          ∙ ap (λ (xs : List ℕ). xs ++ more) (code.3 (ends all))
          ∙ append_assoc code.0 ((code.1 + ends all) ∷ []) more);
    }
written_ending plain f forms count all earlier later level fits some short ends_are (inr h) =
    let same = λ (n : ℕ). n in
    let here = level_code f (first_end plain count same all earlier later) 0 level in
    record {
      front = here ++ h.1.front;
      base = h.1.base;
      last = h.1.last;
      room = h.1.room;
      top = h.1.top;
      is = λ ends more.
          (ap (λ (n : ℕ). ended f n level (first_later plain forms count ends more earlier later)) (h.0 all ends same)
          ∙ ap (λ (xs : List ℕ). here ++ xs) (h.1.is ends more)
          ∙ sym (append_assoc here h.1.front ((h.1.base + ends h.1.last) ∷ more)));
    }

-- a level after others, by how it compares to the plain one
abbrev end_with : Plain → ℕ → Ordering → (earlier later : List (List ℕ)) → (ℕ → ℕ) → ℕ → ℕ
end_with plain count o earlier later ends all = end_by o all (length later + count) (first_end plain count ends all earlier later)

abbrev code_with : Plain → Form → List Form → ℕ → Ordering → List ℕ → (earlier later : List (List ℕ)) → (ℕ → ℕ) → List ℕ → List ℕ
code_with plain f forms count o level earlier later ends more =
    cond (is_eq o) (first_later plain forms count ends more earlier later)
    (ended f (first_end plain count ends (length forms) earlier later) level (first_later plain forms count ends more earlier later))

-- such levels are all plain or have an end
ending_by : (plain : Plain) (f : Form) (forms : List Form) (count : ℕ) (level : List ℕ) (earlier later : List (List ℕ)) → count ≤ length forms
    → HaveRoom (f ∷ forms) → AllPlain plain forms count earlier later ⊎ HasOwnEnd plain forms count earlier later → (o : Ordering)
    → (((all : ℕ) (ends : ℕ → ℕ) → end_with plain count o earlier later ends all ≡ ends all)
    × ((ends : ℕ → ℕ) (more : List ℕ) → code_with plain f forms count o level earlier later ends more ≡ more))
    ⊎ (((all : ℕ) (ends others : ℕ → ℕ) → end_with plain count o earlier later ends all ≡ end_with plain count o earlier later others all)
    × HasEnding count (λ ends more. code_with plain f forms count o level earlier later ends more))
ending_by plain f forms count level earlier later fits have h Less =
    inr ((λ all ends others. refl), written_ending plain f forms count (length forms) earlier later level fits have.0 have.1 have.2 h)
ending_by plain f forms count level earlier later fits have h Equal = h
ending_by plain f forms count level earlier later fits have h Greater =
    inr ((λ all ends others. refl), written_ending plain f forms count (length forms) earlier later level fits have.0 have.1 have.2 h)

-- so are all later levels
later_ending : (plain : Plain) (forms : List Form) (count : ℕ) (earlier levels : List (List ℕ)) → length forms ≡ length levels + count → HaveRoom forms
    → AllPlain plain forms count earlier levels ⊎ HasOwnEnd plain forms count earlier levels
later_ending plain forms count earlier [] tie have = inl ((λ all ends. refl), (λ ends more. refl))
later_ending plain [] count earlier (level ∷ later) tie have = absurd (omega (arith, tie))
later_ending plain (f ∷ forms) count earlier (level ∷ later) tie have =
    ending_by plain f forms count level (earlier ++ level ∷ []) later (omega (arith, tie)) have
    (later_ending plain forms count (earlier ++ level ∷ []) later (omega (arith, tie)) have.3) (lexicographic level (plain earlier))

-- so all of these levels have an end
pub first_ending : (plain : Plain) (f : Form) (forms : List Form) (count : ℕ) (a : List ℕ) (levels : List (List ℕ)) → length forms ≡ length levels + count
    → HaveRoom (f ∷ forms) → HasEnding count (λ ends more. first_code plain (f ∷ forms) count ends more (a ∷ levels))
first_ending plain f forms count a levels tie have =
    written_ending plain f forms count (length forms) (a ∷ []) levels a (omega (arith, tie)) have.0 have.1 have.2
    (later_ending plain forms count (a ∷ []) levels tie have.3)

-- ---- Plain levels after some

-- as many as were asked for
pub plain_count : (earlier : List (List ℕ)) (n : ℕ) → length (plain_levels earlier n) ≡ n
plain_count earlier zero = refl
plain_count earlier (suc n) = ap suc (plain_count (earlier ++ plain_level earlier ∷ []) n)

-- the end before them says so
pub plain_end : (all : ℕ) (earlier : List (List ℕ)) (n : ℕ) → end_of plain_level all earlier (plain_levels earlier n) ≡ all
plain_end all earlier zero = refl
plain_end all earlier (suc n) =
    let next = earlier ++ plain_level earlier ∷ [] in
    ap (λ (o : Ordering). end_by o all (length (plain_levels next n)) (end_of plain_level all next (plain_levels next n))) (lexicographic_itself (plain_level earlier))
    ∙ plain_end all next n

-- nothing is written for them
pub plain_bytes : (forms : List Form) (earlier : List (List ℕ)) (n : ℕ) → later_levels plain_level forms earlier (plain_levels earlier n) ≡ []
plain_bytes forms earlier zero = refl
plain_bytes [] earlier (suc n) = refl
plain_bytes (f ∷ forms) earlier (suc n) =
    let plain = plain_level earlier in
    let next = earlier ++ plain ∷ [] in
    let more = later_levels plain_level forms next (plain_levels next n) in
    ap (λ (t : Bool). cond t more (ended_level plain_level f earlier plain (plain_levels next n) ++ more)) (same_bytes plain plain refl)
    ∙ plain_bytes forms next n
