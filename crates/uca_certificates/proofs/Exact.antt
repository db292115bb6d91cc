-- Lines say the runs of one certificate, and a line with a cause is part of no certificate.
use Rattle.std.proofs.Common.{◌≡◌, ◌≢◌, ℕ, ◌+◌, ◌<◌, ◌≤◌, ◌==◌, Bool, true, false, List, [], ◌∷◌, ◌++◌, length, map, refl, sym, ap, subst, ◌∙◌, append-nil, arith, length-append}
use Rattle.std.specs.Bool.{⊤}
use Rattle.std.specs.Prelude.{if◌then◌else◌}
use Rattle.std.specs.List.{AllByRecursion}
use borrow.Author.Tests.{eqb-true}
use Rattle.uca_weights.specs.declared.Level.{Level}
use Rattle.uca_weights.specs.declared.Level.TheVariants.{One, Two, Three}
use Rattle.uca_weights.specs.declared.maps.Run.{Run}
use Rattle.uca_weights.specs.Levels.{level_number}
use Rattle.uca_lines.specs.FileMeanings.{IsExact}
use Rattle.uca_certificates.specs.declared.faults.CertificateFaultKind.{CertificateFaultKind}
use Rattle.uca_certificates.specs.declared.faults.CertificateFaultKind.TheVariants as kinds
use Rattle.uca_weights.specs.PerLevel.{at_level}
use Rattle.uca_certificates.specs.Certificates.{CertificateContent}
use Rattle.uca_certificates.specs.Texts.{RunLine, run_text, of_level, run_lines, IsRunLine, IsLine, Says, Cause}
use Rattle.uca_certificates.proofs.LineLaws.{line_same}

-- ---- The runs of a level among lines

-- the runs of the lines of one level
abbrev pub runs_of : Level → List RunLine → List Run
runs_of level [] = []
runs_of level (l ∷ ls) = if level_number l.level == level_number level then l.run ∷ runs_of level ls else runs_of level ls

-- those of two texts, put together
runs_of-append : (level : Level) (xs ys : List RunLine) → runs_of level (xs ++ ys) ≡ runs_of level xs ++ runs_of level ys
runs_of-append level [] ys = refl
runs_of-append level (x ∷ xs) ys = cases (level_number x.level == level_number level) refl (runs_of-append level xs ys)
  where
    cases : (b : Bool) → (level_number x.level == level_number level) ≡ b → runs_of level (xs ++ ys) ≡ runs_of level xs ++ runs_of level ys
        → runs_of level (x ∷ (xs ++ ys)) ≡ runs_of level (x ∷ xs) ++ runs_of level ys
    cases true e h = rw (e, h) refl
    cases false e h = rw (e, h) refl

-- all runs of a level are its runs
runs_of-same : (level : Level) (runs : List Run) → runs_of level (of_level level runs) ≡ runs
runs_of-same level [] = refl
runs_of-same One (r ∷ runs) = ap (λ (rs : List Run). r ∷ rs) (runs_of-same One runs)
runs_of-same Two (r ∷ runs) = ap (λ (rs : List Run). r ∷ rs) (runs_of-same Two runs)
runs_of-same Three (r ∷ runs) = ap (λ (rs : List Run). r ∷ rs) (runs_of-same Three runs)

-- and none is of another
runs_of-other : (level other : Level) (runs : List Run) → (level_number other == level_number level) ≡ false → runs_of level (of_level other runs) ≡ []
runs_of-other level other [] e = refl
runs_of-other level other (r ∷ runs) e = rw e (runs_of-other level other runs e)

-- those of the three levels
runs_of-three : (level : Level) (content : CertificateContent) → runs_of level (run_lines content) ≡ runs_of level (of_level One content.primary)
    ++ (runs_of level (of_level Two content.secondary) ++ runs_of level (of_level Three content.tertiary))
runs_of-three level content = runs_of-append level (of_level One content.primary) (of_level Two content.secondary ++ of_level Three content.tertiary)
    ∙ ap (λ rs. runs_of level (of_level One content.primary) ++ rs) (runs_of-append level (of_level Two content.secondary) (of_level Three content.tertiary))

-- of the lines of a certificate they are its runs
pub runs_of-lines : (level : Level) (content : CertificateContent) → runs_of level (run_lines content) ≡ at_level level content
runs_of-lines One content = runs_of-three One content
    ∙ rw (runs_of-same One content.primary, runs_of-other One Two content.secondary refl, runs_of-other One Three content.tertiary refl)
    (append-nil content.primary)
runs_of-lines Two content = runs_of-three Two content
    ∙ rw (runs_of-other Two One content.primary refl, runs_of-same Two content.secondary, runs_of-other Two Three content.tertiary refl)
    (append-nil content.secondary)
runs_of-lines Three content = runs_of-three Three content
    ∙ rw (runs_of-other Three One content.primary refl, runs_of-other Three Two content.secondary refl, runs_of-same Three content.tertiary) refl

-- a certificate is its runs
same_content : (c d : CertificateContent) → c.primary ≡ d.primary → c.secondary ≡ d.secondary → c.tertiary ≡ d.tertiary → c ≡ d
same_content c d p s t = λ i. record { primary = p i; secondary = s i; tertiary = t i }

-- the lines determine the runs
pub content_same : (c d : CertificateContent) → run_lines c ≡ run_lines d → c ≡ d
content_same c d e =
    let at = λ (level : Level). sym (runs_of-lines level c) ∙ ap (runs_of level) e ∙ runs_of-lines level d in
    same_content c d (at One) (at Two) (at Three)

-- ---- Lines as texts

-- lines of the same texts are the same
texts_same : (xs ys : List RunLine) → AllByRecursion IsRunLine xs → AllByRecursion IsRunLine ys → map run_text xs ≡ map run_text ys → xs ≡ ys
texts_same [] [] h k e = refl
texts_same [] (y ∷ ys) h k e = absurd (cc)
texts_same (x ∷ xs) [] h k e = absurd (cc)
texts_same (x ∷ xs) (y ∷ ys) h k e =
    let first : run_text x ≡ run_text y = cc in
    let others : map run_text xs ≡ map run_text ys = cc in
    let here : x ≡ y = line_same (run_text x) x y (record { text = refl; fits = h.0 }) (record { text = first; fits = k.0 }) in
    let there : xs ≡ ys = texts_same xs ys h.1 k.1 others in
    cc

-- lines say one certificate
pub says_same : (lines : List (List ℕ)) (s t : CertificateContent) → Says lines s → Says lines t → s ≡ t
says_same lines s t h k = content_same s t (texts_same (run_lines s) (run_lines t) h.fit k.fit (sym h.text ∙ k.text))

-- what begins with the texts of some lines begins with these lines
record IsCut (front whole : List RunLine) (line : List ℕ) : Type 0 where
  next : RunLine
  rest : List RunLine
  parts : whole ≡ front ++ next ∷ rest
  is_line : IsLine line next

-- of the texts of lines, the next says the next line
cut : (front whole : List RunLine) (line : List ℕ) (more : List (List ℕ)) → AllByRecursion IsRunLine front → AllByRecursion IsRunLine whole
    → map run_text whole ≡ map run_text front ++ line ∷ more → IsCut front whole line
cut [] [] line more h k e = absurd (cc)
cut [] (w ∷ ws) line more h k e = record { next = w; rest = ws; parts = refl; is_line = record { text = cc; fits = k.0 } }
cut (f ∷ fs) [] line more h k e = absurd (cc)
cut (f ∷ fs) (w ∷ ws) line more h k e =
    let first : run_text f ≡ run_text w = cc in
    let others : map run_text ws ≡ map run_text fs ++ line ∷ more = cc in
    let here : f ≡ w = line_same (run_text f) f w (record { text = refl; fits = h.0 }) (record { text = first; fits = k.0 }) in
    let there = cut fs ws line more h.1 k.1 others in
    let parts : ws ≡ fs ++ there.next ∷ there.rest = there.parts in
    record { next = there.next; rest = there.rest; parts = cc; is_line = there.is_line }

-- ---- Order

-- no level falls, from this number on
abbrev AreSorted : ℕ → List RunLine → Type 0
AreSorted low [] = ⊤
AreSorted low (l ∷ ls) = (low ≤ level_number l.level) × AreSorted (level_number l.level) ls

-- from a lower number on, too
sorted_lower : (low high : ℕ) (ls : List RunLine) → low ≤ high → AreSorted high ls → AreSorted low ls
sorted_lower low high [] e h = tt
sorted_lower low high (l ∷ ls) e h = (omega arith, h.1)

-- the lines of a level may come before those of higher ones
sorted_level : (level : Level) (runs : List Run) (rest : List RunLine) → AreSorted (level_number level) rest
    → AreSorted (level_number level) (of_level level runs ++ rest)
sorted_level level [] rest h = h
sorted_level level (r ∷ runs) rest h = (omega arith, sorted_level level runs rest h)

-- or alone
sorted_last : (level : Level) (runs : List Run) → AreSorted (level_number level) (of_level level runs)
sorted_last level [] = tt
sorted_last level (r ∷ runs) = (omega arith, sorted_last level runs)

-- in a certificate no level falls
sorted_lines : (content : CertificateContent) → AreSorted 1 (run_lines content)
sorted_lines content =
    let third = sorted_last Three content.tertiary in
    let second = sorted_level Two content.secondary _ (sorted_lower 2 3 (of_level Three content.tertiary) (omega arith) third) in
    sorted_level One content.primary _ (sorted_lower 1 2 (of_level Two content.secondary ++ of_level Three content.tertiary) (omega arith) second)

-- each line is of that number or a higher one
sorted_at : (low : ℕ) (front : List RunLine) (l : RunLine) (rest : List RunLine) → AreSorted low (front ++ l ∷ rest) → low ≤ level_number l.level
sorted_at low [] l rest h = h.0
sorted_at low (f ∷ fs) l rest h = omega (arith, h.0, sorted_at (level_number f.level) fs l rest h.1)

-- a line after one of some level has no lower level
sorted_after : (low : ℕ) (front : List RunLine) (l : RunLine) (rest : List RunLine) (higher : Level) → AreSorted low (front ++ l ∷ rest)
    → runs_of higher front ≢ [] → level_number higher ≤ level_number l.level
sorted_after low [] l rest higher h some = absurd (some refl)
sorted_after low (f ∷ fs) l rest higher h some =
    cases (level_number f.level == level_number higher) refl (sorted_after (level_number f.level) fs l rest higher h.1)
  where
    cases : (b : Bool) → (level_number f.level == level_number higher) ≡ b → (runs_of higher fs ≢ [] → level_number higher ≤ level_number l.level)
        → level_number higher ≤ level_number l.level
    cases true e others = omega (arith, eqb-true (level_number f.level) (level_number higher) e, sorted_at (level_number f.level) fs l rest h.1)
    cases false e others = others (λ none. some (rw e none))

-- ---- A cause excludes that a line is part of acceptable lines

-- with a line more its level has one run more at least
one_more : (front : List RunLine) (next : RunLine) (rest : List RunLine) → length (runs_of next.level front)
    + 1 ≤ length (runs_of next.level (front ++ next ∷ rest))
one_more front next rest =
    let here : runs_of next.level (next ∷ rest) ≡ next.run ∷ runs_of next.level rest = itself next.level next.run rest in
    omega (
      arith,
      ap length (runs_of-append next.level front (next ∷ rest)),
      length-append (runs_of next.level front) (runs_of next.level (next ∷ rest)),
      ap length here,
    )
  where
    itself : (level : Level) (run : Run) (ls : List RunLine) → runs_of level (record { level = level; run = run } ∷ ls) ≡ run ∷ runs_of level ls
    itself One run ls = refl
    itself Two run ls = refl
    itself Three run ls = refl

-- lines, one of them with a cause, say no certificate
excluded : (before : List (List ℕ)) (s : CertificateContent) (line : List ℕ) (kind : CertificateFaultKind) (more : List (List ℕ))
    (t : CertificateContent) → Says before s → Cause s line kind → Says (before ++ line ∷ more) t → ⊥
excluded before s line kind more t h cause k =
    by_kind kind (cut (run_lines s) (run_lines t) line more h.fit k.fit (sym k.text ∙ ap (λ b. b ++ line ∷ more) h.text)) cause
  where
    by_kind : (kind : CertificateFaultKind) → IsCut (run_lines s) (run_lines t) line → Cause s line kind → ⊥
    by_kind kinds.Line c cause = cause c.next c.is_line
    by_kind kinds.Order c cause =
        let same : cause.0 ≡ c.next = line_same line cause.0 c.next cause.1 c.is_line in
        let low : level_number cause.0.level ≡ level_number c.next.level = ap (λ (l : RunLine). level_number l.level) same in
        let higher = cause.2.0 in
        let above : level_number cause.0.level < level_number higher = cause.2.1 in
        let behind = sorted_after 1 (run_lines s) c.next c.rest higher (subst (AreSorted 1) c.parts (sorted_lines t))
        (λ none. cause.2.2 (sym (runs_of-lines higher s) ∙ none)) in
        omega (arith, low, above, behind)
    by_kind kinds.Limit c cause =
        let same : cause.0 ≡ c.next = line_same line cause.0 c.next cause.1 c.is_line in
        let full : length (at_level c.next.level s) ≡ 0xFFFF = subst (λ (l : RunLine). length (at_level l.level s) ≡ 0xFFFF) same cause.3 in
        let more_runs = one_more (run_lines s) c.next c.rest in
        omega (
          arith,
          full,
          more_runs,
          ap length (runs_of-lines c.next.level s),
          ap length (ap (runs_of c.next.level) c.parts),
          ap length (runs_of-lines c.next.level t),
          k.few c.next.level,
        )
    by_kind (kinds.Map fault) c cause = cause
    by_kind kinds.Read c cause = cause
    by_kind kinds.Memory c cause = cause

-- so lines are exact
pub exact : IsExact Says Cause
exact = record { same = says_same; excluded = excluded }
