-- What follows for whole files from what lines say.
use Rattle.std.proofs.Common.{◌≡◌, ◌≢◌, ◌⊎◌, inl, inr, ℕ, suc, ◌+◌, ◌<◌, ◌≤◌, List, [], ◌∷◌, ◌++◌, length, Option, None, Some, IfSome, Result, Ok, Err, IfOk, IfErr, MatchResult, sym, ◌∙◌, ap, subst, arith, length-append, append-nil}
use Rattle.std.specs.List.{flat_map, AllByRecursion}
use Rattle.uca_lines.specs.declared.files.FileForm.{FileForm}
use Rattle.uca_lines.specs.Lines.{ended}
use Rattle.uca_lines.specs.Files.{IsFileLine, AreLines, Reads, ReadsLines, Means, BeginsFault, FaultInLine, FaultAtEnd, HasFault, Refuses}
use Rattle.uca_lines.specs.FileMeanings.{IsExact, OneMeaning, NoMeaning}
use Rattle.uca_lines.proofs.LineCuts.{line_cut, lines_cut, lines_same, ended-append}

-- a file whose lines say one thing means one thing
pub one_meaning : {K S : Type 0} (form : FileForm K) (Says : List (List ℕ) → S → Type 0)
    → ((lines : List (List ℕ)) (s t : S) → Says lines s → Says lines t → s ≡ t) → OneMeaning form Says
one_meaning {K} {S} form Says same bytes s t h k =
    let e : h.1.lines ≡ k.1.lines = lines_same form bytes h.1.lines k.1.lines h.1.divides k.1.divides in
    same k.1.lines s t (subst (λ (ls : List (List ℕ)). Says ls s) e h.1.says) k.1.says

-- the line after some of a file's lines is one that a file may have
line_after : {K : Type 0} (form : FileForm K) (before : List (List ℕ)) (line : List ℕ) (more : List (List ℕ))
    → AllByRecursion (IsFileLine form) (before ++ line ∷ more) → IsFileLine form line
line_after form [] line more h = h.0
line_after form (b ∷ bs) line more h = line_after form bs line more h.1

-- a cause in a line after acceptable ones excludes that the line and what follows it are acceptable
cause_excluded : {K S : Type 0} (form : FileForm K) (Says : List (List ℕ) → S → Type 0) (Cause : S → List ℕ → K → Type 0) → IsExact Says Cause
    → (before : List (List ℕ)) (s : S) (number : ℕ) (line after : List ℕ) (kind : K) (rest : List (List ℕ)) (t : S)
    → Says before s → number ≡ suc (length before) → after ≢ []
    → ((form.longest < length line) × (kind ≡ form.too_long)) ⊎ ((1000000 < number) × (form.too_many ≡ Some kind))
    ⊎ ((after ≡ []) × (kind ≡ form.no_lf)) ⊎ Cause s line kind
    → AllByRecursion (IsFileLine form) (before ++ line ∷ rest) → IfSome form.too_many (λ k. length (before ++ line ∷ rest) ≤ 1000000)
    → Says (before ++ line ∷ rest) t → ⊥
cause_excluded form Says Cause exact before s number line after kind rest t says place lf cause each count whole =
    let long : length (before ++ line ∷ rest) ≡ length before + length (line ∷ rest) = length-append before (line ∷ rest) in
    let short : length line ≤ form.longest = (line_after form before line rest each).short in
    elim cause [
      | inl c ↦ absurd (omega (arith, c.0))
      | inr c ↦ elim c [
        | inl d ↦
            let few : length (before ++ line ∷ rest) ≤ 1000000 = subst (λ limit. IfSome limit (λ k. length (before ++ line ∷ rest) ≤ 1000000)) d.1 count in
            absurd (omega (arith, d.0, place, few))
        | inr d ↦ elim d [
          | inl e ↦ lf e.0
          | inr e ↦ exact.excluded before s line kind rest t says e whole
        ]
      ]
    ]

-- what follows acceptable lines of a file, where an error begins it, is no more lines of it
in_rest : {K S : Type 0} (form : FileForm K) (Says : List (List ℕ) → S → Type 0) (Cause : S → List ℕ → K → Type 0) → IsExact Says Cause
    → (before : List (List ℕ)) (s : S) (number : ℕ) (text : List ℕ) (kind : K) (lines tail : List (List ℕ)) (t : S)
    → Says before s → number ≡ suc (length before) → BeginsFault form Cause s number text kind
    → AllByRecursion (IsFileLine form) lines → IfSome form.too_many (λ k. length lines ≤ 1000000) → Says lines t
    → lines ≡ before ++ tail → text ≡ flat_map ended tail → ⊥
in_rest form Says Cause exact before s number text kind lines [] t says place fault each count whole e f = fault.stands f
in_rest form Says Cause exact before s number text kind lines (l ∷ ls) t says place fault each count whole e f =
    let each_here : AllByRecursion (IsFileLine form) (before ++ l ∷ ls) = subst (AllByRecursion (IsFileLine form)) e each in
    let whole_here : Says (before ++ l ∷ ls) t = subst (λ (xs : List (List ℕ)). Says xs t) e whole in
    let count_here : IfSome form.too_many (λ k. length (before ++ l ∷ ls) ≤ 1000000) =
    subst (λ (xs : List (List ℕ)). IfSome form.too_many (λ k. length xs ≤ 1000000)) e count in
    let one = line_after form before l ls each_here in
    let cut = line_cut l fault.line (flat_map ended ls) fault.more one.lacks fault.lacks fault.ends
    (sym (ended-append l (flat_map ended ls)) ∙ sym f ∙ fault.parts) in
    let same : fault.line ≡ l = cut.0 in
    let lf : fault.more ≡ 10 ∷ flat_map ended ls = cut.1 in
    let there : fault.more ≢ [] = λ none. cc in
    let each_line : AllByRecursion (IsFileLine form) (before ++ fault.line ∷ ls) =
    subst (λ (x : List ℕ). AllByRecursion (IsFileLine form) (before ++ x ∷ ls)) (sym same) each_here in
    let whole_line : Says (before ++ fault.line ∷ ls) t = subst (λ (x : List ℕ). Says (before ++ x ∷ ls) t) (sym same) whole_here in
    let count_line : IfSome form.too_many (λ k. length (before ++ fault.line ∷ ls) ≤ 1000000) =
    subst (λ (x : List ℕ). IfSome form.too_many (λ k. length (before ++ x ∷ ls) ≤ 1000000)) (sym same) count_here in
    cause_excluded form Says Cause exact before s number fault.line fault.more kind ls t says place there fault.cause each_line count_line whole_line

-- an error in a line excludes that the bytes are lines which say something
line_excluded : {K S : Type 0} (form : FileForm K) (Says : List (List ℕ) → S → Type 0) (Cause : S → List ℕ → K → Type 0) → IsExact Says Cause
    → (bytes : List ℕ) (number : ℕ) (kind : K) (t : S) → FaultInLine form Says Cause bytes number kind → Reads form Says bytes t → ⊥
line_excluded form Says Cause exact bytes number kind t h k =
    let e : flat_map ended k.1.lines ≡ flat_map ended h.reaches.before ++ h.rest =
    sym k.1.divides.parts ∙ h.reaches.parts ∙ ap (λ (f : List ℕ). f ++ h.rest) h.reaches.divides.parts in
    let r = lines_cut form h.reaches.before k.1.lines h.rest h.reaches.divides.each k.1.divides.each e in
    in_rest form Says Cause exact h.reaches.before h.said number h.rest kind k.1.lines r.0 t
    h.reaches.says h.reaches.place h.begins k.1.divides.each k.1.divides.count k.1.says r.1 r.2

-- bytes with an error in them mean nothing with which a file may end
pub no_meaning : {K S : Type 0} (form : FileForm K) (Says : List (List ℕ) → S → Type 0) (Cause : S → List ℕ → K → Type 0) (IsUnfinished : S → Type 0)
    → IsExact Says Cause → NoMeaning form Says Cause IsUnfinished
no_meaning form Says Cause IsUnfinished exact bytes number kind t fault k finished =
    elim fault [
      | inl h ↦ line_excluded form Says Cause exact bytes number kind t h k
      | inr h ↦
          let parts : bytes ≡ h.reaches.front = h.reaches.parts ∙ append-nil h.reaches.front in
          let there : AreLines form bytes h.reaches.before = subst (λ (xs : List ℕ). AreLines form xs h.reaches.before) (sym parts) h.reaches.divides in
          let e : k.1.lines ≡ h.reaches.before = lines_same form bytes k.1.lines h.reaches.before k.1.divides there in
          let says : Says h.reaches.before t = subst (λ (ls : List (List ℕ)). Says ls t) e k.1.says in
          let same : h.said ≡ t = exact.same h.reaches.before h.said t h.reaches.says says in
          finished (subst IsUnfinished same h.unfinished)
    ]

-- bytes mean at most one value, where lines that say something give at most one
pub one_value : {K S V : Type 0} (form : FileForm K) (Says : List (List ℕ) → S → Type 0) (Gives : S → V → Type 0)
    → ((lines : List (List ℕ)) (s t : S) → Says lines s → Says lines t → s ≡ t) → ((s : S) (v w : V) → Gives s v → Gives s w → v ≡ w)
    → (bytes : List ℕ) (v w : V) → Means form Says Gives bytes v → Means form Says Gives bytes w → v ≡ w
one_value {K} {S} form Says Gives same once bytes v w h k =
    let e : h.0 ≡ k.0 = one_meaning form Says same bytes h.0 k.0 h.1 k.1 in
    once k.0 v w (subst (λ (s : S). Gives s v) e h.2) k.2

-- bytes with an error in them mean no value, if a file that may not end gives none
pub no_value : {K S V : Type 0} (form : FileForm K) (Says : List (List ℕ) → S → Type 0) (Cause : S → List ℕ → K → Type 0) (IsUnfinished : S → Type 0)
    (Gives : S → V → Type 0)
    → IsExact Says Cause → ((s : S) (v : V) → Gives s v → IsUnfinished s → ⊥)
    → (bytes : List ℕ) (number : ℕ) (kind : K) (v : V) → HasFault form Says Cause IsUnfinished bytes number kind → Means form Says Gives bytes v → ⊥
no_value form Says Cause IsUnfinished Gives exact finished bytes number kind v fault h =
    no_meaning form Says Cause IsUnfinished exact bytes number kind h.0 fault h.1 (finished h.0 v h.2)

-- a read failed, or an allocation
abbrev pub IsStopOf : {K : Type 0} → FileForm K → K → Type 0
IsStopOf form kind = (kind ≡ form.failed_read) ⊎ (kind ≡ form.no_memory)

-- a file is rejected because reading stops, or because it has an error
refusal : {K S : Type 0} (form : FileForm K) (Says : List (List ℕ) → S → Type 0) (Cause : S → List ℕ → K → Type 0) (IsUnfinished : S → Type 0)
    (bytes : List ℕ) (left : Option (List ℕ)) (number : ℕ) (kind : K)
    → Refuses form Says Cause IsUnfinished bytes left number kind → IsStopOf form kind ⊎ HasFault form Says Cause IsUnfinished bytes number kind
refusal form Says Cause IsUnfinished bytes left number kind h =
    elim h [
      | inl line ↦ elim line [
        | inl read ↦ inl (inl read.0)
        | inr others ↦ elim others [ inl memory ↦ inl (inr memory.0) | inr fault ↦ inr (inl fault) ]
      ]
      | inr end ↦ inr (inr end)
    ]

-- If a value is returned only when the bytes mean it, and an error only when it is there, then what the bytes
-- mean is returned unless reading stops.
pub only_result : {X F K S V : Type 0} (view : X → V) (line : F → ℕ) (kind : F → K) (form : FileForm K) (Says : List (List ℕ) → S → Type 0)
    (Cause : S → List ℕ → K → Type 0) (IsUnfinished : S → Type 0) (Gives : S → V → Type 0)
    → IsExact Says Cause → ((s : S) (v w : V) → Gives s v → Gives s w → v ≡ w) → ((s : S) (v : V) → Gives s v → IsUnfinished s → ⊥)
    → (bytes : List ℕ) (left : Option (List ℕ)) (r : Result X F)
    → IfOk r (λ x. Means form Says Gives bytes (view x)) → IfErr r (λ f. Refuses form Says Cause IsUnfinished bytes left (line f) (kind f))
    → (v : V) → Means form Says Gives bytes v → MatchResult r (λ x. view x ≡ v) (λ f. IsStopOf form (kind f))
only_result view line kind form Says Cause IsUnfinished Gives exact once finished bytes left (Ok x) found fault v means =
    one_value form Says Gives exact.same once bytes (view x) v found means
only_result view line kind form Says Cause IsUnfinished Gives exact once finished bytes left (Err f) found fault v means =
    elim (refusal form Says Cause IsUnfinished bytes left (line f) (kind f) fault) [
      | inl stop ↦ stop
      | inr stands ↦ absurd (no_value form Says Cause IsUnfinished Gives exact finished bytes (line f) (kind f) v stands means)
    ]

-- as `only_result`, of bytes that may be unknown
pub only_known : {X F K S V : Type 0} (view : X → V) (line : F → ℕ) (kind : F → K) (form : FileForm K) (Says : List (List ℕ) → S → Type 0)
    (Cause : S → List ℕ → K → Type 0) (IsUnfinished : S → Type 0) (Gives : S → V → Type 0)
    → IsExact Says Cause → ((s : S) (v w : V) → Gives s v → Gives s w → v ≡ w) → ((s : S) (v : V) → Gives s v → IsUnfinished s → ⊥)
    → (known left : Option (List ℕ)) (r : Result X F)
    → IfSome known (λ bytes. IfOk r (λ x. Means form Says Gives bytes (view x)))
    → IfSome known (λ bytes. IfErr r (λ f. Refuses form Says Cause IsUnfinished bytes left (line f) (kind f)))
    → IfSome known (λ bytes. (v : V) → Means form Says Gives bytes v → MatchResult r (λ x. view x ≡ v) (λ f. IsStopOf form (kind f)))
only_known view line kind form Says Cause IsUnfinished Gives exact once finished None left r found fault = tt
only_known view line kind form Says Cause IsUnfinished Gives exact once finished (Some bytes) left r found fault =
    only_result view line kind form Says Cause IsUnfinished Gives exact once finished bytes left r found fault

-- lines that are all acceptable, with which the file may not end, are rejected past the last one
pub refused_at_end : {K S : Type 0} (form : FileForm K) (Says : List (List ℕ) → S → Type 0) (IsUnfinished : S → Type 0) (bytes : List ℕ)
    (count number : ℕ) (s : S) (kind : K)
    → ReadsLines form Says bytes count s → IsUnfinished s → number ≡ count + 1 → form.early_end ≡ Some kind
    → FaultAtEnd form Says IsUnfinished bytes number kind
refused_at_end form Says IsUnfinished bytes count number s kind h unfinished place early = record {
  said = s;
  reaches = record {
    front = bytes;
    before = h.lines;
    parts = sym (append-nil bytes);
    divides = h.divides;
    says = h.says;
    place = omega (arith, h.many);
  };
  unfinished = unfinished;
  early = early;
}
