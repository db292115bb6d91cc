-- What a step of the reader of a file does to the position that it has reached.
use Rattle.std.proofs.Common.{◌≡◌, ◌≢◌, ◌⊎◌, inl, inr, ℕ, ◌+◌, ◌<◌, ◌≤◌, Bool, true, false, ◌||◌, List, [], ◌∷◌, ◌++◌, length, Option, None, Some, Err, IfSome, IsSomeAnd, refl, sym, ◌∙◌, ap, subst, append_assoc, arith, length-append, append-nil}
use Rattle.std.specs.List.{flat_map, position_or_len}
use Rattle.std.specs.Option.{unwrap_or}
use Rattle.std.specs.Io.KnownBytes.{Consumes, IsAtEnd, prepend_known}
use Rattle.std.proofs.lemmas.Bool.{eqb-true}
use Rattle.std.proofs.lemmas.Grind.{flat_map-append}
use Rattle.uca_weights.proofs.Lists.{each_push}
use Rattle.uca_lines.specs.Lines.{is_lf, Lacks, ended}
use Rattle.uca_lines.specs.declared.files.FileForm.{FileForm}
use Rattle.uca_lines.specs.NextLine.{SaysOfBytes, IsWithinLimit, BeginsLonger}
use Rattle.uca_lines.specs.declared.lines.LineFault.{LineFault}
use Rattle.uca_lines.specs.declared.lines.LineFault.TheVariants.{TooLong, Limit, Read, Memory}
use Rattle.uca_lines.specs.FaultKinds.{kind_of_fault}
use Rattle.uca_lines.specs.Files.{EndsLine, IsFileLine, AreLines, ReadsLines, Reaches, BeginsFault, LosesPart, RefusesLine}
use Rattle.uca_lines.specs.inside.FileSteps.{TakesNext, RefusesNext}

-- of known bytes the lines before line `number` are acceptable in order and say s, and this is left
abbrev pub ReachesKnown : {K S : Type 0} → FileForm K → (List (List ℕ) → S → Type 0) → Option (List ℕ) → Option (List ℕ) → ℕ → S → Type 0
ReachesKnown form Says known left number s = IfSome known (λ bytes. IsSomeAnd left (λ rest. Reaches form Says bytes number s rest))

-- a count that is within the limit is so where there is one
within : {K : Type 0} (limit : Option K) (count : ℕ) → count ≤ 1000000 → IfSome limit (λ kind. count ≤ 1000000)
within None count few = tt
within (Some kind) count few = few

-- one more line
more_lines : {K : Type 0} (form : FileForm K) (front : List ℕ) (before : List (List ℕ)) (line : List ℕ) → AreLines form front before
    → IsFileLine form line → length before < 1000000 → AreLines form (front ++ ended line) (before ++ line ∷ [])
more_lines form front before line h fits few = record {
  parts = ap (λ (xs : List ℕ). xs ++ ended line) h.parts ∙ ap (λ (xs : List ℕ). flat_map ended before ++ xs) (sym (append-nil (ended line)))
      ∙ sym (flat_map-append ended before (line ∷ []));
  each = (each_push (IsFileLine form) before line).1 (h.each, fits);
  count = within form.too_many _ (omega (arith, length-append before (line ∷ [])));
}

-- one more line is taken
pub reaches_next : {K S : Type 0} (form : FileForm K) (Says : List (List ℕ) → S → Type 0) (known old new : Option (List ℕ)) (number : ℕ) (s t : S)
    → number ≤ 1000000 → ReachesKnown form Says known old number s → TakesNext form Says old new s t → ReachesKnown form Says known new (number + 1) t
reaches_next form Says None old new number s t few h k = tt
reaches_next form Says (Some bytes) None new number s t few h k = absurd h
reaches_next form Says (Some bytes) (Some rest) None number s t few h k = absurd k.gone
reaches_next form Says (Some bytes) (Some rest) (Some left) number s t few h k =
    let below : length h.before < 1000000 = omega (arith, h.place) in record {
      front = h.front ++ ended k.line;
      before = h.before ++ k.line ∷ [];
      parts = h.parts ∙ ap (λ (xs : List ℕ). h.front ++ xs) k.gone ∙ sym (append_assoc h.front (ended k.line) left);
      divides = more_lines form h.front h.before k.line h.divides k.fits below;
      says = k.more h.before h.says;
      place = omega (arith, h.place, length-append h.before (k.line ∷ []));
    }

-- Some lines, this many of them, say s. Where the format has no limit on lines, they are fewer.
pub record SaysSoMany {K S : Type 0} (form : FileForm K) (Says : List (List ℕ) → S → Type 0) (count : ℕ) (s : S) : Type 0 where
  pub lines : List (List ℕ)
  pub says : Says lines s
  pub many : length lines ≡ count
  pub few : form.too_many ≡ None → count < 1000000

-- no lines say what a parser says at its start
pub says_none : {K S : Type 0} (form : FileForm K) (Says : List (List ℕ) → S → Type 0) (count : ℕ) (s : S) → Says [] s → count ≡ 0
    → SaysSoMany form Says count s
says_none form Says count s says none = record { lines = []; says = says; many = sym none; few = λ _. omega (arith, none) }

-- one more line is said
pub says_next : {K S : Type 0} (form : FileForm K) (Says : List (List ℕ) → S → Type 0) (old new : Option (List ℕ)) (count next : ℕ) (s t : S)
    → SaysSoMany form Says count s → TakesNext form Says old new s t → next ≡ count + 1 → SaysSoMany form Says next t
says_next form Says old new count next s t h k is =
    let many : length (h.lines ++ k.line ∷ []) ≡ next = omega (arith, h.many, is, length-append h.lines (k.line ∷ [])) in record {
      lines = h.lines ++ k.line ∷ [];
      says = k.more h.lines h.says;
      many = many;
      few = λ none. omega (arith, many, k.few none (h.lines ++ k.line ∷ []) (k.more h.lines h.says));
    }

-- at the end all lines are read
pub reads_all : {K S : Type 0} (form : FileForm K) (Says : List (List ℕ) → S → Type 0) (known left : Option (List ℕ)) (count : ℕ) (s : S)
    → ReachesKnown form Says known left (count + 1) s → IsAtEnd left → IfSome known (λ bytes. ReadsLines form Says bytes count s)
reads_all form Says None left count s h end = tt
reads_all form Says (Some bytes) None count s h end = absurd h
reads_all form Says (Some bytes) (Some rest) count s h end =
    let whole : bytes ≡ h.front = h.parts ∙ ap (λ (xs : List ℕ). h.front ++ xs) end ∙ append-nil h.front in record {
      lines = h.before;
      divides = subst (λ (xs : List ℕ). AreLines form xs h.before) (sym whole) h.divides;
      says = h.says;
      many = omega (arith, h.place);
    }

-- a step that rejects a line rejects it in the file
pub refuses_line : {K S : Type 0} (form : FileForm K) (Says : List (List ℕ) → S → Type 0) (Cause : S → List ℕ → K → Type 0)
    (known old left : Option (List ℕ)) (number : ℕ) (s : S) (kind : K)
    → ReachesKnown form Says known old number s → RefusesNext form Cause old left number s kind
    → IfSome known (λ bytes. RefusesLine form Says Cause bytes left number kind)
refuses_line form Says Cause None old left number s kind h k = tt
refuses_line form Says Cause (Some bytes) None left number s kind h k = absurd h
refuses_line form Says Cause (Some bytes) (Some rest) None number s kind h k =
    elim k [
      | inl read ↦ absurd read.1
      | inr others ↦ elim others [
        | inl memory ↦ inr (inl (memory, record { said = s; rest = rest; reaches = h }))
        | inr fault ↦ inr (inr (record { said = s; rest = rest; reaches = h; begins = fault }))
      ]
    ]
refuses_line form Says Cause (Some bytes) (Some rest) (Some left) number s kind h k =
    elim k [
      | inl read ↦ inl (read.0, record { said = s; rest = rest; reaches = h; loses = read.1 })
      | inr others ↦ elim others [
        | inl memory ↦ inr (inl (memory, record { said = s; rest = rest; reaches = h }))
        | inr fault ↦ inr (inr (record { said = s; rest = rest; reaches = h; begins = fault }))
      ]
    ]

-- a step at the end takes nothing
pub at_end : (old new : Option (List ℕ)) (line : List ℕ) → Consumes old new line → line ≡ [] → IsAtEnd new → IsAtEnd old
at_end None new line gone empty end = tt
at_end (Some xs) None line gone empty end = absurd gone
at_end (Some xs) (Some ys) line gone empty end = gone ∙ ap (λ (l : List ℕ). l ++ ys) empty ∙ end

-- a step at which the source fails loses a part of a line
pub read_fails : {K : Type 0} (form : FileForm K) (old remaining : Option (List ℕ)) (pending part : List ℕ)
    → Consumes old (prepend_known pending remaining) part → pending ≡ [] → Lacks is_lf part → length part ≤ form.longest
    → IfSome old (λ text. IsSomeAnd remaining (LosesPart form text))
read_fails form None remaining pending part gone empty lacks short = tt
read_fails form (Some text) None pending part gone empty lacks short = absurd gone
read_fails form (Some text) (Some left) pending part gone empty lacks short = record {
  part = part;
  parts = gone ∙ ap (λ (xs : List ℕ). part ++ (xs ++ left)) empty;
  lacks = lacks;
  short = short;
}

-- the first line of a text, and what follows it
record FirstLine (text : List ℕ) : Type 0 where
  line : List ℕ
  more : List ℕ
  parts : text ≡ line ++ more
  lacks : Lacks is_lf line
  ends : EndsLine more
  len : length line ≡ position_or_len is_lf text

-- a text that begins with an LF, or not
first_line_cons : (b : ℕ) (bs : List ℕ) (t : Bool) → is_lf b ≡ t → FirstLine bs → FirstLine (b ∷ bs)
first_line_cons b bs true e r = record {
  line = [];
  more = b ∷ bs;
  parts = refl;
  lacks = tt;
  ends = eqb-true b 10 e;
  len = rw e refl;
}
first_line_cons b bs false e r = record {
  line = b ∷ r.line;
  more = r.more;
  parts = ap (λ (xs : List ℕ). b ∷ xs) r.parts;
  lacks = (e, r.lacks);
  ends = r.ends;
  len = rw e (omega (arith, r.len));
}

-- each text has a first line
first_line : (text : List ℕ) → FirstLine text
first_line [] = record { line = []; more = []; parts = refl; lacks = tt; ends = tt; len = refl }
first_line (b ∷ bs) = first_line_cons b bs (is_lf b) refl (first_line bs)

-- a text with a long first line is not empty
longer_stands : (text : List ℕ) (n : ℕ) → n < position_or_len is_lf text → text ≢ []
longer_stands [] n h e = absurd (omega arith)
longer_stands (b ∷ bs) n h e = cc

-- a line that is too long
pub too_long : {K S : Type 0} (form : FileForm K) (Cause : S → List ℕ → K → Type 0) (known : Option (List ℕ)) (number : ℕ) (s : S)
    → IfSome known (λ text. form.longest < position_or_len is_lf text) → IfSome known (λ text. BeginsFault form Cause s number text form.too_long)
too_long form Cause None number s h = tt
too_long form Cause (Some text) number s h =
    let r = first_line text in record {
      line = r.line;
      more = r.more;
      parts = r.parts;
      lacks = r.lacks;
      ends = r.ends;
      stands = longer_stands text form.longest h;
      cause = inl (omega (arith, r.len), refl);
    }

-- a text with a byte is not empty
bytes_stand : (text : List ℕ) → 0 < length text → text ≢ []
bytes_stand [] h e = absurd (omega arith)
bytes_stand (b ∷ bs) h e = cc

-- a line past the last one that is allowed
pub past_limit : {K S : Type 0} (form : FileForm K) (Cause : S → List ℕ → K → Type 0) (known : Option (List ℕ)) (number : ℕ) (s : S) (kind : K)
    → 1000000 < number → form.too_many ≡ Some kind
    → IfSome known (λ text. 0 < length text) → IfSome known (λ text. BeginsFault form Cause s number text kind)
past_limit form Cause None number s kind many limit h = tt
past_limit form Cause (Some text) number s kind many limit h =
    let r = first_line text in record {
      line = r.line;
      more = r.more;
      parts = r.parts;
      lacks = r.lacks;
      ends = r.ends;
      stands = bytes_stand text h;
      cause = inr (inl (many, limit));
    }

-- nor is one with an LF
ended-stands : (line left : List ℕ) → line ++ 10 ∷ left ≢ []
ended-stands [] left e = cc
ended-stands (b ∷ bs) left e = cc

-- a line that has an LF and isn't taken
pub line_refused : {K S : Type 0} (form : FileForm K) (Cause : S → List ℕ → K → Type 0) (old new : Option (List ℕ)) (number : ℕ) (s : S)
    (line : List ℕ) (kind : K)
    → Consumes old new (ended line) → Lacks is_lf line → Cause s line kind → IfSome old (λ text. BeginsFault form Cause s number text kind)
line_refused form Cause None new number s line kind gone lacks cause = tt
line_refused form Cause (Some text) None number s line kind gone lacks cause = absurd gone
line_refused form Cause (Some text) (Some left) number s line kind gone lacks cause =
    let parts : text ≡ line ++ 10 ∷ left = gone ∙ append_assoc line (10 ∷ []) left in record {
      line = line;
      more = 10 ∷ left;
      parts = parts;
      lacks = lacks;
      ends = refl;
      stands = λ (e : text ≡ []). ended-stands line left (sym parts ∙ e);
      cause = inr (inr (inr cause));
    }

-- a last line without LF, which has a cause of its own, or is rejected as a line
pub last_refused : {K S : Type 0} (form : FileForm K) (Cause : S → List ℕ → K → Type 0) (old new : Option (List ℕ)) (number : ℕ) (s : S)
    (line : List ℕ) (kind : K)
    → Consumes old new line → IsAtEnd new → Lacks is_lf line → 0 < length line → (kind ≡ form.no_lf) ⊎ Cause s line kind
    → IfSome old (λ text. BeginsFault form Cause s number text kind)
last_refused form Cause None new number s line kind gone end lacks stands cause = tt
last_refused form Cause (Some text) None number s line kind gone end lacks stands cause = absurd gone
last_refused form Cause (Some text) (Some left) number s line kind gone end lacks stands cause =
    let parts : text ≡ line ++ [] = gone ∙ ap (λ (xs : List ℕ). line ++ xs) end in
    let whole : text ≡ line = parts ∙ append-nil line in record {
      line = line;
      more = [];
      parts = parts;
      lacks = lacks;
      ends = tt;
      stands = λ (e : text ≡ []). bytes_stand line stands (sym whole ∙ e);
      cause = elim cause [ inl order ↦ inr (inr (inl (refl, order))) | inr own ↦ inr (inr (inr own)) ];
    }

-- where there is a limit on lines, it has a kind
limit_kind : {K : Type 0} (limit : Option K) (other : K) → (limit ≡ None → ⊥) → limit ≡ Some (unwrap_or limit other)
limit_kind None other some = absurd (some refl)
limit_kind (Some kind) other some = refl

-- a number on both sides of the limit
beyond : (number : ℕ) → 1000000 ≤ number → number < 1000000 → ⊥
beyond number h k = omega arith

-- no line was read
pub step_fault : {K S : Type 0} (form : FileForm K) (Cause : S → List ℕ → K → Type 0) (old remaining : Option (List ℕ)) (pending line : List ℕ)
    (longest number : ℕ) (s : S) (fault : LineFault)
    → longest ≡ form.longest → (form.too_many ≡ None → number < 1000000) → SaysOfBytes old (prepend_known pending remaining) line longest (Err fault)
    → Lacks is_lf line → length line ≤ longest → IsWithinLimit number (Err fault)
    → (fault ≡ Read → pending ≡ []) → RefusesNext form Cause old remaining (number + 1) s (kind_of_fault form fault)
step_fault form Cause old remaining pending line longest number s TooLong long few bytes lacks short within empty =
    inr (inr (too_long form Cause old (number + 1) s (subst (BeginsLonger old) long bytes.1)))
step_fault form Cause old remaining pending line longest number s Limit long few bytes lacks short within empty =
    inr (inr (past_limit form Cause old (number + 1) s _ (omega (arith, within))
    (limit_kind form.too_many form.too_long (λ none. beyond number within (few none))) bytes.1))
step_fault form Cause old remaining pending line longest number s Read long few bytes lacks short within empty =
    inl (refl, read_fails form old remaining pending line bytes (empty refl) lacks (omega arith))
step_fault form Cause old remaining pending line longest number s Memory long few bytes lacks short within empty = inr (inl refl)

-- a line was read that is not taken, because memory ran out or by a cause
pub line_not_taken : {K S : Type 0} (form : FileForm K) (Cause : S → List ℕ → K → Type 0) (old new left : Option (List ℕ)) (number : ℕ) (s : S)
    (line : List ℕ) (kind : K)
    → Consumes old new (ended line) → Lacks is_lf line → (kind ≡ form.no_memory) ⊎ Cause s line kind → RefusesNext form Cause old left number s kind
line_not_taken form Cause old new left number s line kind gone lacks h =
    elim h [ inl memory ↦ inr (inl memory) | inr cause ↦ inr (inr (line_refused form Cause old new number s line kind gone lacks cause)) ]

-- a last line without LF was read, and is rejected because memory ran out, for that LF, or by a cause
pub last_not_taken : {K S : Type 0} (form : FileForm K) (Cause : S → List ℕ → K → Type 0) (old new left : Option (List ℕ)) (number : ℕ) (s : S)
    (line : List ℕ) (kind : K)
    → Consumes old new line × IsAtEnd new → Lacks is_lf line → 0 < length line
    → (kind ≡ form.no_memory) ⊎ (kind ≡ form.no_lf) ⊎ Cause s line kind → RefusesNext form Cause old left number s kind
last_not_taken form Cause old new left number s line kind gone lacks stands h =
    elim h [
      | inl memory ↦ inr (inl memory)
      | inr cause ↦ inr (inr (last_refused form Cause old new number s line kind gone.0 gone.1 lacks stands cause))
    ]

-- a source that did not fail in a step has failed as before
pub failed_as_before : (old now start : Bool) → now ≡ (old || false) → old ≡ start → now ≡ start
failed_as_before true now start e h = e ∙ h
failed_as_before false now start e h = e ∙ h
