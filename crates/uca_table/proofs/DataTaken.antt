-- Where a range must come, a line is taken or rejected by what its words say.
use Rattle.std.proofs.Common.{◌≡◌, ◌≢◌, ◌⊎◌, inl, inr, ℕ, Bool, true, false, List, Result, Ok, IfErr, OnOk, sym, ◌∙◌, subst}
use Rattle.std.specs.Str.{bytes_eq}
use Rattle.std.proofs.lemmas.Slice.Eq.{bytes_eq-Decides}
use Rattle.std.proofs.lemmas.Result.{on_ok_weaker, MatchResult-weaker}
use Rattle.uca_lines.specs.Fields.{text_of}
use Rattle.uca_values.specs.declared.faults.FaultKind.{FaultKind}
use Rattle.uca_values.specs.declared.faults.FaultKind.TheVariants as kinds
use Rattle.uca_values.specs.Content.{DataContent}
use Rattle.uca_table.specs.declared.data_file.lines.RangeLine.{RangeLine}
use Rattle.uca_table.specs.DataLines.{OfRange, AreWords, read_words, header}
use Rattle.uca_table.specs.DataSoFar.{Said, Cause, RangeCause, IsRangeDue, summary}
use Rattle.uca_table.specs.inside.DataSteps.{Takes, IsAdded}
use Rattle.uca_table.proofs.DataWords.{words_exist}

pub not_header : (text : List ℕ) (b : Bool) → b ≡ bytes_eq text header → b ≡ false → text ≢ header
not_header text b e f same = let t = (bytes_eq-Decides text header).1 same in let no : true ≡ false = sym t ∙ sym e ∙ f in cc

pub words_cause : (said : Said) (line text : List ℕ) → text ≡ text_of line → IsRangeDue said text → (read : Result RangeLine FaultKind)
    → ((words : List (List ℕ)) → AreWords text words → read ≡ read_words words) → (kind : FaultKind) → RangeCause said read kind → Cause said line kind
words_cause said line text is due read value kind cause =
    let words = words_exist text in
    let P : List ℕ → Type 0 = λ t. AreWords t words.0 in
    let Q : Result RangeLine FaultKind → Type 0 = λ r. RangeCause said r kind in
    let D : List ℕ → Type 0 = IsRangeDue said in
    inr (subst D is due, (words.0, subst P is words.1, subst Q (value words.0 words.1) cause))

words_take : (old new : Said) (line text : List ℕ) → text ≡ text_of line → IsRangeDue old text → (r : RangeLine)
    → ((words : List (List ℕ)) → AreWords text words → Ok r ≡ read_words words) → IsAdded old r new → Takes old line new
words_take old new line text is due r value added =
    let words = words_exist text in
    let P : List ℕ → Type 0 = λ t. AreWords t words.0 in
    record { item = OfRange r; form = (words.0, subst P is words.1, sym (value words.0 words.1)); adds = (due.started, added) }

-- ---- By the result of the addition

pub added_takes : (old new : DataContent) (started : Bool) (line text : List ℕ) → text ≡ text_of line → IsRangeDue (summary started old) text
    → (r : RangeLine) → ((words : List (List ℕ)) → AreWords text words → Ok r ≡ read_words words) → (result : Result (Unit {0}) FaultKind)
    → OnOk result (IsAdded (summary true old) r (summary true new)) → OnOk result (Takes (summary started old) line (summary started new))
added_takes old new started line text is due r value result added =
    let P : Bool → Type 0 = λ b. IsAdded (summary b old) r (summary b new) in
    on_ok_weaker result (λ a. words_take (summary started old) (summary started new) line text is due r value (subst P (sym due.started) a)) added

pub refused_cause : (old new : DataContent) (started : Bool) (line text : List ℕ) → text ≡ text_of line → IsRangeDue (summary started old) text
    → (r : RangeLine) → ((words : List (List ℕ)) → AreWords text words → Ok r ≡ read_words words) → (result : Result (Unit {0}) FaultKind)
    → IfErr result (λ kind. (new ≡ old) × ((kind ≡ kinds.Memory) ⊎ RangeCause (summary true old) (Ok r) kind))
    → IfErr result (λ kind. (kind ≡ kinds.Memory) ⊎ Cause (summary started old) line kind)
refused_cause old new started line text is due r value result refused =
    MatchResult-weaker result refused (λ _ h. h) (λ kind h. elim h.1 [
      | inl memory ↦ inl memory
      | inr cause ↦
          let P : Bool → Type 0 = λ b. RangeCause (summary b old) (Ok r) kind in
          inr (words_cause (summary started old) line text is due (Ok r) value kind (subst P (sym due.started) cause))
    ])
