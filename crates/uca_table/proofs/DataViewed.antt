-- A reader of lines says something of the state of a taker of lines: it is so of each view of that state too.
use Rattle.std.proofs.Common.{ℕ, List, Option, Some, None, IfSome, inl, inr}
use Rattle.std.specs.Option.{IsSomeAnd}
use Rattle.uca_lines.specs.declared.files.FileForm.{FileForm}
use Rattle.uca_lines.specs.Files.{Reaches, BeginsFault, FailsIn, RefusesLine, Refuses}

reaches_view : {K T S : Type 0} (form : FileForm K) (view : T → S) (Says : List (List ℕ) → S → Type 0) (bytes : List ℕ) (number : ℕ) (t : T)
    (rest : List ℕ) → Reaches form (λ lines u. Says lines (view u)) bytes number t rest → Reaches form Says bytes number (view t) rest
reaches_view form view Says bytes number t rest h = record {
  front = h.front;
  before = h.before;
  parts = h.parts;
  divides = h.divides;
  says =
      h.says;
  place = h.place;
}

begins_view : {K T S : Type 0} (form : FileForm K) (view : T → S) (Cause : S → List ℕ → K → Type 0) (t : T) (number : ℕ) (text : List ℕ) (kind : K)
    → BeginsFault form (λ u. Cause (view u)) t number text kind → BeginsFault form Cause (view t) number text kind
begins_view form view Cause t number text kind h = record {
  line = h.line;
  more = h.more;
  parts = h.parts;
  lacks = h.lacks;
  ends = h.ends;
  stands =
      h.stands;
  cause = h.cause;
}

fails_view : {K T S : Type 0} (form : FileForm K) (view : T → S) (Says : List (List ℕ) → S → Type 0) (bytes left : List ℕ) (number : ℕ)
    → FailsIn form (λ lines u. Says lines (view u)) bytes left number → FailsIn form Says bytes left number
fails_view form view Says bytes left number h = record {
  said = view h.said;
  rest = h.rest;
  reaches =
      reaches_view form view Says bytes number h.said h.rest h.reaches;
  loses = h.loses;
}

left_view : {K T S : Type 0} (form : FileForm K) (view : T → S) (Says : List (List ℕ) → S → Type 0) (bytes : List ℕ) (left : Option (List ℕ))
    (number : ℕ) → IsSomeAnd left (λ rest. FailsIn form (λ lines u. Says lines (view u)) bytes rest number)
    → IsSomeAnd left (λ rest. FailsIn form Says bytes rest number)
left_view form view Says bytes None number h = h
left_view form view Says bytes (Some rest) number h = fails_view form view Says bytes rest number h

pub refuses_view : {K T S : Type 0} (form : FileForm K) (view : T → S) (Says : List (List ℕ) → S → Type 0) (Cause : S → List ℕ → K → Type 0)
    (bytes : List ℕ) (left : Option (List ℕ)) (number : ℕ) (kind : K)
    → RefusesLine form (λ lines u. Says lines (view u)) (λ u. Cause (view u)) bytes left number kind → RefusesLine form Says Cause bytes left number kind
refuses_view form view Says Cause bytes left number kind (inl (read, fails)) = inl (read, left_view form view Says bytes left number fails)
refuses_view form view Says Cause bytes left number kind (inr (inl (memory, h))) =
    inr (inl (memory, record { said = view h.said; rest = h.rest; reaches = reaches_view form view Says bytes number h.said h.rest h.reaches }))
refuses_view form view Says Cause bytes left number kind (inr (inr h)) =
    inr (inr (record {
      said = view h.said;
      rest = h.rest;
      reaches = reaches_view form view Says bytes number h.said h.rest h.reaches;
      begins =
          begins_view form view Cause h.said number h.rest kind h.begins;
    }))

-- an error in a line that is said of a taker is one that is said of its view, for the result of a reader of lines
pub refused_view : {K T S : Type 0} (form : FileForm K) (view : T → S) (Says : List (List ℕ) → S → Type 0) (Cause : S → List ℕ → K → Type 0)
    (IsUnfinished : S → Type 0) (known left : Option (List ℕ)) (number : ℕ) (kind : K)
    → IfSome known (λ bytes. RefusesLine form (λ lines u. Says lines (view u)) (λ u. Cause (view u)) bytes left number kind)
    → IfSome known (λ bytes. Refuses form Says Cause IsUnfinished bytes left number kind)
refused_view form view Says Cause IsUnfinished None left number kind h = tt
refused_view form view Says Cause IsUnfinished (Some bytes) left number kind h = inl (refuses_view form view Says Cause bytes left number kind h)
