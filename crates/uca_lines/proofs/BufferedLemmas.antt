-- A text that is written to a buffer part by part: what went out and what waits, and an error in a part.
use Rattle.std.proofs.Common.{◌≡◌, ℕ, ◌+◌, ◌<◌, ◌≤◌, List, [], ◌∷◌, ◌++◌, Option, Some, None, Result, Ok, Err, length, take, drop, get_or, take-append-drop, refl, sym, ap, subst, ◌∙◌, append_assoc, arith, length-append}
use Rattle.std.specs.Prelude.{IfErr}
use Rattle.std.specs.List.{flat_map}
use Rattle.std.specs.Result.{IsErrAnd}
use Rattle.std.specs.Io.KnownBytes.{Appends}
use Rattle.std.proofs.lemmas.List.{take-append-le, append-nil, take_more, take_all, drop_all, length-drop}
use Rattle.std.proofs.lemmas.Grind.{flat_map-append}
use Rattle.std.proofs.lemmas.Result.{err_from_is_err_and}
use Rattle.uca_weights.specs.Streams.{SinkState}
use Rattle.uca_weights.specs.Writes.{WentOut, Writes}
use Rattle.uca_weights.specs.declared.streams.sink.WriteFault.{WriteFault}
use Rattle.uca_lines.specs.OutputBuffer.{BufferState, IsBuffered}
use Rattle.uca_lines.specs.Buffered.{count_of, HasRoom, HasWrittenThrough, FailsToWriteThrough, WritesThrough}

-- ---- Two texts, in turn

-- nothing more is written
pub written_none : (buffer : BufferState) (out : SinkState) → HasWrittenThrough [] buffer buffer out out
written_none buffer out = record {
  writes = λ start before h. subst (λ (text : List ℕ). IsBuffered start out.contents text buffer) (sym (append-nil before)) h;
  count = omega arith;
  failed = refl;
}

-- one text after the other
pub written_then : {front piece : List ℕ} {b c d : BufferState} {s t u : SinkState} → HasWrittenThrough front b c s t → HasWrittenThrough piece c d t u
    → HasWrittenThrough (front ++ piece) b d s u
written_then {front} {piece} {b} {c} {d} {s} {t} {u} h k = record {
  writes = λ start before e. subst (λ (text : List ℕ). IsBuffered start u.contents text d) (append_assoc before front piece)
      (k.writes start (before ++ front) (h.writes start before e));
  count = omega (arith, h.count, k.count, length-append front piece);
  failed = k.failed ∙ h.failed;
}

-- of a longer text as much went out
pub WentOut-more : (start now : Option (List ℕ)) (text more : List ℕ) (n : ℕ) → WentOut start now text n → WentOut start now (text ++ more) n
WentOut-more start now text more n (went, few) =
    (subst (λ (l : List ℕ). Appends start now l) (sym (take-append-le n text more few)) went, omega (arith, length-append text more))

-- an error in a piece of a text is one in the text
pub fails_then : {front piece : List ℕ} {b c : BufferState} {s t u : SinkState} {written : ℕ} (more : List ℕ) → HasWrittenThrough front b c s t
    → FailsToWriteThrough piece c t u written → FailsToWriteThrough ((front ++ piece) ++ more) b s u written
fails_then {front} {piece} {b} {c} {s} {t} {u} {written} more h k = record {
  went_out = λ start before e.
      let there = WentOut-more start u.contents ((before ++ front) ++ piece) more written (k.went_out start (before ++ front) (h.writes start before e)) in
      subst (λ (text : List ℕ). WentOut start u.contents text written)
      (ap (λ l. l ++ more) (append_assoc before front piece) ∙ append_assoc before (front ++ piece) more) there;
  not_all = omega (arith, h.count, k.not_all, length-append (front ++ piece) more, length-append front piece);
  failed = k.failed;
}

-- all that waited went out, and nothing waits after it
pub emptied : {b c : BufferState} {s t : SinkState}
    → ((start : Option (List ℕ)) (before : List ℕ) → IsBuffered start s.contents before b → Appends start t.contents before)
    → c.held ≡ [] → c.written ≡ b.written + length b.held → t.failed ≡ s.failed → HasWrittenThrough [] b c s t
emptied {b} {c} {s} {t} out empty count failed = record {
  writes = λ start before h.
      let whole : c.written ≡ length before = omega (arith, count, h.went_out.1, ap length h.held, length-drop b.written before) in
      subst (λ (text : List ℕ). IsBuffered start t.contents text c) (sym (append-nil before)) (record {
        went_out = (
          subst (λ (text : List ℕ). Appends start t.contents text) (sym (take_all c.written before (omega (arith, whole)))) (out start before h),
          omega (arith, whole),
        );
        held = empty ∙ sym (drop_all c.written before (omega (arith, whole)));
      });
  count = omega (arith, count, ap length empty);
  failed = failed;
}

-- after nothing a text is written as at the start
pub after_nothing : {A : Type 0} {b c : BufferState} {s t : SinkState} (text : List ℕ) (d : BufferState) (u : SinkState) (r : Result A WriteFault) → HasWrittenThrough [] b c s t
    → WritesThrough text c d t u r → WritesThrough text b d s u r
after_nothing text d u (Ok x) h k = written_then h k
after_nothing {b = b} {s = s} text d u (Err e) h k =
    subst (λ (l : List ℕ). FailsToWriteThrough l b s u e.written) (append-nil text) (fails_then [] h k)

-- ---- The parts of a text

-- with one part more, the front grows by it
front_grows : {X : Type 0} (f : X → List ℕ) (xs : List X) (k : ℕ) (d : X) → k < length xs
    → flat_map f (take (k + 1) xs) ≡ flat_map f (take k xs) ++ f (get_or xs k d)
front_grows f xs k d h = ap (flat_map f) (take_more xs k d h) ∙ (flat_map-append f (take k xs) (get_or xs k d ∷ [])
    ∙ ap (λ l. flat_map f (take k xs) ++ l) (append-nil (f (get_or xs k d))))

-- the front, a part, and the parts after it
goes_on : {X : Type 0} (f : X → List ℕ) (xs : List X) (k : ℕ) (d : X) → k < length xs
    → flat_map f xs ≡ (flat_map f (take k xs) ++ f (get_or xs k d)) ++ flat_map f (drop (k + 1) xs)
goes_on f xs k d h = ap (flat_map f) (sym (take-append-drop (k + 1) xs))
    ∙ (flat_map-append f (take (k + 1) xs) (drop (k + 1) xs) ∙ ap (λ l. l ++ flat_map f (drop (k + 1) xs)) (front_grows f xs k d h))

-- In these the part at k of the parts f makes of xs is `piece`, and those before it have been written.

-- there is room for a part where there is room for the text
pub part_fits : {X : Type 0} (f : X → List ℕ) (xs : List X) (k : ℕ) (d : X) (text piece : List ℕ) {b c : BufferState} {s t : SinkState}
    → text ≡ flat_map f xs → piece ≡ f (get_or xs k d) → k < length xs → HasWrittenThrough (flat_map f (take k xs)) b c s t → HasRoom b (length text)
    → HasRoom c (length piece)
part_fits f xs k d text piece {b} {c} whole is h written_through room =
    let front = flat_map f (take k xs) in
    let one = f (get_or xs k d) in
    let more = flat_map f (drop (k + 1) xs) in
    omega (arith, written_through.count, room, ap length is, ap length (whole ∙ goes_on f xs k d h), length-append (front ++ one) more, length-append front one)

-- with the part the front is one longer
pub part_written : {X : Type 0} (f : X → List ℕ) (xs : List X) (k : ℕ) (d : X) {piece : List ℕ} {b c e : BufferState} {s t u : SinkState}
    → piece ≡ f (get_or xs k d) → k < length xs → HasWrittenThrough (flat_map f (take k xs)) b c s t → HasWrittenThrough piece c e t u
    → HasWrittenThrough (flat_map f (take (k + 1) xs)) b e s u
part_written f xs k d {piece} {b} {c} {e} {s} {t} {u} is h front one =
    subst (λ (text : List ℕ). HasWrittenThrough text b e s u) (ap (λ l. flat_map f (take k xs) ++ l) is ∙ sym (front_grows f xs k d h)) (written_then front one)

-- an error in the part is one in the text
pub part_fails : {X : Type 0} (f : X → List ℕ) (xs : List X) (k : ℕ) (d : X) (text : List ℕ) {piece : List ℕ} {b c : BufferState} {s t u : SinkState}
    {written : ℕ} → text ≡ flat_map f xs → piece ≡ f (get_or xs k d) → k < length xs → HasWrittenThrough (flat_map f (take k xs)) b c s t
    → FailsToWriteThrough piece c t u written → FailsToWriteThrough text b s u written
part_fails f xs k d text {piece} {b} {c} {s} {t} {u} {written} whole is h front one =
    subst (λ (text : List ℕ). FailsToWriteThrough text b s u written) (ap (λ l. (flat_map f (take k xs) ++ l) ++ flat_map f (drop (k + 1) xs)) is
    ∙ sym (whole ∙ goes_on f xs k d h)) (fails_then (flat_map f (drop (k + 1) xs)) front one)

-- all parts are the text
pub all_parts_written : {X : Type 0} (f : X → List ℕ) (xs : List X) (k : ℕ) (text : List ℕ) {b c : BufferState} {s t : SinkState} → text ≡ flat_map f xs
    → length xs ≤ k → HasWrittenThrough (flat_map f (take k xs)) b c s t → HasWrittenThrough text b c s t
all_parts_written f xs k text {b} {c} {s} {t} whole h written_through =
    subst (λ (l : List ℕ). HasWrittenThrough l b c s t) (ap (flat_map f) (take_all k xs h) ∙ sym whole) written_through

-- the error that a `?` returns is the part's
pub returns_fault : {A X : Type 0} (f : X → List ℕ) (xs : List X) (k : ℕ) (d : X) (text : List ℕ) (held : BufferState) {piece : List ℕ}
    {b c : BufferState} {s t u : SinkState} {fault : WriteFault} (r : Result A WriteFault) → text ≡ flat_map f xs → piece ≡ f (get_or xs k d)
    → k < length xs → HasWrittenThrough (flat_map f (take k xs)) b c s t → FailsToWriteThrough piece c t u fault.written → IsErrAnd r (λ e. e ≡ fault)
    → WritesThrough text b held s u r
returns_fault f xs k d text held {piece} {b} {c} {s} {t} {u} {fault} r whole part_is h front one is =
    let p = err_from_is_err_and r is in
    rw (p.1, p.2) (part_fails f xs k d text whole part_is h front one)

-- what the last part returns is true of the text
pub returns_last : {A X : Type 0} (f : X → List ℕ) (xs : List X) (k : ℕ) (d : X) (text piece : List ℕ) (held : BufferState) (u : SinkState)
    {b c : BufferState} {s t : SinkState} (r : Result A WriteFault) → text ≡ flat_map f xs → piece ≡ f (get_or xs k d) → k + 1 ≡ length xs
    → HasWrittenThrough (flat_map f (take k xs)) b c s t → WritesThrough piece c held t u r → WritesThrough text b held s u r
returns_last f xs k d text piece held u (Ok x) whole is h front one =
    all_parts_written f xs (k + 1) text whole (omega arith) (part_written f xs k d is (omega arith) front one)
returns_last f xs k d text piece held u (Err e) whole is h front one = part_fails f xs k d text whole is (omega arith) front one

-- ---- Texts of some parts

-- a part that is written out
abbrev pub part : List ℕ → List ℕ
part p = p

-- ---- A text from its beginning

-- an empty buffer has an empty text
pub none_buffered : (known : Option (List ℕ)) (buffer : BufferState) → buffer.held ≡ [] → buffer.written ≡ 0 → IsBuffered known known [] buffer
none_buffered known buffer held written = record {
  went_out = rw written (stays known, omega arith);
  held = rw (held, written) refl;
}
  where
    stays : (k : Option (List ℕ)) → Appends k k []
    stays None = tt
    stays (Some xs) = sym (append-nil xs)

-- and counts no byte
pub nothing_counted : (buffer : BufferState) → buffer.held ≡ [] → buffer.written ≡ 0 → count_of buffer ≡ 0
nothing_counted buffer held written = omega (arith, ap length held)

-- the error that a `?` returns says how much went out
pub fault_writes : {A : Type 0} {fault : WriteFault} {text : List ℕ} {buffer : BufferState} {s u : SinkState} (r : Result A WriteFault)
    → buffer.held ≡ [] → buffer.written ≡ 0 → FailsToWriteThrough text buffer s u fault.written → IsErrAnd r (λ e. e ≡ fault) → Writes s.contents u.contents text r
fault_writes {buffer = buffer} {s = s} r held written h is =
    let p = err_from_is_err_and r is in
    rw (p.1, p.2) (h.went_out s.contents [] (none_buffered s.contents buffer held written))

-- and that it was not all
pub fault_leaves_some : {A : Type 0} {fault : WriteFault} {text : List ℕ} {buffer : BufferState} {s u : SinkState} (r : Result A WriteFault)
    → buffer.held ≡ [] → buffer.written ≡ 0 → FailsToWriteThrough text buffer s u fault.written → IsErrAnd r (λ e. e ≡ fault) → IfErr r (λ e. e.written < length text)
fault_leaves_some {text = text} {buffer = buffer} r held written h is =
    let p = err_from_is_err_and r is in
    rw (p.1, p.2) (omega (arith, h.not_all, nothing_counted buffer held written))

-- all that waits is written
pub flush_leaves_some : {A : Type 0} {text : List ℕ} {buffer kept : BufferState} {s t : SinkState} (r : Result A WriteFault) → buffer.held ≡ []
    → buffer.written ≡ 0 → HasWrittenThrough text buffer kept s t → IfErr r (λ e. e.written < kept.written + length kept.held)
    → IfErr r (λ e. e.written < length text)
flush_leaves_some (Ok x) held written h some = tt
flush_leaves_some {text = text} {buffer = buffer} (Err e) held written h some = omega (arith, some, h.count, nothing_counted buffer held written)
