-- What is sent of a text, and what waits of it.
use Rattle.std.proofs.Common.{◌≡◌, ℕ, zero, suc, ◌+◌, ◌<◌, ◌≤◌, List, [], ◌∷◌, ◌++◌, Option, true, Result, Ok, Err, length, take, drop, take-append-drop, refl, sym, ap, subst, ◌∙◌, arith, length-append}
use Rattle.std.specs.Prelude.{OnErr}
use Rattle.std.specs.Io.KnownBytes.{Appends}
use Rattle.std.proofs.KnownBytes.{Appends-trans}
use Rattle.std.proofs.lemmas.List.{length-take-le, length-drop, take_all, drop_all, drop-append-le}
use Rattle.uca_weights.specs.Streams.{SinkState}
use Rattle.uca_weights.specs.Writes.{WentOut}
use Rattle.uca_lines.specs.OutputBuffer.{BufferState, IsBuffered}
use Rattle.uca_lines.specs.Buffered.{count_of, HasWrittenThrough, FailsToWriteThrough}
use Rattle.uca_lines.proofs.BufferedLemmas.{WentOut-more}

-- of a text after others its front
take-after : (xs ys : List ℕ) (w n : ℕ) → length xs ≡ w → take (w + n) (xs ++ ys) ≡ xs ++ take n ys
take-after [] ys w n is = ap (λ k. take k ys) (let none : w + n ≡ n = omega arith in none)
take-after (x ∷ xs) ys zero n is = absurd (omega arith)
take-after (x ∷ xs) ys (suc w) n is =
    ap (λ k. take k (x ∷ (xs ++ ys))) (let one : suc w + n ≡ suc (w + n) = omega arith in one)
    ∙ ap (λ (l : List ℕ). x ∷ l) (take-after xs ys w n (omega arith))

-- what went out of it
pub sent_part : (start out now : Option (List ℕ)) (before text : List ℕ) (w n : ℕ) → Appends start out before → length before ≡ w → WentOut out now text n
    → WentOut start now (before ++ text) (w + n)
sent_part start out now before text w n h is went = (
  subst (λ (l : List ℕ). Appends start now l) (sym (take-after before text w n is)) (Appends-trans start out now before (take n text) h went.0),
  omega (arith, is, went.1, length-append before text),
)

-- a text is what went out and what waits
pub flushed : (P : List ℕ → Type 0) (start out : Option (List ℕ)) (before : List ℕ) (b : BufferState) (piece : List ℕ) (w : ℕ) → IsBuffered start out before b
    → piece ≡ b.held → w ≡ b.written → ((front : List ℕ) → Appends start out front → length front ≡ w → P (front ++ piece)) → P before
flushed P start out before b piece w h held written sent =
    subst P (ap (λ (l : List ℕ). take b.written before ++ l) (held ∙ h.held) ∙ take-append-drop b.written before)
    (sent (take b.written before) h.went_out.0 (length-take-le b.written before h.went_out.1 ∙ sym written))

-- as many bytes wait as the buffer holds
pub count_held : (len : ℕ) (bytes : List ℕ) → len ≤ 65536 → length bytes ≡ 65536 → length (take len bytes) ≡ len
count_held len bytes within size = length-take-le len bytes (omega arith)

-- a text that waits is written
pub held_through : (text : List ℕ) (b c : BufferState) (out : SinkState) → c.held ≡ b.held ++ text → c.written ≡ b.written → HasWrittenThrough text b c out out
held_through text b c out held written = record {
  writes = λ start before h. record {
    went_out = rw written (WentOut-more start out.contents before text b.written h.went_out);
    held = held ∙ ap (λ (l : List ℕ). l ++ text) h.held ∙ sym (drop-append-le b.written before text h.went_out.1)
        ∙ ap (λ n. drop n (before ++ text)) (sym written);
  };
  count = omega (arith, written, ap length held, length-append b.held text);
  failed = refl;
}

-- an error in what waited is one in the text
pub flush_fails : (text : List ℕ) (b : BufferState) (out now : SinkState) (n : ℕ)
    → ((start : Option (List ℕ)) (before : List ℕ) → IsBuffered start out.contents before b → WentOut start now.contents before n)
    → n < b.written + length b.held → now.failed ≡ true → FailsToWriteThrough text b out now n
flush_fails text b out now n went few failed = record {
  went_out = λ start before h. WentOut-more start now.contents before text n (went start before h);
  not_all = omega (arith, few);
  failed = failed;
}

-- after an error the buffer has as many bytes as before
pub same_count : {A E : Type 0} (r : Result A E) (b c d : BufferState) → OnErr r (d ≡ c) → c.held ≡ [] → c.written ≡ b.written + length b.held
    → OnErr r (count_of d ≡ count_of b)
same_count (Ok x) b c d same empty written = tt
same_count (Err e) b c d same empty written = ap count_of same ∙ (let all : count_of c ≡ count_of b = omega (arith, written, ap length empty) in all)

-- through an empty buffer all that was written went out
all_out : (start out : Option (List ℕ)) (before : List ℕ) (b : BufferState) (w : ℕ) → IsBuffered start out before b → b.held ≡ [] → w ≡ b.written
    → Appends start out before × (length before ≡ w)
all_out start out before b w h empty is =
    let whole : length before ≡ b.written = omega (arith, h.went_out.1, ap length (sym empty ∙ h.held), length-drop b.written before) in
    (subst (λ (l : List ℕ). Appends start out l) (take_all b.written before (omega (arith, whole))) h.went_out.0, whole ∙ sym is)

-- a text that is sent through it is written
pub sent_through : (text : List ℕ) (b c : BufferState) (out now : SinkState) (w : ℕ) → b.held ≡ [] → c.held ≡ [] → w ≡ b.written → c.written ≡ w + length text
    → ((start : Option (List ℕ)) (before : List ℕ) → Appends start out.contents before → length before ≡ w → Appends start now.contents (before ++ text))
    → now.failed ≡ out.failed → HasWrittenThrough text b c out now
sent_through text b c out now w empty none is count sent failed = record {
  writes = λ start before h.
      let old = all_out start out.contents before b w h empty is in
      let all : length (before ++ text) ≡ c.written = omega (arith, old.1, count, length-append before text) in
      record {
        went_out = (
          subst (λ (l : List ℕ). Appends start now.contents l) (sym (take_all c.written (before ++ text) (omega (arith, all)))) (sent start before old.0 old.1),
          omega (arith, all),
        );
        held = none ∙ sym (drop_all c.written (before ++ text) (omega (arith, all)));
      };
  count = omega (arith, is, count, ap length empty, ap length none);
  failed = failed;
}

-- or the writer failed
pub sent_fails : (text : List ℕ) (b : BufferState) (out now : SinkState) (w n : ℕ) → b.held ≡ [] → w ≡ b.written
    → ((start : Option (List ℕ)) (before : List ℕ) → Appends start out.contents before → length before ≡ w → WentOut start now.contents (before ++ text) n)
    → n < w + length text → now.failed ≡ true → FailsToWriteThrough text b out now n
sent_fails text b out now w n empty is sent few failed = record {
  went_out = λ start before h. let old = all_out start out.contents before b w h empty is in sent start before old.0 old.1;
  not_all = omega (arith, is, few);
  failed = failed;
}
