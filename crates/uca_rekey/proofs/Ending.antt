-- What a run returns and leaves once it has written what waited.
use Rattle.std.proofs.Common.{◌≡◌, ℕ, true, false, Result, Err, inl, inr, refl, sym, subst}
use Rattle.uca_weights.specs.Streams.{SinkState}
use Rattle.uca_lines.specs.OutputBuffer.{BufferState}
use Rattle.uca_run_parts.specs.declared.faults.RunFault.{RunFault}
use Rattle.uca_run_parts.specs.declared.key_sizes.KeySizes.{KeySizes}
use Rattle.uca_run_parts.specs.declared.faults.RunFault.TheVariants.{File, Digits, Memory, Write}
use Rattle.uca_run_parts.specs.EachLine.{ended_before_input}
use Rattle.uca_run_parts.specs.Runs.{ended_by_output}
use Rattle.uca_rekey.specs.inside.ChangeSoFar.{EndsIf, FailsToFlush, HasFlushed}

-- the writer had failed
pub ends_failed : (buffer : BufferState) (out : SinkState) (end : Result KeySizes RunFault) → ended_by_output end ≡ true → EndsIf (ended_by_output end) buffer out out end end
ends_failed buffer out end write = subst (λ b. EndsIf b buffer out out end end) (sym write) (refl, refl)

module _ (buffer : BufferState) (out now : SinkState) (end : Result KeySizes RunFault) where
  -- what waited went out
  pub ends_whole : ended_by_output end ≡ false → HasFlushed buffer out now → EndsIf (ended_by_output end) buffer out now end end
  ends_whole none whole = subst (λ b. EndsIf b buffer out now end end) (sym none) (inl (refl, whole))

  -- not all of it did
  pub ends_short : (written : ℕ) → ended_by_output end ≡ false → FailsToFlush buffer out now written → EndsIf (ended_by_output end) buffer out now end (Err (Write written))
  ends_short written none part = subst (λ b. EndsIf b buffer out now end (Err (Write written))) (sym none) (inr (written, refl, part))

-- an error of a line is none before the input
pub not_before : (A B : Type 0) (fault : RunFault) → ended_before_input {A = A} (Err fault) ≡ false → ended_before_input {A = B} (Err fault) ≡ false
not_before A B (File role cause) h = h
not_before A B (Digits row) h = h
not_before A B Memory h = h
not_before A B _ h = refl
