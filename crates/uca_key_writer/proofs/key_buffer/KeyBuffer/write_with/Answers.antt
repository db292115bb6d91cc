use Rattle.std.proofs.Common.{ap}
use Rattle.uca_key_writer.specs.Buffers.{KeyState}
use Rattle.uca_plain.proofs.Results.{no_result}
use Rattle.uca_key_writer.proofs.key_buffer.KeyBuffer.write_with.Goals as goal

pub returns-in_err-write : goal.returns-in_err-write
returns-in_err-write g c = record {
  key = no_result c.from_residual.result _ c.from_residual.ensures.0;
  weighting = ap (λ (s : KeyState). s.weighting) c.self.view_is;
  depth = ap (λ (s : KeyState). s.depth) c.self.view_is;
}

pub returns-in-Weights-clause-weighting : goal.returns-in-Weights-clause-weighting
returns-in-Weights-clause-weighting g c = ap (λ (s : KeyState). s.weighting) c.self.view_is

pub returns-in-Weights-clause-depth : goal.returns-in-Weights-clause-depth
returns-in-Weights-clause-depth g c = ap (λ (s : KeyState). s.depth) c.self.view_is

pub returns-in-Identical-clause-weighting : goal.returns-in-Identical-clause-weighting
returns-in-Identical-clause-weighting g c = ap (λ (s : KeyState). s.weighting) c.self.view_is

pub returns-in-Identical-clause-depth : goal.returns-in-Identical-clause-depth
returns-in-Identical-clause-depth g c = ap (λ (s : KeyState). s.depth) c.self.view_is
