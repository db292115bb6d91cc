use Rattle.std.proofs.Common.{◌≡◌, ℕ, ◌<◌, Some, take}
use Rattle.uca_match.specs.CharMaps.{number_of}
use Rattle.uca_match.specs.Tries.{target_of}
use Rattle.uca_match.proofs.key_map.add_followers.Given as goal

abbrev pub invariant-loop-edge : goal.invariant-loop-edge
invariant-loop-edge g l = record {
  before : (c : ℕ) → 0 < number_of l.initial.followers c → 0 < number_of l.followers c;
  edges : (c m : ℕ) → target_of (take l.edge-index l.edges) c ≡ Some m → 0 < number_of l.followers c;
}
