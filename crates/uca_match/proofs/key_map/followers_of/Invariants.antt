use Rattle.std.proofs.Common.{◌≡◌, ℕ, ◌<◌, Some, get_or}
use Rattle.uca_match.specs.CharMaps.{number_of}
use Rattle.uca_match.specs.Tries.{target_of}
use Rattle.uca_match.proofs.TrieSteps.{no_listed}
use Rattle.uca_match.proofs.key_map.followers_of.Given as goal

abbrev pub invariant-loop-i : goal.invariant-loop-i
invariant-loop-i g l = (n c m : ℕ) → 0 < n → n < l.i → target_of (get_or l.nodes n no_listed).edges c ≡ Some m → 0 < number_of l.followers c
