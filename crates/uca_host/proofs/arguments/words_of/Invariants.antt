use Rattle.std.proofs.Common.{◌≡◌, map, string_bytes, take}
use Rattle.uca_host.proofs.arguments.words_of.Given as goal

abbrev pub invariant-loop-word : goal.invariant-loop-word
invariant-loop-word l = map (λ word. word.now) l.words.items ≡ map (λ text. string_bytes text) (take l.word-index l.given)
