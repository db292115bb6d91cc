use Rattle.std.proofs.Common.{◌≡◌, ℕ, List, length, drop, map}
use Rattle.std.specs.Borrow.{Bor}
use Rattle.uca_command_in_memory.specs.MemoryFiles.{file_of}
use Rattle.uca_command_in_memory.proofs.files.find.Given as goal

-- the bytes that each reference of a list points to
abbrev pub texts : List (Bor (List ℕ)) → List (List ℕ)
texts references = map (λ (it : Bor (List ℕ)). it.now) references

-- the name is among the pairs that are left, as it is among all
abbrev pub invariant-loop-given : goal.invariant-loop-given
invariant-loop-given l =
    (goal.iterator-loop-given).can_next l.given-iterator ×
    (goal.iterator-loop-given).is_finite l.given-iterator ×
    (file_of (texts (drop (length l.yielded) l.names)) (texts (drop (length l.yielded) l.files)) l.name
    ≡ file_of (texts l.names) (texts l.files) l.name)
