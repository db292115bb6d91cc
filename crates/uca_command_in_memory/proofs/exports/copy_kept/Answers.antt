use Rattle.std.proofs.Common.{[], ◌++◌, ℕ, List, length, refl, sym, ap, arith}
use Rattle.std.proofs.lemmas.List.{take_all}
use Rattle.uca_command_in_memory.specs.Results.{Tells}
use Rattle.uca_command_in_memory.proofs.exports.copy_kept.Goals as goal

-- no bytes are told by 0, and write nothing
nothing-told : (room : List ℕ) → Tells [] room room 0
nothing-told room = record {
  length_is = refl;
  written = sym (ap (λ (beginning : List ℕ). beginning ++ room) (take_all (length room) [] (omega arith)));
}

pub returns-in-None : goal.returns-in-None
returns-in-None c = rw c.in-None.is (record { bytes = nothing-told c.args.room.now; count = refl })
