-- What callers see of memory for keys.
use Rattle.uca_weights.specs.declared.Settings.{Settings}
use Rattle.uca_key_writer.specs.declared.key_memory.KeyMemory.{KeyMemory}

-- the settings of its keys
abbrev pub settings_in : {A : Type 0} → KeyMemory A → Settings
settings_in m = record { weighting = m.buffer.weighting; depth = m.buffer.depth; numbers = m.numbers }
