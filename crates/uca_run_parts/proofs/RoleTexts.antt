-- The names of roles are short.
use Rattle.std.proofs.Common.{◌≤◌, length, rules}
use Rattle.uca_run_parts.specs.RoleText.{role_text}
use Rattle.uca_run_parts.specs.declared.faults.Role.{Role}
use Rattle.uca_run_parts.specs.declared.faults.Role.TheVariants.{Table, Data, Rules, Certificate, Base, Tailored, Old, OldData, New, NewData, Changes, Book}

-- a name has at most eleven bytes
pub role_short : (role : Role) → length (role_text role) ≤ 11
role_short Table = search rules
role_short Data = search rules
role_short Rules = search rules
role_short Certificate = search rules
role_short Base = search rules
role_short Tailored = search rules
role_short Old = search rules
role_short OldData = search rules
role_short New = search rules
role_short NewData = search rules
role_short Changes = search rules
role_short Book = search rules
