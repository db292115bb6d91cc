-- What is kept in the caller's collator is what was opened, or memory ran out.
use Rattle.std.proofs.Common.{◌∙◌, ap, inl, inr}
use Rattle.uca_owned.specs.Owned.{keying_in}
use Rattle.uca_c.specs.OpenCollators.{keying_at}
use Rattle.uca_c.proofs.Telling.{read_of}
use Rattle.uca_c.proofs.exports.uca_open.Goals as goal

pub returns-in-Ok-clause-only : goal.returns-in-Ok-clause-only
returns-in-Ok-clause-only c asked meant properties closed asks =
    elim c.keep.ensures.statuses [
      | inl is ↦ inl (is, ap keying_at (c.keep.ensures.value is ∙ c.new.ensures) ∙ c.in-Ok.ensures.only asked meant properties asks)
      | inr is ↦ inr (inl (inl is))
    ]

pub returns-in-Ok-clause-rejected : goal.returns-in-Ok-clause-rejected
returns-in-Ok-clause-rejected c not_ok _ =
    elim c.keep.ensures.statuses [
      | inl is ↦ absurd (not_ok is)
      | inr is ↦ inl (inr (inr (inr (
        is,
        read_of c.args.weighting c.args.depth c.args.table.now c.args.data_file.now (keying_in c.in-Ok.opened) c.in-Ok.ensures.found,
        c.in-Ok.ensures.no_error,
      ))))
    ]

pub returns-in-Err-clause-only : goal.returns-in-Err-clause-only
returns-in-Err-clause-only c asked meant properties closed asks = inr (c.in-Err.ensures.only asked meant properties asks)
