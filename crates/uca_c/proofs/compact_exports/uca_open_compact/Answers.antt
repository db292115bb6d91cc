-- What is kept in the caller's collator is what was opened, or memory ran out.
use Rattle.std.proofs.Common.{◌∙◌, ap, inl, inr}
use Rattle.uca_c.specs.OpenCollators.{OpenState, keying_at}
use Rattle.uca_c.proofs.Telling.{read_of}
use Rattle.uca_c.proofs.compact_exports.uca_open_compact.Goals as goal

pub returns-in-Ok-clause-only : goal.returns-in-Ok-clause-only
returns-in-Ok-clause-only c asked meant properties content closed asks means =
    let found = c.in-Ok.ensures.only asked meant properties content asks means in
    elim c.keep.ensures.statuses [
      | inl is ↦ inl (is, ap keying_at (c.keep.ensures.value is) ∙ found.0, ap (λ (s : OpenState). s.book) (c.keep.ensures.value is) ∙ found.1)
      | inr is ↦ inr (inl (inl (inl is)))
    ]

pub returns-in-Ok-clause-rejected : goal.returns-in-Ok-clause-rejected
returns-in-Ok-clause-rejected c not_ok _ =
    elim c.keep.ensures.statuses [
      | inl is ↦ absurd (not_ok is)
      | inr is ↦ inl (inl (inr (inr (inr (
        is,
        read_of c.args.weighting c.args.depth c.args.table.now c.args.data_file.now (keying_at c.in-Ok.opened) c.in-Ok.ensures.found,
        c.in-Ok.ensures.no_error,
      )))))
    ]

pub returns-in-Err-clause-only : goal.returns-in-Err-clause-only
returns-in-Err-clause-only c asked meant properties content closed asks means =
    inr (c.in-Err.ensures.only asked meant properties content asks means)
