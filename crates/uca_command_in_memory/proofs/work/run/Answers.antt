use Rattle.std.proofs.Common.{◌≡◌, [], ℕ, Bool, false, List, Option, Some, map, sym, ap, ◌∙◌, subst}
use Rattle.std.specs.Borrow.{Bor}
use Rattle.uca_weights.specs.Streams.{SourceState, SinkState}
use Rattle.uca_cli.specs.Command.{DoesCommand, streams}
use Rattle.uca_command_in_memory.specs.MemoryFiles.{MemoryState, given_files, memory_files}
use Rattle.uca_command_in_memory.specs.Results.{unread, unwritten}
use Rattle.uca_command_in_memory.proofs.work.run.Goals as goal

-- a source, by its parts
source-by_parts : (source : SourceState) (remaining : Option (List ℕ)) (failed : Bool) → source.remaining ≡ remaining → source.failed ≡ failed
    → source ≡ record { remaining = remaining; failed = failed }
source-by_parts source remaining failed is_remaining is_failed =
    ap (λ (it : Option (List ℕ)). let made : SourceState = record { remaining = it; failed = source.failed } in made) is_remaining
    ∙ ap (λ (it : Bool). let made : SourceState = record { remaining = remaining; failed = it } in made) is_failed

-- a sink, by its parts
sink-by_parts : (sink : SinkState) (contents : Option (List ℕ)) (failed : Bool) → sink.contents ≡ contents → sink.failed ≡ failed
    → sink ≡ record { contents = contents; failed = failed }
sink-by_parts sink contents failed is_contents is_failed =
    ap (λ (it : Option (List ℕ)). let made : SinkState = record { contents = it; failed = sink.failed } in made) is_contents
    ∙ ap (λ (it : Bool). let made : SinkState = record { contents = contents; failed = it } in made) is_failed

-- what a command does, with what it begins with written otherwise
does-from : (old old_as after : MemoryState) (arguments : List (List ℕ)) (input input_as input_after : SourceState)
    (out out_as out_after err err_as err_after : SinkState) (status : ℕ)
    → old ≡ old_as → input ≡ input_as → out ≡ out_as → err ≡ err_as
    → DoesCommand memory_files old after arguments (streams input out) (streams input_after out_after) err err_after status
    → DoesCommand memory_files old_as after arguments (streams input_as out_as) (streams input_after out_after) err_as err_after status
does-from old old_as after arguments input input_as input_after out out_as out_after err err_as err_after status is_old is_input is_out is_err does =
    subst (λ (it : SinkState). DoesCommand memory_files old_as after arguments (streams input_as out_as) (streams input_after out_after) it err_after status) is_err
    (subst (λ (it : SinkState). DoesCommand memory_files old_as after arguments (streams input_as it) (streams input_after out_after) err err_after status) is_out
    (subst (λ (it : SourceState). DoesCommand memory_files old_as after arguments (streams it out) (streams input_after out_after) err err_after status) is_input
    (subst (λ (it : MemoryState). DoesCommand memory_files it after arguments (streams input out) (streams input_after out_after) err err_after status) is_old does)))

pub returns : goal.returns
returns c =
    let arguments = map (λ (argument : Bor (List ℕ)). argument.now) c.args.arguments.now in
    let names = map (λ (name : Bor (List ℕ)). name.now) c.args.names.now in
    let files = map (λ (file : Bor (List ℕ)). file.now) c.args.files.now in
    let after = c.run_command-status.new in
    record {
      after = after.opener;
      input_after = after.input;
      out_after = after.out;
      err_after = after.err;
      does = does-from c.new-opener.result (given_files names files) after.opener arguments
          c.new-input.result (unread c.args.input.now) after.input
          c.new-out.result unwritten after.out c.new-err.result unwritten after.err c.run_command-status.result
          c.new-opener.ensures
          (source-by_parts c.new-input.result (Some c.args.input.now) false c.new-input.ensures.bytes c.new-input.ensures.failed)
          (sink-by_parts c.new-out.result (Some []) false (c.new-out.ensures.bytes ∙ ap Some c.new.ensures.items) c.new-out.ensures.failed)
          (sink-by_parts c.new-err.result (Some []) false (c.new-err.ensures.bytes ∙ ap Some c.new-2.ensures.items) c.new-err.ensures.failed)
          c.run_command-status.ensures;
      is_out = sym c.into_inner.ensures;
      is_err = sym c.into_inner-2.ensures;
      is_kept = sym c.into_kept.ensures;
    }
