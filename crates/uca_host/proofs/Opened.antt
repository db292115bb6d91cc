-- Two lists of files that are opened in turn: all open, or one of the first or of the others does not.
use Rattle.std.proofs.Common.{List, [], ◌∷◌, ◌++◌, inl, inr, subst}
use Rattle.uca_weights.specs.Streams.{SourceState}
use Rattle.uca_run_parts.specs.declared.faults.Role.{Role}
use Rattle.uca_host.specs.NamedFiles.{AreOpened, DoesNotOpen, FileSystem, NamedFile}

module _ {O F M : Type 0} (files : FileSystem O F M) where
  -- both lists of files are opened
  pub opened_after : (xs ys : List NamedFile) (ss ts : List SourceState) (old between new : O)
      → AreOpened files old between xs ss → AreOpened files between new ys ts
      → AreOpened files old new (xs ++ ys) (ss ++ ts)
  opened_after [] ys [] ts old between new is then = subst (λ (o : O). AreOpened files o new ys ts) is then
  opened_after [] ys (s ∷ ss) ts old between new none then = absurd none
  opened_after (x ∷ xs) ys [] ts old between new none then = absurd none
  opened_after (x ∷ xs) ys (s ∷ ss) ts old between new opened then =
      (opened.0, opened.1, opened_after xs ys ss ts opened.0 between new opened.2 then)

  -- the first files are opened, and one of the others does not open
  pub fails_after : (xs ys : List NamedFile) (ss : List SourceState) (role : Role) (old between new : O)
      → AreOpened files old between xs ss → DoesNotOpen files between new ys role
      → DoesNotOpen files old new (xs ++ ys) role
  fails_after [] ys [] role old between new is fails = subst (λ (o : O). DoesNotOpen files o new ys role) is fails
  fails_after [] ys (s ∷ ss) role old between new none fails = absurd none
  fails_after (x ∷ xs) ys [] role old between new none fails = absurd none
  fails_after (x ∷ xs) ys (s ∷ ss) role old between new opened fails =
      inr (opened.0, s, opened.1, fails_after xs ys ss role opened.0 between new opened.2 fails)

  -- one of the first files does not open
  pub fails_before : (xs ys : List NamedFile) (role : Role) (old new : O)
      → DoesNotOpen files old new xs role → DoesNotOpen files old new (xs ++ ys) role
  fails_before [] ys role old new never = absurd never
  fails_before (x ∷ xs) ys role old new (inl here) = inl here
  fails_before (x ∷ xs) ys role old new (inr later) = inr (later.0, later.1, later.2, fails_before xs ys role later.0 new later.3)
