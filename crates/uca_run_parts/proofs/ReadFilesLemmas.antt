-- What reading the files of a run gives, from what reading each of them gives.
use Rattle.std.proofs.Common.{◌≡◌, ℕ, List, [], ◌∷◌, ◌++◌, Option, Bool, true, false, if◌then◌else◌, ◌&&◌, ◌||◌, IfSome, Result, Ok, Err, Some, None, refl, ap, subst, sym, ◌∙◌}
use Rattle.std.specs.Prelude.{MatchOption, not, ⊤}
use Rattle.uca_weights.specs.Streams.{SourceState}
use Rattle.uca_run_parts.specs.declared.faults.FileFault.{FileFault}
use Rattle.uca_run_parts.specs.declared.faults.RunFault.{RunFault}
use Rattle.uca_run_parts.specs.declared.faults.RunFault.TheVariants.{File}
use Rattle.uca_run_parts.specs.declared.faults.Role.{Role}
use Rattle.uca_run_parts.specs.declared.faults.Role.TheVariants as roles
use Rattle.uca_run_parts.specs.Files.{MeansOne, OverFile, Reading, Done, Then, Over, Mean, HaveFailed, IsStop, fault_of, is_role, ended_by_file, is_file_read, is_read_fault}
use Rattle.uca_run_parts.specs.ReadFiles.{IsRefused, ReadsFiles}
use Rattle.uca_run_parts.proofs.FilesLemmas.{ended_by_files, failed_alike, failed_by_files, known_weaker, over_rejected, over_value, over_weaker, reads, stops}

-- ---- One file

module _ {A V : Type 0} (role : Role) (Means : List ℕ → V → Type 0) (Refuses : List ℕ → Option (List ℕ) → FileFault → Type 0)
    (old new : SourceState) (content_of : A → V) where
  -- it is read
  pub file_read : (read : A) → IfSome old.remaining (λ bytes. Means bytes (content_of read))
      → IfSome old.remaining (λ bytes. (value : V) → Means bytes value → content_of read ≡ value) → new.failed ≡ (old.failed || false)
      → ReadsFiles (Then role Means Refuses Done) (role ∷ []) (old ∷ []) (new ∷ []) content_of (Ok read)
  file_read read means only failed = record {
    read = record { value = content_of read; means = means; holds = refl };
    only = λ content mean. reads old.remaining Means (content_of read) mean.0 only mean.1 ∙ sym mean.2;
    of_files = refl;
    failed = (failed, tt);
  }

  -- or it is rejected
  pub file_rejected : (fault : RunFault) → IfSome old.remaining (λ bytes. (value : V) → Means bytes value → IsStop fault)
      → IsRefused role old new Refuses fault → new.failed ≡ (old.failed || is_file_read {A = A} role (Err fault))
      → ReadsFiles {A = A} (Then role Means Refuses Done) (role ∷ []) (old ∷ []) (new ∷ []) content_of (Err fault)
  file_rejected fault only is failed = record {
    read = over_rejected A role old new Means Refuses _ fault is;
    only = λ content mean. stops old.remaining Means mean.0 fault only mean.1;
    of_files = subst (λ f. ended_by_file {A = A} (Err f) ≡ true) (sym is.1) refl;
    failed = (failed, tt);
  }

-- ---- Roles of files

-- these sources are those of the files, which have these roles
abbrev pub Fits : {C : Type 0} → Reading C → List Role → List SourceState → Type 0
Fits (Done content) [] [] = ⊤
Fits (Then {V} role Means Refuses next) (one ∷ of) (source ∷ sources) = (one ≡ role) × ((value : V) → Fits (next value) of sources)
Fits _ _ _ = ⊥

-- a result has no error of these roles
abbrev HasNone : {A : Type 0} → List Role → Result A RunFault → Type 0
HasNone [] result = ⊤
HasNone (role ∷ of) result = (fault_of role result ≡ None) × (is_file_read role result ≡ false) × HasNone of result

-- whether a role is none of these
abbrev is_apart : Role → List Role → Bool
is_apart role [] = true
is_apart role (other ∷ others) = not (is_role other role) && is_apart role others

-- whether none of the first roles is one of the others
abbrev pub are_apart : List Role → List Role → Bool
are_apart [] others = true
are_apart (role ∷ of) others = is_apart role others && are_apart of others

-- both are true
first_true : (a b : Bool) → (a && b) ≡ true → a ≡ true
first_true true b h = refl
first_true false b h = h

second_true : (a b : Bool) → (a && b) ≡ true → b ≡ true
second_true true b h = h
second_true false b h = let never : ⊥ = cc in absurd never

not_true : (a : Bool) → not a ≡ true → a ≡ false
not_true true h = let never : ⊥ = cc in absurd never
not_true false h = refl

-- an error of a role is none of roles apart from it
none_of : (A : Type 0) (role : Role) (cause : FileFault) (others : List Role) → is_apart role others ≡ true → HasNone {A = A} others (Err (File role cause))
none_of A role cause [] apart = tt
none_of A role cause (other ∷ others) apart =
    let no = not_true (is_role other role) (first_true (not (is_role other role)) (is_apart role others) apart) in (
      ap (λ b. if b then Some cause else None) no,
      ap (λ b. b && is_read_fault cause) no,
      none_of A role cause others (second_true (not (is_role other role)) (is_apart role others) apart),
    )

-- ---- An error of some files and other files

-- roles that count as one are one
same_from_role : (one other : Role) → is_role one other ≡ true → one ≡ other
same_from_role roles.Table roles.Table h = refl
same_from_role roles.Data roles.Data h = refl
same_from_role roles.Rules roles.Rules h = refl
same_from_role roles.Certificate roles.Certificate h = refl
same_from_role roles.Base roles.Base h = refl
same_from_role roles.Tailored roles.Tailored h = refl
same_from_role roles.Old roles.Old h = refl
same_from_role roles.OldData roles.OldData h = refl
same_from_role roles.New roles.New h = refl
same_from_role roles.NewData roles.NewData h = refl
same_from_role roles.Changes roles.Changes h = refl
same_from_role roles.Book roles.Book h = refl
same_from_role _ _ h = let never : ⊥ = cc in absurd never

-- an error that may be of this file is none of roles apart from it
module _ (A : Type 0) {V : Type 0} (role : Role) (others : List Role) (old new : SourceState) (Means : List ℕ → V → Type 0)
    (Refuses : List ℕ → Option (List ℕ) → FileFault → Type 0) (K : V → Type 0) (apart : is_apart role others ≡ true) where
  of_role : (other : Role) (cause : FileFault) → ((value : V) → K value → HasNone {A = A} others (Err (File other cause)))
      → (b : Bool) → is_role role other ≡ b
      → MatchOption (if b then Some cause else None) (MeansOne Means old.remaining K) (λ fault. IfSome old.remaining (λ bytes. Refuses bytes new.remaining fault))
      → HasNone {A = A} others (Err (File other cause))
  of_role other cause later true same over =
      subst (λ r. HasNone {A = A} others (Err (File r cause))) (same_from_role role other same) (none_of A role cause others apart)
  of_role other cause later false same over = later over.value over.holds

  rejected_here : (B : Type 0) (fault : RunFault) → ((value : V) → K value → HasNone {A = A} others (Err fault))
      → OverFile {A = B} role old new Means Refuses K (Err fault) → HasNone {A = A} others (Err fault)
  rejected_here B (File other cause) later over = of_role other cause later (is_role role other) refl over
  rejected_here B _ later over = later over.value over.holds

-- an error of these files is none of roles apart from theirs
rejected_apart : (A B : Type 0) {C : Type 0} (reading : Reading C) (of others : List Role) (olds news : List SourceState) (fault : RunFault)
    → Fits reading of olds → are_apart of others ≡ true → Over {A = B} reading olds news (λ content. ⊥) (Err fault)
    → HasNone {A = A} others (Err fault)
rejected_apart A B (Done content) [] others [] [] fault fits apart over = absurd over
rejected_apart A B (Done content) [] others [] (new ∷ news) fault fits apart over = absurd over
rejected_apart A B (Done content) [] others (old ∷ olds) news fault fits apart over = absurd fits
rejected_apart A B (Done content) (one ∷ of) others olds news fault fits apart over = absurd fits
rejected_apart A B (Then role Means Refuses next) [] others olds news fault fits apart over = absurd fits
rejected_apart A B (Then role Means Refuses next) (one ∷ of) others [] news fault fits apart over = absurd fits
rejected_apart A B (Then role Means Refuses next) (one ∷ of) others (old ∷ olds) [] fault fits apart over = absurd over
rejected_apart A B (Then role Means Refuses next) (one ∷ of) others (old ∷ olds) (new ∷ news) fault fits apart over =
    rejected_here A role others old new Means Refuses _
    (subst (λ r. is_apart r others ≡ true) fits.0 (first_true (is_apart one others) (are_apart of others) apart)) B fault
    (λ value later. rejected_apart A B (next value) of others olds news fault (fits.1 value)
    (second_true (is_apart one others) (are_apart of others) apart) later) over

-- files that were read stay read where another file is rejected
still_read : {A B C : Type 0} (reading : Reading C) (of : List Role) (olds news : List SourceState) (K L : C → Type 0) (read : A)
    (result : Result B RunFault) → Fits reading of olds → HasNone of result → ((content : C) → K content → L content)
    → Over reading olds news K (Ok read) → Over reading olds news L result
still_read (Done content) [] [] [] K L read result fits none weaker over = weaker content over
still_read (Done content) [] [] (new ∷ news) K L read result fits none weaker over = absurd over
still_read (Done content) [] (old ∷ olds) news K L read result fits none weaker over = absurd fits
still_read (Done content) (one ∷ of) olds news K L read result fits none weaker over = absurd fits
still_read (Then role Means Refuses next) [] olds news K L read result fits none weaker over = absurd fits
still_read (Then role Means Refuses next) (one ∷ of) [] news K L read result fits none weaker over = absurd fits
still_read (Then role Means Refuses next) (one ∷ of) (old ∷ olds) [] K L read result fits none weaker over = absurd over
still_read (Then role Means Refuses next) (one ∷ of) (old ∷ olds) (new ∷ news) K L read result fits none weaker over =
    over_value role old new Means Refuses _ result over.value (subst (λ r. fault_of r result ≡ None) fits.0 none.0) over.means
    (still_read (next over.value) of olds news K L read result (fits.1 over.value) none.2 weaker over.holds)

-- and their sources are as they were
still_failed : {A B : Type 0} (of : List Role) (olds news : List SourceState) (read : A) (result : Result B RunFault) → HasNone of result
    → HaveFailed of olds news (Ok read) → HaveFailed of olds news result
still_failed [] [] [] read result none failed = tt
still_failed [] [] (new ∷ news) read result none failed = absurd failed
still_failed [] (old ∷ olds) news read result none failed = absurd failed
still_failed (role ∷ of) [] news read result none failed = absurd failed
still_failed (role ∷ of) (old ∷ olds) [] read result none failed = absurd failed
still_failed (role ∷ of) (old ∷ olds) (new ∷ news) read result none failed =
    (failed.0 ∙ ap (λ b. old.failed || b) (sym none.1), still_failed of olds news read result none.2 failed.1)

-- a file's error is one with any other type of results
file_error : (A B : Type 0) (fault : RunFault) → ended_by_file {A = A} (Err fault) ≡ true → ended_by_file {A = B} (Err fault) ≡ true
file_error A B (File role cause) file = refl
file_error A B _ file = let never : ⊥ = cc in absurd never

-- ---- Files after files

-- the files of a reading, and then those that what they mean asks for
abbrev and_then : {C D : Type 0} → Reading C → (C → Reading D) → Reading D
and_then (Done content) rest = rest content
and_then (Then role Means Refuses next) rest = Then role Means Refuses (λ value. and_then (next value) rest)

-- the files of both readings, and what is made of what they mean
abbrev pub both : {C D E : Type 0} → Reading C → (C → Reading D) → (C → D → E) → Reading E
both first second join = and_then first (λ content. and_then (second content) (λ other. Done (join content other)))

-- what is returned by both
over_both : {A C D : Type 0} (reading : Reading C) (rest : C → Reading D) (olds news others others_new : List SourceState) (K : D → Type 0)
    (result : Result A RunFault) → Over reading olds news (λ content. Over (rest content) others others_new K result) result
    → Over (and_then reading rest) (olds ++ others) (news ++ others_new) K result
over_both (Done content) rest [] [] others others_new K result over = over
over_both (Done content) rest [] (new ∷ news) others others_new K result over = absurd over
over_both (Done content) rest (old ∷ olds) news others others_new K result over = absurd over
over_both (Then role Means Refuses next) rest [] news others others_new K result over = absurd over
over_both (Then role Means Refuses next) rest (old ∷ olds) [] others others_new K result over = absurd over
over_both (Then role Means Refuses next) rest (old ∷ olds) (new ∷ news) others others_new K result over =
    known_weaker old.remaining new.remaining (fault_of role result) Means Refuses
    (λ value. Over (next value) olds news (λ content. Over (rest content) others others_new K result) result)
    (λ value. Over (and_then (next value) rest) (olds ++ others) (news ++ others_new) K result)
    (λ value. over_both (next value) rest olds news others others_new K result) over

-- what each means, where both mean something
mean_both : {C D : Type 0} (reading : Reading C) (rest : C → Reading D) (of : List Role) (sources others : List SourceState) (content : D)
    → Fits reading of sources → Mean (and_then reading rest) (sources ++ others) content
    → (first : C) × Mean reading sources first × Mean (rest first) others content
mean_both (Done first) rest [] [] others content fits mean = (first, refl, mean)
mean_both (Done first) rest [] (source ∷ sources) others content fits mean = absurd fits
mean_both (Done first) rest (one ∷ of) sources others content fits mean = absurd fits
mean_both (Then role Means Refuses next) rest [] sources others content fits mean = absurd fits
mean_both (Then role Means Refuses next) rest (one ∷ of) [] others content fits mean = absurd fits
mean_both (Then role Means Refuses next) rest (one ∷ of) (source ∷ sources) others content fits mean =
    let later = mean_both (next mean.0) rest of sources others content (fits.1 mean.0) mean.2 in
    (later.0, (mean.0, mean.1, later.1), later.2)

-- the sources of both
failed_both : {A : Type 0} (of more : List Role) (olds news others others_new : List SourceState) (result : Result A RunFault)
    → HaveFailed of olds news result → HaveFailed more others others_new result
    → HaveFailed (of ++ more) (olds ++ others) (news ++ others_new) result
failed_both [] more [] [] others others_new result failed rest = rest
failed_both [] more [] (new ∷ news) others others_new result failed rest = absurd failed
failed_both [] more (old ∷ olds) news others others_new result failed rest = absurd failed
failed_both (role ∷ of) more [] news others others_new result failed rest = absurd failed
failed_both (role ∷ of) more (old ∷ olds) [] others others_new result failed rest = absurd failed
failed_both (role ∷ of) more (old ∷ olds) (new ∷ news) others others_new result failed rest =
    (failed.0, failed_both of more olds news others others_new result failed.1 rest)

module _ {A X C D E : Type 0} (first : Reading C) (second : C → Reading D) (join : C → D → E) (of more : List Role)
    (olds news others others_new : List SourceState) (first_of : A → C) (whole_of : X → E) (fits : Fits first of olds) where
  -- the first files have one that is rejected, and the others are not read
  pub first_rejected : (fault : RunFault) → are_apart of more ≡ true → HaveFailed {A = ⊤} more others others_new (Ok tt)
      → ReadsFiles first of olds news first_of (Err fault)
      → ReadsFiles (both first second join) (of ++ (more ++ [])) (olds ++ (others ++ [])) (news ++ (others_new ++ [])) whole_of (Err fault)
  first_rejected fault apart unread h =
      let none = rejected_apart X A first of more olds news fault fits apart h.read in
      record {
        read = over_both first _ olds news (others ++ []) (others_new ++ []) (λ content. ⊥) (Err fault) (ended_by_files X A first olds news _ fault h.read);
        only = λ content mean. let parts = mean_both first _ of olds (others ++ []) content fits mean in h.only parts.0 parts.1;
        of_files = file_error A X fault h.of_files;
        failed = failed_both of (more ++ []) olds news (others ++ []) (others_new ++ []) (Err fault) (failed_by_files X A of olds news fault h.failed)
            (failed_both more [] others others_new [] [] (Err fault) (still_failed more others others_new tt (Err fault) none unread) tt);
      }

  module _ {B : Type 0} (second_of : B → D) (one : A) (fits_too : (content : C) → Fits (second content) more others)
      (h : ReadsFiles first of olds news first_of (Ok one)) where
    -- what both mean is what each means
    parts : (content : E) → Mean (both first second join) (olds ++ (others ++ [])) content
        → (other : D) × Mean (second (first_of one)) others other × (content ≡ join (first_of one) other)
    parts content mean =
        let begin = mean_both first _ of olds (others ++ []) content fits mean in
        let rest = mean_both (second begin.0) _ more others [] content (fits_too begin.0) begin.2 in
        let same = sym (h.only begin.0 begin.1) in
        (rest.0, subst (λ c. Mean (second c) others rest.0) same rest.1, subst (λ c. content ≡ join c rest.0) same rest.2)

    -- the first files are read, and the others have one that is rejected
    pub second_rejected : (fault : RunFault) → are_apart more of ≡ true
        → ReadsFiles (second (first_of one)) more others others_new second_of (Err fault)
        → ReadsFiles (both first second join) (of ++ (more ++ [])) (olds ++ (others ++ [])) (news ++ (others_new ++ [])) whole_of (Err fault)
    second_rejected fault apart g =
        let none = rejected_apart X B (second (first_of one)) more of others others_new fault (fits_too (first_of one)) apart g.read in
        record {
          read = over_both first _ olds news (others ++ []) (others_new ++ []) (λ content. ⊥) (Err fault)
              (still_read first of olds news (λ content. first_of one ≡ content) _ one (Err fault) fits none
              (λ content same. over_both (second content) _ others others_new [] [] (λ content. ⊥) (Err fault)
              (subst (λ c. Over {A = X} (second c) others others_new (λ other. ⊥) (Err fault)) same
              (ended_by_files X B (second (first_of one)) others others_new (λ other. ⊥) fault g.read))) h.read);
          only = λ content mean. let it = parts content mean in g.only it.0 it.1;
          of_files = file_error B X fault g.of_files;
          failed = failed_both of (more ++ []) olds news (others ++ []) (others_new ++ []) (Err fault) (still_failed of olds news one (Err fault) none h.failed)
              (failed_both more [] others others_new [] [] (Err fault) (failed_by_files X B more others others_new fault g.failed) tt);
        }

    -- all are read
    pub both_read : (other : B) (whole : X) → whole_of whole ≡ join (first_of one) (second_of other)
        → ReadsFiles (second (first_of one)) more others others_new second_of (Ok other)
        → ReadsFiles (both first second join) (of ++ (more ++ [])) (olds ++ (others ++ [])) (news ++ (others_new ++ [])) whole_of (Ok whole)
    both_read other whole is g = record {
      read = over_both first _ olds news (others ++ []) (others_new ++ []) (λ content. whole_of whole ≡ content) (Ok whole)
          (over_weaker first olds news (λ content. first_of one ≡ content) _ (Ok one) (Ok whole) (λ role. refl)
          (λ content same. over_both (second content) _ others others_new [] [] (λ content. whole_of whole ≡ content) (Ok whole)
          (over_weaker (second content) others others_new (λ read. second_of other ≡ read) _ (Ok other) (Ok whole) (λ role. refl)
          (λ read alike. is ∙ ap (λ c. join c (second_of other)) same ∙ ap (λ d. join content d) alike)
          (subst (λ c. Over (second c) others others_new (λ read. second_of other ≡ read) (Ok other)) same g.read))) h.read);
      only = λ content mean. let it = parts content mean in is ∙ ap (λ d. join (first_of one) d) (g.only it.0 it.1) ∙ sym it.2;
      of_files = refl;
      failed = failed_both of (more ++ []) olds news (others ++ []) (others_new ++ []) (Ok whole) (failed_alike of olds news (Ok one) (Ok whole) (λ role. refl) h.failed)
          (failed_both more [] others others_new [] [] (Ok whole) (failed_alike more others others_new (Ok other) (Ok whole) (λ role. refl) g.failed) tt);
    }
