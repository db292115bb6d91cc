-- Files that are read without their sums have sums too.
use Rattle.std.proofs.Common.{◌≡◌, ℕ, List, [], ◌∷◌, Option, Some, None, IfSome, Result, Ok, Err, IfOk, false, true, refl, ap}
use Rattle.std.specs.Prelude.{IsOkAnd, MatchOption, is_some}
use Rattle.sha2.specs.Sha256.{sha256}
use Rattle.uca_weights.specs.Streams.{SourceState}
use Rattle.uca_values.specs.Content.{Properties, TableContent}
use Rattle.uca_table.specs.DataSoFar as data_files
use Rattle.uca_table.specs.TableLines as tables
use Rattle.uca_books.specs.Books.{BookContent}
use Rattle.uca_books.specs.BookTexts as books
use Rattle.uca_run_parts.specs.declared.faults.FileFault.{FileFault}
use Rattle.uca_run_parts.specs.declared.faults.Role.TheVariants as roles
use Rattle.uca_run_parts.specs.declared.faults.RunFault.{RunFault}
use Rattle.uca_run_parts.specs.Files.{MeansOne, OfLines, Over, OverFile, TableAndData, fault_of, table_and_data, table_with}
use Rattle.uca_run_parts.specs.ReadFiles.{IsRead}
use Rattle.uca_run_parts.proofs.FilesLemmas.{ended_by_files, over_weaker}
use Rattle.uca_fingerprint_runs.specs.SummedFiles.{summed_with}
use Rattle.uca_fingerprint_runs.specs.Sums.{MeansSummed}
use Rattle.uca_key_runs.specs.KeysRun.{KeyContent, key_files}
use Rattle.uca_key_runs.specs.declared.key_files.FileSums.{FileSums}
use Rattle.uca_key_runs.specs.inside.KeyParts.{AreRead, AreSums, PackedContent, packed_booked, packed_with}

-- ---- One file

-- bytes that mean a value have a sum beside it
summed_one : {V : Type 0} (Means : List ℕ → V → Type 0) (known : Option (List ℕ)) (K : V → Type 0) (L : V × List ℕ → Type 0)
    → ((value : V) (sum : List ℕ) → K value → L (value, sum)) → MeansOne Means known K → MeansOne (MeansSummed Means) known L
summed_one Means None K L weaker one = record { value = (one.value, []); means = tt; holds = weaker one.value [] one.holds }
summed_one Means (Some bytes) K L weaker one =
    record { value = (one.value, sha256 bytes); means = (one.means, refl); holds = weaker one.value (sha256 bytes) one.holds }

summed_file : {V : Type 0} (Means : List ℕ → V → Type 0) (Refuses : List ℕ → Option (List ℕ) → FileFault → Type 0) (known left : Option (List ℕ))
    (cause : Option FileFault) (K : V → Type 0) (L : V × List ℕ → Type 0) → ((value : V) (sum : List ℕ) → K value → L (value, sum))
    → MatchOption cause (MeansOne Means known K) (λ fault. IfSome known (λ bytes. Refuses bytes left fault))
    → MatchOption cause (MeansOne (MeansSummed Means) known L) (λ fault. IfSome known (λ bytes. Refuses bytes left fault))
summed_file Means Refuses known left None K L weaker over = summed_one Means known K L weaker over
summed_file Means Refuses known left (Some fault) K L weaker over = over

-- ---- All files

module _ {A : Type 0} (table table_new data_file data_file_new : SourceState) (L : KeyContent → Type 0) (result : Result A RunFault) where
  -- a table and a data file
  pub two_summed : (K : TableAndData → Type 0)
      → ((t : TableContent) (sum : List ℕ) (p : Properties) (other : List ℕ) → K (table_with t p) → L (record { files = summed_with (t, sum) (p, other); book = None }))
      → Over table_and_data (table ∷ data_file ∷ []) (table_new ∷ data_file_new ∷ []) K result
      → Over (key_files false) (table ∷ data_file ∷ []) (table_new ∷ data_file_new ∷ []) L result
  two_summed K weaker over =
      summed_file tables.Means (OfLines tables.Refuses) table.remaining table_new.remaining (fault_of roles.Table result)
      (λ t. OverFile roles.Data data_file data_file_new data_files.Means (OfLines data_files.Refuses) (λ p. K (table_with t p)) result)
      (λ t. OverFile roles.Data data_file data_file_new (MeansSummed data_files.Means) (OfLines data_files.Refuses) (λ p. L (record { files = summed_with t p; book = None })) result)
      (λ t sum. summed_file data_files.Means (OfLines data_files.Refuses) data_file.remaining data_file_new.remaining (fault_of roles.Data result)
      (λ p. K (table_with t p)) (λ p. L (record { files = summed_with (t, sum) p; book = None })) (λ p other. weaker t sum p other)) over

  -- and a book
  pub three_summed : (book book_new : SourceState) (K : PackedContent → Type 0)
      → ((t : TableContent) (sum : List ℕ) (p : Properties) (other : List ℕ) (b : BookContent) (of_book : List ℕ) → K (packed_with t p (Some b))
      → L (record { files = summed_with (t, sum) (p, other); book = Some (b, of_book) }))
      → Over packed_booked (table ∷ data_file ∷ book ∷ []) (table_new ∷ data_file_new ∷ book_new ∷ []) K result
      → Over (key_files true) (table ∷ data_file ∷ book ∷ []) (table_new ∷ data_file_new ∷ book_new ∷ []) L result
  three_summed book book_new K weaker over =
      summed_file tables.Means (OfLines tables.Refuses) table.remaining table_new.remaining (fault_of roles.Table result)
      (λ t. OverFile roles.Data data_file data_file_new data_files.Means (OfLines data_files.Refuses)
      (λ p. OverFile roles.Book book book_new books.Means (OfLines books.Refuses) (λ b. K (packed_with t p (Some b))) result) result)
      (λ t. OverFile roles.Data data_file data_file_new (MeansSummed data_files.Means) (OfLines data_files.Refuses)
      (λ p. OverFile roles.Book book book_new (MeansSummed books.Means) (OfLines books.Refuses) (λ b. L (record { files = summed_with t p; book = Some b })) result) result)
      (λ t sum. summed_file data_files.Means (OfLines data_files.Refuses) data_file.remaining data_file_new.remaining (fault_of roles.Data result)
      (λ p. OverFile roles.Book book book_new books.Means (OfLines books.Refuses) (λ b. K (packed_with t p (Some b))) result)
      (λ p. OverFile roles.Book book book_new (MeansSummed books.Means) (OfLines books.Refuses) (λ b. L (record { files = summed_with (t, sum) p; book = Some b })) result)
      (λ p other. summed_file books.Means (OfLines books.Refuses) book.remaining book_new.remaining (fault_of roles.Book result)
      (λ b. K (packed_with t p (Some b))) (λ b. L (record { files = summed_with (t, sum) (p, other); book = Some b })) (λ b of_book. weaker t sum p other b of_book))) over

-- ---- What was read

no_sums : (sums : Option FileSums) (content : KeyContent) → is_some sums ≡ false → IfSome sums (AreSums content)
no_sums None content none = tt
no_sums (Some s) content none = let never : ⊥ = cc in absurd never

-- a table and a data file were read
pub two_read : {A B : Type 0} (table table_new data_file data_file_new : SourceState) (t : TableContent) (p : Properties) (one : B) (other : A)
    → Over {A = B} table_and_data (table ∷ data_file ∷ []) (table_new ∷ data_file_new ∷ []) (λ content. table_with t p ≡ content) (Ok one)
    → Over {A = A} (key_files false) (table ∷ data_file ∷ []) (table_new ∷ data_file_new ∷ []) (AreRead t p None None) (Ok other)
two_read {A} {B} table table_new data_file data_file_new t p one other over =
    two_summed {A = A} table table_new data_file data_file_new (AreRead t p None None) (Ok other) (λ content. table_with t p ≡ content)
    (λ its_table sum its_properties another same. record {
      same_table = ap (λ (files : TableAndData). files.table) same;
      same_properties = ap (λ (files : TableAndData). files.properties) same;
      book = refl;
      sums = tt;
    })
    (over_weaker table_and_data (table ∷ data_file ∷ []) (table_new ∷ data_file_new ∷ []) (λ content. table_with t p ≡ content) (λ content. table_with t p ≡ content) (Ok one) (Ok other) (λ role. refl) (λ content same. same) over)

-- or one of them is rejected
pub two_rejected : (A B : Type 0) (table table_new data_file data_file_new : SourceState) (fault : RunFault)
    → Over {A = B} table_and_data (table ∷ data_file ∷ []) (table_new ∷ data_file_new ∷ []) (λ content. ⊥) (Err fault)
    → Over {A = A} (key_files false) (table ∷ data_file ∷ []) (table_new ∷ data_file_new ∷ []) (λ content. ⊥) (Err fault)
two_rejected A B table table_new data_file data_file_new fault over =
    two_summed {A = A} table table_new data_file data_file_new (λ content. ⊥) (Err fault) (λ content. ⊥) (λ t sum p other never. never)
    (ended_by_files A B table_and_data (table ∷ data_file ∷ []) (table_new ∷ data_file_new ∷ []) (λ content. ⊥) fault over)

-- three files were read, or one of them is rejected
module _ {X : Type 0} (table_of : X → TableContent) (properties_in : X → Properties) (book_in : X → Option BookContent) (sums_in : X → Option FileSums)
    (table table_new data_file data_file_new book book_new : SourceState) where
  pub three_read : (result : Result X RunFault) → IfOk result (λ x. is_some (sums_in x) ≡ false)
      → Over packed_booked (table ∷ data_file ∷ book ∷ []) (table_new ∷ data_file_new ∷ book_new ∷ [])
      (IsRead (λ x. packed_with (table_of x) (properties_in x) (book_in x)) result) result
      → Over (key_files true) (table ∷ data_file ∷ book ∷ []) (table_new ∷ data_file_new ∷ book_new ∷ [])
      (λ content. IsOkAnd result (λ x. AreRead (table_of x) (properties_in x) (book_in x) (sums_in x) content)) result
  three_read (Ok x) none over =
      three_summed {A = X} table table_new data_file data_file_new (AreRead (table_of x) (properties_in x) (book_in x) (sums_in x)) (Ok x) book book_new
      (λ content. packed_with (table_of x) (properties_in x) (book_in x) ≡ content)
      (λ t sum p other b of_book same. record {
        same_table = ap (λ (c : PackedContent). c.table) same;
        same_properties = ap (λ (c : PackedContent). c.properties) same;
        book = ap (λ (c : PackedContent). c.book) same;
        sums = no_sums (sums_in x) _ none;
      }) over
  three_read (Err fault) none over =
      three_summed {A = X} table table_new data_file data_file_new (λ content. ⊥) (Err fault) book book_new (λ content. ⊥) (λ t sum p other b of_book never. never) over
