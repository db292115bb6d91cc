-- What a file means with its sum, from what it means and what its sum is.
use Rattle.std.proofs.Common.{◌≡◌, ◌∙◌, List, ℕ, Option, Some, None, sym}
use Rattle.std.specs.Prelude.{IfSome}
use Rattle.sha2.specs.Sha256.{sha256}
use Rattle.uca_fingerprint_runs.specs.Sums.{MeansSummed}

module _ {V : Type 0} (Means : List ℕ → V → Type 0) where
  pub means_summed : (known : Option (List ℕ)) (value : V) (sum : List ℕ) → IfSome known (λ bytes. Means bytes value)
      → IfSome known (λ bytes. sum ≡ sha256 bytes) → IfSome known (λ bytes. MeansSummed Means bytes (value, sum))
  means_summed None value sum means is = tt
  means_summed (Some bytes) value sum means is = (means, is)

  -- it is the only meaning
  pub only_summed : (known : Option (List ℕ)) (value : V) (sum : List ℕ) → IfSome known (λ bytes. (v : V) → Means bytes v → value ≡ v)
      → IfSome known (λ bytes. sum ≡ sha256 bytes) → IfSome known (λ bytes. (v : V × List ℕ) → MeansSummed Means bytes v → (value, sum) ≡ v)
  only_summed None value sum only is = tt
  only_summed (Some bytes) value sum only is = λ v means. λ i. (only v.0 means.0 i, (is ∙ sym means.1) i)

  -- what follows where it means something
  pub whatever_summed : (known : Option (List ℕ)) (P : Type 0) → IfSome known (λ bytes. (v : V) → Means bytes v → P)
      → IfSome known (λ bytes. (v : V × List ℕ) → MeansSummed Means bytes v → P)
  whatever_summed None P only = tt
  whatever_summed (Some bytes) P only = λ v means. only v.0 means.0
