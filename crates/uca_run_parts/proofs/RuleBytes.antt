-- What bytes of rules mean and why they are rejected, from the first 1,048,577 of them.
use Rattle.std.proofs.Common.{◌≡◌, ◌⊎◌, inl, inr, ℕ, ◌+◌, ◌<◌, ◌≤◌, List, [], ◌++◌, length, Option, Some, None, IfSome, Ok, Err, refl, ap, sym, subst, ◌∙◌, arith}
use Rattle.std.proofs.lemmas.Bool.{cases_lt}
use Rattle.std.proofs.lemmas.List.{length-append, append-nil}
use Rattle.std.specs.Io.KnownBytes.{Consumes}
use Rattle.std.proofs.KnownBytes.{Consumes-trans}
use Rattle.uca_values.specs.Content.{Properties}
use Rattle.uca_relations.specs.declared.Relation.{Relation}
use Rattle.uca_rules.specs.declared.faults.RuleFault.{RuleFault}
use Rattle.uca_rules.specs.declared.faults.RuleFaultKind.{RuleFaultKind}
use Rattle.uca_rules.specs.declared.faults.RuleFaultKind.TheVariants as kinds
use Rattle.uca_rules.specs.Faults.{IsCause}
use Rattle.uca_rules.specs.Meaning.{Means}
use Rattle.uca_run_parts.specs.declared.faults.FileFault.TheVariants.{Rules}
use Rattle.uca_run_parts.specs.declared.faults.Role.TheVariants as roles
use Rattle.uca_run_parts.specs.declared.faults.RunFault.TheVariants.{File}
use Rattle.uca_run_parts.specs.Files.{LosesAtMost, RefusesRules}
use Rattle.uca_run_parts.specs.ReadFiles.{AreRead, ReadsThat}

-- no more bytes were read than there are
no_more : (bytes left : Option (List ℕ)) (read all : List ℕ) → AreRead bytes left read → bytes ≡ Some all → length read ≤ length all
no_more bytes None read all are is = absurd (subst (λ b. AreRead b None read) is are).loses
no_more bytes (Some rest) read all are is =
    let parts : all ≡ read ++ rest = (subst (λ b. AreRead b (Some rest) read) is are).loses in
    omega (arith, ap length parts ∙ length-append read rest)

-- if rules may have as many bytes as were read, these are all
are_all : (bytes : List ℕ) (left : Option (List ℕ)) (read : List ℕ) → AreRead (Some bytes) left read → length read ≤ 1048576 → bytes ≡ read
are_all bytes None read are few = absurd are.loses
are_all bytes (Some rest) read are few =
    let end : rest ≡ [] = are.all (omega (arith, few)) in
    are.loses ∙ ap (λ r. read ++ r) end ∙ append-nil read

-- bytes that mean relations were read to their end
whole : (properties : Properties) (bytes : List ℕ) (left : Option (List ℕ)) (read : List ℕ) (relations : List Relation) → AreRead (Some bytes) left read
    → Means properties bytes relations → Means properties read relations
whole properties bytes left read relations are means =
    let few : length read ≤ 1048576 = omega (arith, no_more (Some bytes) left read bytes are refl, means.few_bytes) in
    subst (λ b. Means properties b relations) (are_all bytes left read are few) means

-- so what is read of them are these relations
pub only_rules : (properties : Properties) (known left : Option (List ℕ)) (read : List ℕ) (rules : List Relation) → AreRead known left read
    → ((relations : List Relation) → Means properties read relations → rules ≡ relations) → ReadsThat known (Means properties) (Ok rules)
only_rules properties None left read rules are only = tt
only_rules properties (Some bytes) left read rules are only = λ relations means. only relations (whole properties bytes left read relations are means)

-- or an allocation failed
pub only_memory : (properties : Properties) (known left : Option (List ℕ)) (read : List ℕ) (fault : RuleFault) → AreRead known left read
    → ((relations : List Relation) → Means properties read relations → fault.kind ≡ kinds.Memory) → ReadsThat known (Means properties) (Err (File roles.Rules (Rules fault)))
only_memory properties None left read fault are only = tt
only_memory properties (Some bytes) left read fault are only = λ relations means. only relations (whole properties bytes left read relations are means)

-- a cause in more bytes than rules may have is that there are more
too_many : (properties : Properties) (bytes read : List ℕ) (place : ℕ) (kind : RuleFaultKind) → length read ≤ length bytes → 1048576 < length read
    → IsCause properties read place kind → IsCause properties bytes place kind
too_many properties bytes read place kinds.Memory more many cause = omega (arith, more, cause)
too_many properties bytes read place kinds.Utf8 more many cause = let never : ⊥ = omega (arith, many, cause.0) in absurd never
too_many properties bytes read place kinds.Limit more many (inl cause) = inl (omega (arith, many, more), cause.1)
too_many properties bytes read place kinds.Limit more many (inr cause) = let never : ⊥ = omega (arith, many, cause.few_bytes) in absurd never
too_many properties bytes read place kinds.Syntax more many cause = let never : ⊥ = omega (arith, many, cause.few_bytes) in absurd never
too_many properties bytes read place kinds.Escape more many cause = let never : ⊥ = omega (arith, many, cause.few_bytes) in absurd never
too_many properties bytes read place kinds.BeforeStrength more many cause = let never : ⊥ = omega (arith, many, cause.few_bytes) in absurd never
too_many properties bytes read place kinds.EmptyText more many cause = let never : ⊥ = omega (arith, many, cause.few_bytes) in absurd never
too_many properties bytes read place kinds.DuplicateTarget more many cause = let never : ⊥ = omega (arith, many, cause.few_bytes) in absurd never
too_many properties bytes read place kinds.LateTarget more many cause = let never : ⊥ = omega (arith, many, cause.few_bytes) in absurd never

-- either way a cause in what was read is one in the bytes
known_cause : (properties : Properties) (bytes : List ℕ) (left : Option (List ℕ)) (read : List ℕ) (place : ℕ) (kind : RuleFaultKind) → AreRead (Some bytes) left read
    → (1048576 < length read) ⊎ (length read ≤ 1048576) → IsCause properties read place kind → IsCause properties bytes place kind
known_cause properties bytes left read place kind are (inl many) cause = too_many properties bytes read place kind (no_more (Some bytes) left read bytes are refl) many cause
known_cause properties bytes left read place kind are (inr few) cause = subst (λ b. IsCause properties b place kind) (sym (are_all bytes left read are few)) cause

-- what one more read gives comes after what was read before
pub one_more : (start old new : Option (List ℕ)) (before more : List ℕ) → Consumes start old before → Consumes old new more → length before + length more ≤ 1048577
    → (part : List ℕ) × Consumes start new part × (length part ≤ 1048577)
one_more start old new before more earlier later few =
    (before ++ more, Consumes-trans start old new before more earlier later, omega (arith, few, length-append before more))

-- at most `most` of the known bytes are read
loses_few : (most : ℕ) (bytes : List ℕ) (left : Option (List ℕ)) (part : List ℕ) → Consumes (Some bytes) left part → length part ≤ most → LosesAtMost most bytes left
loses_few most bytes None part loses few = absurd loses
loses_few most bytes (Some rest) part loses few = (part, loses, few)

-- a cause in what was read is one in the bytes
pub rules_refused : (properties : Properties) (known left : Option (List ℕ)) (read : List ℕ) (fault : RuleFault) → AreRead known left read
    → IsCause properties read fault.byte fault.kind → IfSome known (λ bytes. RefusesRules properties bytes left (Rules fault))
rules_refused properties None left read fault are cause = tt
rules_refused properties (Some bytes) left read fault are cause = (
  known_cause properties bytes left read fault.byte fault.kind are (cases_lt 1048576 (length read)) cause,
  loses_few 1048577 bytes left read are.loses are.few,
)
