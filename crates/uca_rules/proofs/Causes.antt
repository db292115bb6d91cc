-- The causes of errors in characters are causes in bytes.
use Rattle.std.proofs.Common.{◌≡◌, ℕ, ◌≤◌, ⊎_elim, Bool, true, false, List, length, sym, subst, inl, inr, Result, Ok, Err, IfOk, IfErr}
use Rattle.std.specs.Prelude.{IsUtf8}
use Rattle.uca_values.specs.Content.{Properties}
use Rattle.uca_relations.specs.declared.Relation.{Relation}
use Rattle.uca_relations.specs.Relations.{AreRules}
use Rattle.uca_rules.specs.declared.characters.Character.{Character}
use Rattle.uca_rules.specs.declared.faults.RuleFault.{RuleFault}
use Rattle.uca_rules.specs.declared.faults.RuleFaultKind.{RuleFaultKind}
use Rattle.uca_rules.specs.declared.faults.RuleFaultKind.TheVariants as kinds
use Rattle.uca_rules.specs.declared.signs.Preceding.{Preceding}
use Rattle.uca_rules.specs.declared.signs.Preceding.TheVariants as lasts
use Rattle.uca_rules.specs.Statements.{last_of}
use Rattle.uca_rules.specs.Meaning.{Means, relations_of, taken}
use Rattle.uca_rules.specs.Characters.{characters}
use Rattle.uca_rules.specs.Faults.{TextCause, StatementCause, RelationCause, HasCause, IsInside, IsCause}
use Rattle.uca_rules.specs.inside.Reading.{IsReadingFault, ReadsAll}
use Rattle.uca_rules.proofs.Suffixes.{place_within}

no_text_memory : (end : ℕ) (starred : Bool) (text : List Character) (place : ℕ) → ¬ (TextCause end starred text place kinds.Memory)
no_text_memory end true text place h = h
no_text_memory end false text place h = h

no_text_utf8 : (end : ℕ) (starred : Bool) (text : List Character) (place : ℕ) → ¬ (TextCause end starred text place kinds.Utf8)
no_text_utf8 end true text place h = h
no_text_utf8 end false text place h = h

-- neither a failed allocation nor bytes that are not UTF-8 are a cause in characters
pub record IsForeign (kind : RuleFaultKind) : Type 0 where
  pub no_text : (end : ℕ) (starred : Bool) (text : List Character) (place : ℕ) → ¬ (TextCause end starred text place kind)
  pub no_statement : (end : ℕ) (last : Preceding) (count : ℕ) (cs : List Character) (place : ℕ) → ¬ (StatementCause end last count cs place kind)
  pub no_relation : (before : List Relation) (r : Relation) → ¬ (RelationCause before r kind)
  pub no_limit : ¬ (kind ≡ kinds.Limit)

memory_is_foreign : IsForeign kinds.Memory
memory_is_foreign = record {
  no_text = no_text_memory;
  no_statement = (λ end last count cs place h. h);
  no_relation = (λ before r h. h);
  no_limit = (λ e. cc);
}

utf8_is_foreign : IsForeign kinds.Utf8
utf8_is_foreign = record {
  no_text = no_text_utf8;
  no_statement = (λ end last count cs place h. h);
  no_relation = (λ before r h. h);
  no_limit = (λ e. cc);
}

is_none : (properties : Properties) (end : ℕ) (cs : List Character) (place : ℕ) (kind : RuleFaultKind) → IsForeign kind → ¬ (HasCause properties end cs place kind)
is_none properties end cs place kind foreign has =
    ⊎_elim
    (λ text. foreign.no_text end text.starred text.text place text.cause)
    (λ others. ⊎_elim
    (λ cause. foreign.no_statement end (last_of lasts.Nothing has.statements) (length (taken properties has.statements)) has.rest place cause)
    (λ more. ⊎_elim (λ relation. foreign.no_relation (relations_of relation.before) relation.t.relation relation.cause) (λ starred. foreign.no_limit starred.limit) more)
    others)
    has.cause

inside : (properties : Properties) (bytes : List ℕ) (place : ℕ) (kind : RuleFaultKind) → length bytes ≤ 1048576 → IsUtf8 bytes → HasCause properties (length bytes) (characters bytes) place kind → IsInside properties bytes place kind
inside properties bytes place kind few utf8 has = record { few_bytes = few; utf8 = utf8; has = has }

cause_stands : (properties : Properties) (bytes : List ℕ) (place : ℕ) (kind : RuleFaultKind) → length bytes ≤ 1048576 → IsUtf8 bytes → HasCause properties (length bytes) (characters bytes) place kind → IsCause properties bytes place kind
cause_stands properties bytes place kinds.Memory few utf8 has = absurd (is_none properties (length bytes) (characters bytes) place kinds.Memory memory_is_foreign has)
cause_stands properties bytes place kinds.Utf8 few utf8 has = absurd (is_none properties (length bytes) (characters bytes) place kinds.Utf8 utf8_is_foreign has)
cause_stands properties bytes place kinds.Limit few utf8 has = inr (inside properties bytes place kinds.Limit few utf8 has)
cause_stands properties bytes place kinds.Syntax few utf8 has = inside properties bytes place kinds.Syntax few utf8 has
cause_stands properties bytes place kinds.Escape few utf8 has = inside properties bytes place kinds.Escape few utf8 has
cause_stands properties bytes place kinds.BeforeStrength few utf8 has = inside properties bytes place kinds.BeforeStrength few utf8 has
cause_stands properties bytes place kinds.EmptyText few utf8 has = inside properties bytes place kinds.EmptyText few utf8 has
cause_stands properties bytes place kinds.DuplicateTarget few utf8 has = inside properties bytes place kinds.DuplicateTarget few utf8 has
cause_stands properties bytes place kinds.LateTarget few utf8 has = inside properties bytes place kinds.LateTarget few utf8 has

pub memory_stands : (properties : Properties) (bytes : List ℕ) (fault : RuleFault) → fault.kind ≡ kinds.Memory → fault.byte ≤ length bytes → IsCause properties bytes fault.byte fault.kind
memory_stands properties bytes fault is within = subst (λ (kind : RuleFaultKind). IsCause properties bytes fault.byte kind) (sym is) within

pub fault_stands : (properties : Properties) (bytes : List ℕ) (fault : RuleFault) → length bytes ≤ 1048576 → IsUtf8 bytes → IsReadingFault properties (length bytes) (characters bytes) fault
    → IsCause properties bytes fault.byte fault.kind
fault_stands properties bytes fault few utf8 (inl memory) =
    memory_stands properties bytes fault memory.at.0 (subst (λ (n : ℕ). n ≤ length bytes) (sym memory.at.1) (place_within bytes memory.rest utf8 (memory.front, memory.parts)))
fault_stands properties bytes fault few utf8 (inr has) = cause_stands properties bytes fault.byte fault.kind few utf8 has

-- an error of reading is one for equal properties, an equal end and equal characters
pub fault_of : (properties properties' : Properties) (end end' : ℕ) (cs cs' : List Character) (fault : RuleFault) → properties ≡ properties' → end ≡ end' → cs ≡ cs'
    → IsReadingFault properties end cs fault → IsReadingFault properties' end' cs' fault
fault_of properties properties' end end' cs cs' fault p n c h =
    subst (λ (p : Properties). IsReadingFault p end' cs' fault) p (subst (λ (n : ℕ). IsReadingFault properties n cs' fault) n (subst (λ (c : List Character). IsReadingFault properties end c fault) c h))

-- an error of the characters is one of the bytes
pub rejected : {A : Type 0} (properties : Properties) (bytes : List ℕ) (cs : List Character) (result : Result A RuleFault) → length bytes ≤ 1048576 → IsUtf8 bytes → cs ≡ characters bytes
    → IfErr result (IsReadingFault properties (length bytes) cs) → IfErr result (λ fault. IsCause properties bytes fault.byte fault.kind)
rejected properties bytes cs (Ok value) few utf8 are h = tt
rejected properties bytes cs (Err fault) few utf8 are h =
    fault_stands properties bytes fault few utf8 (subst (λ (c : List Character). IsReadingFault properties (length bytes) c fault) are h)

-- characters that are rules are bytes that mean them
pub means : (properties : Properties) (bytes : List ℕ) (cs : List Character) (result : Result (List Relation) RuleFault) → length bytes ≤ 1048576 → IsUtf8 bytes → cs ≡ characters bytes
    → IfOk result (λ rules. ReadsAll properties cs rules × AreRules rules) → IfOk result (Means properties bytes)
means properties bytes cs (Err fault) few utf8 are h = tt
means properties bytes cs (Ok rules) few utf8 are h =
    let all = subst (λ (c : List Character). ReadsAll properties c rules) are h.0 in
    record { few_bytes = few; utf8 = utf8; statements = all.statements; divides = all.divides; chains = all.chains; short = all.short; give = all.give; rules = h.1 }
