-- What a value that writes keys passes on of the calls that it makes.
use Rattle.std.proofs.Common.{◌≡◌, ℕ, List, Bool, Result, true, take, ap, subst, ◌∙◌}
use Rattle.std.specs.Result.{OnOk, IfErr, IsErrAnd}
use Rattle.std.specs.Bool.{OnTrue}
use Rattle.uca_weights.specs.declared.Settings.{Settings}
use Rattle.uca_text.specs.Texts.{NfdText, nfd_text}
use Rattle.uca_text.specs.Faults.{IsCause}
use Rattle.uca_text.specs.declared.normalize.TextFault.{TextFault}
use Rattle.uca_text.specs.declared.normalize.TextFault.TheVariants.{Memory}
use Rattle.uca_elements.specs.Rows.{Rows}
use Rattle.uca_elements.specs.Collations.{Collation}
use Rattle.uca_order.specs.Depths.{read_text, key_at, text_key}
use Rattle.uca_key_writer.specs.Buffers.{KeyState}
use Rattle.uca_key_writer.specs.Writers.{WriterState, collation_by}
use Rattle.uca_key_writer.specs.inside.AsItIs.{key_as_it_is}
use Rattle.uca_plain.proofs.Results.{with_value, fault_is}

-- any text may meet an allocation that fails
pub memory_is_cause : {T : Type 0} (s : NfdText) (r : Result T TextFault) → IsErrAnd r (λ fault. fault ≡ Memory) → IfErr r (IsCause s)
memory_is_cause s r is = fault_is (IsCause s) r Memory is tt

-- the key of a text by a state
abbrev pub key_by : {L : Type 0} → (L → Rows) → WriterState L → List ℕ → List ℕ
key_by content w xs = text_key (collation_by content w) w.settings xs

-- a whole key begins as it should
pub beginning_of_whole : {T E : Type 0} (c : Collation) (at settings : Settings) (xs key : List ℕ) (r : Result T E)
    → at ≡ settings → OnOk r (key ≡ text_key c at xs) → OnOk r (take 16 key ≡ take 16 (text_key c settings xs))
beginning_of_whole c at settings xs key r same =
    with_value r (key ≡ text_key c at xs) (take 16 key ≡ take 16 (text_key c settings xs))
    (λ whole. ap (take 16) (whole ∙ ap (λ (s : Settings). text_key c s xs) same))

-- ---- A key by pieces, or of a text that was normalized

-- what an accepted text says
pub by_flag : (accepted : Bool) (P : Type 0) → accepted ≡ true → OnTrue accepted P → P
by_flag accepted P flag says = subst (λ flag. OnTrue flag P) flag says

pub key_of_normal : (c : Collation) (before after : KeyState) (xs key : List ℕ) (text : NfdText) → text ≡ nfd_text c.properties xs
    → after.weighting ≡ before.weighting → after.depth ≡ before.depth → key ≡ key_at after.depth after.weighting (read_text c text)
    → key ≡ key_as_it_is c before.weighting before.depth xs
key_of_normal c before after xs key text found weighting depth wrote =
    wrote ∙ (λ i. key_at (depth i) (weighting i) (read_text c (found i)))
