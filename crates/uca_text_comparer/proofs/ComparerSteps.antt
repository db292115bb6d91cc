-- What a value that compares texts passes on of the call that it makes.
use Rattle.std.proofs.Common.{◌⊎◌, ℕ, List, Result}
use Rattle.uca_weights.specs.declared.Settings.{Settings}
use Rattle.uca_text.specs.Texts.{NfdText}
use Rattle.uca_text.specs.Limits.{IsAccepted}
use Rattle.uca_text.specs.Faults.{IsCause}
use Rattle.uca_text.specs.declared.normalize.TextFault.{TextFault}
use Rattle.uca_elements.specs.Collations.{Collation}
use Rattle.uca_elements.specs.Rows.{Rows}
use Rattle.uca_order.specs.Depths.{written_text}
use Rattle.uca_comparison.specs.declared.comparison.Compared.{Compared}
use Rattle.uca_text_comparer.specs.Comparers.{ComparerState, collation_by}
use Rattle.uca_text_comparer.proofs.PairSteps.{IsAnswer}

-- what the error of a text says of two
abbrev pub Causes : NfdText → NfdText → TextFault → Type 0
Causes left right fault = IsCause left fault ⊎ (IsAccepted left × IsCause right fault)

-- what a call says that does not tell which of the two is rejected
abbrev pub IsTextAnswer : Collation → Settings → List ℕ → List ℕ → Result Compared TextFault → Type 0
IsTextAnswer c settings xs ys =
    IsAnswer c settings xs ys (Causes (written_text settings.numbers c.properties xs) (written_text settings.numbers c.properties ys))

-- and that of a state
abbrev pub IsAnswerBy : {L : Type 0} → (L → Rows) → ComparerState L → List ℕ → List ℕ → Result Compared TextFault → Type 0
IsAnswerBy content s = IsTextAnswer (collation_by content s) s.settings
