-- What went out, where a text is written in parts.
use Rattle.std.proofs.Common.{◌≡◌, ℕ, ◌+◌, ◌-◌, ◌≤◌, List, ◌++◌, Option, length, take, drop, sym, ap, subst, ◌∙◌, arith, length-take}
use lib.Seq.{take-add, take-take}
use Rattle.std.specs.Io.KnownBytes.{Appends}
use Rattle.std.proofs.KnownBytes.{Appends-trans}
use Rattle.uca_weights.specs.Writes.{WentOut}

-- the next n bytes of the text went out too
pub WentOut-next : (start mid now : Option (List ℕ)) (text : List ℕ) (written n : ℕ)
    → WentOut start mid text written
    → n ≤ length (take (length text - written) (drop written text))
    → Appends mid now (take n (take (length text - written) (drop written text)))
    → WentOut start now text (written + n)
WentOut-next start mid now text written n before within next =
    let fits : n ≤ length text - written = omega (arith, length-take (length text - written) (drop written text)) in
    let joined : take written text ++ take n (take (length text - written) (drop written text)) ≡ take (written + n) text =
    ap (λ l. take written text ++ l) (take-take n (length text - written) (drop written text) fits) ∙ sym (take-add written n text) in
    (subst (Appends start now) joined (Appends-trans start mid now _ _ before.0 next), omega arith)
