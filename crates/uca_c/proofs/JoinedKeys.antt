-- Levels that are joined in the caller's memory are the key.
use Rattle.std.proofs.Common.{◌≡◌, ◌≤◌, ◌∙◌, ◌++◌, ◌∷◌, [], ℕ, List, take, drop, length, append_assoc, refl, sym, ap, arith}
use Rattle.uca_weights.specs.declared.Weighting.{Weighting}
use Rattle.uca_weights.specs.declared.Weighting.TheVariants.{NonIgnorable, Shifted}
use Rattle.uca_key_writer.specs.declared.key_levels.KeyLevels.{KeyLevels}
use Rattle.uca_c.specs.Results.{WritesKey}
use Rattle.uca_c.specs.inside.Joining.{IsWritten, joined_levels}

-- nothing is written yet
pub none_written : (before : List ℕ) → IsWritten [] before 0 before
none_written before = record { count_is = refl; after_is = refl }

-- three levels after one another, and four
pub joined_three : (weighting : Weighting) (l : KeyLevels) → weighting ≡ NonIgnorable
    → (([] ++ l.primary.now) ++ (0 ∷ 0 ∷ l.secondary.now)) ++ (0 ∷ 0 ∷ l.tertiary.now) ≡ joined_levels weighting l
joined_three weighting l is =
    append_assoc l.primary.now (0 ∷ 0 ∷ l.secondary.now) (0 ∷ 0 ∷ l.tertiary.now) ∙ ap (λ w. joined_levels w l) (sym is)

pub joined_four : (weighting : Weighting) (l : KeyLevels) → weighting ≡ Shifted
    → ((([] ++ l.primary.now) ++ (0 ∷ 0 ∷ l.secondary.now)) ++ (0 ∷ 0 ∷ l.tertiary.now)) ++ (0 ∷ 0 ∷ l.quaternary.now) ≡ joined_levels weighting l
joined_four weighting l is =
    let p = l.primary.now in
    let s = 0 ∷ 0 ∷ l.secondary.now in
    let t = 0 ∷ 0 ∷ l.tertiary.now in
    let q = 0 ∷ 0 ∷ l.quaternary.now in
    append_assoc (p ++ s) t q ∙ append_assoc p s (t ++ q) ∙ ap (λ w. joined_levels w l) (sym is)

-- what is written is the key
pub writes : (bytes key before after : List ℕ) (count len : ℕ) → IsWritten bytes before count after → bytes ≡ key → len ≡ length key → len ≤ length before
    → WritesKey key before after len
writes bytes key before after count len written is len_is room =
    let count_is : count ≡ length key = written.count_is ∙ ap length is in
    let all : after ≡ key ++ drop (length key) before =
    written.after_is ∙ ap (λ b. b ++ drop count before) is ∙ ap (λ n. key ++ drop n before) count_is in
    record {
      needed = len_is;
      room = omega (arith, len_is, room);
      written = ap (take (length key)) all ∙ take_whole key (drop (length key) before);
      rest = ap (drop (length key)) all ∙ drop_whole key (drop (length key) before);
    }
  where
    take_whole : (a b : List ℕ) → take (length a) (a ++ b) ≡ a
    take_whole [] b = refl
    take_whole (x ∷ a) b = ap (λ l. x ∷ l) (take_whole a b)

    drop_whole : (a b : List ℕ) → drop (length a) (a ++ b) ≡ b
    drop_whole [] b = refl
    drop_whole (x ∷ a) b = drop_whole a b
