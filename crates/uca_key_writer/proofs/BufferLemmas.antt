-- What one more element adds to the levels of a key in the making, and what the levels make when they are joined.
use Rattle.std.proofs.Common.{Option, None, Result, Ok, Err, OnOk, ◌≡◌, ℕ, List, [], ◌∷◌, ◌++◌, Bool, true, false}
use Rattle.std.proofs.Common.{arith, cond, not, nat_eq, filter, map, refl, sym, ap, ◌∙◌, subst, get_or, ◌+◌, ◌<◌, ◌≤◌, length, take}
use Rattle.std.specs.Prelude.{reverse, if◌then◌else◌}
use Rattle.std.proofs.lemmas.List.{reverse-append, map-append}
use Rattle.std.proofs.lemmas.List.Elements.{filter-append}
use Rattle.std.proofs.lemmas.Grind.{flat_map-append}
use Rattle.std.proofs.lemmas.List.{append_assoc, append-nil, take_more, take_all}
use mathlib.Core.List.{reverse_aux}
use Rattle.std.specs.Iterator.{Yields}
use Rattle.std.specs.Iterator.Runs.{WholeRun}
use Rattle.std.proofs.iter.runs.Made.{run, to_end}
use Rattle.uca_weights.specs.declared.Element.{Element}
use Rattle.uca_weights.specs.declared.Weighting.{Weighting}
use Rattle.uca_weights.specs.declared.Weighting.TheVariants.{NonIgnorable, Shifted}
use Rattle.uca_order.specs.Levels.{weight_at, level_list, weighted, weight_bytes, level_bytes, weighted_following}
use Rattle.uca_order.specs.Levels.{weights_of, follows_variable, key_bytes}
use Rattle.uca_order.specs.StreamedWeights.{at_four_levels, is_after_variable}
use Rattle.uca_key_writer.specs.declared.slots.Counts.{Counts}
use Rattle.uca_key_writer.specs.inside.LevelBuffers.{LevelState, HoldsLevels, HasRoom, IsNextFlag, bytes_of_level, held, levels_of}

-- the bytes of a weight, none of the weight 0
abbrev pub added : ℕ → List ℕ
added w = if nat_eq w 0 then [] else weight_bytes w

-- ---- One more element

-- the weights of one more element come last
pub weighted_following-push : (weighting : Weighting) (earlier es : List Element) (e : Element)
    → weighted_following weighting earlier (es ++ e ∷ [])
    ≡ weighted_following weighting earlier es ++ weights_of weighting (follows_variable (reverse_aux es earlier)) e ∷ []
weighted_following-push weighting earlier [] e = refl
weighted_following-push weighting earlier (d ∷ es) e =
    ap (λ l. weights_of weighting (follows_variable earlier) d ∷ l) (weighted_following-push weighting (d ∷ earlier) es e)

-- the bytes of a list of one weight, or of none
pub added_is : (w : ℕ) (b : Bool) → level_bytes (cond (not b) (w ∷ []) []) ≡ cond b [] (weight_bytes w)
added_is w true = refl
added_is w false = refl

-- the bytes of a level with one more element
pub level_more : (level : ℕ) (weighting : Weighting) (es : List Element) (e : Element)
    → bytes_of_level weighting (es ++ e ∷ []) level
    ≡ bytes_of_level weighting es level ++ added (weight_at level (weights_of weighting (follows_variable (reverse es)) e))
level_more level weighting es e =
    let before = weighted weighting es in
    let ws = weights_of weighting (follows_variable (reverse es)) e in
    let p : ℕ → Bool = λ w. not (nat_eq w 0) in
    ap (λ l. level_bytes (level_list level l)) (weighted_following-push weighting [] es e)
    ∙ ap (λ l. level_bytes (filter p l)) (map-append (weight_at level) before (ws ∷ []))
    ∙ ap level_bytes (filter-append p (map (weight_at level) before) (weight_at level ws ∷ []))
    ∙ flat_map-append weight_bytes (level_list level before) (filter p (weight_at level ws ∷ []))
    ∙ ap (λ l. level_bytes (level_list level before) ++ l) (added_is (weight_at level ws) (nat_eq (weight_at level ws) 0))

-- a level that has got the weight of one more element
pub level_pushed : (level : ℕ) (weighting : Weighting) (es : List Element) (e : Element) (w : ℕ) (old new : List ℕ)
    → old ≡ bytes_of_level weighting es level → w ≡ weight_at level (weights_of weighting (follows_variable (reverse es)) e)
    → new ≡ old ++ added w → new ≡ bytes_of_level weighting (es ++ e ∷ []) level
level_pushed level weighting es e w old new was is grown =
    grown ∙ ap (λ l. l ++ added w) was ∙ ap (λ v. bytes_of_level weighting es level ++ added v) is ∙ sym (level_more level weighting es e)

-- the flag after one more element
pub follows-push : (es : List Element) (e : Element)
    → follows_variable (reverse (es ++ e ∷ [])) ≡ is_after_variable (follows_variable (reverse es)) e
follows-push es e = ap follows_variable (reverse-append es (e ∷ []))

-- levels that have got the weights of one more element
pub pushed : (weighting : Weighting) (old new : LevelState) (es : List Element) (e : Element) (ws : List ℕ)
    → HoldsLevels weighting es old → ws ≡ at_four_levels (weights_of weighting old.after_variable e)
    → IsNextFlag weighting old.after_variable e new.after_variable
    → new.primary ≡ old.primary ++ added (get_or ws 0 0) → new.secondary ≡ old.secondary ++ added (get_or ws 1 0)
    → new.tertiary ≡ old.tertiary ++ added (get_or ws 2 0) → new.quaternary ≡ old.quaternary ++ added (get_or ws 3 0)
    → HoldsLevels weighting (es ++ e ∷ []) new
pushed NonIgnorable old new es e ws h weighs next primary secondary tertiary quaternary = record {
  after_variable = tt;
  primary = level_pushed 1 NonIgnorable es e (get_or ws 0 0) old.primary new.primary h.primary (ap (λ l. get_or l 0 0) weighs) primary;
  secondary = level_pushed 2 NonIgnorable es e (get_or ws 1 0) old.secondary new.secondary h.secondary (ap (λ l. get_or l 1 0) weighs) secondary;
  tertiary = level_pushed 3 NonIgnorable es e (get_or ws 2 0) old.tertiary new.tertiary h.tertiary (ap (λ l. get_or l 2 0) weighs) tertiary;
  quaternary = level_pushed 4 NonIgnorable es e (get_or ws 3 0) old.quaternary new.quaternary h.quaternary (ap (λ l. get_or l 3 0) weighs) quaternary;
}
pushed Shifted old new es e ws h weighs next primary secondary tertiary quaternary =
    let four = weighs ∙ ap (λ flag. at_four_levels (weights_of Shifted flag e)) h.after_variable in
    record {
      after_variable = next ∙ ap (λ flag. is_after_variable flag e) h.after_variable ∙ sym (follows-push es e);
      primary = level_pushed 1 Shifted es e (get_or ws 0 0) old.primary new.primary h.primary (ap (λ l. get_or l 0 0) four) primary;
      secondary = level_pushed 2 Shifted es e (get_or ws 1 0) old.secondary new.secondary h.secondary (ap (λ l. get_or l 1 0) four) secondary;
      tertiary = level_pushed 3 Shifted es e (get_or ws 2 0) old.tertiary new.tertiary h.tertiary (ap (λ l. get_or l 2 0) four) tertiary;
      quaternary = level_pushed 4 Shifted es e (get_or ws 3 0) old.quaternary new.quaternary h.quaternary (ap (λ l. get_or l 3 0) four) quaternary;
    }

-- ---- Places

-- room for fewer
pub less_room : (more less : ℕ) (counts : Counts) (primary secondary tertiary quaternary : List (List ℕ)) → less ≤ more
    → HasRoom more counts primary secondary tertiary quaternary → HasRoom less counts primary secondary tertiary quaternary
less_room more less counts primary secondary tertiary quaternary fewer room =
    record { primary = omega arith; secondary = omega arith; tertiary = omega arith; quaternary = omega arith }

-- equal slots have equal room
pub room_in : (more : ℕ) (counts : Counts) (p s t q primary secondary tertiary quaternary : List (List ℕ))
    → primary ≡ p → secondary ≡ s → tertiary ≡ t → quaternary ≡ q → HasRoom more counts p s t q → HasRoom more counts primary secondary tertiary quaternary
room_in more counts p s t q primary secondary tertiary quaternary same_primary same_secondary same_tertiary same_quaternary room = record {
  primary = subst (λ l. counts.primary + more ≤ length l) (sym same_primary) room.primary;
  secondary = subst (λ l. counts.secondary + more ≤ length l) (sym same_secondary) room.secondary;
  tertiary = subst (λ l. counts.tertiary + more ≤ length l) (sym same_tertiary) room.tertiary;
  quaternary = subst (λ l. counts.quaternary + more ≤ length l) (sym same_quaternary) room.quaternary;
}

-- the levels do not change where only slots are added
pub same_levels : (flag : Bool) (counts : Counts) (p s t q primary secondary tertiary quaternary : List (List ℕ)) (key : List ℕ)
    → held primary counts.primary ≡ held p counts.primary → held secondary counts.secondary ≡ held s counts.secondary
    → held tertiary counts.tertiary ≡ held t counts.tertiary → held quaternary counts.quaternary ≡ held q counts.quaternary
    → levels_of flag counts p s t q key ≡ levels_of flag counts primary secondary tertiary quaternary key
same_levels flag counts p s t q primary secondary tertiary quaternary key same_primary same_secondary same_tertiary same_quaternary = cc

-- ---- Elements in turn

pub pushed_none : (weighting : Weighting) (es ds : List Element) (b : LevelState) → HoldsLevels weighting es b → HoldsLevels weighting (es ++ take 0 ds) b
pushed_none weighting es ds b h = subst (λ l. HoldsLevels weighting l b) (sym (append-nil es)) h

pub pushed_next : (weighting : Weighting) (es ds : List Element) (i : ℕ) (d : Element) (b : LevelState) → i < length ds
    → HoldsLevels weighting ((es ++ take i ds) ++ get_or ds i d ∷ []) b → HoldsLevels weighting (es ++ take (i + 1) ds) b
pushed_next weighting es ds i d b below h =
    let more : take (i + 1) ds ≡ take i ds ++ get_or ds i d ∷ [] = take_more ds i d below in
    subst (λ l. HoldsLevels weighting l b) (append_assoc es (take i ds) (get_or ds i d ∷ []) ∙ ap (λ l. es ++ l) (sym more)) h

pub pushed_last : (weighting : Weighting) (es ds : List Element) (i : ℕ) (b : LevelState) → length ds ≤ i
    → HoldsLevels weighting (es ++ take i ds) b → HoldsLevels weighting (es ++ ds) b
pushed_last weighting es ds i b all h = subst (λ l. HoldsLevels weighting (es ++ l) b) (take_all i ds all) h

-- ---- The whole key

-- a key of the items that a loop took up to the end is the key of a whole run
pub written : {S U E : Type 0} (steps : S → Option Element → S → Type 0) (s start t u : S)
    (es : List Element) (r : Result U E) (key : List ℕ) (weighting same : Weighting)
    → start ≡ s → Yields steps start es t → steps t None u → weighting ≡ same → OnOk r (key ≡ key_bytes weighting es)
    → OnOk r (WholeRun steps s (λ p. key ≡ key_bytes same p.items))
written {S} steps s start t u es (Ok v) key weighting same begins ran ends under is =
    let from : Yields steps s es t = subst (λ (k : S). Yields steps k es t) begins ran in
    (run steps s es true (to_end steps s es (u, (t, from, ends))), refl, refl, is ∙ ap (λ w. key_bytes w es) under)
written steps s start t u es (Err e) key weighting same begins ran ends under is = tt

-- a key that was taken out of its buffer is the key of a whole run
pub taken : {S : Type 0} (steps : S → Option Element → S → Type 0) (s : S) (held key : List ℕ) (weighting : Weighting)
    → key ≡ held → WholeRun steps s (λ p. held ≡ key_bytes weighting p.items) → WholeRun steps s (λ p. key ≡ key_bytes weighting p.items)
taken steps s held key weighting is (p, from, whole, holds) = (p, from, whole, is ∙ holds)
