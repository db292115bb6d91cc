-- How a pair of texts compares, by what the calls say that are made for it.
use Rattle.std.proofs.Common.{◌≡◌, ℕ, List, Result, Ok, Err, sym, ap, subst, ◌∙◌, min}
use Rattle.std.specs.Prelude.{IfOk, OnOk, IfErr}
use Rattle.std.specs.declared.cmp.Ordering.{Ordering}
use Rattle.std.specs.declared.cmp.Ordering.TheVariants.{Equal}
use Rattle.unicode_normalization.specs.Forms.{nfd}
use Rattle.uca_weights.specs.declared.Depth.{Depth}
use Rattle.uca_weights.specs.declared.Depth.TheVariants.{Weights, Identical}
use Rattle.uca_weights.specs.declared.Numbers.{Numbers}
use Rattle.uca_weights.specs.declared.Settings.{Settings}
use Rattle.uca_weights.specs.declared.Weighting.{Weighting}
use Rattle.uca_text.specs.Texts.{NfdText, nfd_text}
use Rattle.uca_text.specs.Limits.{IsAccepted}
use Rattle.uca_elements.specs.Collations.{Collation, elements_of}
use Rattle.uca_order.specs.Depths.{read_text, written_text, compared_at, texts_compared}
use Rattle.uca_order.specs.Fetched.{fetched_left, fetched_right}
use Rattle.uca_comparison.specs.declared.comparison.Compared.{Compared}
use Rattle.uca_comparison.specs.declared.walk.Walked.{Walked}
use Rattle.uca_comparison.specs.inside.Comparisons.{ComparesLevels, NothingElseDecides, compared_points}
use Rattle.uca_comparison.proofs.Counts.{counted_from_none}
use Rattle.uca_comparison.proofs.ComparisonLemmas.{compares_at, points_decide}
use Rattle.uca_text_comparer.specs.declared.faults.PairFault.{PairFault}
use Rattle.uca_text_comparer.specs.inside.Shared.{text_elements}
use Rattle.uca_text_comparer.specs.inside.Pairs.{read_as, ComparesAs, ComparesPair, IsPairStop}

-- ---- Texts that were normalized

-- how two of them compare, and what is fetched of them
abbrev pub Compares : Collation → Weighting → Depth → NfdText → NfdText → Ordering → ℕ → Type 0
Compares c weighting depth s t order level =
    let answer = compared_at depth weighting (read_text c s) (read_text c t) in (order ≡ answer.order) × (level ≡ answer.level)

abbrev pub Fetches : Collation → Weighting → NfdText → NfdText → ℕ → ℕ → Type 0
Fetches c weighting s t left right =
    (left ≡ min 18446744073709551615 (fetched_left weighting (elements_of c s) (elements_of c t)))
    × (right ≡ min 18446744073709551615 (fetched_right weighting (elements_of c s) (elements_of c t)))

-- all that is said of them
record NormalsCompare (c : Collation) (weighting : Weighting) (depth : Depth) (s t : NfdText) (compared : Compared) : Type 0 where
  compares : Compares c weighting depth s t compared.order compared.level
  fetches : Fetches c weighting s t compared.fetched_left compared.fetched_right
  left : IsAccepted s
  right : IsAccepted t

pub normals_compare : (c : Collation) (weighting : Weighting) (depth : Depth) (xs ys : List ℕ) (s t : NfdText) (compared : Compared)
    → s ≡ nfd_text c.properties xs → t ≡ nfd_text c.properties ys → IsAccepted s → IsAccepted t
    → Compares c weighting depth s t compared.order compared.level → Fetches c weighting s t compared.fetched_left compared.fetched_right
    → ComparesAs c weighting depth xs ys xs ys compared
normals_compare c weighting depth xs ys s t compared found also keeps too compares fetches =
    let both : NormalsCompare c weighting depth s t compared = record { compares = compares; fetches = fetches; left = keeps; right = too } in
    let all = subst (λ (t : NfdText). NormalsCompare c weighting depth (nfd_text c.properties xs) t compared) also
    (subst (λ (s : NfdText). NormalsCompare c weighting depth s t compared) found both) in
    record {
      order_is = all.compares.0;
      level_is = all.compares.1;
      left_is = all.fetches.0;
      right_is = all.fetches.1;
      left_accepted = all.left;
      right_accepted = all.right;
    }

-- ---- What is read of the texts

-- what is said of two texts is said of two that are the same
pub of_both : (P : List ℕ → List ℕ → Type 0) {xs ys us vs : List ℕ} → xs ≡ us → ys ≡ vs → P xs ys → P us vs
of_both P {xs} {ys} {us} {vs} left right it = subst (λ (l : List ℕ). P us l) right (subst (λ (l : List ℕ). P l ys) left it)

-- at the depth `Weights` their code points do not matter
pub weights_of_read : (c : Collation) (weighting : Weighting) (left right us vs xs ys : List ℕ) (r : Result Compared PairFault)
    → IfOk r (ComparesAs c weighting Weights left right us vs) → IfOk r (ComparesAs c weighting Weights left right xs ys)
weights_of_read c weighting left right us vs xs ys (Ok compared) is = record {
  order_is = is.order_is;
  level_is = is.level_is;
  left_is = is.left_is;
  right_is = is.right_is;
  left_accepted = is.left_accepted;
  right_accepted = is.right_accepted;
}
weights_of_read c weighting left right us vs xs ys (Err fault) is = tt

-- ---- After the weights

-- the walk that would say this of the weights
abbrev walked_of : Compared → Walked
walked_of compared = record {
  order = compared.order;
  level = compared.level;
  last = 0;
  fetched_left = compared.fetched_left;
  fetched_right = compared.fetched_right;
}

levels_of : (c : Collation) (weighting : Weighting) (left right xs ys : List ℕ) (compared : Compared)
    → ComparesAs c weighting Weights left right xs ys compared
    → ComparesLevels weighting (text_elements c left) (text_elements c right) (walked_of compared)
levels_of c weighting left right xs ys compared is =
    let es = text_elements c left in
    let fs = text_elements c right in
    record {
      order_is = is.order_is;
      level_is = is.level_is;
      left_is = is.left_is ∙ sym (counted_from_none (fetched_left weighting es fs));
      right_is = is.right_is ∙ sym (counted_from_none (fetched_right weighting es fs));
    }

-- nothing else decides between the texts, which are the bytes `one` and `other`
pub pair_decided : (c : Collation) (weighting : Weighting) (depth : Depth) (left right xs ys one other : List ℕ) (compared : Compared)
    → NothingElseDecides compared.order depth one other → (one ≡ other → xs ≡ ys)
    → ComparesAs c weighting Weights left right xs ys compared → ComparesAs c weighting depth left right xs ys compared
pair_decided c weighting depth left right xs ys one other compared none same is =
    let now = compares_at depth weighting (read_as c left xs) (read_as c right ys) one other (walked_of compared)
    (levels_of c weighting left right xs ys compared is) none (λ e. ap nfd (same e)) in
    record {
      order_is = now.0;
      level_is = now.1;
      left_is = is.left_is;
      right_is = is.right_is;
      left_accepted = is.left_accepted;
      right_accepted = is.right_accepted;
    }

-- the code points decide
pub pair_by_points : (c : Collation) (weighting : Weighting) (depth : Depth) (left right xs ys : List ℕ) (compared : Compared) (order : Ordering) (level : ℕ)
    → compared.order ≡ Equal → depth ≡ Identical → ComparesAs c weighting Weights left right xs ys compared
    → (order ≡ (compared_points weighting (nfd xs) (nfd ys)).order) × (level ≡ (compared_points weighting (nfd xs) (nfd ys)).level)
    → ComparesAs c weighting depth left right xs ys
    (record { order = order; level = level; fetched_left = compared.fetched_left; fetched_right = compared.fetched_right })
pair_by_points c weighting depth left right xs ys compared order level equal identical is points =
    let now = points_decide depth weighting (read_as c left xs) (read_as c right ys) (walked_of compared) identical equal
    (levels_of c weighting left right xs ys compared is) order level points in
    record {
      order_is = now.0;
      level_is = now.1;
      left_is = is.left_is;
      right_is = is.right_is;
      left_accepted = is.left_accepted;
      right_accepted = is.right_accepted;
    }

-- ---- Under settings

-- how two texts compare, what is fetched of them, and that both are accepted
abbrev pub AreCompared : Collation → Settings → List ℕ → List ℕ → Ordering → ℕ → Type 0
AreCompared c settings xs ys order level =
    let answer = texts_compared c settings xs ys in (order ≡ answer.order) × (level ≡ answer.level)

abbrev pub AreFetched : Collation → Settings → List ℕ → List ℕ → ℕ → ℕ → Type 0
AreFetched c settings xs ys =
    Fetches c settings.weighting (written_text settings.numbers c.properties xs) (written_text settings.numbers c.properties ys)

abbrev pub AreAccepted : Collation → Settings → List ℕ → List ℕ → Type 0
AreAccepted c settings xs ys =
    IsAccepted (written_text settings.numbers c.properties xs) × IsAccepted (written_text settings.numbers c.properties ys)

-- what a call under settings says, and why it fails
pub record IsAnswer {E : Type 0} (c : Collation) (settings : Settings) (xs ys : List ℕ) (Stops : E → Type 0) (r : Result Compared E) : Type 0 where
  pub compared : IfOk r (λ compared. AreCompared c settings xs ys compared.order compared.level)
  pub fetched : IfOk r (λ compared. AreFetched c settings xs ys compared.fetched_left compared.fetched_right)
  pub accepted : OnOk r (AreAccepted c settings xs ys)
  pub fault : IfErr r Stops

answer_of : (c : Collation) (settings : Settings) (xs ys : List ℕ) (r : Result Compared PairFault)
    → IfOk r (ComparesPair c settings.numbers settings.weighting settings.depth xs ys) → IfErr r (IsPairStop c settings.numbers xs ys)
    → IsAnswer c settings xs ys (IsPairStop c settings.numbers xs ys) r
answer_of c settings xs ys (Ok compared) is fault = record {
  compared = (is.order_is, is.level_is);
  fetched = (is.left_is, is.right_is);
  accepted = (is.left_accepted, is.right_accepted);
  fault = tt;
}
answer_of c settings xs ys (Err stop) is fault = record { compared = tt; fetched = tt; accepted = tt; fault = fault }

-- the numbers are those of the settings
pub answer_with : (c : Collation) (settings : Settings) (numbers : Numbers) (xs ys : List ℕ) (r : Result Compared PairFault) → settings.numbers ≡ numbers
    → IfOk r (ComparesPair c numbers settings.weighting settings.depth xs ys) → IfErr r (IsPairStop c numbers xs ys)
    → IsAnswer c settings xs ys (IsPairStop c settings.numbers xs ys) r
answer_with c settings numbers xs ys r same is fault =
    answer_of c settings xs ys r
    (subst (λ (n : Numbers). IfOk r (ComparesPair c n settings.weighting settings.depth xs ys)) (sym same) is)
    (subst (λ (n : Numbers). IfErr r (IsPairStop c n xs ys)) (sym same) fault)
