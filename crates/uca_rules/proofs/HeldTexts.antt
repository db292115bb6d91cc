-- One more relation after others, and the texts that they keep.
use Rattle.std.proofs.Common.{◌≡◌, ◌↔◌, ◌⊎◌, ℕ, ◌+◌, ◌<◌, List, [], ◌∷◌, ◌++◌, length, take, get_or, refl, sym, ap, subst, ◌∙◌, inl, inr, ⊎_elim, arith, append_assoc, Contains, Option, Some, None, IsSomeAnd}
use Rattle.std.specs.List.{AllByRecursion}
use Rattle.std.proofs.lemmas.List.{length-append, take_more}
use Rattle.std.proofs.lemmas.List.Elements.{Contains-push, Contains-push_cases, Contains-append_left}
use Rattle.uca_text.specs.Texts.{NfdText}
use Rattle.uca_text.specs.Occurring.{OccursInOrder}
use Rattle.uca_relations.specs.declared.Relation.{Relation}
use Rattle.uca_relations.specs.Relations.{IsTarget, IsUsedBy, IsUntouched, HasRuleTexts, AreRules, IsHeld}
use Rattle.uca_rules.specs.declared.growing.RulesBuilder.{RulesBuilder}
use Rattle.uca_rules.specs.inside.Growing.{held_texts, AreGrowing}

-- ---- The last of relations, or an earlier one

pub record IsLastOf (rs : List Relation) (t : Relation) (before after : List Relation) (r : Relation) : Type 0 where
  pub front : before ≡ rs
  pub is : r ≡ t
  pub none : after ≡ []

pub record IsEarlier (rs : List Relation) (t : Relation) (before after : List Relation) (r : Relation) : Type 0 where
  pub more : List Relation
  pub ends : after ≡ more ++ t ∷ []
  pub parts : rs ≡ before ++ r ∷ more

pub last_or_earlier : (rs before after : List Relation) (t r : Relation) → rs ++ t ∷ [] ≡ before ++ r ∷ after → IsLastOf rs t before after r ⊎ IsEarlier rs t before after r
last_or_earlier [] [] after t r e = inl (record {
  front = refl;
  is = (let e' : t ∷ [] ≡ r ∷ after = e in let same : r ≡ t = cc in same);
  none = (let e' : t ∷ [] ≡ r ∷ after = e in let same : after ≡ [] = cc in same);
})
last_or_earlier [] (b ∷ []) after t r e = absurd (let e' : ◌≡◌ {A = List Relation} (t ∷ []) (b ∷ r ∷ after) = e in cc)
last_or_earlier [] (b ∷ d ∷ before) after t r e = absurd (let e' : ◌≡◌ {A = List Relation} (t ∷ []) (b ∷ d ∷ (before ++ r ∷ after)) = e in cc)
last_or_earlier (x ∷ rs) [] after t r e = inr (record {
  more = rs;
  ends = (let e' : ◌≡◌ {A = List Relation} (x ∷ (rs ++ t ∷ [])) (r ∷ after) = e in let same : after ≡ rs ++ t ∷ [] = cc in same);
  parts = (let e' : ◌≡◌ {A = List Relation} (x ∷ (rs ++ t ∷ [])) (r ∷ after) = e in let same : ◌≡◌ {A = List Relation} (x ∷ rs) (r ∷ rs) = cc in same);
})
last_or_earlier (x ∷ rs) (b ∷ before) after t r e =
    let e' : ◌≡◌ {A = List Relation} (x ∷ (rs ++ t ∷ [])) (b ∷ (before ++ r ∷ after)) = e in
    let first : x ≡ b = cc in
    let others : rs ++ t ∷ [] ≡ before ++ r ∷ after = cc in
    ⊎_elim
    (λ last. inl (record { front = ap (λ (l : List Relation). b ∷ l) last.front ∙ ap (λ (y : Relation). y ∷ rs) (sym first); is = last.is; none = last.none }))
    (λ earlier. inr (record { more = earlier.more; ends = earlier.ends; parts = ap (λ (y : Relation). y ∷ rs) first ∙ ap (λ (l : List Relation). b ∷ l) earlier.parts }))
    (last_or_earlier rs before after t r others)

-- ---- Texts that are kept

-- one more relation keeps what the others keep, and its own texts that are not a target before it
pub held_more : (rs : List Relation) (t : Relation) (text : List ℕ) → IsHeld (rs ++ t ∷ []) text ↔ (IsHeld rs text ⊎ (IsUsedBy t text × ¬ (IsTarget rs text)))
held_more rs t text = (forth, ⊎_elim earlier own)
  where
    forth : IsHeld (rs ++ t ∷ []) text → IsHeld rs text ⊎ (IsUsedBy t text × ¬ (IsTarget rs text))
    forth held =
        ⊎_elim
        (λ last. inr (subst (λ (r : Relation). IsUsedBy r text) last.is held.used, λ target. held.free (subst (λ (l : List Relation). IsTarget l text) (sym last.front) target)))
        (λ before. inl (record { before = held.before; after = before.more; r = held.r; parts = before.parts; used = held.used; free = held.free }))
        (last_or_earlier rs held.before held.after t held.r held.parts)

    earlier : IsHeld rs text → IsHeld (rs ++ t ∷ []) text
    earlier held = record {
      before = held.before;
      after = held.after ++ t ∷ [];
      r = held.r;
      parts = ap (λ (l : List Relation). l ++ t ∷ []) held.parts ∙ append_assoc held.before (held.r ∷ held.after) (t ∷ []);
      used = held.used;
      free = held.free;
    }

    own : IsUsedBy t text × ¬ (IsTarget rs text) → IsHeld (rs ++ t ∷ []) text
    own h = record { before = rs; after = []; r = t; parts = refl; used = h.0; free = h.1 }

-- ---- Rules with one more relation

untouched_more : (rs : List Relation) (t : Relation) (text : List ℕ) → IsUntouched rs text → ¬ (OccursInOrder t.target.points text) → IsUntouched (rs ++ t ∷ []) text
untouched_more [] t text all one = (one, tt)
untouched_more (r ∷ rs) t text all one = (all.0, untouched_more rs t text all.1 one)

texts_more : (rs : List Relation) (t : Relation) → AllByRecursion HasRuleTexts rs → HasRuleTexts t → AllByRecursion HasRuleTexts (rs ++ t ∷ [])
texts_more [] t all one = (one, tt)
texts_more (r ∷ rs) t all one = (all.0, texts_more rs t all.1 one)

pub rules_more : (rs : List Relation) (t : Relation) → AreRules rs → length rs < 5000 → HasRuleTexts t → ¬ (IsTarget rs t.target.points)
    → ((text : List ℕ) → IsHeld (rs ++ t ∷ []) text → ¬ (OccursInOrder t.target.points text)) → AreRules (rs ++ t ∷ [])
rules_more rs t rules few texts other none = record {
  few = (let count : length (rs ++ t ∷ []) ≡ length rs + 1 = length-append rs (t ∷ []) in omega arith);
  texts = texts_more rs t rules.texts texts;
  distinct = distinct;
  none_late = none_late;
}
  where
    distinct : (before after : List Relation) (r : Relation) → rs ++ t ∷ [] ≡ before ++ r ∷ after → ¬ (IsTarget before r.target.points)
    distinct before after r parts =
        ⊎_elim
        (λ last. λ target. other (subst (λ (l : List Relation). IsTarget l t.target.points) last.front (subst (λ (x : Relation). IsTarget before x.target.points) last.is target)))
        (λ earlier. rules.distinct before earlier.more r earlier.parts)
        (last_or_earlier rs before after t r parts)

    none_late : (before after : List Relation) (r : Relation) (text : List ℕ) → rs ++ t ∷ [] ≡ before ++ r ∷ after → IsUsedBy r text → ¬ (IsTarget before text) → IsUntouched (r ∷ after) text
    none_late before after r text parts used free =
        let own : ¬ (OccursInOrder t.target.points text) = none text (record { before = before; after = after; r = r; parts = parts; used = used; free = free }) in
        ⊎_elim
        (λ last. subst (λ (l : List Relation). IsUntouched (r ∷ l) text) (sym last.none) (subst (λ (x : Relation). IsUntouched (x ∷ []) text) (sym last.is) (own, tt)))
        (λ earlier. subst (λ (l : List Relation). IsUntouched (r ∷ l) text) (sym earlier.ends)
        (untouched_more (r ∷ earlier.more) t text (rules.none_late before earlier.more r text earlier.parts used free) own))
        (last_or_earlier rs before after t r parts)

-- ---- Texts in turn

-- a part that occurs in none of the texts so far, and not in the next one
pub none_further : (part : List ℕ) (xs : List (List ℕ)) (i : ℕ) (x : List ℕ) → i < length xs → x ≡ get_or xs i x → ¬ (OccursInOrder part x)
    → ((text : List ℕ) → Contains (take i xs) text → ¬ (OccursInOrder part text))
    → (text : List ℕ) → Contains (take (i + 1) xs) text → ¬ (OccursInOrder part text)
none_further part xs i x has is none before text contained =
    let more : take (i + 1) xs ≡ take i xs ++ x ∷ [] = subst (λ (z : List ℕ). take (i + 1) xs ≡ take i xs ++ z ∷ []) (sym is) (take_more xs i x has) in
    ⊎_elim
    (λ earlier. before text earlier)
    (λ here. subst (λ (t : List ℕ). ¬ (OccursInOrder part t)) here none)
    (Contains-push_cases (take i xs) x text (subst (λ (l : List (List ℕ)). Contains l text) more contained))

-- one more text is kept
pub holds_one : (held : List (List ℕ)) (text : List ℕ) (P : Type 0) → P → (t : List ℕ) → Contains (held ++ text ∷ []) t ↔ (Contains held t ⊎ ((t ≡ text) × P))
holds_one held text P p t = (
  (λ h. ⊎_elim (λ before. inl before) (λ last. inr (sym last, p)) (Contains-push_cases held text t h)),
  (λ h. ⊎_elim (λ before. Contains-append_left held (text ∷ []) t before) (λ last. subst (λ (s : List ℕ). Contains (held ++ text ∷ []) s) (sym last.0) (Contains-push held text)) h),
)

-- ---- The growing rules

-- they keep an anchor in addition, and then an expansion
pub both_held : (target : List ℕ → Type 0) (old middle new : List (List ℕ)) (r : Relation) (expansion : NfdText) → r.expansion ≡ Some expansion
    → ((t : List ℕ) → Contains middle t ↔ (Contains old t ⊎ ((t ≡ r.anchor.points) × ¬ (target r.anchor.points))))
    → ((t : List ℕ) → Contains new t ↔ (Contains middle t ⊎ ((t ≡ expansion.points) × ¬ (target expansion.points))))
    → (t : List ℕ) → Contains new t ↔ (Contains old t ⊎ (IsUsedBy r t × ¬ (target t)))
both_held target old middle new r expansion is first second t = (forth, back)
  where
    with_expansion : IsSomeAnd (Some expansion) (λ e. t ≡ e.points) → IsSomeAnd r.expansion (λ e. t ≡ e.points)
    with_expansion h = subst (λ (o : Option NfdText). IsSomeAnd o (λ e. t ≡ e.points)) (sym is) h

    forth : Contains new t → Contains old t ⊎ (IsUsedBy r t × ¬ (target t))
    forth h =
        ⊎_elim
        (λ middle_has. ⊎_elim (λ old_has. inl old_has) (λ anchor. inr (inl anchor.0, subst (λ (s : List ℕ). ¬ (target s)) (sym anchor.0) anchor.1)) ((first t).0 middle_has))
        (λ it. inr (inr (with_expansion it.0), subst (λ (s : List ℕ). ¬ (target s)) (sym it.0) it.1))
        ((second t).0 h)

    back : Contains old t ⊎ (IsUsedBy r t × ¬ (target t)) → Contains new t
    back h =
        ⊎_elim
        (λ old_has. (second t).1 (inl ((first t).1 (inl old_has))))
        (λ own. ⊎_elim
        (λ anchor. (second t).1 (inl ((first t).1 (inr (anchor, subst (λ (s : List ℕ). ¬ (target s)) anchor own.1)))))
        (λ it. let same : t ≡ expansion.points = subst (λ (o : Option NfdText). IsSomeAnd o (λ e. t ≡ e.points)) is it in
        (second t).1 (inr (same, subst (λ (s : List ℕ). ¬ (target s)) same own.1)))
        own.0)
        h

-- they keep only an anchor
pub anchor_held : (target : List ℕ → Type 0) (old new : List (List ℕ)) (r : Relation) → r.expansion ≡ None
    → ((t : List ℕ) → Contains new t ↔ (Contains old t ⊎ ((t ≡ r.anchor.points) × ¬ (target r.anchor.points))))
    → (t : List ℕ) → Contains new t ↔ (Contains old t ⊎ (IsUsedBy r t × ¬ (target t)))
anchor_held target old new r none first t = (forth, back)
  where
    forth : Contains new t → Contains old t ⊎ (IsUsedBy r t × ¬ (target t))
    forth h = ⊎_elim (λ old_has. inl old_has) (λ anchor. inr (inl anchor.0, subst (λ (s : List ℕ). ¬ (target s)) (sym anchor.0) anchor.1)) ((first t).0 h)

    back : Contains old t ⊎ (IsUsedBy r t × ¬ (target t)) → Contains new t
    back h =
        ⊎_elim
        (λ old_has. (first t).1 (inl old_has))
        (λ own. ⊎_elim
        (λ anchor. (first t).1 (inr (anchor, subst (λ (s : List ℕ). ¬ (target s)) anchor own.1)))
        (λ it. absurd (subst (λ (o : Option NfdText). IsSomeAnd o (λ e. t ≡ e.points)) none it))
        own.0)
        h

-- ---- No relations

-- they are rules
rules_none : (rs : List Relation) → rs ≡ [] → AreRules rs
rules_none [] none = record {
  few = omega arith;
  texts = tt;
  distinct = λ before after r parts. absurd (omega (arith, ap length parts, length-append before (r ∷ after)));
  none_late = λ before after r text parts. absurd (omega (arith, ap length parts, length-append before (r ∷ after)));
}
rules_none (r ∷ rs) none = cc

-- and no text is kept
pub growing_none : {A : Type 0} (g : RulesBuilder A) → g.relations.items ≡ [] → held_texts g ≡ [] → AreGrowing g
growing_none g none held = record {
  rules = rules_none g.relations.items none;
  are_held = λ text. (
    (λ has. absurd (omega (arith, has.1, ap length held))),
    (λ h. absurd (omega (arith, ap length h.parts, ap length none, length-append h.before (h.r ∷ h.after)))),
  );
}
