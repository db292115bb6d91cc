-- Lemmas on starred texts, such as `bc-f`: the targets that their symbols stand for, the relations that these add, and errors.
use Rattle.std.proofs.Common.{◌≡◌, ◌≢◌, ◌⊎◌, ℕ, suc, ◌+◌, ◌-◌, ◌<◌, ◌≤◌, List, [], ◌∷◌, ◌++◌, length, take, drop, get_or, map, zero, Bool, true, None, refl, sym, ap, subst, ◌∙◌, inl, inr, ⊎_elim, arith, append_assoc}
use Rattle.std.specs.List.{AllByRecursion, range_with_len}
use Rattle.std.specs.Char.{OutOfScalarRange}
use Rattle.std.proofs.lemmas.Bool.{cases_lt}
use Rattle.std.proofs.lemmas.List.{append-nil, drop_more, length-append, map-append, take-append-drop, take_more}
use Rattle.std.proofs.lemmas.List.FromFn.{map-range_with_len_more}
use Rattle.uca_weights.specs.declared.Strength.{Strength}
use Rattle.uca_text.specs.Texts.{NfdText}
use Rattle.uca_values.specs.Content.{Properties, properties_of}
use Rattle.uca_relations.specs.declared.Relation.{Relation}
use Rattle.uca_relations.specs.Relations.{IsRuleText}
use Rattle.uca_rules.specs.declared.characters.Character.{Character}
use Rattle.uca_rules.specs.declared.faults.RuleFault.{RuleFault}
use Rattle.uca_rules.specs.declared.text_reader.TextReader.{TextReader}
use Rattle.uca_rules.specs.declared.reader.Reader.{Reader}
use Rattle.uca_rules.specs.Characters.{place_of}
use Rattle.uca_rules.specs.Pieces.{Symbol, Literal, Hyphen, BeginsText}
use Rattle.uca_rules.specs.Statements.{Statement, Starred, between, placed_at, targets_of, HasRanges, IsRange, IsNoRange}
use Rattle.uca_rules.specs.Meaning.{Anchor, Taken, IsShort, after_target, after_targets, one_letter, relations_of, starred_relations}
use Rattle.uca_rules.specs.Faults.{RelationCause}
use Rattle.uca_rules.specs.inside.Views.{IsMemoryAt}
use Rattle.uca_rules.proofs.Suffixes.{pieces_end}
use Rattle.uca_rules.specs.inside.Reading.{Adds, AddsOne, HasRelationCause, HasTargetFault, IsOverLimit, IsReady, IsStarredFault, IsTextOf, Keeps, State, anchor_of, properties_in, relation_of, state_of}

-- ---- The relations of targets in turn

pub relations_further : (properties : Properties) (anchor : Anchor) (strength : Strength) (xs ys : List Character)
    → starred_relations properties anchor strength (xs ++ ys) ≡ starred_relations properties anchor strength xs ++ starred_relations properties (after_targets properties anchor xs) strength ys
relations_further properties anchor strength [] ys = refl
relations_further properties anchor strength (x ∷ xs) ys =
    ap (λ (l : List Taken). record { relation = record { anchor = anchor.text; before = anchor.before; strength = strength; target = one_letter properties x; expansion = None }; place = x.place } ∷ l)
    (relations_further properties (after_target (one_letter properties x)) strength xs ys)

pub after_further : (properties : Properties) (anchor : Anchor) (xs ys : List Character)
    → after_targets properties anchor (xs ++ ys) ≡ after_targets properties (after_targets properties anchor xs) ys
after_further properties anchor [] ys = refl
after_further properties anchor (x ∷ xs) ys = after_further properties (after_target (one_letter properties x)) xs ys

-- each target gives one relation
pub relations_count : (properties : Properties) (anchor : Anchor) (strength : Strength) (xs : List Character)
    → length (relations_of (starred_relations properties anchor strength xs)) ≡ length xs
relations_count properties anchor strength [] = refl
relations_count properties anchor strength (x ∷ xs) = ap suc (relations_count properties (after_target (one_letter properties x)) strength xs)

pub short_further : (xs ys : List Character) → AllByRecursion (λ c. IsShort (c.code ∷ [])) xs → AllByRecursion (λ c. IsShort (c.code ∷ [])) ys
    → AllByRecursion (λ c. IsShort (c.code ∷ [])) (xs ++ ys)
short_further [] ys first second = second
short_further (x ∷ xs) ys first second = (first.0, short_further xs ys first.1 second)

-- ---- What readers add

-- no targets
pub adds_none : {A T : Type 0} → (strength : Strength) (r : Reader A T) → IsReady r → IsRuleText r.anchor → Adds (Starred strength []) r r
adds_none strength r ready anchored = record {
  kept = record { properties = refl; end = refl };
  growing = ready.growing;
  anchored = anchored;
  short = tt;
  relations = sym (append-nil r.rules.relations.items);
  anchor = refl;
  last = refl;
}

-- a reader that has added relations is ready for the next ones
pub ready_after : {A T : Type 0} {s : Statement} {old new : Reader A T} → Adds s old new → IsReady new
ready_after adds = record { growing = adds.growing; anchored = λ _. adds.anchored }

pub same_properties : {A T : Type 0} {s : Statement} {old new : Reader A T} → Adds s old new → properties_in new.texts ≡ properties_in old.texts
same_properties adds = ap (λ p. properties_of p.now) adds.kept.properties

pub adds_further : {A T : Type 0} (strength : Strength) (xs ys : List Character) (old mid new : Reader A T) → Adds (Starred strength xs) old mid → Adds (Starred strength ys) mid new
    → Adds (Starred strength (xs ++ ys)) old new
adds_further strength xs ys old mid new first second =
    let P : Properties = properties_in old.texts in
    let a : Anchor = anchor_of old in
    let same : properties_in mid.texts ≡ P = same_properties first in
    let b : Anchor = after_targets P a xs in
    let front : List Relation = relations_of (starred_relations P a strength xs) in
    let back : List Relation = relations_of (starred_relations P b strength ys) in
    let second_is : new.rules.relations.items ≡ mid.rules.relations.items ++ back =
    subst (λ (q : Properties). new.rules.relations.items ≡ mid.rules.relations.items ++ relations_of (starred_relations q b strength ys)) same
    (subst (λ (c : Anchor). new.rules.relations.items ≡ mid.rules.relations.items ++ relations_of (starred_relations (properties_in mid.texts) c strength ys)) first.anchor second.relations) in
    let both : relations_of (starred_relations P a strength (xs ++ ys)) ≡ front ++ back =
    ap relations_of (relations_further P a strength xs ys) ∙ map-append (λ t. t.relation) (starred_relations P a strength xs) (starred_relations P b strength ys) in
    let anchor_is : anchor_of new ≡ after_targets P b ys =
    subst (λ (q : Properties). anchor_of new ≡ after_targets q b ys) same
    (subst (λ (c : Anchor). anchor_of new ≡ after_targets (properties_in mid.texts) c ys) first.anchor second.anchor) in
    record {
      kept = record { properties = second.kept.properties ∙ first.kept.properties; end = second.kept.end ∙ first.kept.end };
      growing = second.growing;
      anchored = second.anchored;
      short = short_further xs ys first.short second.short;
      relations = second_is ∙ ap (λ (l : List Relation). l ++ back) first.relations ∙ append_assoc old.rules.relations.items front back
          ∙ ap (λ (l : List Relation). old.rules.relations.items ++ l) (sym both);
      anchor = anchor_is ∙ sym (after_further P a xs ys);
      last = second.last ∙ first.last;
    }

-- ---- The targets that symbols stand for

-- a hyphen adds none
pub targets_hyphen : (pre : List Symbol) (place : ℕ) → targets_of (pre ++ Hyphen place ∷ []) ≡ targets_of pre
targets_hyphen [] place = refl
targets_hyphen (Hyphen p ∷ pre) place = targets_hyphen pre place
targets_hyphen (Literal x ∷ []) place = refl
targets_hyphen (Literal x ∷ Literal y ∷ pre) place = ap (λ (l : List Character). x ∷ l) (targets_hyphen (Literal y ∷ pre) place)
targets_hyphen (Literal x ∷ Hyphen p ∷ []) place = refl
targets_hyphen (Literal x ∷ Hyphen p ∷ Hyphen q ∷ pre) place = ap (λ (l : List Character). x ∷ l) (targets_hyphen pre place)
targets_hyphen (Literal x ∷ Hyphen p ∷ Literal y ∷ pre) place = ap (λ (l : List Character). x ∷ (between p x.code y.code ++ l)) (targets_hyphen (Literal y ∷ pre) place)

-- after anything but a character and a hyphen a character adds itself
pub targets_literal : (pre : List Symbol) (y : Character) → ((front : List Symbol) (x : Character) (p : ℕ) → pre ≢ front ++ Literal x ∷ Hyphen p ∷ [])
    → targets_of (pre ++ Literal y ∷ []) ≡ targets_of pre ++ y ∷ []
targets_literal [] y other = refl
targets_literal (Hyphen p ∷ pre) y other = targets_literal pre y (λ front x q e. other (Hyphen p ∷ front) x q (ap (λ (l : List Symbol). Hyphen p ∷ l) e))
targets_literal (Literal x ∷ []) y other = refl
targets_literal (Literal x ∷ Literal w ∷ pre) y other =
    ap (λ (l : List Character). x ∷ l) (targets_literal (Literal w ∷ pre) y (λ front v q e. other (Literal x ∷ front) v q (ap (λ (l : List Symbol). Literal x ∷ l) e)))
targets_literal (Literal x ∷ Hyphen p ∷ []) y other = absurd (other [] x p refl)
targets_literal (Literal x ∷ Hyphen p ∷ Hyphen r ∷ pre) y other =
    ap (λ (l : List Character). x ∷ l)
    (targets_literal pre y (λ front v q e. other (Literal x ∷ Hyphen p ∷ Hyphen r ∷ front) v q (ap (λ (l : List Symbol). Literal x ∷ Hyphen p ∷ Hyphen r ∷ l) e)))
targets_literal (Literal x ∷ Hyphen p ∷ Literal w ∷ pre) y other =
    ap (λ (l : List Character). x ∷ (between p x.code w.code ++ l))
    (targets_literal (Literal w ∷ pre) y (λ front v q e. other (Literal x ∷ Hyphen p ∷ front) v q (ap (λ (l : List Symbol). Literal x ∷ Hyphen p ∷ l) e)))
    ∙ ap (λ (l : List Character). x ∷ l) (sym (append_assoc (between p x.code w.code) (targets_of (Literal w ∷ pre)) (y ∷ [])))

-- the targets of symbols up to a character are a front of all
pub targets_after : (pre : List Symbol) (x : Character) (more : List Symbol) (rest : List Character) → targets_of (Literal x ∷ more) ≡ x ∷ rest
    → targets_of (pre ++ Literal x ∷ more) ≡ targets_of (pre ++ Literal x ∷ []) ++ rest
targets_after [] x more rest e = e
targets_after (Hyphen p ∷ pre) x more rest e = targets_after pre x more rest e
targets_after (Literal w ∷ []) x more rest e = ap (λ (l : List Character). w ∷ l) e
targets_after (Literal w ∷ Literal v ∷ pre) x more rest e = ap (λ (l : List Character). w ∷ l) (targets_after (Literal v ∷ pre) x more rest e)
targets_after (Literal w ∷ Hyphen p ∷ []) x more rest e =
    ap (λ (l : List Character). w ∷ (between p w.code x.code ++ l)) e
    ∙ ap (λ (l : List Character). w ∷ l) (sym (append_assoc (between p w.code x.code) (x ∷ []) rest))
targets_after (Literal w ∷ Hyphen p ∷ Hyphen q ∷ pre) x more rest e = ap (λ (l : List Character). w ∷ l) (targets_after pre x more rest e)
targets_after (Literal w ∷ Hyphen p ∷ Literal v ∷ pre) x more rest e =
    ap (λ (l : List Character). w ∷ (between p w.code v.code ++ l)) (targets_after (Literal v ∷ pre) x more rest e)
    ∙ ap (λ (l : List Character). w ∷ l) (sym (append_assoc (between p w.code v.code) (targets_of (Literal v ∷ (pre ++ Literal x ∷ []))) rest))

-- those of a character begin with it
pub targets_first : (x : Character) (more : List Symbol) → (rest : List Character) × (targets_of (Literal x ∷ more) ≡ x ∷ rest)
targets_first x [] = ([], refl)
targets_first x (Literal y ∷ more) = (targets_of (Literal y ∷ more), refl)
targets_first x (Hyphen p ∷ []) = ([], refl)
targets_first x (Hyphen p ∷ Hyphen q ∷ more) = (targets_of more, refl)
targets_first x (Hyphen p ∷ Literal y ∷ more) = (between p x.code y.code ++ targets_of (Literal y ∷ more), refl)

-- after a character and a hyphen a character adds what is between them, and itself
pub targets_range : (front : List Symbol) (x : Character) (p : ℕ) (y : Character)
    → targets_of (front ++ Literal x ∷ Hyphen p ∷ Literal y ∷ []) ≡ targets_of (front ++ Literal x ∷ Hyphen p ∷ []) ++ (between p x.code y.code ++ y ∷ [])
targets_range front x p y =
    let long : targets_of (front ++ Literal x ∷ Hyphen p ∷ Literal y ∷ []) ≡ targets_of (front ++ Literal x ∷ []) ++ (between p x.code y.code ++ y ∷ []) =
    targets_after front x (Hyphen p ∷ Literal y ∷ []) (between p x.code y.code ++ y ∷ []) refl in
    let short : targets_of (front ++ Literal x ∷ Hyphen p ∷ []) ≡ targets_of (front ++ Literal x ∷ []) =
    targets_after front x (Hyphen p ∷ []) [] refl ∙ append-nil (targets_of (front ++ Literal x ∷ [])) in
    long ∙ ap (λ (l : List Character). l ++ (between p x.code y.code ++ y ∷ [])) (sym short)

-- ---- Symbols at indices

-- a list around one of its members
around : {X : Type 0} → (xs : List X) (at : ℕ) (x d : X) → at < length xs → get_or xs at d ≡ x → xs ≡ take at xs ++ x ∷ drop (at + 1) xs
around {X} xs at x d has is =
    sym (take-append-drop at xs) ∙ ap (λ (l : List X). take at xs ++ l) (drop_more xs at d has ∙ ap (λ (y : X). y ∷ drop (at + 1) xs) is)

one_further : {X : Type 0} → (xs : List X) (at : ℕ) (x d : X) → at < length xs → get_or xs at d ≡ x → take (at + 1) xs ≡ take at xs ++ x ∷ []
one_further {X} xs at x d has is = take_more xs at d has ∙ ap (λ (y : X). take at xs ++ y ∷ []) is

-- what a character adds to the targets of the symbols before it: first those of a range, if it ends one
pub record Further (symbols : List Symbol) (at : ℕ) (c : Character) (gap : List Character) : Type 0 where
  pub next : targets_of (take (at + 1) symbols) ≡ (targets_of (take at symbols) ++ gap) ++ c ∷ []
  pub more : List Character
  pub all : targets_of symbols ≡ ((targets_of (take at symbols) ++ gap) ++ c ∷ []) ++ more

-- the targets up to a character are a front of all
further : (symbols : List Symbol) (at : ℕ) (c : Character) (gap : List Character) (d : Symbol) → at < length symbols → get_or symbols at d ≡ Literal c
    → targets_of (take at symbols ++ Literal c ∷ []) ≡ targets_of (take at symbols) ++ (gap ++ c ∷ []) → Further symbols at c gap
further symbols at c gap d has is adds =
    let pre : List Symbol = take at symbols in
    let first : (rest : List Character) × (targets_of (Literal c ∷ drop (at + 1) symbols) ≡ c ∷ rest) = targets_first c (drop (at + 1) symbols) in
    let so_far : targets_of (pre ++ Literal c ∷ []) ≡ (targets_of pre ++ gap) ++ c ∷ [] = adds ∙ sym (append_assoc (targets_of pre) gap (c ∷ [])) in
    record {
      next = ap targets_of (one_further symbols at (Literal c) d has is) ∙ so_far;
      more = first.0;
      all = ap targets_of (around symbols at (Literal c) d has is) ∙ targets_after pre c (drop (at + 1) symbols) first.0 first.1
          ∙ ap (λ (l : List Character). l ++ first.0) so_far;
    }

pub further_range : (symbols : List Symbol) (at : ℕ) (front : List Symbol) (x : Character) (p : ℕ) (c : Character) (d : Symbol) → at < length symbols
    → take at symbols ≡ front ++ Literal x ∷ Hyphen p ∷ [] → get_or symbols at d ≡ Literal c → Further symbols at c (between p x.code c.code)
further_range symbols at front x p c d has ends is =
    let adds : targets_of (take at symbols ++ Literal c ∷ []) ≡ targets_of (take at symbols) ++ (between p x.code c.code ++ c ∷ []) =
    ap (λ (l : List Symbol). targets_of (l ++ Literal c ∷ [])) ends
    ∙ ap targets_of (append_assoc front (Literal x ∷ Hyphen p ∷ []) (Literal c ∷ []))
    ∙ targets_range front x p c
    ∙ ap (λ (l : List Symbol). targets_of l ++ (between p x.code c.code ++ c ∷ [])) (sym ends) in
    further symbols at c (between p x.code c.code) d has is adds

further_alone : (symbols : List Symbol) (at : ℕ) (c : Character) (d : Symbol) → at < length symbols
    → ((front : List Symbol) (x : Character) (p : ℕ) → take at symbols ≢ front ++ Literal x ∷ Hyphen p ∷ []) → get_or symbols at d ≡ Literal c → Further symbols at c []
further_alone symbols at c d has other is = further symbols at c [] d has is (targets_literal (take at symbols) c other)

pub further_hyphen : (symbols : List Symbol) (at p : ℕ) (d : Symbol) → at < length symbols → get_or symbols at d ≡ Hyphen p
    → targets_of (take (at + 1) symbols) ≡ targets_of (take at symbols)
further_hyphen symbols at p d has is = ap targets_of (one_further symbols at (Hyphen p) d has is) ∙ targets_hyphen (take at symbols) p

-- ---- Ranges

range_or_not : (x y : ℕ) → IsRange x y ⊎ ¬ (IsRange x y)
range_or_not x y =
    ⊎_elim
    (λ rising. ⊎_elim
    (λ low. inl (record { rising = rising; apart = inl low }))
    (λ high. ⊎_elim
    (λ above. inl (record { rising = rising; apart = inr above }))
    (λ below. inr (λ range. ⊎_elim (λ low. let no : y < 0xD800 = low in omega arith) (λ above. let no : 0xDFFF < x = above in omega arith) range.apart))
    (cases_lt 0xDFFF x))
    (cases_lt y 0xD800))
    (λ falling. inr (λ range. let no : x < y = range.rising in omega arith))
    (cases_lt x y)

-- the ends of a range, by the symbols
pub range_at : (symbols : List Symbol) (at : ℕ) (before : List Symbol) (x : Character) (p : ℕ) (c : Character) (d : Symbol) → HasRanges symbols → at < length symbols
    → take at symbols ≡ before ++ Literal x ∷ Hyphen p ∷ [] → get_or symbols at d ≡ Literal c → IsRange x.code c.code
range_at symbols at before x p c d ranges has ends is =
    let back : List Symbol = Literal c ∷ drop (at + 1) symbols in
    let front : List Symbol = before ++ Literal x ∷ [] in
    let parts : symbols ≡ front ++ Hyphen p ∷ back =
    around symbols at (Literal c) d has is ∙ ap (λ (l : List Symbol). l ++ back) ends ∙ append_assoc before (Literal x ∷ Hyphen p ∷ []) back
    ∙ sym (append_assoc before (Literal x ∷ []) (Hyphen p ∷ back)) in
    ⊎_elim
    (λ range. range)
    (λ none. absurd ((ranges front back p parts).1 (IsNoRange.Wrong_ends before (drop (at + 1) symbols) x c refl refl none)))
    (range_or_not x.code c.code)

-- ---- Errors of some of the targets

pub fault_within : {A T : Type 0} (strength : Strength) (front mid back : List Character) (here : ℕ) (fault : RuleFault) (old new : Reader A T)
    → Adds (Starred strength front) old new → HasTargetFault (properties_in new.texts) (state_of new) strength mid here fault
    → HasTargetFault (properties_in old.texts) (state_of old) strength (front ++ (mid ++ back)) here fault
fault_within {A} strength front mid back here fault old new adds has = ⊎_elim inl (⊎_elim (λ cause. inr (inl (of_relation cause))) (λ over. inr (inr (over_limit over)))) has
  where
    P : Properties
    P = properties_in old.texts

    a : Anchor
    a = anchor_of old

    b : Anchor
    b = after_targets P a front

    of_relation : HasRelationCause (properties_in new.texts) (state_of new) (Starred strength mid) fault → HasRelationCause P (state_of old) (Starred strength (front ++ (mid ++ back))) fault
    of_relation has =
        let before : List Taken = has.before in
        let lead : List Taken = starred_relations P a strength front in
        let tail : List Taken = starred_relations P (after_targets P b mid) strength back in
        let mid_are : starred_relations P b strength mid ≡ before ++ has.t ∷ has.after =
        subst (λ (q : Properties). starred_relations q b strength mid ≡ before ++ has.t ∷ has.after) (same_properties adds)
        (subst (λ (c : Anchor). starred_relations (properties_in new.texts) c strength mid ≡ before ++ has.t ∷ has.after) adds.anchor has.are) in
        record {
          before = lead ++ before;
          t = has.t;
          after = has.after ++ tail;
          are = relations_further P a strength front (mid ++ back)
              ∙ ap (λ (l : List Taken). lead ++ l) (relations_further P b strength mid back ∙ ap (λ (l : List Taken). l ++ tail) mid_are ∙ append_assoc before (has.t ∷ has.after) tail)
              ∙ sym (append_assoc lead before (has.t ∷ (has.after ++ tail)));
          at = has.at;
          cause = subst (λ (l : List Relation). RelationCause l has.t.relation fault.kind)
              (ap (λ (l : List Relation). l ++ relations_of before) adds.relations ∙ append_assoc old.rules.relations.items (relations_of lead) (relations_of before)
              ∙ ap (λ (l : List Relation). old.rules.relations.items ++ l) (sym (map-append (λ t. t.relation) lead before)))
              has.cause;
        }

    over_limit : IsOverLimit (length new.rules.relations.items) mid fault → IsOverLimit (length old.rules.relations.items) (front ++ (mid ++ back)) fault
    over_limit over =
        let lead : List Relation = relations_of (starred_relations P a strength front) in
        let grown : length new.rules.relations.items ≡ length old.rules.relations.items + length lead = ap length adds.relations ∙ length-append old.rules.relations.items lead in
        let count : length lead ≡ length front = relations_count P a strength front in
        let both : length (front ++ over.front) ≡ length front + length over.front = length-append front over.front in
        record {
          limit = over.limit;
          front = front ++ over.front;
          c = over.c;
          back = over.back ++ back;
          are = ap (λ (l : List Character). front ++ (l ++ back)) over.are
              ∙ ap (λ (l : List Character). front ++ l) (append_assoc over.front (over.c ∷ over.back) back)
              ∙ sym (append_assoc front over.front (over.c ∷ (over.back ++ back)));
          at = over.at;
          over = ⊎_elim (λ full. inl (let is : length new.rules.relations.items + length over.front ≡ 5000 = full in omega arith)) (λ long. inr long) over.over;
        }

-- ---- One target

pub adds_one : {A T : Type 0} (strength : Strength) (c : Character) (text : NfdText) (texts : TextReader A T) (old new : Reader A T) → Keeps old.texts texts
    → IsTextOf (properties_in old.texts) (c.code ∷ []) text → AddsOne (relation_of old strength text None) (record old { texts = texts }) new → Adds (Starred strength (c ∷ [])) old new
adds_one strength c text texts old new kept is adds = record {
  kept = record { properties = adds.kept.properties ∙ kept.properties; end = adds.kept.end ∙ kept.end };
  growing = adds.growing;
  anchored = subst IsRuleText (sym adds.anchor) is.rule;
  short = (is.short, tt);
  relations = adds.relations ∙ ap (λ (t : NfdText). old.rules.relations.items ++ relation_of old strength t None ∷ []) is.is;
  anchor = ap (λ (b : Bool). record { text = new.anchor; before = b }) adds.before ∙ ap after_target (adds.anchor ∙ is.is);
  last = adds.last;
}

-- a relation of one target has a cause
pub fault_of_one : {A T : Type 0} (strength : Strength) (c : Character) (text : NfdText) (here : ℕ) (fault : RuleFault) (old : Reader A T) → text ≡ one_letter (properties_in old.texts) c
    → IsMemoryAt here fault ⊎ ((fault.byte ≡ c.place) × RelationCause old.rules.relations.items (relation_of old strength text None) fault.kind)
    → HasTargetFault (properties_in old.texts) (state_of old) strength (c ∷ []) here fault
fault_of_one {A} strength c text here fault old is has = ⊎_elim inl (λ cause. inr (inl (of_relation cause))) has
  where
    items : List Relation
    items = old.rules.relations.items

    of_relation : (fault.byte ≡ c.place) × RelationCause items (relation_of old strength text None) fault.kind → HasRelationCause (properties_in old.texts) (state_of old) (Starred strength (c ∷ [])) fault
    of_relation cause = record {
      before = [];
      t = record { relation = relation_of old strength (one_letter (properties_in old.texts) c) None; place = c.place };
      after = [];
      are = refl;
      at = cause.0;
      cause = subst (λ (l : List Relation). RelationCause l (relation_of old strength (one_letter (properties_in old.texts) c) None) fault.kind) (sym (append-nil items))
          (subst (λ (t : NfdText). RelationCause items (relation_of old strength t None) fault.kind) is cause.1);
    }

-- ---- Code points between the ends of a range

range_parts : (a n m : ℕ) → range_with_len a (n + m) ≡ range_with_len a n ++ range_with_len (a + n) m
range_parts a zero m =
    let count : zero + m ≡ m = omega arith in
    let from : a ≡ a + zero = omega arith in
    ap (λ (k : ℕ). range_with_len a k) count ∙ ap (λ (k : ℕ). range_with_len k m) from
range_parts a (suc n) m =
    let count : suc n + m ≡ suc (n + m) = omega arith in
    let from : a + 1 + n ≡ a + suc n = omega arith in
    ap (λ (k : ℕ). range_with_len a k) count ∙ ap (λ (l : List ℕ). a ∷ l) (range_parts (a + 1) n m)
    ∙ ap (λ (k : ℕ). a ∷ (range_with_len (a + 1) n ++ range_with_len k m)) from

-- one more code point
pub placed_more : (place a point : ℕ) → a ≤ point
    → placed_at place (range_with_len a (point + 1 - a)) ≡ placed_at place (range_with_len a (point - a)) ++ record { code = point; place = place } ∷ []
placed_more place a point after =
    let f : ℕ → Character = λ code. record { code = code; place = place } in
    let count : point + 1 - a ≡ point - a + 1 = omega arith in
    let is : a + (point - a) ≡ point = omega arith in
    ap (λ (n : ℕ). placed_at place (range_with_len a n)) count ∙ map-range_with_len_more f a (point - a) point is

-- those before one of them, itself, and those after it
pub placed_around : (place a point end : ℕ) → a ≤ point → point < end
    → placed_at place (range_with_len a (end - a))
    ≡ placed_at place (range_with_len a (point - a)) ++ (record { code = point; place = place } ∷ [] ++ placed_at place (range_with_len (point + 1) (end - (point + 1))))
placed_around place a point end after before =
    let f : ℕ → Character = λ code. record { code = code; place = place } in
    let count : end - a ≡ point + 1 - a + (end - (point + 1)) = omega arith in
    let from : a + (point + 1 - a) ≡ point + 1 = omega arith in
    let back : List Character = placed_at place (range_with_len (point + 1) (end - (point + 1))) in
    ap (λ (n : ℕ). placed_at place (range_with_len a n)) count
    ∙ ap (map f) (range_parts a (point + 1 - a) (end - (point + 1)))
    ∙ map-append f (range_with_len a (point + 1 - a)) (range_with_len (a + (point + 1 - a)) (end - (point + 1)))
    ∙ ap (λ (k : ℕ). placed_at place (range_with_len a (point + 1 - a)) ++ placed_at place (range_with_len k (end - (point + 1)))) from
    ∙ ap (λ (l : List Character). l ++ back) (placed_more place a point after)
    ∙ append_assoc (placed_at place (range_with_len a (point - a))) (record { code = point; place = place } ∷ []) back

-- none of them is a surrogate
pub inside_range : (x y point : ℕ) → IsRange x y → x < point → point < y → y < 1114112 → ¬ (OutOfScalarRange point)
inside_range x y point range above below most out =
    ⊎_elim
    (λ within. ⊎_elim
    (λ low. let end : y < 0xD800 = low in let from : 0xD800 ≤ point = within.0 in omega arith)
    (λ high. let start : 0xDFFF < x = high in let to : point ≤ 0xDFFF = within.1 in omega arith)
    range.apart)
    (λ past. let over : 0x110000 ≤ point = past in omega arith)
    out

-- ---- A character after the symbols before it

-- the targets before a character, those of the range that it ends included, have been added
pub record Before {A T : Type 0} (strength : Strength) (symbols : List Symbol) (at : ℕ) (c : Character) (old new : Reader A T) : Type 0 where
  pub gap : List Character
  pub further : Further symbols at c gap
  pub adds : Adds (Starred strength (targets_of (take at symbols) ++ gap)) old new

pub range_before : {A T : Type 0} (strength : Strength) (symbols : List Symbol) (at : ℕ) (front : List Symbol) (x : Character) (p : ℕ) (c : Character) (d : Symbol) (old mid new : Reader A T)
    → at < length symbols → take at symbols ≡ front ++ Literal x ∷ Hyphen p ∷ [] → get_or symbols at d ≡ Literal c
    → Adds (Starred strength (targets_of (take at symbols))) old mid → Adds (Starred strength (between p x.code c.code)) mid new → Before strength symbols at c old new
range_before strength symbols at front x p c d old mid new has ends is first second = record {
  gap = between p x.code c.code;
  further = further_range symbols at front x p c d has ends is;
  adds = adds_further strength (targets_of (take at symbols)) (between p x.code c.code) old mid new first second;
}

pub none_before : {A T : Type 0} (strength : Strength) (symbols : List Symbol) (at : ℕ) (c : Character) (d : Symbol) (old new : Reader A T)
    → at < length symbols → ((front : List Symbol) (x : Character) (p : ℕ) → take at symbols ≢ front ++ Literal x ∷ Hyphen p ∷ []) → get_or symbols at d ≡ Literal c
    → Adds (Starred strength (targets_of (take at symbols))) old new → Before strength symbols at c old new
none_before strength symbols at c d old new has other is adds = record {
  gap = [];
  further = further_alone symbols at c d has other is;
  adds = subst (λ (l : List Character). Adds (Starred strength l) old new) (sym (append-nil (targets_of (take at symbols)))) adds;
}

pub adds_character : {A T : Type 0} (strength : Strength) (symbols : List Symbol) (at : ℕ) (c : Character) (old mid new : Reader A T) → Before strength symbols at c old mid
    → Adds (Starred strength (c ∷ [])) mid new → Adds (Starred strength (targets_of (take (at + 1) symbols))) old new
adds_character strength symbols at c old mid new before adds =
    subst (λ (l : List Character). Adds (Starred strength l) old new) (sym before.further.next)
    (adds_further strength (targets_of (take at symbols) ++ before.gap) (c ∷ []) old mid new before.adds adds)

pub fault_in_range : {A T : Type 0} (strength : Strength) (symbols : List Symbol) (at : ℕ) (c : Character) (gap : List Character) (here : ℕ) (fault : RuleFault) (old new : Reader A T)
    → Further symbols at c gap → Adds (Starred strength (targets_of (take at symbols))) old new → HasTargetFault (properties_in new.texts) (state_of new) strength gap here fault
    → HasTargetFault (properties_in old.texts) (state_of old) strength (targets_of symbols) here fault
fault_in_range strength symbols at c gap here fault old new further adds has =
    let front : List Character = targets_of (take at symbols) in
    let all : targets_of symbols ≡ front ++ (gap ++ (c ∷ [] ++ further.more)) =
    further.all ∙ append_assoc (front ++ gap) (c ∷ []) further.more ∙ append_assoc front gap (c ∷ [] ++ further.more) in
    subst (λ (l : List Character). HasTargetFault (properties_in old.texts) (state_of old) strength l here fault) (sym all)
    (fault_within strength front gap (c ∷ [] ++ further.more) here fault old new adds has)

pub fault_of_character : {A T : Type 0} (strength : Strength) (symbols : List Symbol) (at : ℕ) (c : Character) (here : ℕ) (fault : RuleFault) (old new : Reader A T)
    → Before strength symbols at c old new → HasTargetFault (properties_in new.texts) (state_of new) strength (c ∷ []) here fault
    → HasTargetFault (properties_in old.texts) (state_of old) strength (targets_of symbols) here fault
fault_of_character strength symbols at c here fault old new before has =
    let front : List Character = targets_of (take at symbols) ++ before.gap in
    let all : targets_of symbols ≡ front ++ (c ∷ [] ++ before.further.more) = before.further.all ∙ append_assoc front (c ∷ []) before.further.more in
    subst (λ (l : List Character). HasTargetFault (properties_in old.texts) (state_of old) strength l here fault) (sym all)
    (fault_within strength front (c ∷ []) before.further.more here fault old new before.adds has)

-- what is no character is a hyphen
pub no_literal : (s : Symbol) → ((x : Character) → s ≢ Literal x) → (p : ℕ) × (s ≡ Hyphen p)
no_literal (Literal x) other = absurd (other x refl)
no_literal (Hyphen p) other = (p, refl)

-- ---- Errors of starred texts

-- its targets are rejected
pub starred_fault : (properties : Properties) (end : ℕ) (state : State) (strength : Strength) (text : List Character) (symbols : List Symbol) (rest : List Character) (here : ℕ) (fault : RuleFault)
    → BeginsText true text symbols rest → HasRanges symbols → here ≡ place_of end rest
    → HasTargetFault properties state strength (targets_of symbols) here fault → IsStarredFault properties end state strength text fault
starred_fault properties end state strength text symbols rest here fault begins ranges at has =
    let parts : (front : List Character) × (text ≡ front ++ rest) = pieces_end true text begins.pieces rest begins.are in
    ⊎_elim
    (λ memory. IsStarredFault.In_memory (record { front = parts.0; rest = rest; parts = parts.1; at = subst (λ (place : ℕ). IsMemoryAt place fault) at memory }))
    (⊎_elim
    (λ cause. IsStarredFault.In_relation symbols rest begins ranges cause)
    (λ over. IsStarredFault.In_limit symbols rest begins ranges over))
    has
