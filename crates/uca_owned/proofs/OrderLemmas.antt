-- The order of all byte strings is that of lists: 0 before the key of an accepted text, and 1 before all other bytes.
use Rattle.std.proofs.Common.{◌≡◌, ◌⊎◌, ℕ, ◌≤◌, List, ◌∷◌, length, ◌∙◌, sym, ap, subst, refl, chars, inl, inr, arith}
use Rattle.std.specs.Str.{IsUtf8}
use Rattle.std.specs.declared.cmp.Ordering.{Ordering}
use Rattle.std.specs.declared.cmp.Ordering.TheVariants.{Less, Equal, Greater}
use Rattle.std.specs.Ordering.{ordering_reverse}
use Rattle.std.proofs.lemmas.Cmp.{nat_list_cmp_total}
use Rattle.uca_order.specs.Levels.{lexicographic}
use Rattle.uca_weights.specs.declared.Numbers.{Numbers}
use Rattle.uca_values.specs.Content.{Properties}
use Rattle.uca_text.specs.Limits.{IsAccepted}
use Rattle.uca_order.specs.Depths.{read_points, lists_at, written_text}
use Rattle.uca_order.specs.Laws.{StoredKeysCompareAsTexts}
use Rattle.uca_order.proofs.KeyOrder.{lexicographic_itself, lists_themselves}
use Rattle.uca_text_comparer.proofs.ReadLengths.{short_text_accepted}
use Rattle.uca_order.specs.Keyings.{Keying, key_of_bytes, bytes_compared}
use Rattle.uca_owned.specs.Causes.{IsAcceptedBy, IsAcceptedText}
use Rattle.uca_owned.specs.Orders.{IsOrder, OrdersAreTotal}

-- two orders that cannot differ are one
stable : (x y : Ordering) → ((x ≡ y → ⊥) → ⊥) → x ≡ y
stable Less Less h = refl
stable Less Equal h = absurd (h (λ e. cc))
stable Less Greater h = absurd (h (λ e. cc))
stable Equal Less h = absurd (h (λ e. cc))
stable Equal Equal h = refl
stable Equal Greater h = absurd (h (λ e. cc))
stable Greater Less h = absurd (h (λ e. cc))
stable Greater Equal h = absurd (h (λ e. cc))
stable Greater Greater h = refl

-- an equation of orders may be shown for a fact and for its negation
by_choice : (A : Type 0) (x y : Ordering) → (A ⊎ (A → ⊥) → x ≡ y) → x ≡ y
by_choice A x y h = stable x y (λ differ. differ (h (inr (λ a. differ (h (inl a))))))

-- a text is equal to itself
pub compared_itself : (k : Keying) (bytes : List ℕ) → bytes_compared k bytes bytes ≡ record { order = Equal; level = 0 }
compared_itself k bytes =
    lists_themselves 1 (lists_at k.settings.depth k.settings.weighting (read_points k.collation k.settings.numbers (chars bytes)))

-- all bytes are equal to themselves, accepted or not
pub same_order : (k : Keying) (bytes : List ℕ) → IsOrder k bytes bytes Equal
same_order k bytes = record {
  both = λ _ _. sym (ap (λ c. c.order) (compared_itself k bytes));
  left_alone = λ taken left_out. absurd (left_out taken);
  right_alone = λ left_out taken. absurd (left_out taken);
  neither = λ _ _. sym (lexicographic_itself bytes);
}

-- a short text is accepted
pub short_accepted : (k : Keying) (bytes : List ℕ) → IsUtf8 bytes → length bytes ≤ 32 → IsAcceptedBy k bytes
short_accepted k bytes utf8 short = record {
  utf8 = utf8;
  accepted = short_text_accepted k.settings.numbers k.collation.properties bytes utf8 short;
}

-- so are two
pub shorts_accepted : (k : Keying) (left right : List ℕ) → IsUtf8 left × IsUtf8 right → (length left ≤ 32) × (length right ≤ 32)
    → IsAcceptedBy k left × IsAcceptedBy k right
shorts_accepted k left right utf8 short =
    (short_accepted k left utf8.0 (omega (arith, short.0)), short_accepted k right utf8.1 (omega (arith, short.1)))

-- bytes of a text that is accepted
pub accepted_bytes : (numbers : Numbers) (properties : Properties) (text bytes : List ℕ) → text ≡ bytes → IsUtf8 bytes
    → IsAccepted (written_text numbers properties (chars text)) → IsAcceptedText numbers properties bytes
accepted_bytes numbers properties text bytes same utf8 accepted = record {
  utf8 = utf8;
  accepted = subst (λ (l : List ℕ). IsAccepted (written_text numbers properties (chars l))) same accepted;
}

-- the order of two texts that are accepted
pub accepted_order : (k : Keying) (left right : List ℕ) (o : Ordering) → IsAcceptedBy k left → IsAcceptedBy k right
    → o ≡ (bytes_compared k left right).order → IsOrder k left right o
accepted_order k left right o taken also same = record {
  both = λ _ _. same;
  left_alone = λ _ left_out. absurd (left_out also);
  right_alone = λ left_out _. absurd (left_out taken);
  neither = λ left_out _. absurd (left_out taken);
}

-- where one text is rejected
pub left_alone_order : (k : Keying) (left right : List ℕ) (o : Ordering) → IsAcceptedBy k left → ¬ (IsAcceptedBy k right) → o ≡ Less → IsOrder k left right o
left_alone_order k left right o taken left_out same = record {
  both = λ _ also. absurd (left_out also);
  left_alone = λ _ _. same;
  right_alone = λ other _. absurd (other taken);
  neither = λ other _. absurd (other taken);
}

-- and where both are
pub neither_order : (k : Keying) (left right : List ℕ) (o : Ordering) → ¬ (IsAcceptedBy k left) → ¬ (IsAcceptedBy k right) → o ≡ lexicographic left right
    → IsOrder k left right o
neither_order k left right o left_out also same = record {
  both = λ other _. absurd (left_out other);
  left_alone = λ other _. absurd (left_out other);
  right_alone = λ _ other. absurd (also other);
  neither = λ _ _. same;
}

module _ (law : StoredKeysCompareAsTexts) (k : Keying) where
  abbrev Accepted : List ℕ → Type 0
  Accepted bytes = IsAcceptedBy k bytes

  place : (bytes : List ℕ) → Accepted bytes ⊎ (Accepted bytes → ⊥) → List ℕ
  place bytes (inl taken) = 0 ∷ key_of_bytes k bytes
  place bytes (inr left_out) = 1 ∷ bytes

  by_places : (a b : List ℕ) (da : Accepted a ⊎ (Accepted a → ⊥)) (db : Accepted b ⊎ (Accepted b → ⊥)) (o : Ordering) → IsOrder k a b o
      → o ≡ lexicographic (place a da) (place b db)
  unfolding place
  by_places a b (inl taken) (inl also) o is = is.both taken also ∙ sym (law k.collation k.settings (chars a) (chars b)).0
  by_places a b (inl taken) (inr left_out) o is = is.left_alone taken left_out
  by_places a b (inr left_out) (inl taken) o is = is.right_alone left_out taken
  by_places a b (inr left_out) (inr neither) o is = is.neither left_out neither

  one : (a b : List ℕ) (o p : Ordering) → IsOrder k a b o → IsOrder k a b p → o ≡ p
  one a b o p first second = by_choice (Accepted a) o p (λ da. by_choice (Accepted b) o p (λ db.
      by_places a b da db o first ∙ sym (by_places a b da db p second)))

  reversed : (a b : List ℕ) (o p : Ordering) → IsOrder k a b o → IsOrder k b a p → o ≡ ordering_reverse p
  reversed a b o p first second = by_choice (Accepted a) o (ordering_reverse p) (λ da. by_choice (Accepted b) o (ordering_reverse p) (λ db.
      by_places a b da db o first ∙ nat_list_cmp_total.antisymm (place a da) (place b db) ∙ ap ordering_reverse (sym (by_places b a db da p second))))

  less : (a b c : List ℕ) (o p q : Ordering) → IsOrder k a b o → IsOrder k b c p → IsOrder k a c q → o ≡ Less → p ≡ Less → q ≡ Less
  less a b c o p q first second both o_less p_less = by_choice (Accepted a) q Less (λ da. by_choice (Accepted b) q Less (λ db. by_choice (Accepted c) q Less (λ dc.
      by_places a c da dc q both ∙ nat_list_cmp_total.trans (place a da) (place b db) (place c dc)
      (sym (by_places a b da db o first) ∙ o_less) (sym (by_places b c db dc p second) ∙ p_less))))

  equal : (a b c : List ℕ) (o p q : Ordering) → IsOrder k a b o → IsOrder k a c p → IsOrder k b c q → o ≡ Equal → p ≡ q
  equal a b c o p q first second third is_equal = by_choice (Accepted a) p q (λ da. by_choice (Accepted b) p q (λ db. by_choice (Accepted c) p q (λ dc.
      by_places a c da dc p second ∙ nat_list_cmp_total.congr (place a da) (place b db) (place c dc) (sym (by_places a b da db o first) ∙ is_equal)
      ∙ sym (by_places b c db dc q third))))

pub orders_total : StoredKeysCompareAsTexts → OrdersAreTotal
orders_total law = record { one = one law; reversed = reversed law; less = less law; equal = equal law }
