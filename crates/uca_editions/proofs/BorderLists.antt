-- A list that is made range by range has the borders of all of them.
use Rattle.std.proofs.Common.{◌≡◌, ℕ, ◌+◌, ◌<◌, ◌≤◌, List, length, take, get_or, Contains, sym, subst}
use Rattle.std.specs.Char.{IsScalar}
use Rattle.std.proofs.lemmas.List.{take_all, get_or_default}
use Rattle.uca_weights.proofs.Lists.{each_weaker, each_push, taken_more}
use Rattle.uca_values.specs.declared.ClassRange.{ClassRange}
use Rattle.uca_values.specs.declared.CodePointRange.{CodePointRange}
use Rattle.uca_values.specs.declared.ImplicitRange.{ImplicitRange}
use Rattle.uca_values.specs.Content.{DataContent}
use Rattle.uca_editions.specs.inside.Borders.{HasFirsts, HasBorders, AddsBorders, HasPairBorders, HasDataBorders, HasPointBorders}

-- a list keeps the borders that it has if it keeps its members
pub borders_kept : {X : Type 0} (first last : X → ℕ) (ranges : List X) (old new : List ℕ) → ((point : ℕ) → Contains old point → Contains new point)
    → HasBorders first last old ranges → HasBorders first last new ranges
borders_kept {X} first last ranges old new kept has =
    each_weaker (λ (r : X). Contains old (first r) × (IsScalar (last r + 1) → Contains old (last r + 1)))
    (λ r. Contains new (first r) × (IsScalar (last r + 1) → Contains new (last r + 1)))
    (λ r here. (kept (first r) here.0, λ scalar. kept (last r + 1) (here.1 scalar))) ranges has

-- the borders of one more range
pub borders_further : {X : Type 0} (first last : X → ℕ) (ranges : List X) (at : ℕ) (d : X) (old so_far new : List ℕ) → at < length ranges
    → AddsBorders first last (take at ranges) old so_far → ((point : ℕ) → Contains so_far point → Contains new point) → Contains new (first (get_or ranges at d))
    → (IsScalar (last (get_or ranges at d) + 1) → Contains new (last (get_or ranges at d) + 1)) → AddsBorders first last (take (at + 1) ranges) old new
borders_further {X} first last ranges at d old so_far new within adds kept begins ends =
    let r = get_or ranges at d in
    record {
      kept = λ point h. kept point (adds.kept point h);
      added =
          subst (HasBorders first last new) (sym (taken_more ranges at r within (get_or_default ranges at d r within)))
          ((each_push (λ (s : X). Contains new (first s) × (IsScalar (last s + 1) → Contains new (last s + 1))) (take at ranges) r).1
          (borders_kept first last (take at ranges) so_far new kept adds.added, (begins, ends)));
    }

-- the borders of all ranges
pub borders_whole : {X : Type 0} (first last : X → ℕ) (ranges : List X) (at : ℕ) (old new : List ℕ) → length ranges ≤ at
    → AddsBorders first last (take at ranges) old new → AddsBorders first last ranges old new
borders_whole first last ranges at old new over adds = subst (λ rs. AddsBorders first last rs old new) (take_all at ranges over) adds

-- a list of the borders of two headers and of changed ranges
pub pair_lists : (old new old_lent new_lent : List ImplicitRange) (ranges ranges_lent : List CodePointRange) (a b c d : List ℕ) → HasFirsts a
    → old_lent ≡ old → AddsBorders (λ (r : ImplicitRange). r.first) (λ r. r.last) old_lent a b
    → new_lent ≡ new → AddsBorders (λ (r : ImplicitRange). r.first) (λ r. r.last) new_lent b c
    → ranges_lent ≡ ranges → AddsBorders (λ (r : CodePointRange). r.first) (λ r. r.last) ranges_lent c d → HasPairBorders old new ranges d
pair_lists old new old_lent new_lent ranges ranges_lent a b c d firsts old_is one new_is second ranges_is third =
    let first : ImplicitRange → ℕ = λ r. r.first in
    let last : ImplicitRange → ℕ = λ r. r.last in
    record {
      firsts = record { zero = third.kept 0 (second.kept 0 (one.kept 0 firsts.zero)); after = third.kept 0xE000 (second.kept 0xE000 (one.kept 0xE000 firsts.after)) };
      old_ranges = subst (HasBorders first last d) old_is (borders_kept first last old_lent c d third.kept (borders_kept first last old_lent b c second.kept one.added));
      new_ranges = subst (HasBorders first last d) new_is (borders_kept first last new_lent c d third.kept second.added);
      changed = subst (HasBorders (λ (r : CodePointRange). r.first) (λ r. r.last) d) ranges_is third.added;
    }

-- a list of the borders of the ranges of a data file
pub data_lists : (content : DataContent) (classes : List ClassRange) (core other : List CodePointRange) (a b c d : List ℕ)
    → classes ≡ content.classes → AddsBorders (λ (r : ClassRange). r.first) (λ r. r.last) classes a b
    → core ≡ content.core → AddsBorders (λ (r : CodePointRange). r.first) (λ r. r.last) core b c
    → other ≡ content.other → AddsBorders (λ (r : CodePointRange). r.first) (λ r. r.last) other c d → HasDataBorders content d
data_lists content classes core other a b c d classes_is one core_is two other_is three =
    let first : CodePointRange → ℕ = λ r. r.first in
    let last : CodePointRange → ℕ = λ r. r.last in
    let first_class : ClassRange → ℕ = λ r. r.first in
    let last_class : ClassRange → ℕ = λ r. r.last in
    record {
      classes =
          subst (HasBorders first_class last_class d) classes_is
          (borders_kept first_class last_class classes c d three.kept (borders_kept first_class last_class classes b c two.kept one.added));
      core = subst (HasBorders first last d) core_is (borders_kept first last core c d three.kept two.added);
      other = subst (HasBorders first last d) other_is three.added;
    }

-- the borders of a data file stay on a list that keeps its members
data_kept : (content : DataContent) (old new : List ℕ) → ((point : ℕ) → Contains old point → Contains new point) → HasDataBorders content old → HasDataBorders content new
data_kept content old new kept has =
    record {
      classes = borders_kept (λ (r : ClassRange). r.first) (λ r. r.last) content.classes old new kept has.classes;
      core = borders_kept (λ (r : CodePointRange). r.first) (λ r. r.last) content.core old new kept has.core;
      other = borders_kept (λ (r : CodePointRange). r.first) (λ r. r.last) content.other old new kept has.other;
    }

-- a list of the borders of two data files and of changed ranges
pub point_lists : (old new : DataContent) (ranges lent : List CodePointRange) (a b c d : List ℕ) → HasFirsts a
    → ((point : ℕ) → Contains a point → Contains b point) → HasDataBorders old b
    → ((point : ℕ) → Contains b point → Contains c point) → HasDataBorders new c
    → lent ≡ ranges → AddsBorders (λ (r : CodePointRange). r.first) (λ r. r.last) lent c d → HasPointBorders old new ranges d
point_lists old new ranges lent a b c d firsts kept old_has kept_more new_has is third =
    record {
      firsts = record { zero = third.kept 0 (kept_more 0 (kept 0 firsts.zero)); after = third.kept 0xE000 (kept_more 0xE000 (kept 0xE000 firsts.after)) };
      old_data = data_kept old c d third.kept (data_kept old b c kept_more old_has);
      new_data = data_kept new c d third.kept new_has;
      changed = subst (HasBorders (λ (r : CodePointRange). r.first) (λ r. r.last) d) is third.added;
    }
