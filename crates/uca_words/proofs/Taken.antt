-- Where a command that requires a subcommand has no error at the words, one of its own subcommands was met, and each
-- word that it requires has a value.
use Rattle.std.proofs.Common.{◌≡◌, ◌∙◌, ◌&&◌, ◌||◌, Bool, cond, true, false, not, refl, sym, ap, ap₂, List, [], ◌∷◌, Option, Some, None, is_some, true≢false, option_map}
use Rattle.std.specs.Prelude.{find}
use Rattle.std.specs.List.{list_all, list_any}
use Rattle.std.specs.Option.{option_map_or}
use Rattle.std.specs.Str.{bytes_eq}
use Rattle.std.proofs.lemmas.Slice.Eq.{bytes_eq-Decides}
use Rattle.clap.specs.Walk.{Row, Text, answers_to, nothing_held, rows_after, settled, walk, walk_from}
use Rattle.clap.specs.Simple.{App, Shape, argument_words, built, entered, label_of, names_of, rows_at, subcommand_of}
use Rattle.clap.specs.Kinds.{check_kinds}
use Rattle.clap.specs.Faults.{defaults_fault, entered_fault, fault_of, level_fault, settle_fault, walk_fault}
use Rattle.clap.proofs.WalkLemmas.{both}
use Rattle.uca_words.proofs.FullRows.{both_pass, found, has_required, required_there, want_values}
use Rattle.uca_words.proofs.NoHelp.{is_help, is_past_help, past_walk}

-- one of these has this name, and each word that it requires has a value; it is not `help`
abbrev pub is_one_of : List Shape → Text → List Row → Bool
is_one_of subs name rows = list_any (λ s. not (is_help s.name) && (bytes_eq s.name name && list_all (has_required rows) s.rules)) subs

abbrev pub is_known : List Shape → Option (Text × List Row) → Bool
is_known subs = λ met. option_map_or (λ (p : Text × List Row). is_one_of subs p.0 p.1) met false

any_found : {X : Type 0} (p q : X → Bool) (xs : List X) (x : X) → find p xs ≡ Some x → q x ≡ true → list_any q xs ≡ true
any_found p q [] x is here = let never : ⊥ = cc in absurd never
any_found p q (y ∷ ys) x is here = go (p y) (λ e. any_found p q ys x e here) is
  where
    or_true : (b : Bool) → (b || true) ≡ true
    or_true true = refl
    or_true false = refl

    go : (b : Bool) → (find p ys ≡ Some x → list_any q ys ≡ true) → cond b (Some y) (find p ys) ≡ Some x → (q y || list_any q ys) ≡ true
    go true there e = let same : y ≡ x = cc in ap (λ b. b || list_any q ys) (ap q same ∙ here)
    go false there e = ap (λ b. q y || b) (there e) ∙ or_true (q y)

asks_subcommand : (a b c : Bool) → check_kinds a b c ≡ [] → b ≡ false
asks_subcommand true b c e = let never : ⊥ = cc in absurd never
asks_subcommand false true c e = let never : ⊥ = cc in absurd never
asks_subcommand false false c e = refl

is_there : (has required : Bool) → required ≡ true → (not has && required) ≡ false → has ≡ true
is_there true required r e = refl
is_there false required r e = absurd (true≢false (sym r ∙ e))

-- what a search finds passes its test
passes_test : {X : Type 0} (p : X → Bool) (xs : List X) (x : X) → find p xs ≡ Some x → p x ≡ true
passes_test p [] x is = let never : ⊥ = cc in absurd never
passes_test p (y ∷ ys) x is = go (p y) refl (passes_test p ys x) is
  where
    go : (b : Bool) → p y ≡ b → (find p ys ≡ Some x → p x ≡ true) → cond b (Some y) (find p ys) ≡ Some x → p x ≡ true
    go true here there e = let same : y ≡ x = cc in ap p (sym same) ∙ here
    go false here there e = there e

abbrev pub has_none : List Text → Bool
has_none [] = true
has_none (x ∷ xs) = false

-- the subcommand is known by its name alone, and each use of an argument has a value, but for `help`
abbrev pub is_usual : Shape → Bool
is_usual s = has_none s.aliases && (is_help s.name || want_values s.rules)

-- so it has the name that it is found by
named_so : (name : Text) (s : Shape) → has_none s.aliases ≡ true → answers_to name (label_of s) ≡ true → s.name ≡ name
named_so name s alone called = (bytes_eq-Decides s.name name).0 (go s.aliases alone called)
  where
    go : (aliases : List Text) → has_none aliases ≡ true → (bytes_eq s.name name || list_any (λ alias. bytes_eq alias name) aliases) ≡ true → bytes_eq s.name name ≡ true
    go [] e f = or_false (bytes_eq s.name name) f
      where
        or_false : (b : Bool) → (b || false) ≡ true → b ≡ true
        or_false true e = refl
        or_false false e = e
    go (x ∷ xs) e f = absurd (true≢false (sym e))

other_wants : (b w : Bool) → not b ≡ true → (b || w) ≡ true → w ≡ true
other_wants false w other e = e
other_wants true w other e = absurd (true≢false (sym other))

module _ (a : App) (usual : list_all is_usual a.subs ≡ true) where
  known_entered : (stop : Option (Text × List Text)) → is_past_help stop ≡ true → entered_fault a stop ≡ [] → is_some (entered a stop) ≡ true → is_known a.subs (entered a stop) ≡ true
  known_entered None past passes has = absurd (true≢false (sym has))
  known_entered (Some p) past passes has = go (find (λ s. answers_to p.0 (label_of s)) a.subs) refl passes has
    where
      go : (o : Option Shape) → find (λ s. answers_to p.0 (label_of s)) a.subs ≡ o → option_map_or (λ s. level_fault s [] nothing_held p.1 false []) o [] ≡ []
          → is_some (option_map (λ s. rows_at s p.1) o) ≡ true → is_known a.subs (option_map (λ s. rows_at s p.1) o) ≡ true
      go None is passes has = absurd (true≢false (sym has))
      go (Some s) is passes has =
          let rows = rows_after s.rules [] p.1 in
          let parts = both (has_none s.aliases) _ (found _ is_usual a.subs s usual is) in
          let same = named_so p.0 s parts.0 (passes_test (λ s. answers_to p.0 (label_of s)) a.subs s is) in
          let other = ap (λ name. not (is_help name)) same ∙ past in
          any_found (λ s. answers_to p.0 (label_of s)) (λ (x : Shape). not (is_help x.name) && (bytes_eq x.name s.name && list_all (has_required rows) x.rules)) a.subs s is
          (ap₂ (λ x y. x && y) other (ap₂ (λ x y. x && y) ((bytes_eq-Decides s.name s.name).1 refl) (required_there s p.1 (other_wants (is_help s.name) _ other parts.1) passes)))

pub taken : (a : App) (words : List Text) → list_all is_usual (built a).subs ≡ true → (built a).top.subcommand_required ≡ true → (built a).top.disable_help_subcommand ≡ false
    → fault_of a words ≡ [] → is_known (built a).subs (subcommand_of a words) ≡ true
taken a words usual required on passes =
    let b = built a in
    let given = argument_words a words in
    let end = (walk b.top.rules (names_of b) nothing_held given).held in
    let stop = (walk b.top.rules (names_of b) nothing_held given).stopped in
    let one = both_pass (walk_fault b.top (names_of b) (walk_from nothing_held) given) _ passes in
    let two = both_pass (entered_fault b stop) _ one.1 in
    let three = both_pass (settle_fault b.top.rules b.top.args_override_self end) _ two.1 in
    let four = both_pass (defaults_fault (settled b.top.rules end).rows b.top.rules) _ three.1 in
    let past = past_walk b.top (names_of b) given (walk_from nothing_held) on one.0 refl in
    known_entered b usual stop past two.0 (is_there (is_some (entered b stop)) b.top.subcommand_required required (asks_subcommand _ _ _ four.1))
