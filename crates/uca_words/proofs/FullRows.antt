-- Where a level of a parse has no error, each row that it makes has a value.
use Rattle.std.proofs.Common.{◌≡◌, ◌∙◌, ◌&&◌, ◌||◌, ◌⊎◌, ℕ, Bool, cond, true, false, not, zero, suc, refl, sym, ap, ap₂, List, [], ◌∷◌, ◌++◌, length, Option, Some, None, inl, inr, is_some, true≢false, nat_lt}
use Rattle.std.specs.Prelude.{find, fold, slice_get}
use Rattle.std.specs.List.{list_all, list_any}
use Rattle.std.specs.Option.{option_map_or}
use Rattle.std.specs.Str.{bytes_eq, chars}
use Rattle.std.proofs.lemmas.List.Folds.{list_all-append}
use Rattle.clap.specs.Values.{is_request}
use Rattle.clap.specs.Facts.{explicit_source, unwrap_or_range}
use Rattle.clap.specs.Lexer.{long_of, short_of}
use Rattle.clap.specs.Walk.{Held, Names, Outcome, Row, Rule, Step, Text, Waiting, Walk, action_of, after_flag, after_step, arg_by_id, arg_by_index, arg_by_long, arg_by_short, at_row, attached_value, bundle, bundle_met, bundle_step, count_of, default_rows, done, finished, first_of, has_row, idle, is_pending, long_met, long_or_other, more_values, most_values, new_count, next, nothing_held, option, option_met, option_word, plain, plain_word, positional, positional_held, pushed, reacted, reading_by, refused, settled, settled_rows, short_met, short_or_plain, subcommand, subcommand_met, subcommand_or_other, takes_several, takes_values, to_positional, trailing, used, used_as, used_by_id, value, values_or_missing, waits, walk, walk_from, walked, walked_from, with_count, with_default, with_values, without, word_met}
use Rattle.clap.specs.Simple.{Shape}
use Rattle.clap.specs.Takes.{is_given}
use Rattle.clap.specs.Kinds.{Kinds, check_kinds, or_else, range_kinds, request_kinds}
use Rattle.clap.specs.Faults.{action_fault, bundle_step_fault, check_fault, flag_word_fault, flags_fault, level_fault, long_fault, option_fault, other_fault, positional_fault, react_fault, settle_fault, short_fault, step_fault, stray_fault, turn_fault, use_fault, walk_fault, word_fault}
use Rattle.clap.specs.declared.builder.action.ArgAction.{ArgAction}
use Rattle.clap.specs.declared.builder.action.ArgAction.TheVariants as action
use Rattle.clap.specs.declared.builder.value_parser.Reading.{Reading}
use Rattle.clap.specs.declared.error.kind.ErrorKind.{ErrorKind}
use Rattle.clap.specs.declared.parser.matches.ValueSource.{ValueSource}
use Rattle.clap.specs.declared.parser.matches.ValueSource.TheVariants.{CommandLine, DefaultValue}
use Rattle.clap.proofs.FaultLemmas.{request_fault}
use Rattle.clap.proofs.WalkLemmas.{both}

-- ---- rows with a value

abbrev pub has_one : List Text → Bool
has_one values = is_some (slice_get values 0)

abbrev pub are_full : List Row → Bool
are_full = list_all (λ r. has_one r.values)

has_one-append : (xs ys : List Text) → has_one xs ≡ true → has_one (xs ++ ys) ≡ true
has_one-append [] ys e = absurd (true≢false (sym e))
has_one-append (x ∷ xs) ys e = refl

full_at : (id : Text) (change : Row → List Row) (missing rows : List Row) → ((r : Row) → has_one r.values ≡ true → are_full (change r) ≡ true) → are_full missing ≡ true
    → are_full rows ≡ true → are_full (at_row id change missing rows) ≡ true
full_at id change missing [] keeps m e = m
full_at id change missing (r ∷ rs) keeps m e =
    let parts = both (has_one r.values) (are_full rs) e in
    go (bytes_eq r.id id) parts.0 parts.1 (full_at id change missing rs keeps m parts.1)
  where
    go : (b : Bool) → has_one r.values ≡ true → are_full rs ≡ true → are_full (at_row id change missing rs) ≡ true
        → are_full (cond b (change r ++ rs) (r ∷ at_row id change missing rs)) ≡ true
    go true one rest more = list_all-append (λ (x : Row). has_one x.values) (change r) rs ∙ ap₂ (λ x y. x && y) (keeps r one) rest
    go false one rest more = ap₂ (λ x y. x && y) one more

full_with_values : (id : Text) (how : Reading) (s : ValueSource) (values : List Text) (rows : List Row) → has_one values ≡ true → are_full rows ≡ true
    → are_full (with_values id how s values rows) ≡ true
full_with_values id how s values rows one e =
    full_at id (more_values s values) _ rows (λ r h. ap (λ b. b && true) (has_one-append r.values values h)) (ap (λ b. b && true) one) e

full_without : (id : Text) (rows : List Row) → are_full rows ≡ true → are_full (without id rows) ≡ true
full_without id rows e = full_at id (λ _. []) [] rows (λ r h. refl) refl e

-- ---- one use of an argument

-- a use of the argument has a value, or gets one where it has none, or asks for help or the version
abbrev pub wants_value : Rule → Bool
wants_value a = nat_lt 0 (unwrap_or_range a.range).start_inclusive || (has_one a.missing || is_request (action_of a))

abbrev pub want_values : List Rule → Bool
want_values = list_all wants_value

full_used_as : (x : ArgAction) (id : Text) (how : Reading) (values : List Text) (rows : List Row) → has_one values ≡ true → are_full rows ≡ true
    → are_full (used_as x id how values rows) ≡ true
full_used_as action.Set id how values rows one e = full_with_values id how CommandLine values (without id rows) one (full_without id rows e)
full_used_as action.SetTrue id how values rows one e = full_with_values id how CommandLine values (without id rows) one (full_without id rows e)
full_used_as action.SetFalse id how values rows one e = full_with_values id how CommandLine values (without id rows) one (full_without id rows e)
full_used_as action.Append id how values rows one e = full_with_values id how CommandLine values rows one e
full_used_as action.Count id how [] rows one e = absurd (true≢false (sym one))
full_used_as action.Count id how (v ∷ vs) rows one e = full_with_values id how CommandLine (v ∷ vs) (without id rows) one (full_without id rows e)
full_used_as action.Help id how values rows one e = e
full_used_as action.HelpShort id how values rows one e = e
full_used_as action.HelpLong id how values rows one e = e
full_used_as action.Version id how values rows one e = e

-- two steps pass where both do
pub both_pass : (a b : Kinds) → or_else a b ≡ [] → (a ≡ []) × (b ≡ [])
both_pass [] b e = (refl, e)
both_pass (k ∷ ks) b e = let never : ⊥ = cc in absurd never

fails_not : (k : ErrorKind) (ks : Kinds) → k ∷ ks ≡ [] → ⊥
fails_not k ks e = cc

request_fails : (x : ArgAction) → is_request x ≡ true → request_kinds x ≡ [] → ⊥
request_fails action.Set e none = true≢false (sym e)
request_fails action.SetTrue e none = true≢false (sym e)
request_fails action.SetFalse e none = true≢false (sym e)
request_fails action.Append e none = true≢false (sym e)
request_fails action.Count e none = true≢false (sym e)
request_fails action.Help e none = fails_not _ _ none
request_fails action.HelpShort e none = fails_not _ _ none
request_fails action.HelpLong e none = fails_not _ _ none
request_fails action.Version e none = fails_not _ _ none

either : (a b : Bool) → (a || b) ≡ true → (a ≡ true) ⊎ (b ≡ true)
either true b e = inl refl
either false b e = inr e

pub full_used : (again : Bool) (a : Rule) (values : List Text) (rows : List Row) → wants_value a ≡ true → use_fault again a values rows ≡ [] → are_full rows ≡ true
    → are_full (used a values rows) ≡ true
full_used again a values rows wants passes e =
    let parts = both_pass (range_kinds (unwrap_or_range a.range).start_inclusive (most_values a) (length values)) (action_fault (action_of a) again a (values_or_missing a values) rows) passes in
    elim (either (nat_lt 0 (unwrap_or_range a.range).start_inclusive) _ wants) [
      | inl one ↦ go values one parts.0
      | inr rest ↦ elim (either (has_one a.missing) (is_request (action_of a)) rest) [
        | inl missing ↦ with_missing values missing
        | inr asks ↦ absurd (request_fails (action_of a) asks (request_fault (action_of a) again a (values_or_missing a values) rows asks ∙ parts.1))
      ]
    ]
  where
    go : (vs : List Text) → nat_lt 0 (unwrap_or_range a.range).start_inclusive ≡ true → range_kinds (unwrap_or_range a.range).start_inclusive (most_values a) (length vs) ≡ []
        → are_full (used a vs rows) ≡ true
    go [] one within = absurd (fails_not _ _ (rw one at within))
    go (v ∷ vs) one within = full_used_as (action_of a) a.id (reading_by a) (v ∷ vs) rows refl e

    with_missing : (vs : List Text) → has_one a.missing ≡ true → are_full (used a vs rows) ≡ true
    with_missing [] missing = full_used_as (action_of a) a.id (reading_by a) a.missing rows missing e
    with_missing (v ∷ vs) missing = full_used_as (action_of a) a.id (reading_by a) (v ∷ vs) rows refl e

-- ---- the walk

-- what a search finds passes what all pass
pub found : {X : Type 0} (p q : X → Bool) (xs : List X) (x : X) → list_all q xs ≡ true → find p xs ≡ Some x → q x ≡ true
found p q [] x all is = let never : ⊥ = cc in absurd never
found p q (y ∷ ys) x all is =
    let parts = both (q y) (list_all q ys) all in
    go (p y) parts.0 (λ e. found p q ys x parts.1 e) is
  where
    go : (b : Bool) → q y ≡ true → (find p ys ≡ Some x → q x ≡ true) → cond b (Some y) (find p ys) ≡ Some x → q x ≡ true
    go true here there e = let same : y ≡ x = cc in ap q (sym same) ∙ here
    go false here there e = there e

-- each argument that the option may have needs a value
abbrev Wants : Option Rule → Type 0
Wants o = (a : Rule) → o ≡ Some a → wants_value a ≡ true

module _ (c : List Rule) (again : Bool) (wants : want_values c ≡ true) where
  full_by_id : (o : Option Rule) (values : List Text) (rows : List Row) → Wants o → option_map_or (λ a. use_fault again a values rows) o [] ≡ [] → are_full rows ≡ true
      → are_full (used_by_id o values rows) ≡ true
  full_by_id None values rows w passes e = e
  full_by_id (Some a) values rows w passes e = full_used again a values rows (w a refl) passes e

  full_settled_rows : (pending : Option (Text × List Text)) (rows : List Row)
      → option_map_or (λ p. option_map_or (λ a. use_fault again a p.1 rows) (arg_by_id c p.0) []) pending [] ≡ [] → are_full rows ≡ true
      → are_full (settled_rows c pending rows) ≡ true
  full_settled_rows None rows passes e = e
  full_settled_rows (Some p) rows passes e = full_by_id (arg_by_id c p.0) p.1 rows (λ a is. found _ wants_value c a wants is) passes e

  pub full_settled : (h : Held) → settle_fault c again h ≡ [] → are_full h.rows ≡ true → are_full (settled c h).rows ≡ true
  full_settled h passes e = full_settled_rows h.pending h.rows passes e

  full_reacted : (a : Rule) (values : List Text) (h : Held) → wants_value a ≡ true → react_fault c again a values h ≡ [] → are_full h.rows ≡ true
      → are_full (reacted c a values h).rows ≡ true
  full_reacted a values h w passes e =
      let parts = both_pass (settle_fault c again h) (use_fault again a values (settled c h).rows) passes in
      full_used again a values (settled c h).rows w parts.1 (full_settled h parts.0 e)

  full_option_met : (a : Rule) (v : Option Text) (h : Held) → wants_value a ≡ true → option_fault c again a v h ≡ [] → are_full h.rows ≡ true
      → are_full (option_met c a v h).0.rows ≡ true
  full_option_met a (Some v) h w passes e = full_reacted a (v ∷ []) h w passes e
  full_option_met a None h w passes e = full_settled h passes e

  full_long_met : (o : Option Rule) (v : Option Text) (h : Held) → Wants o → long_fault c again o v h ≡ [] → are_full h.rows ≡ true
      → are_full (long_met c o v h).0.rows ≡ true
  full_long_met None v h w passes e = e
  full_long_met (Some a) v h w passes e = go (takes_values a) v passes
    where
      go : (b : Bool) (o : Option Text) → cond b (option_fault c again a o h) (cond (is_some o) (Rattle.clap.specs.declared.error.kind.ErrorKind.TheVariants.TooManyValues ∷ []) (react_fault c again a [] h)) ≡ []
          → are_full (cond b (option_met c a o h) (Rattle.clap.specs.Walk.flag_met c a o h)).0.rows ≡ true
      go true o p = full_option_met a o h (w a refl) p e
      go false (Some x) p = e
      go false None p = full_reacted a [] h (w a refl) p e

  -- the rest of a bundle keeps them full
  abbrev KeepsFull : (Text → ℕ → Outcome → Held → Held × Outcome) → (Text → ℕ → Held → Kinds) → Type 0
  KeepsFull go fault = (flags : Text) (skip : ℕ) (so_far : Outcome) (h : Held) → fault flags skip h ≡ [] → are_full h.rows ≡ true → are_full (go flags skip so_far h).0.rows ≡ true

  full_short_met : (o : Option Rule) (rest : Text) (h : Held) (after : Held → Held × Outcome) (fault : Held → Kinds) → Wants o
      → ((k : Held) → fault k ≡ [] → are_full k.rows ≡ true → are_full (after k).0.rows ≡ true) → short_fault c again o rest h fault ≡ [] → are_full h.rows ≡ true
      → are_full (short_met c o rest h after).0.rows ≡ true
  full_short_met None rest h after fault w keeps passes e = e
  full_short_met (Some a) rest h after fault w keeps passes e = go (takes_values a) passes
    where
      go : (b : Bool) → cond b (option_fault c again a (attached_value rest) h) (or_else (react_fault c again a [] h) (fault (reacted c a [] h))) ≡ []
          → are_full (cond b (option_met c a (attached_value rest) h) (after (reacted c a [] h))).0.rows ≡ true
      go true p = full_option_met a (attached_value rest) h (w a refl) p e
      go false p =
          let parts = both_pass (react_fault c again a [] h) (fault (reacted c a [] h)) p in
          keeps (reacted c a [] h) parts.1 (full_reacted a [] h (w a refl) parts.0 e)

  full_bundle_step : (x : Option ℕ) (flags : Text) (skip : ℕ) (so_far : Outcome) (h : Held) (after : Text → ℕ → Outcome → Held → Held × Outcome) (fault : Text → ℕ → Held → Kinds)
      → KeepsFull after fault → bundle_step_fault c again x flags skip h fault ≡ [] → are_full h.rows ≡ true → are_full (bundle_step c x flags skip so_far h after).0.rows ≡ true
  full_bundle_step None flags skip so_far h after fault keeps passes e = e
  full_bundle_step (Some x) flags zero so_far h after fault keeps passes e =
      full_short_met (arg_by_short c x) _ h (after _ 0 done) (fault _ 0) (λ a is. found _ wants_value c a wants is) (λ k. keeps _ 0 done k) passes e
  full_bundle_step (Some x) flags (suc skip) so_far h after fault keeps passes e = keeps _ skip so_far h passes e

  full_bundle_met : (k : ℕ) → KeepsFull (bundle_met c k) (flags_fault c again k)
  unfolding bundle_met flags_fault
  full_bundle_met zero flags skip so_far h passes e = e
  full_bundle_met (suc k) flags skip so_far h passes e =
      full_bundle_step (slice_get (chars flags) 0) flags skip so_far h (bundle_met c k) (flags_fault c again k) (full_bundle_met k) passes e

  plain_rows : (waiting : Waiting) (word : Text) (h : Held) → (plain_word c waiting word h).0.rows ≡ h.rows
  plain_rows idle word h = refl
  plain_rows positional word h = refl
  plain_rows (option id) word h = go (arg_by_id c id)
    where
      go : (o : Option Rule) → (option_word o id word h).0.rows ≡ h.rows
      go None = refl
      go (Some a) = refl

  flag_rows : (waiting : Waiting) (word : Text) (h : Held) (o : Outcome) → (after_flag c waiting word h o).0.rows ≡ h.rows
  flag_rows waiting word h done = refl
  flag_rows waiting word h (waits id) = refl
  flag_rows waiting word h plain = plain_rows waiting word h
  flag_rows waiting word h refused = plain_rows waiting word h

  full_flag_word : (waiting : Waiting) (word : Text) (o : Option (Text × Option Text)) (h : Held) → flag_word_fault c again o word h ≡ [] → are_full h.rows ≡ true
      → are_full (long_or_other c waiting word o h).0.rows ≡ true
  full_flag_word waiting word (Some p) h passes e =
      ap are_full (flag_rows waiting word (long_met c (arg_by_long c p.0) p.1 h).0 (long_met c (arg_by_long c p.0) p.1 h).1)
      ∙ full_long_met (arg_by_long c p.0) p.1 h (λ a is. found _ wants_value c a wants is) passes e
  full_flag_word waiting word None h passes e = go (short_of word) passes
    where
      go : (o : Option Text) → option_map_or (λ flags. Rattle.clap.specs.Faults.bundle_fault c again flags h) o [] ≡ [] → are_full (short_or_plain c waiting word o h).0.rows ≡ true
      go (Some flags) p =
          ap are_full (flag_rows waiting word (bundle c flags h).0 (bundle c flags h).1)
          ∙ full_bundle_met (length flags) flags h.skip plain (record h { skip = 0 }) p e
      go None p = ap are_full (plain_rows waiting word h) ∙ e

-- ---- the steps of a level

module _ (s : Shape) (wants : want_values s.rules ≡ true) where
  full_word_met : (names : Names) (is_trailing : Bool) (waiting : Waiting) (position : ℕ) (word : Text) (h : Held) → word_fault s names is_trailing waiting word h ≡ []
      → are_full h.rows ≡ true → are_full (word_met s.rules names is_trailing waiting position word h).0.rows ≡ true
  full_word_met names true waiting position word h passes e = e
  full_word_met names false waiting position word h passes e = go (subcommand_met names waiting word) passes
    where
      dashes : (b : Bool) → cond b [] (flag_word_fault s.rules s.args_override_self (long_of word) word h) ≡ []
          → are_full (cond b (h, trailing position) (long_or_other s.rules waiting word (long_of word) h)).0.rows ≡ true
      dashes true p = e
      dashes false p = full_flag_word s.rules s.args_override_self wants waiting word (long_of word) h p e

      go : (o : Option Text) → other_fault s o word h ≡ [] → are_full (subcommand_or_other s.rules o waiting position word h).0.rows ≡ true
      go (Some name) p = e
      go None p = dashes (bytes_eq word (45 ∷ 45 ∷ [])) p

  full_positional : (o : Option Rule) (word : Text) (w : Walk) (h : Held) → option_map_or (λ a. positional_fault s.rules s.args_override_self a h) o (stray_fault s) ≡ []
      → are_full h.rows ≡ true → are_full (to_positional s.rules o word w h).held.rows ≡ true
  full_positional None word w h passes e = e
  full_positional (Some a) word w h passes e = go (is_pending a h.pending && takes_several a) passes
    where
      go : (b : Bool) → cond b [] (settle_fault s.rules s.args_override_self h) ≡ [] → are_full (pushed a.id word (cond b h (settled s.rules h))).rows ≡ true
      go true p = e
      go false p = full_settled s.rules s.args_override_self wants h p e

  full_after : (word : Text) (w : Walk) (h : Held) (step : Step) → step_fault s w.position h step ≡ [] → are_full h.rows ≡ true
      → are_full (after_step s.rules word w h step).held.rows ≡ true
  full_after word w h (next waiting) passes e = e
  full_after word w h (trailing position) passes e = e
  full_after word w h (subcommand name) passes e = e
  full_after word w h value passes e = full_positional (arg_by_index s.rules w.position) word w h passes e

  full_walked : (names : Names) (w : Walk) (word : Text) → turn_fault s names w word ≡ [] → are_full w.held.rows ≡ true
      → are_full (walked s.rules names w word).held.rows ≡ true
  unfolding walked
  full_walked names w word passes e = go w.stopped passes
    where
      met : Held × Step
      met = word_met s.rules names w.is_trailing w.waiting w.position word w.held

      go : (o : Option (Text × List Text)) → cond (is_some o) [] (or_else (word_fault s names w.is_trailing w.waiting word w.held) (step_fault s w.position
          (word_met s.rules names w.is_trailing w.waiting w.position word w.held).0 (word_met s.rules names w.is_trailing w.waiting w.position word w.held).1)) ≡ []
          → are_full (walked_from s.rules names o w word).held.rows ≡ true
      go (Some p) passed = e
      go None passed =
          let parts = both_pass (word_fault s names w.is_trailing w.waiting word w.held) _ passed in
          full_after word w (word_met s.rules names w.is_trailing w.waiting w.position word w.held).0 (word_met s.rules names w.is_trailing w.waiting w.position word w.held).1 parts.1
          (full_word_met names w.is_trailing w.waiting w.position word w.held parts.0 e)

  full_walk : (names : Names) (words : List Text) (w : Walk) → walk_fault s names w words ≡ [] → are_full w.held.rows ≡ true
      → are_full (fold (walked s.rules names) w words).held.rows ≡ true
  unfolding walk_fault
  full_walk names [] w passes e = e
  full_walk names (word ∷ rest) w passes e =
      let parts = both_pass (turn_fault s names w word) (walk_fault s names (walked s.rules names w word) rest) passes in
      full_walk names rest (walked s.rules names w word) parts.1 (full_walked names w word parts.0 e)

-- ---- defaults, and what is required

full_default : (a : Rule) (rows : List Row) → are_full rows ≡ true → are_full (with_default rows a) ≡ true
full_default a rows e = go (has_row a.id rows) a.defaults
  where
    given : (vs : List Text) → are_full (default_rows a.id (reading_by a) vs rows) ≡ true
    given [] = e
    given (v ∷ vs) = full_with_values a.id (reading_by a) DefaultValue (v ∷ vs) rows refl e

    go : (b : Bool) (vs : List Text) → are_full (cond b rows (default_rows a.id (reading_by a) vs rows)) ≡ true
    go true vs = e
    go false vs = given vs

full_defaults : (rules : List Rule) (rows : List Row) → are_full rows ≡ true → are_full (fold with_default rows rules) ≡ true
full_defaults [] rows e = e
full_defaults (a ∷ rest) rows e = full_defaults rest (with_default rows a) (full_default a rows e)

-- an argument that was given has a value
pub given_has_value : (id : Text) (rows : List Row) → are_full rows ≡ true → is_given id rows ≡ true → is_some (first_of id rows) ≡ true
given_has_value id [] e given = absurd (true≢false (sym given))
given_has_value id (r ∷ rs) e given =
    let parts = both (has_one r.values) (are_full rs) e in
    go (bytes_eq r.id id) parts.0 (given_has_value id rs parts.1) given
  where
    go : (b : Bool) → has_one r.values ≡ true → (is_given id rs ≡ true → is_some (first_of id rs) ≡ true)
        → option_map_or (λ (x : Row). explicit_source x.source) (cond b (Some r) (find (λ x. bytes_eq x.id id) rs)) false ≡ true
        → is_some (Rattle.std.specs.Prelude.option_and_then (λ (x : Row). slice_get x.values 0) (cond b (Some r) (find (λ x. bytes_eq x.id id) rs))) ≡ true
    go true here there g = here
    go false here there g = there g

-- the argument has a value if it is required
abbrev pub has_required : List Row → Rule → Bool
has_required rows a = not a.required || is_some (first_of a.id rows)

each_given : (rows : List Row) (rules : List Rule) → are_full rows ≡ true → list_any (λ a. a.required && not (is_given a.id rows)) rules ≡ false
    → list_all (has_required rows) rules ≡ true
each_given rows [] e none = refl
each_given rows (a ∷ rest) e none =
    go a.required (is_given a.id rows) (λ given. given_has_value a.id rows e given) (λ others. each_given rows rest e others) none
  where
    go : (b given : Bool) → (given ≡ true → is_some (first_of a.id rows) ≡ true)
        → (list_any (λ x. x.required && not (is_given x.id rows)) rest ≡ false → list_all (has_required rows) rest ≡ true)
        → ((b && not given) || list_any (λ x. x.required && not (is_given x.id rows)) rest) ≡ false
        → ((not b || is_some (first_of a.id rows)) && list_all (has_required rows) rest) ≡ true
    go false g here there n = there n
    go true true here there n = ap₂ (λ x y. x && y) (here refl) (there n)
    go true false here there n = absurd (true≢false n)

wants_none : (a b c : Bool) → check_kinds a b c ≡ [] → c ≡ false
wants_none true b c e = absurd (fails_not _ _ e)
wants_none false true c e = absurd (fails_not _ _ e)
wants_none false false true e = absurd (fails_not _ _ e)
wants_none false false false e = refl

-- at the end of a level with no error and no subcommand, what is required has a value
pub required_there : (s : Shape) (words : List Text) → want_values s.rules ≡ true → level_fault s [] nothing_held words false [] ≡ []
    → list_all (has_required (finished s.rules (walk s.rules [] nothing_held words).held)) s.rules ≡ true
required_there s words wants passes =
    let end = (walk s.rules [] nothing_held words).held in
    let one = both_pass (walk_fault s [] (walk_from nothing_held) words) _ passes in
    let two = both_pass (settle_fault s.rules s.args_override_self end) _ one.1 in
    let three = both_pass (Rattle.clap.specs.Faults.defaults_fault (settled s.rules end).rows s.rules) _ two.1 in
    let rows = finished s.rules end in
    let full = full_defaults s.rules (settled s.rules end).rows (full_settled s.rules s.args_override_self wants end two.0 (full_walk s wants [] words (walk_from nothing_held) one.0 refl)) in
    each_given rows s.rules full (negates s.subcommand_negates_reqs (list_any (λ a. a.required && not (is_given a.id rows)) s.rules) (wants_none _ _ _ three.1))
  where
    negates : (b c : Bool) → (not (b && false) && c) ≡ false → c ≡ false
    negates true c e = e
    negates false c e = e
