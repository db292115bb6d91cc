-- Where a level of a parse has no error, it does not stop at the subcommand `help` that `clap` adds: that is always an error.
use Rattle.std.proofs.Common.{◌≡◌, ◌&&◌, Bool, cond, true, false, not, refl, true≢false, List, [], ◌∷◌, ℕ, Option, Some, None, is_some, codes}
use Rattle.std.specs.Prelude.{fold}
use Rattle.std.specs.Option.{option_map_or}
use Rattle.std.specs.Str.{bytes_eq}
use Rattle.clap.specs.Lexer.{long_of, short_of}
use Rattle.clap.specs.Walk.{Held, Names, Outcome, Rule, Step, Text, Waiting, Walk, after_flag, after_step, arg_by_index, arg_by_long, bundle, done, idle, long_met, long_or_other, next, option, plain, plain_word, positional, refused, short_or_plain, subcommand, subcommand_met, subcommand_or_other, to_positional, trailing, value, waits, walked, walked_from, word_met}
use Rattle.clap.specs.Simple.{Shape}
use Rattle.clap.specs.Kinds.{Kinds, or_else}
use Rattle.clap.specs.Faults.{other_fault, step_fault, turn_fault, walk_fault, word_fault}
use Rattle.uca_words.proofs.FullRows.{both_pass}

abbrev pub is_help : Text → Bool
is_help name = bytes_eq name (codes "help")

-- the walk has not stopped at `help`
abbrev pub is_past_help : Option (Text × List Text) → Bool
is_past_help stop = option_map_or (λ (p : Text × List Text). not (is_help p.0)) stop true

-- the step does not stop the walk at `help`
abbrev is_other : Step → Bool
is_other (subcommand name) = not (is_help name)
is_other _ = true

plain_other : (c : List Rule) (waiting : Waiting) (word : Text) (h : Held) → is_other (plain_word c waiting word h).1 ≡ true
plain_other c idle word h = refl
plain_other c positional word h = refl
plain_other c (option id) word h = refl

flag_other : (c : List Rule) (waiting : Waiting) (word : Text) (h : Held) (o : Outcome) → is_other (after_flag c waiting word h o).1 ≡ true
flag_other c waiting word h done = refl
flag_other c waiting word h (waits id) = refl
flag_other c waiting word h plain = plain_other c waiting word h
flag_other c waiting word h refused = plain_other c waiting word h

short_other : (c : List Rule) (waiting : Waiting) (word : Text) (o : Option Text) (h : Held) → is_other (short_or_plain c waiting word o h).1 ≡ true
short_other c waiting word (Some flags) h = flag_other c waiting word (bundle c flags h).0 (bundle c flags h).1
short_other c waiting word None h = plain_other c waiting word h

long_other : (c : List Rule) (waiting : Waiting) (word : Text) (o : Option (Text × Option Text)) (h : Held) → is_other (long_or_other c waiting word o h).1 ≡ true
long_other c waiting word (Some p) h = flag_other c waiting word (long_met c (arg_by_long c p.0) p.1 h).0 (long_met c (arg_by_long c p.0) p.1 h).1
long_other c waiting word None h = short_other c waiting word (short_of word) h

-- `help` is an error
passes_help : (b off : Bool) (k : Kinds) → off ≡ false → (cond (b && not off) (Rattle.clap.specs.declared.error.kind.ErrorKind.TheVariants.DisplayHelp ∷ k) []) ≡ [] → not b ≡ true
passes_help false off k on passes = refl
passes_help true true k on passes = absurd (true≢false on)
passes_help true false k on passes = let never : ⊥ = cc in absurd never

met_other : (s : Shape) (o : Option Text) (waiting : Waiting) (position : ℕ) (word : Text) (h : Held) → s.disable_help_subcommand ≡ false → other_fault s o word h ≡ []
    → is_other (subcommand_or_other s.rules o waiting position word h).1 ≡ true
met_other s (Some name) waiting position word h on passes = passes_help (is_help name) s.disable_help_subcommand _ on passes
met_other s None waiting position word h on passes = dashes (bytes_eq word (45 ∷ 45 ∷ []))
  where
    dashes : (b : Bool) → is_other (cond b (h, trailing position) (long_or_other s.rules waiting word (long_of word) h)).1 ≡ true
    dashes true = refl
    dashes false = long_other s.rules waiting word (long_of word) h

word_other : (s : Shape) (names : Names) (is_trailing : Bool) (waiting : Waiting) (position : ℕ) (word : Text) (h : Held) → s.disable_help_subcommand ≡ false
    → word_fault s names is_trailing waiting word h ≡ [] → is_other (word_met s.rules names is_trailing waiting position word h).1 ≡ true
word_other s names true waiting position word h on passes = refl
word_other s names false waiting position word h on passes = met_other s (subcommand_met names waiting word) waiting position word h on passes

past_step : (c : List Rule) (word : Text) (w : Walk) (h : Held) (step : Step) → is_other step ≡ true → is_past_help w.stopped ≡ true
    → is_past_help (after_step c word w h step).stopped ≡ true
past_step c word w h (next waiting) other past = past
past_step c word w h (trailing position) other past = past
past_step c word w h (subcommand name) other past = other
past_step c word w h value other past = go (arg_by_index c w.position)
  where
    go : (o : Option Rule) → is_past_help (to_positional c o word w h).stopped ≡ true
    go None = past
    go (Some a) = refl

past_walked : (s : Shape) (names : Names) (w : Walk) (word : Text) → s.disable_help_subcommand ≡ false → turn_fault s names w word ≡ [] → is_past_help w.stopped ≡ true
    → is_past_help (walked s.rules names w word).stopped ≡ true
unfolding walked
past_walked s names w word on passes past = go w.stopped past passes
  where
    go : (o : Option (Text × List Text)) → is_past_help o ≡ true
        → cond (is_some o) [] (or_else (word_fault s names w.is_trailing w.waiting word w.held) (step_fault s w.position
        (word_met s.rules names w.is_trailing w.waiting w.position word w.held).0 (word_met s.rules names w.is_trailing w.waiting w.position word w.held).1)) ≡ []
        → is_past_help (walked_from s.rules names o w word).stopped ≡ true
    go (Some p) stopped passed = stopped
    go None stopped passed =
        let parts = both_pass (word_fault s names w.is_trailing w.waiting word w.held) _ passed in
        past_step s.rules word w _ (word_met s.rules names w.is_trailing w.waiting w.position word w.held).1
        (word_other s names w.is_trailing w.waiting w.position word w.held on parts.0) past

-- a walk with no error does not stop at `help`
pub past_walk : (s : Shape) (names : Names) (words : List Text) (w : Walk) → s.disable_help_subcommand ≡ false → walk_fault s names w words ≡ [] → is_past_help w.stopped ≡ true
    → is_past_help (fold (walked s.rules names) w words).stopped ≡ true
unfolding walk_fault
past_walk s names [] w on passes past = past
past_walk s names (word ∷ rest) w on passes past =
    let parts = both_pass (turn_fault s names w word) (walk_fault s names (walked s.rules names w word) rest) passes in
    past_walk s names rest (walked s.rules names w word) on parts.1 (past_walked s names w word on parts.0 past)
