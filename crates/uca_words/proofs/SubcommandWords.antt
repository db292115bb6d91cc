-- What the matches and the errors of the command say of the arguments.
use Rattle.std.proofs.Common.{◌≡◌, ◌≢◌, ◌&&◌, ◌||◌, Bool, List, [], Option, Some, None, Result, Ok, Err, IfOk, IfErr, true, false, Bor, inl, inr, option_map, refl, ap, subst, sym, ◌∙◌}
use Rattle.std.specs.Box.{box_value}
use Rattle.std.specs.Option.{option_map_or}
use Rattle.std.specs.Str.{bytes_eq}
use Rattle.std.proofs.lemmas.Slice.Eq.{bytes_eq-Decides}
use Rattle.clap.specs.declared.parser.matches.ArgMatches.TheViews.{out-ArgMatches, out-SubCommand}
use Rattle.clap.specs.Words.{App, HasKind, HasMatchesOf, IsAmong, Row, Text, app_of, fault_of, found_of, is_simple, is_simple_and_free, kind_of, rows_of, subcommand_name_of, subcommand_of, subcommand_rows_of, takes}
use Rattle.clap.specs.declared.builder.command.Command.{Command}
use Rattle.clap.specs.declared.error.Error.{Error}
use Rattle.clap.specs.declared.error.kind.ErrorKind.{ErrorKind}
use Rattle.clap.specs.declared.error.kind.ErrorKind.TheVariants.{OutOfMemory}
use Rattle.clap.specs.declared.parser.matches.ArgMatches.{ArgMatches}
use Rattle.clap.proofs.OnLiterals.{clap_on_literals}
use Rattle.uca_words.specs.declared.WordFault.{WordFault}
use Rattle.uca_words.specs.declared.Words.{Words}
use Rattle.uca_words.specs.Command.{StandsFor, uca_app}
use Rattle.uca_words.specs.inside.Met.{IsValueFault, has_words, is_met}
use Rattle.uca_words.specs.Words.{AreRead, AskForOtherFingerprints, AskForOtherWeighting, IsFaultOf, SayWords, Says, refused, refused_by_kind}
use Rattle.uca_words.proofs.Taken.{taken}

-- clap's specification gives the matches of this command
uca_is_simple : is_simple uca_app ≡ true
unfolding clap_on_literals
uca_is_simple = refl

-- and the kinds of its errors
uca_is_free : is_simple_and_free uca_app ≡ true
unfolding clap_on_literals
uca_is_free = refl

-- if it has no error at the arguments, one of its subcommands was met, with its arguments
uca_taken : (words : List Text) → fault_of uca_app words ≡ [] → option_map_or (λ (p : Text × List Row). is_met p.0 p.1) (subcommand_of uca_app words) false ≡ true
uca_taken words passes = taken uca_app words refl refl refl passes

-- what a parse met, as `subcommand` returns it
abbrev pub Met : Type 0
Met = Bor Text × Bor ArgMatches

abbrev pub rows_met : Met → List Row
rows_met p = rows_of (found_of p.1.now)

abbrev pub second : Text × List Row → List Row
second p = p.1

abbrev pair_by : {B : Type 0} → (B → Text) → (B → List Row) → B → Text × List Row
pair_by f g b = (f b, g b)

-- a pair, from what is known of its two parts
both_of : {B : Type 0} (o : Option B) (f : B → Text) (g : B → List Row) (name : Text) (rows : List Row) → option_map f o ≡ Some name → option_map second (option_map (pair_by f g) o) ≡ Some rows → option_map (pair_by f g) o ≡ Some (name, rows)
both_of None f g name rows named rest = let never : ⊥ = cc in absurd never
both_of (Some b) f g name rows named rest =
    let first : f b ≡ name = cc in
    let last : g b ≡ rows = cc in
    rw (first, last) refl

-- the command has no error at the arguments, and this is the subcommand that they name
pub record Meets (words : List Text) (met : Met) : Type 0 where
  pub passes : fault_of uca_app words ≡ []
  pub is : subcommand_of uca_app words ≡ Some (met.0.now, rows_met met)

pub meets : (command : Command) (words : List Text) (m : ArgMatches) (o : Option Met) (met : Met) → StandsFor uca_app command → HasMatchesOf (app_of command) words m
    → (is_simple_and_free (app_of command) ≡ true → fault_of (app_of command) words ≡ []) → o ≡ Some met
    → option_map (λ (p : Met). p.0.now) o ≡ subcommand_name_of m → option_map rows_met o ≡ option_map second (subcommand_rows_of m) → Meets words met
meets command words m o met stands has passes is named rows = record {
  passes = subst (λ a. is_simple_and_free a ≡ true → fault_of a words ≡ []) stands.shape passes uca_is_free;
  is = sym (subst (λ a. HasMatchesOf a words m) stands.shape has uca_is_simple).1
      ∙ both_of (out-ArgMatches m).subcommand (λ b. (out-SubCommand (box_value b)).name.now) (λ b. rows_of (found_of (out-SubCommand (box_value b)).matches)) met.0.now (rows_met met)
      (sym named ∙ ap (option_map (λ (p : Met). p.0.now)) is) (sym rows ∙ ap (option_map rows_met) is);
}

-- it is one of the command's, and has its arguments
pub is_known : (words : List Text) (met : Met) → Meets words met → is_met met.0.now (rows_met met) ≡ true
is_known words met meet = subst (λ o. option_map_or (λ (p : Text × List Row). is_met p.0 p.1) o false ≡ true) meet.is (uca_taken words meet.passes)

pub reads : (words : List Text) (met : Met) (o : Result Words WordFault) → Meets words met → IfOk o (Says met.0.now (rows_met met)) → IfOk o (AreRead words)
reads words met (Ok said) meet says = (meet.passes, subst (λ p. SayWords p said) (sym meet.is) says)
reads words met (Err fault) meet says = tt

pub names_none : (words : List Text) (met : Met) (o : Result Words WordFault) → Meets words met → IfErr o (IsValueFault met.0.now (rows_met met))
    → IfErr o (IsFaultOf words)
names_none words met (Ok said) meet other = tt
names_none words met (Err fault) meet (inl other) = subst (IsFaultOf words) (sym other.0) (meet.passes, subst AskForOtherWeighting (sym meet.is) other.1)
names_none words met (Err fault) meet (inr other) = subst (IsFaultOf words) (sym other.0) (meet.passes, subst AskForOtherFingerprints (sym meet.is) other.1)

-- an error of the command
pub refuses : (command : Command) (words : List Text) (error : Error) → StandsFor uca_app command → (takes (app_of command) words ≡ true → kind_of error ≡ OutOfMemory)
    → (is_simple_and_free (app_of command) ≡ true → HasKind (fault_of (app_of command) words) error) → IsFaultOf words (refused error)
refuses command words error stands passes fails =
    go (kind_of error) refl (subst (λ a. takes a words ≡ true → kind_of error ≡ OutOfMemory) stands.shape passes)
    (subst (λ a. is_simple_and_free a ≡ true → HasKind (fault_of a words) error) stands.shape fails uca_is_free)
  where
    ends : (kind_of error ≡ OutOfMemory → ⊥) → (takes uca_app words ≡ true → kind_of error ≡ OutOfMemory) → HasKind (fault_of uca_app words) error
        → IsAmong (kind_of error) (fault_of uca_app words) × (takes uca_app words ≢ true)
    ends other pass (inl memory) = absurd (other memory)
    ends other pass (inr among) = (among, λ t. other (pass t))

    go : (k : ErrorKind) → kind_of error ≡ k → (takes uca_app words ≡ true → kind_of error ≡ OutOfMemory) → HasKind (fault_of uca_app words) error → IsFaultOf words (refused_by_kind k error)
    go OutOfMemory e pass fail = tt
    go k e pass fail = ends (λ memory. cc) pass fail

-- the subcommand that was met is one of the rest, where it has another name than the first
pub is_of_rest : (app : App) (name : Text) (rows : List Row) (rest : Bool) → ((bytes_eq app.top.name name && has_words app rows) || rest) ≡ true
    → (name ≡ app.top.name → ⊥) → rest ≡ true
is_of_rest app name rows rest met other = go (bytes_eq app.top.name name) (bytes_eq-Decides app.top.name name).0 met
  where
    go : (b : Bool) → (b ≡ true → app.top.name ≡ name) → ((b && has_words app rows) || rest) ≡ true → rest ≡ true
    go true same met = absurd (other (sym (same refl)))
    go false same met = met
