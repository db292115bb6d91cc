-- The subcommand that was met is one of those that the function knows, and has the arguments that it requires.
use Rattle.std.proofs.Common.{◌≡◌, ◌||◌, Bool, List, MatchResult, Result, true, false, refl, subst, sym, true≢false}
use Rattle.clap.specs.Words.{Row, Text, found_of, rows_of}
use Rattle.uca_words.specs.Command.{check_app, keys_app, sort_app, compare_app, tailor_app, audit_app, affected_app, changes_app, audit_changes_app, rekey_app, compact_app, expand_app, book_app, fingerprint_app}
use Rattle.uca_words.specs.inside.Met.{IsFingerprintFault, is_met}
use Rattle.uca_words.specs.Words.{HasOtherFingerprints, Says}
use Rattle.uca_words.specs.declared.WordFault.{WordFault}
use Rattle.uca_words.specs.declared.Words.{Words}
use Rattle.uca_words.proofs.SubcommandWords.{is_of_rest}
use Rattle.uca_words.proofs.subcommand_words.Goals as goal

abbrev IsMet : List Row → Text → Type 0
IsMet rows name = is_met name rows ≡ true

-- no subcommand after this one has its name
by_name : (words : Bool) → (words || false) ≡ true → words ≡ true
by_name true met = refl
by_name false met = met

-- the arguments that a subcommand says are those of its name
of_name : (name known : Text) (rows : List Row) (words : Words) → name ≡ known → Says known rows words → Says name rows words
of_name name known rows words is says = subst (λ (n : Text). Says n rows words) (sym is) says

-- or the error is one of that name
of_name_or : (name known : Text) (rows : List Row) (said : Result Words WordFault) → name ≡ known
    → MatchResult said (Says known rows) (IsFingerprintFault (HasOtherFingerprints known rows))
    → MatchResult said (Says name rows) (IsFingerprintFault (HasOtherFingerprints name rows))
of_name_or name known rows said is says =
    subst (λ (n : Text). MatchResult said (Says n rows) (IsFingerprintFault (HasOtherFingerprints n rows))) (sym is) says

pub unreachable-requires : goal.unreachable-requires
unreachable-requires c =
    let name = c.args.name.now in
    let rows = rows_of (found_of c.args.found.now) in
    let one = is_of_rest check_app name rows _ c.requires c.in_default.not-check in
    let two = is_of_rest keys_app name rows _ one c.in_default.not-keys in
    let three = is_of_rest sort_app name rows _ two c.in_default.not-sort in
    let four = is_of_rest compare_app name rows _ three c.in_default.not-compare in
    let five = is_of_rest tailor_app name rows _ four c.in_default.not-tailor in
    let six = is_of_rest audit_app name rows _ five c.in_default.not-audit in
    let seven = is_of_rest affected_app name rows _ six c.in_default.not-affected in
    let eight = is_of_rest changes_app name rows _ seven c.in_default.not-changes in
    let nine = is_of_rest audit_changes_app name rows _ eight c.in_default.not-text in
    let ten = is_of_rest rekey_app name rows _ nine c.in_default.not-rekey in
    let eleven = is_of_rest compact_app name rows _ ten c.in_default.not-compact in
    let twelve = is_of_rest expand_app name rows _ eleven c.in_default.not-expand in
    let thirteen = is_of_rest book_app name rows _ twelve c.in_default.not-book in
    true≢false (sym (is_of_rest fingerprint_app name rows _ thirteen c.in_default.not-fingerprint))

pub check_words-requires : goal.check_words-requires
check_words-requires c = by_name _ (subst (IsMet (rows_of (found_of c.args.found.now))) c.in-check.is c.requires)

pub keys_words-requires : goal.keys_words-requires
keys_words-requires c = by_name _ (subst (IsMet (rows_of (found_of c.args.found.now))) c.in-keys.is c.requires)

pub sort_words-requires : goal.sort_words-requires
sort_words-requires c = by_name _ (subst (IsMet (rows_of (found_of c.args.found.now))) c.in-sort.is c.requires)

pub compare_words-requires : goal.compare_words-requires
compare_words-requires c = by_name _ (subst (IsMet (rows_of (found_of c.args.found.now))) c.in-compare.is c.requires)

pub tailor_words-requires : goal.tailor_words-requires
tailor_words-requires c = by_name _ (subst (IsMet (rows_of (found_of c.args.found.now))) c.in-tailor.is c.requires)

pub audit_words-requires : goal.audit_words-requires
audit_words-requires c = by_name _ (subst (IsMet (rows_of (found_of c.args.found.now))) c.in-audit.is c.requires)

pub affected_words-requires : goal.affected_words-requires
affected_words-requires c = by_name _ (subst (IsMet (rows_of (found_of c.args.found.now))) c.in-affected.is c.requires)

pub changes_words-requires : goal.changes_words-requires
changes_words-requires c = by_name _ (subst (IsMet (rows_of (found_of c.args.found.now))) c.in-changes.is c.requires)

pub audit_changes_words-requires : goal.audit_changes_words-requires
audit_changes_words-requires c = by_name _ (subst (IsMet (rows_of (found_of c.args.found.now))) c.in-text.is c.requires)

pub rekey_words-requires : goal.rekey_words-requires
rekey_words-requires c = by_name _ (subst (IsMet (rows_of (found_of c.args.found.now))) c.in-rekey.is c.requires)

pub compact_words-requires : goal.compact_words-requires
compact_words-requires c = by_name _ (subst (IsMet (rows_of (found_of c.args.found.now))) c.in-compact.is c.requires)

pub expand_words-requires : goal.expand_words-requires
expand_words-requires c = by_name _ (subst (IsMet (rows_of (found_of c.args.found.now))) c.in-expand.is c.requires)

pub book_image_words-requires : goal.book_image_words-requires
book_image_words-requires c = by_name _ (subst (IsMet (rows_of (found_of c.args.found.now))) c.in-book.is c.requires)

pub fingerprint_words-requires : goal.fingerprint_words-requires
fingerprint_words-requires c = by_name _ (subst (IsMet (rows_of (found_of c.args.found.now))) c.in-fingerprint.is c.requires)

pub returns-in-check : goal.returns-in-check
returns-in-check c weighs = of_name _ _ (rows_of (found_of c.args.found.now)) _ c.in-check.is c.check_words.ensures

pub returns-in-keys : goal.returns-in-keys
returns-in-keys c weighs = of_name _ _ (rows_of (found_of c.args.found.now)) _ c.in-keys.is (c.keys_words.ensures weighs)

pub returns-in-sort : goal.returns-in-sort
returns-in-sort c weighs = of_name _ _ (rows_of (found_of c.args.found.now)) _ c.in-sort.is (c.sort_words.ensures weighs)

pub returns-in-compare : goal.returns-in-compare
returns-in-compare c weighs = of_name _ _ (rows_of (found_of c.args.found.now)) _ c.in-compare.is (c.compare_words.ensures weighs)

pub returns-in-tailor : goal.returns-in-tailor
returns-in-tailor c weighs = of_name _ _ (rows_of (found_of c.args.found.now)) _ c.in-tailor.is c.tailor_words.ensures

pub returns-in-audit : goal.returns-in-audit
returns-in-audit c weighs = of_name _ _ (rows_of (found_of c.args.found.now)) _ c.in-audit.is c.audit_words.ensures

pub returns-in-affected : goal.returns-in-affected
returns-in-affected c weighs = of_name _ _ (rows_of (found_of c.args.found.now)) _ c.in-affected.is c.affected_words.ensures

pub returns-in-changes : goal.returns-in-changes
returns-in-changes c weighs = of_name _ _ (rows_of (found_of c.args.found.now)) _ c.in-changes.is c.changes_words.ensures

pub returns-in-text : goal.returns-in-text
returns-in-text c weighs = of_name _ _ (rows_of (found_of c.args.found.now)) _ c.in-text.is c.audit_changes_words.ensures

pub returns-in-rekey : goal.returns-in-rekey
returns-in-rekey c weighs = of_name_or _ _ (rows_of (found_of c.args.found.now)) _ c.in-rekey.is (c.rekey_words.ensures weighs)

pub returns-in-compact : goal.returns-in-compact
returns-in-compact c weighs = of_name_or _ _ (rows_of (found_of c.args.found.now)) _ c.in-compact.is (c.compact_words.ensures weighs)

pub returns-in-expand : goal.returns-in-expand
returns-in-expand c weighs = of_name_or _ _ (rows_of (found_of c.args.found.now)) _ c.in-expand.is (c.expand_words.ensures weighs)

pub returns-in-book : goal.returns-in-book
returns-in-book c weighs = of_name _ _ (rows_of (found_of c.args.found.now)) _ c.in-book.is c.book_image_words.ensures

pub returns-in-fingerprint : goal.returns-in-fingerprint
returns-in-fingerprint c weighs = of_name _ _ (rows_of (found_of c.args.found.now)) _ c.in-fingerprint.is (c.fingerprint_words.ensures weighs)
