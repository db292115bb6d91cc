-- The key was split, and its levels and code points were written; or it is no key.
use Rattle.std.proofs.Common.{◌≡◌, List, ℕ, ◌++◌, false, Ok, Some, None, IfOk, if◌then◌else◌, option_map, map, ap, sym, subst, ◌∙◌, arith}
use Rattle.std.proofs.lemmas.Result.{IfOk-weaker}
use Rattle.uca_compact.specs.CompactKeys.{compact_key, compact}
use Rattle.uca_compact.specs.Forms.{forms_of}
use Rattle.uca_compact.specs.LevelBytes.{weights_in, level_bytes_in}
use Rattle.uca_compact.specs.PlainLevels.{plain_level}
use Rattle.uca_compact.specs.StoredParts.{stored_parts}
use Rattle.uca_compact.specs.Programs.{CompacterState}
use Rattle.uca_compact.specs.inside.StoredEnds.{points_of, with_points}
use Rattle.uca_compact.proofs.ExpandedKeys.{bytes_are}
use Rattle.uca_compact.proofs.StoredSteps.{written_parts}
use Rattle.uca_compact.proofs.TextKeys.{compact_of_text}
use Rattle.uca_compact.proofs.compacter.KeyCompacter.write_compact.Goals as goal

pub returns-in_default-clause-text : goal.returns-in_default-clause-text
returns-in_default-clause-text g c =
    let by = c.args.self.now in
    let was = c.self.inside in
    compact_of_text {E = ℕ} by.settings.depth by.settings.weighting by.book c.args.key.now c.clear.new.self.items (Ok false)
    (bytes_are c.args.key.now (λ k low. let fits = c.type_inv.key k in omega (arith, fits)))
    (subst (λ (s : CompacterState). option_map (compact_key s.settings.depth s.settings.weighting s.book) (stored_parts s.settings.depth s.settings.weighting c.args.key.now) ≡ None)
    c.self.view_is
    (ap (option_map (compact_key was.settings.depth was.settings.weighting was.book)) (c.in_default.ensures.none was.settings.depth)))

pub returns-clause-key : goal.returns-clause-key
returns-clause-key g c =
    let was = c.self.inside in
    let depth = was.settings.depth in
    let weighting = was.settings.weighting in
    let split = c.in-Some.split in
    let levels = map weights_in (level_bytes_in weighting split.levels) in
    let points = points_of depth split.end in
    let made : c.push_levels.new.out.items ≡ compact plain_level (forms_of weighting was.book) levels =
    c.in_ok-push_levels.ensures.levels
    ∙ ap (λ (xs : List ℕ). xs ++ compact plain_level (forms_of weighting was.book) levels) c.clear.ensures.items in
    subst (λ (s : CompacterState). IfOk c.push_points_after.result (λ found. option_map (compact_key s.settings.depth s.settings.weighting s.book)
    (stored_parts s.settings.depth s.settings.weighting c.args.key.now) ≡ (if found then Some c.push_points_after.new.out.items else None))) c.self.view_is
    (IfOk-weaker c.push_points_after.result
    (λ found. with_points c.push_levels.new.out.items points ≡ (if found then Some c.push_points_after.new.out.items else None))
    (λ found. option_map (compact_key depth weighting was.book) (stored_parts depth weighting c.args.key.now) ≡ (if found then Some c.push_points_after.new.out.items else None))
    (λ found h. ap (option_map (compact_key depth weighting was.book)) (c.in-Some.ensures.parts depth)
    ∙ written_parts depth weighting was.book levels split.end
    ∙ ap (λ (xs : List ℕ). with_points xs points) (sym made)
    ∙ h)
    c.push_points_after.ensures)

pub returns-clause-text : goal.returns-clause-text
returns-clause-text g c =
    let by = c.args.self.now in
    compact_of_text by.settings.depth by.settings.weighting by.book c.args.key.now c.push_points_after.new.out.items c.push_points_after.result
    (bytes_are c.args.key.now (λ k low. let fits = c.type_inv.key k in omega (arith, fits))) (returns-clause-key g c)
