-- Rules are rejected for lack of room exactly at the lowest level where a side has more weights than positions.
use Rattle.std.proofs.Common.{◌≡◌, inl, inr, ℕ, ◌<◌, Bool, true, false, cond, not, List, Result, Ok, Err, nat_le, refl, sym, ap}
use Rattle.std.proofs.Common.{◌∙◌, subst, arith}
use Rattle.std.proofs.lemmas.Bool.{false≢true}
use Rattle.std.proofs.lemmas.Bool.Decides.{nat_tests}
use Rattle.uca_weights.specs.declared.Element.{Element}
use Rattle.uca_weights.specs.declared.Level.{Level}
use Rattle.uca_weights.specs.declared.Level.TheVariants.{One, Two, Three}
use Rattle.uca_weights.specs.Levels.{level_number}
use Rattle.uca_check.specs.WellFormed.{elements_of}
use Rattle.uca_plans.specs.declared.faults.TailorKind.{TailorKind}
use Rattle.uca_plans.specs.declared.faults.TailorKind.TheVariants as kinds
use Rattle.uca_plans.specs.declared.faults.TailorFault.{TailorFault}
use Rattle.uca_plans.specs.Lists.{Insertion, low_segment, high_segment, level_has_room, members_of}
use Rattle.uca_plans.specs.Drafts.{DraftRow}
use Rattle.uca_plans.specs.Plans.{Drafting, begun, with_relations, LevelPlans, Plan, plan_of, no_room, plan_with_room, plan_drafted, planned}
use Rattle.uca_plans.specs.Tailors.{basis_of, IsRefusedBy, CauseOf}
use Rattle.uca_plans.specs.Room.{low_total, high_total, places, LacksRoom, IsCounted, IsLowestWithoutRoom, NoRoomIsCounted}
use Rattle.uca_plans.proofs.PlanSteps.{level_plans}
use Rattle.uca_plans.proofs.RelationKinds.{IsRelationKind, relations_kind}
use Rattle.uca_plans.proofs.RoomCounts.{room_counted}

-- ---- The lowest level

-- the test fails at this level, and holds at each lower one
abbrev IsLowestFalse : (Level → Bool) → Level → Type 0
IsLowestFalse room One = room One ≡ false
IsLowestFalse room Two = (room One ≡ true) × (room Two ≡ false)
IsLowestFalse room Three = (room One ≡ true) × (room Two ≡ true) × (room Three ≡ false)

at_lowest : (room : Level → Bool) (level : Level) → IsLowestFalse room level → room level ≡ false
at_lowest room One is = is
at_lowest room Two is = is.1
at_lowest room Three is = is.2

below_lowest : (room : Level → Bool) (level other : Level) → IsLowestFalse room level → level_number other < level_number level → room other ≡ true
below_lowest room One One is less = absurd (omega (arith, less))
below_lowest room One Two is less = absurd (omega (arith, less))
below_lowest room One Three is less = absurd (omega (arith, less))
below_lowest room Two One is less = is.0
below_lowest room Two Two is less = absurd (omega (arith, less))
below_lowest room Two Three is less = absurd (omega (arith, less))
below_lowest room Three One is less = is.0
below_lowest room Three Two is less = is.1
below_lowest room Three Three is less = absurd (omega (arith, less))

lowest : (room : Level → Bool) (level : Level) → room level ≡ false
    → ((other : Level) → level_number other < level_number level → room other ≡ true) → IsLowestFalse room level
lowest room One fails lower = fails
lowest room Two fails lower = (lower One (omega arith), fails)
lowest room Three fails lower = (lower One (omega arith), lower Two (omega arith), fails)

-- ---- Room and counts

-- the room of each level
abbrev room_of : List Element → List Insertion → Level → Bool
room_of es insertions level = level_has_room level (members_of level es insertions)

-- a level that has no room has more weights than positions on one side
lacks : (level : Level) (es : List Element) (insertions : List Insertion) → IsCounted level es insertions → room_of es insertions level ≡ false
    → LacksRoom level es insertions
lacks level es insertions counted fails =
    go (nat_le (low_total level es insertions) (places (low_segment level))) refl
    (nat_le (high_total level es insertions) (places (high_segment level))) refl
  where
    -- by the two sides
    go : (a : Bool) → nat_le (low_total level es insertions) (places (low_segment level)) ≡ a
        → (b : Bool) → nat_le (high_total level es insertions) (places (high_segment level)) ≡ b → LacksRoom level es insertions
    go false low b high = inl (grind (arith, nat_tests, low))
    go true low false high = inr (grind (arith, nat_tests, high))
    go true low true high = absurd (false≢true (sym fails ∙ counted.room.1 (grind (arith, nat_tests, low), grind (arith, nat_tests, high))))

-- and one that has more on one side has no room
no_room_where : (level : Level) (es : List Element) (insertions : List Insertion) → IsCounted level es insertions → LacksRoom level es insertions
    → room_of es insertions level ≡ false
no_room_where level es insertions counted more = go (room_of es insertions level) refl
  where
    -- by the test
    go : (a : Bool) → room_of es insertions level ≡ a → a ≡ false
    go false e = refl
    go true e =
        let fits = counted.room.0 e in
        elim more [ inl low ↦ absurd (omega (arith, low, fits.0)) | inr high ↦ absurd (omega (arith, high, fits.1)) ]

-- ---- Plans

-- drafts are rejected at the lowest level without room
full_one : (rows : List DraftRow) (plans : LevelPlans) → level_has_room One plans.primary.members ≡ false → plan_with_room rows plans ≡ Err (no_room One)
full_one rows plans one = rw (one) refl

full_two : (rows : List DraftRow) (plans : LevelPlans) → level_has_room One plans.primary.members ≡ true → level_has_room Two plans.secondary.members ≡ false
    → plan_with_room rows plans ≡ Err (no_room Two)
full_two rows plans one two = rw (one, two) refl

full_three : (rows : List DraftRow) (plans : LevelPlans) → level_has_room One plans.primary.members ≡ true
    → level_has_room Two plans.secondary.members ≡ true → level_has_room Three plans.tertiary.members ≡ false → plan_with_room rows plans ≡ Err (no_room Three)
full_three rows plans one two three = rw (one, two, three) refl

without_room : (rows : List DraftRow) (es : List Element) (insertions : List Insertion) (level : Level) → IsLowestFalse (room_of es insertions) level
    → plan_with_room rows (level_plans es insertions) ≡ Err (no_room level)
without_room rows es insertions One is = full_one rows (level_plans es insertions) is
without_room rows es insertions Two is = full_two rows (level_plans es insertions) is.0 is.1
without_room rows es insertions Three is = full_three rows (level_plans es insertions) is.0 is.1 is.2

-- an error that names the room of a level comes from the lowest level without room, and names no relation
lowest_named : (room : Level → Bool) (level : Level) (plan : Plan) (fault : TailorFault) → fault.kind ≡ kinds.NoRoom level
    → cond (not (room One)) (Err (no_room One)) (cond (not (room Two)) (Err (no_room Two)) (cond (not (room Three)) (Err (no_room Three)) (Ok plan)))
    ≡ Err fault → (fault.relation ≡ 0) × IsLowestFalse room level
lowest_named room level plan fault is refused = go level is (room One) refl (room Two) refl (room Three) refl refused
  where
    -- the level that is named is the one that was found
    named : (at found : Level) → fault.kind ≡ kinds.NoRoom at → no_room found ≡ fault → IsLowestFalse room found → IsLowestFalse room at
    named at found k same none =
        let levels : found ≡ at = cc in
        subst (IsLowestFalse room) levels none

    -- by the tests, in turn
    go : (at : Level) → fault.kind ≡ kinds.NoRoom at → (a : Bool) → room One ≡ a → (b : Bool) → room Two ≡ b → (c : Bool) → room Three ≡ c
        → cond (not a) (Err (no_room One)) (cond (not b) (Err (no_room Two)) (cond (not c) (Err (no_room Three)) (Ok plan))) ≡ Err fault
        → (fault.relation ≡ 0) × IsLowestFalse room at
    go at k false e b f c g refused = let same : no_room One ≡ fault = cc in (ap (λ (f : TailorFault). f.relation) (sym same), named at One k same e)
    go at k true e false f c g refused =
        let same : no_room Two ≡ fault = cc in (ap (λ (f : TailorFault). f.relation) (sym same), named at Two k same (e, f))
    go at k true e true f false g refused =
        let same : no_room Three ≡ fault = cc in (ap (λ (f : TailorFault). f.relation) (sym same), named at Three k same (e, f, g))
    go at k true e true f true g refused = absurd (cc)

-- ---- Rejections

-- an error is told by its kind and its relation
is_no_room : (fault : TailorFault) (level : Level) → fault.kind ≡ kinds.NoRoom level → fault.relation ≡ 0 → no_room level ≡ fault
is_no_room fault level is none = sym (ap (λ kind. of kind fault.relation) is ∙ ap (of (kinds.NoRoom level)) none)
  where
    -- the error of a kind and a relation
    of : TailorKind → ℕ → TailorFault
    of kind relation = record { kind = kind; relation = relation }

-- so the errors that name room are counted
pub no_room_counted : NoRoomIsCounted
no_room_counted base properties relations fault level table well rules is = (
  λ refused. go (with_relations (basis_of base properties) 0 relations (begun (basis_of base properties))) refl (by_kind refused).first,
  λ none. subst (CauseOf base properties relations fault) (sym is) (record { well_formed = well; first = rejected none.0 none.1 }),
)
  where
    -- the definition rejects the rules by such an error
    by_kind : CauseOf base properties relations fault fault.kind → IsRefusedBy base properties relations fault
    by_kind refused = subst (CauseOf base properties relations fault) is refused

    counted : (final : Drafting) → with_relations (basis_of base properties) 0 relations (begun (basis_of base properties)) ≡ Ok final → (at : Level)
        → IsCounted at (elements_of base.rows) final.insertions
    counted final drafted at = room_counted base properties relations final table well rules drafted at

    -- by the drafts
    go : (drafts : Result Drafting TailorFault) → with_relations (basis_of base properties) 0 relations (begun (basis_of base properties)) ≡ drafts
        → plan_drafted (elements_of base.rows) drafts ≡ Err fault → (fault.relation ≡ 0) × IsLowestWithoutRoom (basis_of base properties) relations level
    go (Err first) e refused =
        let same : first ≡ fault = cc in
        let kind = relations_kind (basis_of base properties) 0 relations (begun (basis_of base properties)) first e in
        absurd (subst IsRelationKind is (subst (λ f. IsRelationKind f.kind) same kind))
    go (Ok final) e refused =
        let es = elements_of base.rows in
        let room = room_of es final.insertions in
        let named = lowest_named room level (plan_of final.rows (level_plans es final.insertions)) fault is refused in (
          named.0,
          record {
            final = final;
            drafted = e;
            lacks = lacks level es final.insertions (counted final e level) (at_lowest room level named.1);
            lower = λ other less. (counted final e other).room.0 (below_lowest room level other named.1 less);
          },
        )

    -- the definition rejects the rules where the counts say so
    rejected : fault.relation ≡ 0 → IsLowestWithoutRoom (basis_of base properties) relations level → planned (basis_of base properties) relations ≡ Err fault
    rejected none least =
        let es = elements_of base.rows in
        let final = least.final in
        let room = room_of es final.insertions in
        let fails = no_room_where level es final.insertions (counted final least.drafted level) least.lacks in
        let is_lowest = lowest room level fails (λ other less. (counted final least.drafted other).room.1 (least.lower other less)) in
        ap (plan_drafted es) least.drafted ∙ without_room final.rows es final.insertions level is_lowest ∙ ap Err (is_no_room fault level is none)
