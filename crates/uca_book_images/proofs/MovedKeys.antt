-- Stored keys that are put through rising maps, where each weight keeps its place.
use Rattle.std.proofs.Common.{◌≡◌, inl, inr, ℕ, zero, suc, ◌+◌, ◌*◌, ◌-◌, ◌/◌, ◌%◌, ◌<◌, ◌≤◌, List, [], ◌∷◌, ◌++◌, Bool, true, false, not, ◌&&◌, cond, nat_eq, nat_lt, map, Option, Some, None, option_map, refl, ap, ap₂, sym, subst, ◌∙◌, arith}
use Rattle.std.specs.Bool.{⊤}
use Rattle.std.specs.List.{AllByRecursion, AllZip}
use Rattle.std.proofs.lemmas.Bool.{cases_lt}
use Rattle.std.proofs.lemmas.Bool.Decides.{nat_tests}
use Rattle.uca_weights.specs.declared.Depth.{Depth}
use Rattle.uca_weights.specs.declared.Depth.TheVariants.{Weights, Identical}
use Rattle.uca_weights.specs.declared.Level.{Level}
use Rattle.uca_weights.specs.declared.Level.TheVariants.{One, Two, Three}
use Rattle.uca_weights.specs.declared.Weighting.{Weighting}
use Rattle.uca_weights.specs.declared.Weighting.TheVariants.{NonIgnorable, Shifted}
use Rattle.uca_weights.specs.Maps.{WeightImages, Sends, IsRisingMap}
use Rattle.uca_order.specs.Levels.{level_count, weight_bytes}
use Rattle.uca_compact.specs.Forms.{Form, forms_of}
use Rattle.uca_compact.specs.PlainLevels.{is_lead}
use Rattle.uca_compact.specs.CompactKeys.{KeyParts, compact_key}
use Rattle.uca_compact.specs.StoredParts.{StoredLevel, weight_then, stored_level, stored_points, points_after, level_before, after_level, parts_from}
use Rattle.uca_compact.proofs.OnlyCells.{nothing, same_some}
use Rattle.uca_tailorings.specs.Images.{Maps, AreRisingMaps}
use Rattle.uca_tailorings.specs.Moves.{level_images, AreSent, weight_before, ended, are_points, moved_from}
use Rattle.uca_book_images.specs.KeptKeys.{KeepsPlace, LevelsKeepPlaces, leads_of, MapsKeepPlaces}
use Rattle.uca_book_images.specs.Laws.{MovedKeysStay}
use Rattle.uca_book_images.proofs.KeptKeys.{kept_keys_stay}

-- ---- Weights

-- no other weight than 0 has the image 0
above_zero : (level : Level) (images : WeightImages) → IsRisingMap level images → (w x : ℕ) → 0 < w → Sends images w x → 0 < x
above_zero level images rising w x some sent = rising.rising 0 w 0 x rising.zero sent some

above_zero_at : (maps : Maps) → AreRisingMaps maps → (level w x : ℕ) → 0 < w → Sends (level_images maps level) w x → 0 < x
above_zero_at maps rising zero w x some sent = above_zero One maps.primary rising.primary w x some sent
above_zero_at maps rising (suc zero) w x some sent = above_zero One maps.primary rising.primary w x some sent
above_zero_at maps rising (suc (suc zero)) w x some sent = above_zero Two maps.secondary rising.secondary w x some sent
above_zero_at maps rising (suc (suc (suc zero))) w x some sent = above_zero Three maps.tertiary rising.tertiary w x some sent
above_zero_at maps rising (suc (suc (suc (suc level)))) w x some sent = above_zero One maps.primary rising.primary w x some sent

-- a weight that is read before a level
weight_read : (w : ℕ) (more : List ℕ) (l : StoredLevel) → 0 < w → stored_level more ≡ Some l
    → stored_level (w / 256 ∷ w % 256 ∷ more) ≡ Some (record { weights = w ∷ l.weights; rest = l.rest })
weight_read w more l some h =
    let back : 256 * (w / 256) + w % 256 ≡ w = omega arith in
    let test : nat_eq w 0 ≡ false = grind (arith, nat_tests) in
    let end : Option StoredLevel = Some (record { weights = []; rest = Some more }) in
    ap (λ (n : ℕ). cond (nat_eq n 0) end (weight_then n (stored_level more))) back
    ∙ ap (λ (t : Bool). cond t end (weight_then w (stored_level more))) test
    ∙ ap (weight_then w) h

-- ---- A level

-- the bytes after a level, and those after it that are put through the maps
abbrev RestMoves : Maps → Depth → (level more : ℕ) → Option (List ℕ) → Option (List ℕ) → Type 0
RestMoves maps depth level more None None = ⊤
RestMoves maps depth level more None (Some new) = ⊥
RestMoves maps depth level more (Some bytes) None = ⊥
RestMoves maps depth level more (Some bytes) (Some new) = moved_from maps depth (suc level) more bytes ≡ Some new

-- the new bytes have this level, put through its map
record HasSentLevel (maps : Maps) (depth : Depth) (level more : ℕ) (s : StoredLevel) (new : List ℕ) : Type 0 where
  found : StoredLevel
  read : stored_level new ≡ Some found
  sent : AreSent (level_images maps level) s.weights found.weights
  rest : RestMoves maps depth level more s.rest found.rest

-- a key that ends in a level has no more bytes
nothing_more : (depth : Depth) (more : ℕ) (new : List ℕ) → ended depth more ≡ Some new → [] ≡ new
nothing_more Weights zero new h = same_some [] new h
nothing_more Weights (suc more) new h = nothing h
nothing_more Identical more new h = nothing h

-- two bytes more, by what is found of them and of those after them
weight_sent : (maps : Maps) → AreRisingMaps maps → (depth : Depth) (level more a b : ℕ) (bytes new : List ℕ) (s : StoredLevel)
    (t : Bool) (image : Option ℕ) (next rest : Option (List ℕ)) (later : Option StoredLevel)
    → nat_eq (256 * a + b) 0 ≡ t → level_images maps level (256 * a + b) ≡ image → moved_from maps depth (suc level) more bytes ≡ next
    → ((n : List ℕ) (q : StoredLevel) → rest ≡ Some n → later ≡ Some q → HasSentLevel maps depth level more q n)
    → cond t (weight_before (Some 0) next) (weight_before image rest) ≡ Some new
    → cond t (Some (record { weights = []; rest = Some bytes })) (weight_then (256 * a + b) later) ≡ Some s
    → HasSentLevel maps depth level more s new
weight_sent maps rising depth level more a b bytes new s true image None rest later test sends ends known moved read = nothing moved
weight_sent maps rising depth level more a b bytes new s true image (Some done) rest later test sends ends known moved read =
    subst (HasSentLevel maps depth level more s) (same_some (0 ∷ 0 ∷ done) new moved)
    (subst (λ (q : StoredLevel). HasSentLevel maps depth level more q (0 ∷ 0 ∷ done)) (same_some (record { weights = []; rest = Some bytes }) s read)
    (record { found = record { weights = []; rest = Some done }; read = refl; sent = tt; rest = ends }))
weight_sent maps rising depth level more a b bytes new s false None next rest later test sends ends known moved read = nothing moved
weight_sent maps rising depth level more a b bytes new s false (Some x) next None later test sends ends known moved read = nothing moved
weight_sent maps rising depth level more a b bytes new s false (Some x) next (Some done) None test sends ends known moved read = nothing read
weight_sent maps rising depth level more a b bytes new s false (Some x) next (Some done) (Some q) test sends ends known moved read =
    let h : HasSentLevel maps depth level more q done = known done q refl refl in
    let some : 0 < 256 * a + b = grind (arith, nat_tests) in
    let above : 0 < x = above_zero_at maps rising level (256 * a + b) x some sends in
    subst (HasSentLevel maps depth level more s) (same_some (weight_bytes x ++ done) new moved)
    (subst (λ (r : StoredLevel). HasSentLevel maps depth level more r (weight_bytes x ++ done))
    (same_some (record { weights = (256 * a + b) ∷ q.weights; rest = q.rest }) s read)
    (record {
      found = record { weights = x ∷ h.found.weights; rest = h.found.rest };
      read = weight_read x done h.found above h.read;
      sent = (sends, h.sent);
      rest = h.rest;
    }))

-- a level
level_sent : (maps : Maps) → AreRisingMaps maps → (depth : Depth) (level more : ℕ) (bytes new : List ℕ) (s : StoredLevel)
    → moved_from maps depth level (suc more) bytes ≡ Some new → stored_level bytes ≡ Some s → HasSentLevel maps depth level more s new
level_sent maps rising depth level more [] new s moved read =
    subst (HasSentLevel maps depth level more s) (nothing_more depth more new moved)
    (subst (λ (q : StoredLevel). HasSentLevel maps depth level more q []) (same_some (record { weights = []; rest = None }) s read)
    (record { found = record { weights = []; rest = None }; read = refl; sent = tt; rest = tt }))
level_sent maps rising depth level more (a ∷ []) new s moved read = nothing moved
level_sent maps rising depth level more (a ∷ b ∷ bytes) new s moved read =
    weight_sent maps rising depth level more a b bytes new s (nat_eq (256 * a + b) 0) (level_images maps level (256 * a + b))
    (moved_from maps depth (suc level) more bytes) (moved_from maps depth level (suc more) bytes) (stored_level bytes) refl refl refl
    (λ n q moves is. level_sent maps rising depth level more bytes n q moves is) moved read

-- ---- The parts of a key

-- each level, from one on, is put through its map
abbrev LevelsAreSent : Maps → (level : ℕ) → (levels new_levels : List (List ℕ)) → Type 0
LevelsAreSent maps level [] [] = ⊤
LevelsAreSent maps level [] (xs ∷ new_levels) = ⊥
LevelsAreSent maps level (ws ∷ levels) [] = ⊥
LevelsAreSent maps level (ws ∷ levels) (xs ∷ new_levels) = AreSent (level_images maps level) ws xs × LevelsAreSent maps (suc level) levels new_levels

-- the new bytes have these parts, from a level on, put through the maps
record HasSentParts (maps : Maps) (depth : Depth) (later level : ℕ) (k : KeyParts) (new : List ℕ) : Type 0 where
  found : KeyParts
  read : parts_from depth later (stored_level new) ≡ Some found
  levels : LevelsAreSent maps level k.levels found.levels
  points : k.points ≡ found.points

-- no levels, and these code points
abbrev only_points : List ℕ → KeyParts
only_points points = record { levels = []; points = points }

-- code points stay
same_points : (bytes new : List ℕ) (t : Bool) → cond t (Some bytes) None ≡ Some new → bytes ≡ new
same_points bytes new true h = same_some bytes new h
same_points bytes new false h = nothing h

-- a last level, by the code points after it
ends_sent : (maps : Maps) (depth : Depth) (level : ℕ) (ws xs new : List ℕ) (k : KeyParts) (o : Option (List ℕ))
    → AreSent (level_images maps level) ws xs → parts_from depth 0 (stored_level new) ≡ level_before xs (option_map only_points o)
    → level_before ws (option_map only_points o) ≡ Some k → HasSentParts maps depth 0 level k new
ends_sent maps depth level ws xs new k None sent is read = nothing read
ends_sent maps depth level ws xs new k (Some points) sent is read =
    subst (λ (j : KeyParts). HasSentParts maps depth 0 level j new) (same_some (record { levels = ws ∷ []; points = points }) k read)
    (record { found = record { levels = xs ∷ []; points = points }; read = is; levels = (sent, tt); points = refl })

-- the last level
last_sent : (maps : Maps) (depth : Depth) (level : ℕ) (ws xs : List ℕ) (rest new_rest : Option (List ℕ)) (new : List ℕ) (k : KeyParts)
    → AreSent (level_images maps level) ws xs → RestMoves maps depth level 0 rest new_rest
    → parts_from depth 0 (stored_level new) ≡ level_before xs (option_map only_points (points_after depth new_rest))
    → level_before ws (option_map only_points (points_after depth rest)) ≡ Some k → HasSentParts maps depth 0 level k new
last_sent maps Weights level ws xs None None new k sent moves is read = ends_sent maps Weights level ws xs new k (Some []) sent is read
last_sent maps Weights level ws xs None (Some more) new k sent moves is read = absurd moves
last_sent maps Weights level ws xs (Some bytes) None new k sent moves is read = absurd moves
last_sent maps Weights level ws xs (Some bytes) (Some more) new k sent moves is read = nothing read
last_sent maps Identical level ws xs None None new k sent moves is read = nothing read
last_sent maps Identical level ws xs None (Some more) new k sent moves is read = absurd moves
last_sent maps Identical level ws xs (Some bytes) None new k sent moves is read = absurd moves
last_sent maps Identical level ws xs (Some bytes) (Some more) new k sent moves is read =
    let same : more ≡ bytes = sym (same_points bytes more (are_points bytes) moves) in
    ends_sent maps Identical level ws xs new k (stored_points bytes) sent
    (is ∙ ap (λ (ps : List ℕ). level_before xs (option_map only_points (stored_points ps))) same) read

-- a level before others, by what is read of them
before_sent : (maps : Maps) (depth : Depth) (later level : ℕ) (ws xs bytes more new : List ℕ) (k : KeyParts) (o : Option KeyParts)
    → AreSent (level_images maps level) ws xs → parts_from depth (suc later) (stored_level new) ≡ level_before xs (parts_from depth later (stored_level more))
    → ((j : KeyParts) → o ≡ Some j → HasSentParts maps depth later (suc level) j more)
    → level_before ws o ≡ Some k → HasSentParts maps depth (suc later) level k new
before_sent maps depth later level ws xs bytes more new k None sent is known read = nothing read
before_sent maps depth later level ws xs bytes more new k (Some j) sent is known read =
    let h : HasSentParts maps depth later (suc level) j more = known j refl in
    subst (λ (p : KeyParts). HasSentParts maps depth (suc later) level p new) (same_some (record { levels = ws ∷ j.levels; points = j.points }) k read)
    (record {
      found = record { levels = xs ∷ h.found.levels; points = h.found.points };
      read = is ∙ ap (level_before xs) h.read;
      levels = (sent, h.levels);
      points = h.points;
    })

-- a level that is not the last
next_sent : (maps : Maps) (depth : Depth) (later level : ℕ) (ws xs : List ℕ) (rest new_rest : Option (List ℕ)) (new : List ℕ) (k : KeyParts)
    → AreSent (level_images maps level) ws xs → RestMoves maps depth level (suc later) rest new_rest
    → parts_from depth (suc later) (stored_level new) ≡ level_before xs (after_level new_rest (λ bytes. parts_from depth later (stored_level bytes)))
    → ((bytes more : List ℕ) (j : KeyParts) → moved_from maps depth (suc level) (suc later) bytes ≡ Some more → parts_from depth later (stored_level bytes) ≡ Some j
    → HasSentParts maps depth later (suc level) j more)
    → level_before ws (after_level rest (λ bytes. parts_from depth later (stored_level bytes))) ≡ Some k → HasSentParts maps depth (suc later) level k new
next_sent maps depth later level ws xs None None new k sent moves is known read = nothing read
next_sent maps depth later level ws xs None (Some more) new k sent moves is known read = absurd moves
next_sent maps depth later level ws xs (Some bytes) None new k sent moves is known read = absurd moves
next_sent maps depth later level ws xs (Some bytes) (Some more) new k sent moves is known read =
    before_sent maps depth later level ws xs bytes more new k (parts_from depth later (stored_level bytes)) sent is (λ j. known bytes more j moves) read

-- the parts from a level on
parts_sent : (maps : Maps) → AreRisingMaps maps → (depth : Depth) (later level : ℕ) (bytes new : List ℕ) (k : KeyParts) (o : Option StoredLevel)
    → stored_level bytes ≡ o → moved_from maps depth level (suc later) bytes ≡ Some new → parts_from depth later o ≡ Some k
    → HasSentParts maps depth later level k new
parts_sent maps rising depth later level bytes new k None is moved read = nothing read
parts_sent maps rising depth zero level bytes new k (Some s) is moved read =
    let h : HasSentLevel maps depth level 0 s new = level_sent maps rising depth level 0 bytes new s moved is in
    last_sent maps depth level s.weights h.found.weights s.rest h.found.rest new k h.sent h.rest (ap (parts_from depth 0) h.read) read
parts_sent maps rising depth (suc later) level bytes new k (Some s) is moved read =
    let h : HasSentLevel maps depth level (suc later) s new = level_sent maps rising depth level (suc later) bytes new s moved is in
    next_sent maps depth later level s.weights h.found.weights s.rest h.found.rest new k h.sent h.rest (ap (parts_from depth (suc later)) h.read)
    (λ rest more j moves found. parts_sent maps rising depth later (suc level) rest more j (stored_level rest) refl moves found) read

-- ---- Places

-- the weights of a level
level_placed : (images : WeightImages) (f g : Form) (ws xs : List ℕ) → AllByRecursion (λ w. (x : ℕ) → Sends images w x → KeepsPlace f g w x) ws
    → AreSent images ws xs → AllZip (KeepsPlace f g) ws xs
level_placed images f g [] [] places sent = tt
level_placed images f g [] (x ∷ xs) places sent = absurd sent
level_placed images f g (w ∷ ws) [] places sent = absurd sent
level_placed images f g (w ∷ ws) (x ∷ xs) places sent = (places.0 x sent.0, level_placed images f g ws xs places.1 sent.1)

-- and of all levels
levels_placed : (maps : Maps) (level : ℕ) (forms new_forms : List Form) (levels new_levels : List (List ℕ))
    → MapsKeepPlaces maps level forms new_forms levels → LevelsAreSent maps level levels new_levels → LevelsKeepPlaces forms new_forms levels new_levels
levels_placed maps level [] [] [] [] places sent = tt
levels_placed maps level [] [] [] (xs ∷ new_levels) places sent = absurd sent
levels_placed maps level [] [] (ws ∷ levels) new_levels places sent = absurd places
levels_placed maps level [] (g ∷ new_forms) [] new_levels places sent = absurd places
levels_placed maps level [] (g ∷ new_forms) (ws ∷ levels) new_levels places sent = absurd places
levels_placed maps level (f ∷ forms) [] [] new_levels places sent = absurd places
levels_placed maps level (f ∷ forms) [] (ws ∷ levels) new_levels places sent = absurd places
levels_placed maps level (f ∷ forms) (g ∷ new_forms) [] new_levels places sent = absurd places
levels_placed maps level (f ∷ forms) (g ∷ new_forms) (ws ∷ levels) [] places sent = absurd sent
levels_placed maps level (f ∷ forms) (g ∷ new_forms) (ws ∷ levels) (xs ∷ new_levels) places sent = (
  level_placed (level_images maps level) f g ws xs places.0 sent.0,
  levels_placed maps (suc level) forms new_forms levels new_levels places.1 sent.1,
)

-- ---- Leads

-- a weight below the leads, and one above them
no_lead_below : (w : ℕ) → w < 0xFB00 → is_lead w ≡ false
no_lead_below w less =
    let test : nat_lt w 0xFB00 ≡ true = grind (arith, nat_tests) in
    ap (λ (t : Bool). not t && nat_lt w 0xFC00) test

and_false : (t : Bool) → (t && false) ≡ false
and_false true = refl
and_false false = refl

no_lead_above : (w : ℕ) → 0xFC00 ≤ w → is_lead w ≡ false
no_lead_above w more =
    let test : nat_lt w 0xFC00 ≡ false = grind (arith, nat_tests) in
    ap (λ (t : Bool). not (nat_lt w 0xFB00) && t) test ∙ and_false (not (nat_lt w 0xFB00))

-- a map of level 1 sends leads to leads, and no other weight
lead_sent : (images : WeightImages) → IsRisingMap One images → (w x : ℕ) → Sends images w x → is_lead w ≡ is_lead x
lead_sent images rising w x sent = elim (cases_lt w 0x8000) [
  | inl low ↦
      let below : x < 0x8000 = rising.fixed.1 w x sent low in
      no_lead_below w (omega (arith, low)) ∙ sym (no_lead_below x (omega (arith, below)))
  | inr high ↦
      elim (cases_lt w 0x1_0000) [
        | inl small ↦ let same : w ≡ x = same_some w x (sym (rising.fixed.0 w high small) ∙ sent) in ap is_lead same
        | inr great ↦
            let stays : Sends images 0xFFFF 0xFFFF = rising.fixed.0 0xFFFF (omega arith) (omega arith) in
            let above : 0xFFFF < x = rising.rising 0xFFFF w 0xFFFF x stays sent (omega (arith, great)) in
            no_lead_above w (omega (arith, great)) ∙ sym (no_lead_above x (omega (arith, above)))
      ]
]

letters_sent : (images : WeightImages) → IsRisingMap One images → (ws xs : List ℕ) → AreSent images ws xs → map is_lead ws ≡ map is_lead xs
letters_sent images rising [] [] sent = refl
letters_sent images rising [] (x ∷ xs) sent = absurd sent
letters_sent images rising (w ∷ ws) [] sent = absurd sent
letters_sent images rising (w ∷ ws) (x ∷ xs) sent =
    ap₂ (λ t ts. t ∷ ts) (lead_sent images rising w x sent.0) (letters_sent images rising ws xs sent.1)

leads_sent : (maps : Maps) → AreRisingMaps maps → (levels new_levels : List (List ℕ)) → LevelsAreSent maps 1 levels new_levels → leads_of levels ≡ leads_of new_levels
leads_sent maps rising [] [] sent = refl
leads_sent maps rising [] (xs ∷ new_levels) sent = absurd sent
leads_sent maps rising (ws ∷ levels) [] sent = absurd sent
leads_sent maps rising (ws ∷ levels) (xs ∷ new_levels) sent = letters_sent maps.primary rising.primary ws xs sent.0

-- ---- Keys

-- a weighting has a level
count_is : (weighting : Weighting) → level_count weighting ≡ suc (level_count weighting - 1)
count_is NonIgnorable = refl
count_is Shifted = refl

-- the law
pub moved_keys_stay : MovedKeysStay
moved_keys_stay maps rising depth weighting book new_book key new k moved read places =
    let h : HasSentParts maps depth (level_count weighting - 1) 1 k new =
    parts_sent maps rising depth (level_count weighting - 1) 1 key new k (stored_level key) refl
    (subst (λ (n : ℕ). moved_from maps depth 1 n key ≡ Some new) (count_is weighting) moved) read in
    let same : compact_key depth weighting book k ≡ compact_key depth weighting new_book h.found =
    kept_keys_stay depth weighting book new_book k h.found
    (record {
      places = levels_placed maps 1 (forms_of weighting book) (forms_of weighting new_book) k.levels h.found.levels places h.levels;
      leads = leads_sent maps rising k.levels h.found.levels h.levels;
      points = h.points;
    }) in
    ap (option_map (compact_key depth weighting new_book)) h.read ∙ ap Some (sym same)
