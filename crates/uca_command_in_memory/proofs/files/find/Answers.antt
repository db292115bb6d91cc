use Rattle.std.proofs.Common.{◌≡◌, ◌⊎◌, inl, inr, ◌∷◌, [], ◌++◌, ℕ, ◌+◌, ◌<◌, Bool, true, false, List, length, drop, get_or, Some, None, cond, sym, ap, ◌∙◌, refl}
use Rattle.std.specs.Borrow.{Bor}
use Rattle.std.specs.Str.{bytes_eq}
use Rattle.std.specs.Slice.Iter.{iter_rest}
use Rattle.std.specs.Iterator.Adapters.{zip_first, zip_second}
use Rattle.std.proofs.lemmas.List.{at_drop_more, length_push}
use Rattle.std.proofs.lemmas.Slice.Zip.{zip_turn, Zip-so_far, either_empty_from_Zip}
use Rattle.uca_command_in_memory.specs.MemoryFiles.{file_of}
use Rattle.uca_command_in_memory.proofs.files.find.Invariants.{texts}
use Rattle.uca_command_in_memory.proofs.files.find.Goals as goal

-- the file of a name, where this pair is the next one
file_of-next : (names files : List (Bor (List ℕ))) (name : List ℕ) (n m : ℕ) (given file : Bor (List ℕ))
    → n < length names → n < length files → given ≡ get_or names n given → file ≡ get_or files n file → m ≡ n + 1
    → file_of (texts (drop n names)) (texts (drop n files)) name
    ≡ cond (bytes_eq given.now name) (Some file.now) (file_of (texts (drop m names)) (texts (drop m files)) name)
file_of-next names files name n m given file in_names in_files is_given is_file is_next =
    at_drop_more (λ (rest : List (Bor (List ℕ))). file_of (texts rest) (texts (drop n files)) name) names n given in_names
    ∙ at_drop_more (λ (rest : List (Bor (List ℕ))). file_of (texts (get_or names n given ∷ drop (n + 1) names)) (texts rest) name) files n file in_files
    ∙ ap (λ (it : Bor (List ℕ)). file_of (texts (it ∷ drop (n + 1) names)) (texts (get_or files n file ∷ drop (n + 1) files)) name) (sym is_given)
    ∙ ap (λ (it : Bor (List ℕ)). file_of (texts (given ∷ drop (n + 1) names)) (texts (it ∷ drop (n + 1) files)) name) (sym is_file)
    ∙ ap (λ (at : ℕ). cond (bytes_eq given.now name) (Some file.now) (file_of (texts (drop at names)) (texts (drop at files)) name)) (sym is_next)

-- without files there is none of any name
file_of-none : (names : List (List ℕ)) (name : List ℕ) → file_of names [] name ≡ None
file_of-none [] name = refl
file_of-none (given ∷ names) name = refl

-- where no pair is left, there is no file
file_of-past : (names files : List (Bor (List ℕ))) (name : List ℕ) → (names ≡ []) ⊎ (files ≡ []) → file_of (texts names) (texts files) name ≡ None
file_of-past names files name (inl empty) = ap (λ (it : List (Bor (List ℕ))). file_of (texts it) (texts files) name) empty
file_of-past names files name (inr empty) =
    ap (λ (it : List (Bor (List ℕ))). file_of (texts names) (texts it) name) empty ∙ file_of-none (texts names) name

pub returns-then-eq : goal.returns-then-eq
returns-then-eq c =
    let start = c.into_iter-given-iterator.result in
    let first : iter_rest (zip_first start) ≡ c.args.names.now = cc in
    let second : iter_rest (zip_second start) ≡ c.args.files.now = cc in
    let turn = zip_turn c.args.names.now c.args.files.now c.loop-given.yielded start c.loop-given.given-iterator c.next.new.self c.next.result first second c.loop-given.yielded_by
    (c.in-Some.given, c.in-Some.file) c.in-Some.is c.next.ensures.steps in
    let next = file_of-next c.args.names.now c.args.files.now c.args.name.now (length c.loop-given.yielded) (length c.loop-given.yielded + 1)
    c.in-Some.given.now c.in-Some.file.now turn.0 turn.1 (turn.2 c.in-Some.given.now) (turn.3 c.in-Some.file.now) refl in
    let same : bytes_eq c.in-Some.given.now.now c.args.name.now ≡ true = sym c.if-eq.ensures in
    let here = ap (λ (is_same : Bool). cond is_same (Some c.in-Some.file.now.now)
    (file_of (texts (drop (length c.loop-given.yielded + 1) c.args.names.now)) (texts (drop (length c.loop-given.yielded + 1) c.args.files.now)) c.args.name.now)) same in
    sym (next ∙ here) ∙ c.loop-given.invariant.2

pub loop-given-preserved : goal.loop-given-preserved
loop-given-preserved c =
    let start = c.into_iter-given-iterator.result in
    let first : iter_rest (zip_first start) ≡ c.args.names.now = cc in
    let second : iter_rest (zip_second start) ≡ c.args.files.now = cc in
    let turn = zip_turn c.args.names.now c.args.files.now c.loop-given.yielded start c.loop-given.given-iterator c.next.new.self c.next.result first second c.loop-given.yielded_by
    (c.in-Some.given, c.in-Some.file) c.in-Some.is c.next.ensures.steps in
    let places = length (c.loop-given.yielded ++ (c.in-Some.given, c.in-Some.file) ∷ []) in
    let next = file_of-next c.args.names.now c.args.files.now c.args.name.now (length c.loop-given.yielded) places
    c.in-Some.given.now c.in-Some.file.now turn.0 turn.1 (turn.2 c.in-Some.given.now) (turn.3 c.in-Some.file.now)
    (length_push c.loop-given.yielded (c.in-Some.given, c.in-Some.file)) in
    let other : bytes_eq c.in-Some.given.now.now c.args.name.now ≡ false = sym c.if-eq.ensures in
    let later = ap (λ (is_same : Bool). cond is_same (Some c.in-Some.file.now.now)
    (file_of (texts (drop places c.args.names.now)) (texts (drop places c.args.files.now)) c.args.name.now)) other in
    ((tt, tt), tt, sym (next ∙ later) ∙ c.loop-given.invariant.2)

pub returns : goal.returns
returns c =
    let start = c.into_iter-given-iterator.result in
    let first : iter_rest (zip_first start) ≡ c.args.names.now = cc in
    let second : iter_rest (zip_second start) ≡ c.args.files.now = cc in
    let places = length c.loop-given.yielded in
    let rest = Zip-so_far c.loop-given.yielded start c.loop-given.given-iterator c.loop-given.yielded_by in
    let first_rest : iter_rest (zip_first c.loop-given.given-iterator) ≡ drop places c.args.names.now =
    rest.0 ∙ ap (λ (it : List (Bor (List ℕ))). drop places it) first in
    let second_rest : iter_rest (zip_second c.loop-given.given-iterator) ≡ drop places c.args.files.now =
    rest.1 ∙ ap (λ (it : List (Bor (List ℕ))). drop places it) second in
    let ended = either_empty_from_Zip c.loop-given.given-iterator c.next.new.self c.next.result c.in-None.is c.next.ensures.steps in
    let empty : (drop places c.args.names.now ≡ []) ⊎ (drop places c.args.files.now ≡ []) =
    elim ended [ inl none ↦ inl (sym first_rest ∙ none) | inr none ↦ inr (sym second_rest ∙ none) ] in
    sym (file_of-past _ _ _ empty) ∙ c.loop-given.invariant.2
