use Rattle.std.proofs.Common.{refl}
use Rattle.uca_match.proofs.CharMapLemmas.{pages_none, numbers_none}
use Rattle.uca_match.proofs.char_map.CharMap.new.Goals as goal

pub invariant_of-result : goal.invariant_of-result
invariant_of-result g c =
    pages_none c.in_ok-pages.pages.items c.in-Ok.numbers.items 0x1100 256 refl refl
    (c.in_ok-pages.ensures.items_if_clones_equal (λ y same. same)) (c.in-Ok.ensures.items_if_clones_equal (λ y same. same))

pub returns-in-Ok : goal.returns-in-Ok
returns-in-Ok g c = λ point.
    numbers_none c.in_ok-pages.pages.items c.in-Ok.numbers.items 0x1100 256 refl refl
    (c.in_ok-pages.ensures.items_if_clones_equal (λ y same. same)) (c.in-Ok.ensures.items_if_clones_equal (λ y same. same)) point
