use Rattle.std.specs.Str.{chars}
use Rattle.uca_text_comparer.proofs.PrimarySteps.{together_begun}
use Rattle.uca_text_comparer.proofs.primaries.compare_primaries.Goals as goal

pub returns-in-Some : goal.returns-in-Some
returns-in-Some g c = λ collation xs ys entries rest.
    c.in-Some.ensures collation xs ys entries (together_begun collation c.args.weighting xs ys (chars c.args.rest.now.left.now) (chars c.args.rest.now.right.now) _ _ rest)

pub returns-in-None : goal.returns-in-None
returns-in-None g c = λ collation xs ys entries rest.
    c.compare_later.ensures collation xs ys entries (together_begun collation c.args.weighting xs ys (chars c.args.rest.now.left.now) (chars c.args.rest.now.right.now) _ _ rest)
