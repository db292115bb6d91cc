use Rattle.uca_text_comparer.proofs.BeginningSteps.{rests_cut}
use Rattle.uca_text_comparer.proofs.beginnings.skip_same.Goals as goal

pub returns : goal.returns
returns c =
    rests_cut c.args.left.now c.args.right.now c.in_ok-left_rest.left_rest.now c.in_ok-right_rest.right_rest.now c.args.shared c.floor_char_boundary-cut.result
    c.utf8.left c.requires c.floor_char_boundary-cut.ensures.bound c.floor_char_boundary-cut.ensures.boundary
    c.in_ok-left_rest.ensures.back c.in_ok-right_rest.ensures.back
