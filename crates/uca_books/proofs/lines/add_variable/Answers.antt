-- The digits are those of one weight at most.
use Rattle.std.proofs.Common.{inl, inr, refl}
use Rattle.uca_books.specs.Books.{Variable}
use Rattle.uca_books.proofs.LineLaws.{small_variable, spelled_added, spelled_refused, none_spelled}
use Rattle.uca_books.proofs.lines.add_variable.Goals as goal

pub returns-in-Some-clause-ok : goal.returns-in-Some-clause-ok
returns-in-Some-clause-ok g c =
    spelled_added Variable c.args.spelled.now c.in-Some.start c.args.book.now c.push_variable.new.self c.push_variable.result c.in-Some.ensures c.push_variable.ensures.ok

pub returns-in-Some-clause-fault : goal.returns-in-Some-clause-fault
returns-in-Some-clause-fault g c =
    spelled_refused Variable small_variable c.args.spelled.now c.in-Some.start c.args.book.now c.push_variable.result c.in-Some.ensures c.push_variable.ensures.fault

pub returns-in-None-clause-fault : goal.returns-in-None-clause-fault
returns-in-None-clause-fault g c = inr (inl (refl, none_spelled Variable small_variable c.args.spelled.now c.in-None.ensures))
