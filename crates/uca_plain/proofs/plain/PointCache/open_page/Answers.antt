use Rattle.uca_plain.proofs.plain.PointCache.open_page.Goals as goal

pub returns : goal.returns
returns g c = λ collation true. c.add_page-2.ensures collation (c.add_page.ensures collation true)
