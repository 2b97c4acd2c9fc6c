use Rattle.show_places.proofs.sections.subsection_of.Goals as goal

pub returns : goal.returns
returns c = rw (c.new-subsections.ensures.bounds, c.new-subsections.ensures.rest) at c.find.ensures
