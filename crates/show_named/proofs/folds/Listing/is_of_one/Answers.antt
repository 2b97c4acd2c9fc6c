use Rattle.show_named.proofs.folds.Listing.is_of_one.Goals as goal

pub returns-in-Some-get : goal.returns-in-Some-get
returns-in-Some-get c all = (c.in-Some-get.entry.now.thread, c.are_by.ensures all)
