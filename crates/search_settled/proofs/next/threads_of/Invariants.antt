use Rattle.search_settled.proofs.Nexting.{Read}
use Rattle.search_settled.proofs.next.threads_of.Given as goal

abbrev pub invariant-loop-n : goal.invariant-loop-n
invariant-loop-n g l = Read l.parts l.numbers l.n l.all.items
