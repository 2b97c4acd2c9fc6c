use Rattle.std.proofs.Common.{◌≡◌, ◌++◌, [], ◌-◌, length}
use Rattle.std.specs.Prelude.{vec_capacity, map}
use Rattle.types.specs.declared.limits.TheConstants.{SEATS}
use Rattle.shared_memory_on_table.specs.Callers.{fresh_from}
use Rattle.shared_memory_on_table.specs.Rule.{gathered}
use Rattle.shared_memory_on_table.proofs.dealing.take_seats.Given as goal

abbrev pub invariant-loop-name : goal.invariant-loop-name
invariant-loop-name g l = record {
  place : l.all.table_id ≡ g.B.Naming.table;
  left : l.all.me ≡ (gathered g.H.History.has_keeper (fresh_from (SEATS - l.name) l.name), []);
  taken : map (λ s. s.caller) l.seats.items ++ fresh_from (SEATS - l.name) l.name ≡ fresh_from SEATS 0;
  count : length l.seats.items ≡ l.name;
  room : vec_capacity l.seats ≡ SEATS;
}
