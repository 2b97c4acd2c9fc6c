-- What parts of a thread's run, one after the other, leave of it and of its seat.
use Rattle.std.proofs.Common.{◌∙◌}
use Rattle.shared_memory.specs.declared.memory.SharedMemory.{Ghosts}
use Rattle.interp_trait.specs.Turns.{Meaning}
use Rattle.spawn_host_workers.specs.Seats.{StaysFree}

pub stays_free_on : {T M S : Type 0} (m : Ghosts M S) (meaning : T → Meaning) (t t1 t2 : T) (s s1 s2 : S) → StaysFree m meaning t t1 s s1
    → StaysFree m meaning t1 t2 s1 s2 → StaysFree m meaning t t2 s s2
stays_free_on m meaning t t1 t2 s s1 s2 one two = record {
  stays = record { program = two.stays.program ∙ one.stays.program; fuel = two.stays.fuel ∙ one.stays.fuel };
  same = record { name_is = two.same.name_is ∙ one.same.name_is; right_is = two.same.right_is ∙ one.same.right_is };
  free = rw one.same.name_is at two.free;
}
