-- Memories and queues that are equal are the same.
use Rattle.std.specs.Prelude.{ℕ, ◌≡◌, ◌&&◌, true, List, fold, nat_eq, replicate, None}
use Rattle.std.proofs.lemmas.Bool.{eqb-true}
use Rattle.std.specs.Cmp.{first_so, second_so}
use Rattle.std.specs.Cmp.Lexicographic.{pointwise}
use Rattle.shared_memory.specs.contracts.sleeper.SleeperPartialEq.TheImpl as sleeper_eq
use Rattle.waiters.specs.declared.kept.KeptQueue.{KeptQueue}
use Rattle.waiters.specs.contracts.kept.KeptQueuePartialEq.TheImpl as queue_eq
use Rattle.waiters.specs.Kept.{queue_of}
use Rattle.search_memory.specs.declared.beside.ChangedByte.{ChangedByte}
use Rattle.search_memory.specs.declared.beside.Changes.{Changes}
use Rattle.search_memory.specs.contracts.beside.ChangedBytePartialEq.TheImpl as change_eq
use Rattle.search_memory.specs.contracts.beside.ChangesPartialEq.TheImpl as changes_eq
use Rattle.search_memory.specs.Memories.{memory_of, padded, with_change}
use Rattle.search_endings.specs.Outcomes.{same_list}
use Rattle.search_parts.specs.Values.{same_sleeper}

same_number : (a b : ℕ) → nat_eq a b ≡ true → a ≡ b
same_number a b e = eqb-true a b e

same_change : (x y : ChangedByte) → change_eq.eq-value.it x y ≡ true → x ≡ y
same_change x y e =
    let at = eqb-true x.at y.at (first_so (nat_eq x.at y.at) (nat_eq x.byte y.byte) e) in
    let byte = eqb-true x.byte y.byte (second_so (nat_eq x.at y.at) (nat_eq x.byte y.byte) e) in
    λ i. record { at = at i; byte = byte i }

pub same_memory : (opening : List ℕ) (x y : Changes) → changes_eq.eq-value.it x y ≡ true → memory_of opening x ≡ memory_of opening y
same_memory opening x y e =
    let changes_so = pointwise change_eq.eq-value.it x.changes.items y.changes.items in
    let rest = second_so (nat_eq x.len y.len) (nat_eq x.max y.max && changes_so) e in
    let len = eqb-true x.len y.len (first_so (nat_eq x.len y.len) (nat_eq x.max y.max && changes_so) e) in
    let max = eqb-true x.max y.max (first_so (nat_eq x.max y.max) changes_so rest) in
    let changes = same_list change_eq.eq-value.it same_change x.changes.items y.changes.items (second_so (nat_eq x.max y.max) changes_so rest) in
    λ i. record { bytes = fold with_change (padded opening (len i)) (changes i); max = max i }

pub same_queue : (x y : KeptQueue) → queue_eq.eq-value.it x y ≡ true → queue_of x ≡ queue_of y
same_queue x y e =
    let alive_so = pointwise nat_eq x.alive.items y.alive.items in
    let sleepers_so = pointwise sleeper_eq.eq-value.it x.sleepers.items y.sleepers.items in
    let args_so = pointwise nat_eq x.args.items y.args.items in
    let threads_so = nat_eq x.threads y.threads in
    let rest = second_so alive_so (sleepers_so && (args_so && threads_so)) e in
    let last = second_so sleepers_so (args_so && threads_so) rest in
    let alive = same_list nat_eq same_number x.alive.items y.alive.items (first_so alive_so (sleepers_so && (args_so && threads_so)) e) in
    let sleepers = same_list sleeper_eq.eq-value.it same_sleeper x.sleepers.items y.sleepers.items (first_so sleepers_so (args_so && threads_so) rest) in
    let args = same_list nat_eq same_number x.args.items y.args.items (first_so args_so threads_so last) in
    let threads = eqb-true x.threads y.threads (second_so args_so threads_so last) in
    λ i. record { alive = alive i; sleepers = sleepers i; due = replicate (threads i) None; args = args i }
