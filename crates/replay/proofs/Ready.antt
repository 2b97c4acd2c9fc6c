-- A run's threads, of which those that can be spawned are spares, and the opening memory are where a walk begins.
use Rattle.std.proofs.Common.{◌≡◌, ◌≢◌, ℕ, zero, suc, ◌<◌, List, [], ◌∷◌, length, Some, refl, sym, ap, subst, arith, inl, inr}
use Rattle.std.specs.List.{slice_get}
use Rattle.std.proofs.lemmas.Option.{slice_get_within, get_or_from_slice_get}
use Rattle.types.specs.declared.value.Value.{Value}
use Rattle.types.specs.declared.parts.Parts.{Parts}
use Rattle.types.specs.declared.limits.TheConstants.{MOST_SPAWNED}
use Rattle.validate_typing.specs.Context.{imported_functions}
use Rattle.validate_typing.specs.Validity.{HasDistinctNames}
use Rattle.shared_memory.specs.Memory.{Memory}
use Rattle.schedule.specs.Machine.{Thread.Runs}
use Rattle.interp_machine.specs.Program.{program_of}
use Rattle.interp_machine.specs.Config.{Config}
use Rattle.interp_machine.specs.State.{At}
use Rattle.interp_trait.specs.Turns.{Meaning, spawn_types, spawned_in}
use Rattle.interp.specs.Starts.{start_of}
use Rattle.spawn_host.specs.Entries.{StartsThreads}
use Rattle.spawn_host.specs.Threads.{IsFirst}
use Rattle.spawn_host.specs.Runs.{opening_within}
use Rattle.spawn_host.proofs.Calling.{is_there}
use Rattle.replay_text.specs.declared.parts.RecordParts.{RecordParts}
use Rattle.replay_walk.specs.Walked.{Run, start}
use Rattle.replay.specs.Runs.{BeginsBy, start_of_record}
use Rattle.replay.specs.Threads.{IsWorker, IsSpare, AreSpares, AreThreadsFor, requested_by}
use Rattle.replay.specs.Walks.{IsReadyFor}
use Rattle.replay.proofs.Workers.{one_worker}

module _ {T : Type 0} (meaning : T → Meaning) (m : Parts) (r : RecordParts) where
  -- A run can begin with them, as the record's does.
  pub record CanBegin (threads : List T) (memory : Memory) : Type 0 where
    pub beginning : BeginsBy m r
    pub run : Run
    pub ready : IsReadyFor meaning run r threads memory
    pub same : start run ≡ start_of_record m r beginning
    pub program : run.program ≡ program_of m
    pub worker : StartsThreads m → IsWorker m run.worker

  abbrev First : T → Type 0
  First first = IsFirst meaning m r.invoke r.args r.fuel first

  abbrev run_with : (first : T) → First first → (List Value → Config) → Run
  run_with first f worker = record {
    program = program_of m;
    main = start_of m f.takes.func_type f.takes.body r.args;
    worker = worker;
    budget = r.fuel;
    opening = opening_within r.max_pages m;
    threads = r.threads;
    limit = r.limit;
  }

  at_first : (first x : T) (others : List T) → slice_get (first ∷ others) 0 ≡ Some x → first ≡ x
  at_first first x others h = cc h

  stands_first : (first x : T) (others : List T) (f : First first) → slice_get (first ∷ others) 0 ≡ Some x
      → (meaning x).stands (Runs (At (start_of m f.takes.func_type f.takes.body r.args)) r.fuel)
  stands_first first x others f h =
      subst (λ (y : T). (meaning y).stands (Runs (At (start_of m f.takes.func_type f.takes.body r.args)) r.fuel)) (at_first first x others h) f.call.stands_so

  alike_first : (first x : T) (others : List T) → First first → slice_get (first ∷ others) 0 ≡ Some x
      → ((meaning x).program ≡ program_of m) × ((meaning x).fuel ≡ r.fuel)
  alike_first first x others f h =
      subst (λ (y : T). ((meaning y).program ≡ program_of m) × ((meaning y).fuel ≡ r.fuel)) (at_first first x others h) (f.call.program_is, f.call.fuel_is)

  spare_at : (others : List T) → AreSpares meaning m r.fuel others → (k : ℕ) (x : T) → slice_get others k ≡ Some x → IsSpare meaning m r.fuel x
  spare_at others s k x h = subst (IsSpare meaning m r.fuel) (get_or_from_slice_get others k x x h) (s k x (slice_get_within others k x h))

  begins_other : HasDistinctNames m.exports → (first : T) (others : List T) → AreSpares meaning m r.fuel others
      → (worker : List Value → Config) → IsWorker m worker
      → (k : ℕ) (x : T) → k ≢ 0 → slice_get (first ∷ others) k ≡ Some x → (meaning x).begins spawn_types worker
  begins_other distinct first others s worker w zero x other h = absurd (other refl)
  begins_other distinct first others s worker w (suc k) x other h =
      let spare = spare_at others s k x h in
      subst (λ (c : List Value → Config). (meaning x).begins spawn_types c) (one_worker m distinct spare.worker worker spare.is_worker w) spare.begins_so

  alike_others : (first : T) (others : List T) → First first → AreSpares meaning m r.fuel others → (k : ℕ) (x : T) → slice_get (first ∷ others) k ≡ Some x
      → ((meaning x).program ≡ program_of m) × ((meaning x).fuel ≡ r.fuel)
  alike_others first others f s zero x h = alike_first first x others f h
  alike_others first others f s (suc k) x h = let spare = spare_at others s k x h in (spare.program_is, spare.fuel_is)

  threaded : HasDistinctNames m.exports → (first : T) (others : List T) (memory : Memory) → First first → StartsThreads m → length others ≡ MOST_SPAWNED
      → AreSpares meaning m r.fuel others → memory ≡ opening_within r.max_pages m → CanBegin (first ∷ others) memory
  threaded distinct first others memory f starts count s is =
      let some : 0 < length others = omega (arith, count) in
      let there = is_there others 0 some in
      let spare = spare_at others s 0 there.0 there.1 in
      let w = spare.is_worker in record {
        beginning = record {
          own = f.takes.own;
          func_type = f.takes.func_type;
          body = f.takes.body;
          exports = f.takes.exports;
          fit = f.takes.fit;
          spawned = spawned_in spare.worker;
          calls = λ _. record {
            own = w.own;
            func_type = w.func_type;
            body = w.body;
            is_start = w.is_start;
            begins = λ n arg. ap (λ (c : List Value → Config). spawned_in c n arg) w.begins;
          };
          idle = λ none. absurd (none starts);
        };
        run = run_with first f spare.worker;
        ready = record {
          ready = record {
            opening = is;
            count = inl (omega (arith, count));
            first = λ x h. stands_first first x others f h;
            others = λ k x other h. begins_other distinct first others s spare.worker w k x other h;
            alike = λ k x h. alike_others first others f s k x h;
          };
          budget = refl;
          limit = refl;
          most = refl;
        };
        same = refl;
        program = refl;
        worker = λ _. w;
      }

  alike_alone : (first : T) → First first → (k : ℕ) (x : T) → slice_get (first ∷ []) k ≡ Some x
      → ((meaning x).program ≡ program_of m) × ((meaning x).fuel ≡ r.fuel)
  alike_alone first f zero x h = alike_first first x [] f h
  alike_alone first f (suc k) x h = absurd (cc h)

  no_other : (first : T) (worker : List Value → Config) (k : ℕ) (x : T) → k ≢ 0 → slice_get (first ∷ []) k ≡ Some x → (meaning x).begins spawn_types worker
  no_other first worker zero x other h = absurd (other refl)
  no_other first worker (suc k) x other h = absurd (cc h)

  alone : (first : T) (memory : Memory) → First first → (StartsThreads m → ⊥) → memory ≡ opening_within r.max_pages m → CanBegin (first ∷ []) memory
  alone first memory f none is =
      let worker : List Value → Config = start_of m f.takes.func_type f.takes.body in record {
        beginning = record {
          own = f.takes.own;
          func_type = f.takes.func_type;
          body = f.takes.body;
          exports = f.takes.exports;
          fit = f.takes.fit;
          spawned = spawned_in worker;
          calls = λ starts. absurd (none starts);
          idle = λ _ n arg. refl;
        };
        run = run_with first f worker;
        ready = record {
          ready = record {
            opening = is;
            count = inr (no_imports (length (imported_functions m)) none, refl);
            first = λ x h. stands_first first x [] f h;
            others = λ k x other h. no_other first worker k x other h;
            alike = λ k x h. alike_alone first f k x h;
          };
          budget = refl;
          limit = refl;
          most = refl;
        };
        same = refl;
        program = refl;
        worker = λ starts. absurd (none starts);
      }
    where
      no_imports : (n : ℕ) → (0 < n → ⊥) → n ≡ 0
      no_imports zero h = refl
      no_imports (suc n) h = absurd (h (omega arith))

  pub can_begin : HasDistinctNames m.exports → (threads : List T) (memory : Memory)
      → AreThreadsFor meaning (requested_by m r) threads → memory ≡ opening_within r.max_pages m
      → CanBegin threads memory
  can_begin distinct threads memory a is =
      subst (λ (l : List T). CanBegin l memory) (sym a.list)
      (elim a.are_others [
        | inl s ↦ threaded distinct a.first a.others memory a.is_first s.0 s.1 s.2 is
        | inr n ↦ subst (λ (l : List T). CanBegin (a.first ∷ l) memory) (sym n.1) (alone a.first memory a.is_first n.0 is)
      ])
