-- A course goes on by an entry.
use Rattle.std.proofs.Common.{◌≡◌, ℕ, ◌<◌, arith, length-append, List, [], ◌∷◌, ◌++◌, length, refl, sym, ◌∙◌, ap, subst}
use Rattle.types.specs.declared.event.Entry.{Entry}
use Rattle.schedule_threads.specs.Shared.{act_of}
use Rattle.interp_trait.specs.Turns.{Meaning}
use Rattle.replay_walk.specs.Standing.{Standing}
use Rattle.replay_walk.specs.Walked.{Run, standing_in, WalkTakes, WalkCame}
use Rattle.replay_walk.proofs.Along.{walked_on}
use Rattle.search_scheduled.specs.Courses.{CameAlong, GoesOn}
use Rattle.search_scheduled.specs.declared.course.Course.{Course}

module _ {S : Type 0} (meaning : S → Meaning) where
  -- where it stands
  abbrev pub stands_at : (r : Run) (c : Course S) → CameAlong meaning r c → Standing
  stands_at r c came = standing_in r c.walk.memory came.walk.state came.walk.places

  pub came_on : (r : Run) (c c' : Course S) (came : CameAlong meaning r c) (e : Entry)
      → WalkTakes meaning (stands_at r c came) c.limit (length c.log.items) e.thread (act_of e) c'.walk
      → length c'.walk.threads.items ≡ length c.walk.threads.items
      → c'.log.items ≡ c.log.items ++ e ∷ [] → c'.fuel ≡ c.fuel → c'.limit ≡ c.limit → CameAlong meaning r c'
  came_on r c c' came e taken count log fuel limit = record {
    walk = subst (λ (l : List Entry). WalkCame meaning r l c'.walk) (sym log)
        (walked_on meaning r c.log.items c.walk.threads.items c.walk.memory c.walk.stage.queue c.walk.stage.started c.walk.stage.ends
        came.walk (length c.log.items) refl e c'.walk.threads.items c'.walk.memory c'.walk.stage.queue c'.walk.stage.started c'.walk.stage.ends
        count (subst (λ (k : ℕ). WalkTakes meaning (stands_at r c came) k (length c.log.items) e.thread (act_of e) c'.walk) (sym came.limit) taken));
    budget = came.budget ∙ sym fuel;
    limit = came.limit ∙ sym limit;
  }

  -- an entry makes the log longer
  pub longer : (n : ℕ) (e : Entry) (a b : Course S) → GoesOn meaning n e a b → length a.log.items < length b.log.items
  longer n e a b x = omega (arith, ap length x.log, length-append a.log.items (e ∷ x.answers))
