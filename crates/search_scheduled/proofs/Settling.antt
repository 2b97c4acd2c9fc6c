-- A walk of which one thread has settled.
use Rattle.std.proofs.Common.{◌≡◌, ℕ, List, sym, subst}
use Rattle.interp_trait.specs.Turns.{Running, Meaning}
use Rattle.interp_trait.specs.declared.turn.Turn.{Turn}
use Rattle.replay_rules.specs.Walk.{Settles}
use Rattle.replay_walk.specs.Standing.{Standing, Says, IsSettledOn, system_at}
use Rattle.replay_walk.specs.declared.walk.Walk.{Walk}
use Rattle.search_scheduled.specs.Settled.{SettlesOn}

module _ {S : Type 0} (meaning : S → Meaning) where
  pub settles_on : (s : Standing) (n : ℕ) (turn : Turn) (w : Walk S) (after : List S) → w.threads.items ≡ after
      → (thread : Running) → IsSettledOn meaning s after w.stage.queue w.stage.started w.stage.ends n thread
      → Settles (system_at s) (s.state.threads n) thread → Says s.program thread turn → SettlesOn meaning s n turn w
  settles_on s n turn w after same thread on settles says = record {
    thread = thread;
    on = subst (λ (l : List S). IsSettledOn meaning s l w.stage.queue w.stage.started w.stage.ends n thread) (sym same) on;
    settles = settles;
    says = says;
  }
