-- Where all threads come to rest in the beginning.
use Rattle.allowed_races.specs.declared.allowed.Allowed.{Allowed}
use Rattle.std.specs.Prelude.{ℕ, zero, suc, ◌≡◌, ◌≢◌, List, [], ◌∷◌, length, Option, Some, None}
use Rattle.std.proofs.Common.{refl, sym, ap, ◌∙◌, subst, arith, inl, inr}
use Rattle.std.specs.List.{slice_get}
use Rattle.shared_memory.specs.WaitQueue.{first_queue}
use Rattle.validate_typing.specs.Tabled.{WithTables}
use Rattle.schedule.specs.System.{put}
use Rattle.schedule.proofs.Basics.{put-same, put-other, same_or_not}
use Rattle.interp_machine.specs.State.{State, At}
use Rattle.search_threads.specs.Unlimited.{Unlimited.Missing, Unlimited.Going}
use Rattle.search_threads.specs.Budgets.{first_without}
use Rattle.search_settled.specs.Settled.{Settles}
use Rattle.search_settled.specs.Next.{IsBeginning}
use Rattle.search_runs.specs.Called.{Called, Walker as Thread, system_of, first_state, first_shared}
use Rattle.search_settled.specs.declared.flat.RestingState.{RestingState}
use Rattle.search_parts.specs.Walkers.{RestsAt}
use Rattle.search_parts.specs.declared.walker.RestingThread.{RestingThread}
use Rattle.search_parts.specs.declared.walker.RestingThread.TheVariants as standings
use Rattle.search_parts.specs.Sharing.{Shares}
use Rattle.search_parts.specs.Parts.{IsRested}
use Rattle.search_parts.specs.Threads.{threads_of}
use Rattle.search_parts.specs.declared.shared.Common.{Common}
use Rattle.search_parts.specs.declared.shared.HashedThread.{HashedThread}
use Rattle.search_parts.proofs.AtRest.{rested_so}

-- thread 0 begins in its call
pub first_at : (b : Called) → (first_state b).threads 0 ≡ Going (At b.main)
first_at b = ap first_without (put-same {B = Option State} (λ (m : ℕ). None) 0 (Some (At b.main)))

pub missing_rests : (w : WithTables) (b : Called) → IsRested w b standings.Missing Missing
missing_rests w b = record { stands = refl; rests = λ turns. absurd (cc turns) }

module _ (w : WithTables) (b : Called) (opening : List ℕ) (main : RestingThread) (at : RestsAt w b (Going (At b.main)) main) where
  -- thread 0 alone is there
  abbrev threads : ℕ → Thread
  threads = put (λ (m : ℕ). Missing) 0 at.rested

  other_at : (m : ℕ) → m ≢ 0 → (first_state b).threads m ≡ Missing
  other_at m apart = ap first_without (put-other {B = Option State} (λ (m : ℕ). None) 0 (Some (At b.main)) m apart)

  first_is : threads 0 ≡ at.rested
  first_is = put-same {B = Thread} (λ (m : ℕ). Missing) 0 at.rested

  other_is : (m : ℕ) → m ≢ 0 → threads m ≡ Missing
  other_is m apart = put-other {B = Thread} (λ (m : ℕ). Missing) 0 at.rested m apart

  settles : (m : ℕ) → Settles (system_of b) ((first_state b).threads m) (threads m)
  settles m = elim (same_or_not m 0) [
    | inl same ↦ subst (λ k. Settles (system_of b) ((first_state b).threads k) (threads k)) (sym same)
        (subst (λ (u : Thread). Settles (system_of b) u (threads 0)) (sym (first_at b))
        (subst (λ (u : Thread). Settles (system_of b) (Going (At b.main)) u) (sym first_is) at.settles))
    | inr apart ↦ record {
      turns = 0;
      comes = other_at m apart ∙ sym (other_is m apart);
      rests = λ turns. (missing_rests w b).rests (sym (ap (λ (u : Thread). (system_of b).wants u) (other_is m apart)) ∙ turns);
    }
  ]

  pub begun : (allowed : Allowed) (c : RestingState Common HashedThread) → Shares opening c.shared (first_shared b)
      → (t : HashedThread) × (c.threads.items ≡ t ∷ []) × (t.standing ≡ main)
      → IsBeginning (threads_of w b allowed opening) c
  unfolding first_queue
  begun allowed c shared first = record {
    settled = record { shared = first_shared b; threads = threads };
    rest = record { shared = refl; each = settles };
    settled_is = record {
      shared = shared;
      len = ap length first.1;
      each = λ m t h. each m t (ap (λ l. slice_get l m) (sym first.1) ∙ h);
      others = λ m past. ap (λ (u : Thread). (system_of b).wants u) (other_is m (λ same. absurd (omega (arith, past, same))));
    };
  }
    where
      each : (m : ℕ) (t : HashedThread) → slice_get (first.0 ∷ []) m ≡ Some t → IsRested w b t.standing (threads m)
      each zero t h =
          let same : first.0 ≡ t = cc h in
          subst (λ (s : RestingThread). IsRested w b s (threads 0)) (sym first.2 ∙ ap (λ (u : HashedThread). u.standing) same)
          (subst (λ (v : Thread). IsRested w b main v) (sym first_is) (rested_so w b main (Going (At b.main)) at))
      each (suc m) t h = absurd (cc h)
