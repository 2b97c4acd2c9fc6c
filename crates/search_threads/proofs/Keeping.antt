-- A thread without a budget keeps the laws of a thread.
use Rattle.std.proofs.Common.{◌≡◌, ℕ, true, refl, ◌∙◌, ap, Option}
use Rattle.schedule.specs.Machine.{Machine, MachineLaws, Wish, Wish.Asks, Wish.Ends, Wish.Goes, Wish.Waits}
use Rattle.schedule.specs.System.{Want.Awaits, Want.Calls, Want.Gone, Want.Turns}
use Rattle.schedule.specs.ThreadRun.{Laws}
use Rattle.search_threads.specs.Unlimited.{Unlimited, Unlimited.Missing, Unlimited.Going, Unlimited.Leaving, Unlimited.Away, unlimited}
use Rattle.search_threads.specs.Unlimited.{want_by, unlimited_wants, unlimited_goes, unlimited_takes, reply_by}

module _ {C E V A O : Type 0} (k : Machine C E V A O) where
  pub never_gone : (w : Wish E O) → want_by k w ≡ Gone → ⊥
  never_gone Waits h = cc
  never_gone (Ends o) h = cc
  never_gone Goes h = cc
  never_gone (Asks e) h = cc

  own_stays : (t : Unlimited C O) → unlimited_wants k t ≡ Turns → unlimited_wants k (unlimited_goes k t) ≡ Gone → ⊥
  own_stays Missing h g = cc
  own_stays (Going c) h g = never_gone (k.wishes (k.goes c)) g
  own_stays (Leaving o) h g = cc
  own_stays (Away o) h g = cc

  module _ (l : MachineLaws k) where
    opened_by : (w : Wish E O) (c : C) (e : E) (v : V) → k.wishes c ≡ w → want_by k w ≡ Calls e
        → k.opens e v ≡ true → unlimited_wants k (reply_by k w c v) ≡ Awaits
    opened_by Waits c e v is h o = absurd (cc)
    opened_by (Ends x) c e v is h o = refl
    opened_by Goes c e v is h o = absurd (cc)
    opened_by (Asks e') c e v is h o =
        let same : e' ≡ e = cc in
        ap (want_by k) (l.opened c e v (is ∙ ap (λ z. Asks z) same) o)

    opened : (t : Unlimited C O) (e : E) (v : V) → unlimited_wants k t ≡ Calls e → k.opens e v ≡ true
        → unlimited_wants k (unlimited_takes k t v) ≡ Awaits
    opened Missing e v h o = absurd (cc)
    opened (Going c) e v h o = opened_by (k.wishes c) c e v refl h o
    opened (Leaving x) e v h o = absurd (cc)
    opened (Away x) e v h o = absurd (cc)

    module _ {X : Type 0} (reply : X → ℕ → E → V) (after : X → ℕ → E → X) (gives : X → ℕ → E → ℕ → Option A)
        (starts : X → ℕ → E → ℕ → Option (Unlimited C O)) where
      pub laws : Laws (unlimited k reply after gives starts)
      laws = record {
        opened = opened;
        lose_calls = λ t h. absurd (cc h);
        fill_calls = λ t h. absurd (cc h);
        own_stays = own_stays;
        leave = k.leave;
        lost_again = λ t e h want. absurd (cc h);
        full_leaves = λ t h. absurd (cc h);
        leave_fills = λ t h want. cc h;
      }
