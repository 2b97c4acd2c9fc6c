-- What one strategy leads, another one leads that is a part of it.
use Rattle.std.proofs.Common.{ℕ, List, Option, Some}
use Rattle.types.specs.declared.event.Entry.{Entry}
use Rattle.interp_trait.specs.Turns.{Meaning}
use Rattle.interp.specs.Threads.{meaning_in}
use Rattle.spawn_host.specs.Requests.{Requested}
use Rattle.replay_text.specs.declared.parts.RecordParts.{RecordParts}
use Rattle.search_scheduled.specs.Courses.{IsLed, IsNamed}
use Rattle.search_scheduled.specs.Led.{IsLedRun}
use Rattle.search_scheduled.specs.declared.course.Course.{Course}

module _ {P Q : Type 0} (chooses : P → List ℕ → Option ℕ → P → Type 0) (hears : P → Entry → P → Type 0)
    (chooses' : Q → List ℕ → Option ℕ → Q → Type 0) (hears' : Q → Entry → Q → Type 0) (part : P → Q)
    (chosen : (p : P) (ready : List ℕ) (place : ℕ) (p' : P) → chooses p ready (Some place) p' → chooses' (part p) ready (Some place) (part p'))
    (heard : (p : P) (e : Entry) (p' : P) → hears p e p' → hears' (part p) e (part p')) where
  module _ {S : Type 0} (meaning : S → Meaning) where
    named_by_part : (c : Course S) (p : P) (d : Course S) (p' : P) → IsNamed meaning chooses hears c p d p'
        → IsNamed meaning chooses' hears' c (part p) d (part p')
    named_by_part c p d p' n = record {
      ready = n.ready;
      each = n.each;
      place = n.place;
      asked = part n.asked;
      chosen = chosen p n.ready n.place n.asked n.chosen;
      entry = n.entry;
      goes = n.goes;
      heard = heard n.asked n.entry p' n.heard;
    }

    led_by_part : (first : Course S) (p : P) (c : Course S) (p' : P) → IsLed meaning chooses hears first p c p'
        → IsLed meaning chooses' hears' first (part p) c (part p')
    led_by_part first p c p' IsLed.here = IsLed.here
    led_by_part first p d r (IsLed.on c t _ _ led named) =
        IsLed.on c (part t) d (part r) (led_by_part first p c t led) (named_by_part c t d r named)

  pub run_by_part : (q : Requested) (limit : ℕ) (before after : P) (made : RecordParts) → IsLedRun chooses hears q limit before after made
      → IsLedRun chooses' hears' q limit (part before) (part after) made
  run_by_part q limit before after made l = record {
    first = l.first;
    begun = l.begun;
    last = l.last;
    led = led_by_part meaning_in l.first before l.last after l.led;
    over = l.over;
    log = l.log;
  }
