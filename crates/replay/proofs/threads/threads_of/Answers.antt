use Rattle.std.proofs.Common.{◌≡◌, ◌∷◌, List, Result, Ok, Err, IfOk}
use Rattle.std.proofs.lemmas.Result.{IfOk-weaker}
use Rattle.std.specs.Result.{IsOkAnd}
use Rattle.interp_trait.specs.Turns.{Meaning}
use Rattle.interp.specs.Threads.{meaning_in}
use Rattle.spawn_host.specs.Requests.{Requested}
use Rattle.spawn_host.specs.Threads.{BeginsRequest}
use Rattle.replay.specs.Threads.{AreThreadsFor, AreOthers, requested_by}
use Rattle.replay.proofs.threads.threads_of.Goals as goal

-- thread 0, and the others behind it
led : {T V E : Type 0} (items : V → List T) (meaning : T → Meaning) (q : Requested) (first : T) (others : Result V E)
    → BeginsRequest meaning q first → IfOk others (λ rest. AreOthers meaning q.parts q.fuel (items rest)) → (threads : List T)
    → IsOkAnd others (λ rest. threads ≡ first ∷ items rest) → AreThreadsFor meaning q threads
led items meaning q first (Ok rest) is_first are_others threads list =
    record { first = first; others = items rest; list = list; is_first = is_first; are_others = are_others }
led items meaning q first (Err e) is_first are_others threads none = absurd none

pub returns-clause-threads : goal.returns-clause-threads
returns-clause-threads c =
    let q = requested_by c.args.module.now.parts c.args.parts.now in
    IfOk-weaker c.led_by.result _ (λ threads. AreThreadsFor meaning_in q threads.items)
    (λ threads list. led (λ rest. rest.items) meaning_in q c.in_ok-first.first c.others_of.result c.in_ok-first.ensures.first
    c.others_of.ensures threads.items list) c.led_by.ensures.threads
