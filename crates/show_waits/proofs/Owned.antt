-- Whether the last write at some addresses is a thread's own.
use Rattle.std.proofs.Common.{◌≡◌, ℕ, List, Some, length, slice_get, slice_index_or, sym, ap, ◌∙◌}
use Rattle.types.specs.declared.event.Entry.{Entry}
use Rattle.selection.specs.declared.choice.NumberSpan.{NumberSpan}
use Rattle.show_named.specs.declared.lasts.Act.TheVariants as acts
use Rattle.show_named.specs.Lasts.{HasNone, IsLast}
use Rattle.show_waits.proofs.Waiting.{entry_of, same_last}
use Rattle.show_waits.specs.Waits.{IsOwn}

module _ (log : List Entry) (n : ℕ) (addrs : NumberSpan) where
  pub none_own : HasNone (acts.Write addrs) log (length log) → IsOwn log n addrs → ⊥
  none_own none own = none own.place own.last.entry own.last.earlier own.last.at own.last.does

  module _ (k : ℕ) (last : IsLast (acts.Write addrs) log (length log) k) (d : Entry) where
    pub own_if : (slice_index_or log k d).thread ≡ n → IsOwn log n addrs
    own_if is = record { place = k; last = last; own = sym (entry_of (acts.Write addrs) log (length log) k last d) ∙ is }

    pub if_own : IsOwn log n addrs → (slice_index_or log k d).thread ≡ n
    if_own own =
        let place = same_last (acts.Write addrs) log (length log) k own.place last own.last in
        let e : Some last.entry ≡ Some own.last.entry = sym last.at ∙ (ap (slice_get log) place ∙ own.last.at) in
        let same : last.entry ≡ own.last.entry = cc e in
        entry_of (acts.Write addrs) log (length log) k last d ∙ (ap (λ (x : Entry). x.thread) same ∙ own.own)
