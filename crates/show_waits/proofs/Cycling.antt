-- The cycles of threads, one behind the other.
use Rattle.std.proofs.Common.{◌≡◌, ◌∙◌, ℕ, ◌+◌, ◌<◌, ◌≤◌, List, [], ◌∷◌, ◌++◌, length, take, get_or, Option, Some, None}
use Rattle.std.proofs.Common.{filter_map, option_to_list, refl, sym, ap, subst}
use Rattle.std.proofs.lemmas.List.{take_all}
use Rattle.std.proofs.lemmas.List.Elements.{filter_map-append}
use Rattle.std.specs.Global.{Vec}
use Rattle.std.specs.List.{AllZip, range_with_len}
use Rattle.types.specs.declared.event.Entry.{Entry}
use Rattle.types.specs.declared.outcome.ThreadReport.{ThreadReport}
use Rattle.selection.specs.declared.spans.Spans.{Spans}
use Rattle.show_rows.proofs.Zipped.{zip_next}
use Rattle.show_waits.specs.Cycles.{AreToldCycles, AreWaits, IsToldCycle}

-- Those of the first so many threads.
abbrev pub SoFar : List (Option ℕ) → List ℕ → ℕ → List (Vec ℕ) → Type 0
SoFar waits ns n cycles = (all : List (Option (Vec ℕ))) × AllZip (IsToldCycle waits) (take n ns) all
    × (cycles ≡ filter_map (λ cycle. cycle) all)

one_given : (o : Option (Vec ℕ)) → filter_map (λ (c : Option (Vec ℕ)). c) (o ∷ []) ≡ option_to_list o
one_given None = refl
one_given (Some c) = refl

pub none_yet : (waits : List (Option ℕ)) (ns : List ℕ) (cycles : List (Vec ℕ)) → cycles ≡ [] → SoFar waits ns 0 cycles
none_yet waits ns cycles none = ([], tt, none)

pub one_more : (waits : List (Option ℕ)) (ns : List ℕ) (n z x : ℕ) (cycle : Option (Vec ℕ)) (cycles more : List (Vec ℕ))
    → n < length ns → x ≡ get_or ns n z → SoFar waits ns n cycles → IsToldCycle waits x cycle
    → more ≡ cycles ++ option_to_list cycle → SoFar waits ns (n + 1) more
one_more waits ns n z x cycle cycles more lt is (all, each, are) told adds = (
  all ++ cycle ∷ [],
  zip_next (IsToldCycle waits) ns all n z x cycle lt is each told,
  adds ∙ (ap (λ (cs : List (Vec ℕ)). cs ++ option_to_list cycle) are
      ∙ (ap (λ (cs : List (Vec ℕ)). filter_map (λ (c : Option (Vec ℕ)). c) all ++ cs) (sym (one_given cycle))
      ∙ sym (filter_map-append (λ (c : Option (Vec ℕ)). c) all (cycle ∷ [])))),
)

pub all_of : (log : List Entry) (ends : List ThreadReport) (out : Option Spans) (waits : List (Option ℕ)) (n : ℕ) (cycles : List (Vec ℕ))
    → AreWaits log ends out waits → length (range_with_len 0 (length ends)) ≤ n
    → SoFar waits (range_with_len 0 (length ends)) n cycles → AreToldCycles log ends out cycles
all_of log ends out waits n cycles are le (all, each, is) = (
  waits,
  are,
  all,
  subst (λ (ns : List ℕ). AllZip (IsToldCycle waits) ns all) (take_all n (range_with_len 0 (length ends)) le) each,
  is,
)
