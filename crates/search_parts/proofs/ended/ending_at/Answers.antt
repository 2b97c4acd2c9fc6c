use Rattle.std.proofs.Common.{◌≡◌, ◌∙◌, List, Some, ap, refl, subst, sym}
use Rattle.shared_memory_sequential.specs.Opening.{IsSized}
use Rattle.search_memory.specs.Memories.{memory_of}
use Rattle.search_endings.specs.Endings.{Ending, ending_with}
use Rattle.search_runs.specs.Ends.{HasEndedSo}
use Rattle.search_parts.specs.Endings.{HaveLeft, IsOneHere}
use Rattle.search_parts.specs.declared.shared.Common.{Common}
use Rattle.search_parts.specs.declared.shared.HashedThread.{HashedThread}
use Rattle.search_parts.proofs.Leaving.{ended, not_ended, one_ending, some_same}
use Rattle.search_parts.proofs.ended.ending_at.Goals as goal

pub memory-requires : goal.memory-requires
memory-requires c =
    let r = c.requires in
    let at = r.2.3.1 in
    subst (λ (v : Common). IsSized (memory_of c.args.opening.now v.memory)) r.1.0 at.settled_is.shared.sized

pub returns-in_default : goal.returns-in_default
returns-in_default c = λ flat parts w b allowed.
    let here = rw c.in_default.is at c.in_ok-outcomes.ensures in
    let one = subst (λ (ts : List HashedThread). IsOneHere ts) (sym parts.1) here in
    record {
      all = λ z o at end. absurd (not_ended w b allowed c.args.opening.now flat z at c.args.dump one o end);
      sound = λ z o at h. absurd (cc h);
    }

pub returns : goal.returns
returns c = λ flat parts w b allowed.
    let left = rw c.in-Some.is at c.in_ok-outcomes.ensures in
    let have = subst (λ (ts : List HashedThread). HaveLeft ts c.in-Some.outcomes.items) (sym parts.1) left in
    let m = c.in_ok-memory.memory in
    let is = c.in_ok-memory.ensures ∙ ap (λ (v : Common). memory_of c.args.opening.now v.memory) (sym parts.0) in
    let e = c.in_ok-ending.ending in
    let so : Ending = ending_with c.args.dump c.in-Some.outcomes.items c.pages.result m.bytes in
    let same : e ≡ so =
    c.in_ok-ending.ensures ∙ ap (ending_with c.args.dump c.in-Some.outcomes.items c.pages.result) c.bytes.ensures.value in
    record {
      all = λ z o at end. ap (λ (x : Ending). Some x) (one_ending c.args.dump z e o
          (subst (λ (x : Ending). HasEndedSo c.args.dump z x) (sym same)
          (ended w b allowed c.args.opening.now flat z at c.args.dump so m have is c.pages.ensures refl)) end);
      sound = λ z o at h. subst (HasEndedSo c.args.dump z) (some_same e o h)
          (subst (λ (x : Ending). HasEndedSo c.args.dump z x) (sym same)
          (ended w b allowed c.args.opening.now flat z at c.args.dump so m have is c.pages.ensures refl));
    }
