use Rattle.std.proofs.Common.{◌+◌, ◌-◌, ◌/◌, ◌%◌, ◌≡◌, ◌<◌, ◌≤◌, ◌∙◌, ◌++◌, ℕ, List, [], set, filter, refl, arith, ap, sym, subst}
use Rattle.std.specs.List.{splice}
use Rattle.shared_memory.specs.Numbers.{le_bytes}
use Rattle.shared_memory_sequential.proofs.Bytes.{write_more, splice_none}
use Rattle.search_memory.specs.declared.beside.ChangedByte.{ChangedByte}
use Rattle.search_memory.specs.Memories.{memory_at, padded, changed_bytes, change_to, is_below, is_since, AreDifferences}
use Rattle.search_memory.proofs.Putting.{length_memory, length_bytes, sized_alike, parted, AreBelow, below, put_there, put_below}
use Rattle.search_memory.proofs.Forms.{lower, since, behind, pushed_byte}
use Rattle.search_memory.proofs.looking.ChangedMemory.written.Goals as goal

pub loop-i-init : goal.loop-i-init
loop-i-init c =
    let opening = c.args.self.now.opening.now in
    let changed = c.args.self.now.changed.now in
    let all = changed.changes.items in
    let addr = c.args.addr in
    let end = addr + c.args.width in
    let here : addr + 0 ≡ addr = omega arith in
    let low : c.put_lower.new.all.items ≡ filter (is_below addr) all =
    c.in_ok-put_lower.ensures ∙ (ap (λ (xs : List ChangedByte). xs ++ filter (is_below addr) c.as_slice-before.result.now) c.in_ok-changes.ensures.items ∙ ap (filter (is_below addr)) c.as_slice-before.ensures.value) in
    let number = le_bytes (c.args.width - 0) c.args.value in
    record {
      below = subst (λ k. AreBelow k c.put_lower.new.all.items) (sym here) (subst (AreBelow addr) (sym low) (below addr all));
      bytes = ap (λ k. splice (changed_bytes opening changed.len (c.put_lower.new.all.items ++ filter (is_since k) all)) k end number) here
          ∙ (ap (λ (xs : List ChangedByte). splice (changed_bytes opening changed.len (xs ++ filter (is_since addr) all)) addr end number) low
          ∙ (ap (λ bs. splice bs addr end number) (parted (padded opening changed.len) addr all)
          ∙ ap (λ k. splice (memory_at c.args.self.now).bytes addr end (le_bytes k c.args.value)) (omega arith)));
      differences = λ are. subst (λ k. AreDifferences opening 0 k c.put_lower.new.all.items) (sym here)
          (subst (AreDifferences opening 0 addr) (sym low) (lower opening 0 changed.len addr all are));
    }

pub loop-i-preserved : goal.loop-i-preserved
loop-i-preserved c =
    let opening = c.args.self.now.opening.now in
    let changed = c.args.self.now.changed.now in
    let all = changed.changes.items in
    let addr = c.args.addr in
    let i = c.loop-i.i in
    let width = c.args.width in
    let byte = c.loop-i.rest % 256 in
    let cs = c.loop-i.changes.items in
    let new = c.put_byte.new.all.items in
    let next : addr + i + 1 ≡ addr + (i + 1) = omega arith in
    let within : addr + i < changed.len = omega (arith, length_memory opening changed, c.requires, c.loop-i-test.true, c.from-i-end.ensures) in
    let one : new ≡ cs ++ change_to opening (addr + i) byte = c.in_ok-put_byte.ensures in
    let bytes = changed_bytes opening changed.len (cs ++ filter (is_since (addr + i)) all) in
    let same : changed_bytes opening changed.len (new ++ filter (is_since (addr + (i + 1))) all) ≡ set bytes (addr + i) byte =
    ap (λ k. changed_bytes opening changed.len (new ++ filter (is_since k) all)) (sym next)
    ∙ (ap (λ (xs : List ChangedByte). changed_bytes opening changed.len (xs ++ filter (is_since (addr + i + 1)) all)) one
    ∙ put_there opening changed.len (addr + i) byte within cs all c.loop-i.invariant.below) in
    let more = write_more bytes addr i width c.loop-i.rest (omega (arith, c.loop-i-test.true, c.from-i-end.ensures))
    (omega (arith, length_bytes opening changed.len (cs ++ filter (is_since (addr + i)) all), length_memory opening changed, c.requires)) in
    record {
      below = subst (λ k. AreBelow k new) next (subst (AreBelow (addr + i + 1)) (sym one)
          (put_below opening changed.len (addr + i) byte within cs all c.loop-i.invariant.below));
      bytes = ap (λ bs. splice bs (addr + (i + 1)) (addr + width) (le_bytes (width - (i + 1)) (c.loop-i.rest / 256))) same ∙ (more ∙ c.loop-i.invariant.bytes);
      differences = λ are. subst (λ k. AreDifferences opening 0 k new) next (subst (AreDifferences opening 0 (addr + i + 1)) (sym one)
          (pushed_byte opening (addr + i) byte cs (c.loop-i.invariant.differences are)));
    }

pub returns-clause-sized : goal.returns-clause-sized
returns-clause-sized c sized =
    let opening = c.args.self.now.opening.now in
    let changed = c.args.self.now.changed.now in
    sized_alike opening (record { len = c.len-len.result; max = changed.max; changes = c.put_others.new.all }) changed
    (c.len-len.ensures ∙ length_memory opening changed) refl sized

pub returns-clause-written : goal.returns-clause-written
returns-clause-written c =
    let opening = c.args.self.now.opening.now in
    let changed = c.args.self.now.changed.now in
    let before = changed.changes.items in
    let addr = c.args.addr in
    let width = c.args.width in
    let i = c.loop-i.i in
    let long : c.len-len.result ≡ changed.len = c.len-len.ensures ∙ length_memory opening changed in
    let all : i ≡ width = omega (arith, c.loop-i-test.false, c.from-i-end.ensures, c.loop-i.auto.i-end) in
    let end : addr + c.from-2.result ≡ addr + i = omega (arith, all, c.from-2.ensures) in
    let is : c.put_others.new.all.items ≡ c.loop-i.changes.items ++ filter (is_since (addr + i)) before =
    c.in_ok-put_others.ensures
    ∙ (ap (λ (xs : List ChangedByte). c.loop-i.changes.items ++ filter (is_since (addr + c.from-2.result)) xs) c.as_slice-before.ensures.value
    ∙ ap (λ k. c.loop-i.changes.items ++ filter (is_since k) before) end) in
    let bytes = changed_bytes opening changed.len (c.loop-i.changes.items ++ filter (is_since (addr + i)) before) in
    let none : width - i ≡ 0 = omega (arith, all) in
    let done : bytes ≡ splice bytes (addr + i) (addr + width) (le_bytes (width - i) c.loop-i.rest) =
    sym (ap (λ k. splice bytes (addr + i) (addr + width) (le_bytes k c.loop-i.rest)) none
    ∙ (ap (λ k. splice bytes (addr + k) (addr + width) []) all ∙ splice_none bytes (addr + width))) in
    ap (λ n. record { bytes = changed_bytes opening n c.put_others.new.all.items; max = changed.max }) long
    ∙ ap (λ (bs : List ℕ). record { bytes = bs; max = changed.max }) (ap (changed_bytes opening changed.len) is ∙ (done ∙ c.loop-i.invariant.bytes))

pub returns-clause-differences : goal.returns-clause-differences
returns-clause-differences c are =
    let opening = c.args.self.now.opening.now in
    let changed = c.args.self.now.changed.now in
    let before = changed.changes.items in
    let addr = c.args.addr in
    let end = addr + c.loop-i.i in
    let long : changed.len ≡ c.len-len.result = sym (c.len-len.ensures ∙ length_memory opening changed) in
    let within : end ≤ changed.len = omega (arith, length_memory opening changed, c.requires, c.from-i-end.ensures, c.loop-i.auto.i-end) in
    let there : addr + c.from-2.result ≡ end = omega (arith, c.loop-i-test.false, c.from-i-end.ensures, c.loop-i.auto.i-end, c.from-2.ensures) in
    let is : c.put_others.new.all.items ≡ c.loop-i.changes.items ++ filter (is_since end) before =
    c.in_ok-put_others.ensures
    ∙ (ap (λ (xs : List ChangedByte). c.loop-i.changes.items ++ filter (is_since (addr + c.from-2.result)) xs) c.as_slice-before.ensures.value
    ∙ ap (λ k. c.loop-i.changes.items ++ filter (is_since k) before) there) in
    subst (λ n. AreDifferences opening 0 n c.put_others.new.all.items) long (subst (AreDifferences opening 0 changed.len) (sym is)
    (behind opening 0 end changed.len c.loop-i.changes.items (filter (is_since end) before) (omega arith) within
    (c.loop-i.invariant.differences are) (since opening 0 changed.len end before are)))
