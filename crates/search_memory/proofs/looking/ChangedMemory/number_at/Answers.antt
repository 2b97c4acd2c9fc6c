use Rattle.std.proofs.Common.{◌+◌, ◌-◌, ◌<◌, ◌≡◌, ◌∙◌, arith}
use Rattle.shared_memory_sequential.proofs.Bytes.{byte_below, fits_word, le_number-more}
use Rattle.search_memory.specs.Memories.{memory_at}
use Rattle.search_memory.proofs.Putting.{length_memory}
use Rattle.search_memory.proofs.looking.ChangedMemory.number_at.Goals as goal

pub bytes_at-bytes-requires-clause-inside : goal.bytes_at-bytes-requires-clause-inside
bytes_at-bytes-requires-clause-inside c = omega (arith, c.from.ensures, c.len-len.ensures, c.requires.inside)

pub overflow_mul-number : goal.overflow_mul-number
overflow_mul-number c =
    omega (arith, fits_word _ _ (omega arith) (byte_below _ _ 0 c.loop-i.invariant.small (omega arith)))

pub overflow_add-number : goal.overflow_add-number
overflow_add-number c =
    let byte : c.from-in-loop-i.result < 256 = omega (arith, c.from-in-loop-i.ensures, c.loop-i-test.element_fits.fits) in
    omega (arith, fits_word _ _ (omega arith) (byte_below _ _ _ c.loop-i.invariant.small byte))

pub loop-i-preserved : goal.loop-i-preserved
loop-i-preserved c =
    let bytes = (memory_at c.args.self.now).bytes in
    let byte : c.from-in-loop-i.result < 256 = omega (arith, c.from-in-loop-i.ensures, c.loop-i-test.element_fits.fits) in
    let next : c.args.width - (c.loop-i.i - 1) ≡ c.args.width - c.loop-i.i + 1 = omega arith in
    let long : c.len-len.result ≡ c.args.self.now.changed.now.len = c.len-len.ensures ∙ length_memory c.args.self.now.opening.now c.args.self.now.changed.now in
    let more = le_number-more bytes c.args.addr c.loop-i.i (c.loop-i.i - 1) c.args.width 0 (omega arith) (omega arith) c.requires.inside in
    record {
      value = cc (
        more,
        c.loop-i.invariant.value,
        c.from-in-loop-i.ensures,
        c.bytes_at-bytes.ensures (c.loop-i.i - 1) (omega (arith, c.loop-i-test.true, c.loop-i.auto.i)),
        c.as_slice-changes.ensures.value,
        long,
      );
      small = rw next (byte_below _ _ _ c.loop-i.invariant.small byte);
    }
