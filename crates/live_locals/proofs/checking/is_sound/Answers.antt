use Rattle.std.proofs.Common.{rules, ◌≡◌, Some, slice_get, subst, sym, refl, arith}
use Rattle.std.proofs.lemmas.Option.{slice_get_read}
use Rattle.live_locals.specs.Live.{IsLive, GoesTo}
use Rattle.live_locals.proofs.Sound.{sound_more, sound_all, flows_of}
use Rattle.live_locals.proofs.checking.is_sound.Goals as goal

pub returns-then-not-covers_all-clause-refuses : goal.returns-then-not-covers_all-clause-refuses
returns-then-not-covers_all-clause-refuses c sound =
    let code = c.args.code.now in
    let rows = c.args.table.now in
    let live = c.args.rows.now in
    let place = c.loop-place.place in
    let instr = c.index-code-place.result in
    let here : slice_get code place ≡ Some instr = slice_get_read code _ _ _ refl (omega arith) c.index-code-place.is in
    let no = c.if-not-covers_all.true in
    let yes = c.if-not-covers_all.ensures.refuses (λ next goes. flows_of code rows live sound place instr here next
    (subst (λ ts. GoesTo instr ts place next) c.targets_at.ensures goes)) in
    search rules

pub loop-place-preserved : goal.loop-place-preserved
loop-place-preserved c =
    let code = c.args.code.now in
    let rows = c.args.table.now in
    let live = c.args.rows.now in
    let place = c.loop-place.place in
    let instr = c.index-code-place.result in
    let here : slice_get code place ≡ Some instr = slice_get_read code _ _ _ refl (omega arith) c.index-code-place.is in
    sound_more code rows live place instr here c.loop-place.invariant
    (λ local reads. subst (λ row. IsLive row local) c.row_at.ensures (c.if-not-reads_live.ensures.accepts refl local reads))
    (λ next goes. c.if-not-covers_all.ensures.accepts refl next (subst (λ ts. GoesTo instr ts place next) (sym c.targets_at.ensures) goes))

pub returns-clause-accepts : goal.returns-clause-accepts
returns-clause-accepts c _ =
    sound_all c.args.code.now c.args.table.now c.args.rows.now c.loop-place.place (let done = c.loop-place-test.false in omega arith) c.loop-place.invariant
