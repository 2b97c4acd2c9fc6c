use Rattle.std.proofs.Common.{ℕ, ◌≡◌, true, false, Option, None, ap, sym, subst, ◌∙◌}
use Rattle.types.specs.declared.event.Event.{Event}
use Rattle.types.specs.declared.event.Reply.{Reply}
use Rattle.shared_memory.specs.Memory.{Memory}
use Rattle.shared_memory_on_table.specs.declared.view.Caller.{Caller}
use Rattle.shared_memory_on_table.specs.Rule.{MakesTry}
use Rattle.types.specs.declared.event.Event.TheVariants.{Grow}
use Rattle.word_row.specs.Words.{IsStored}
use Rattle.word_row.specs.Answers.{size_answer}
use Rattle.word_row.specs.Rule.{Steps}
use Rattle.word_row.proofs.Settling.{size_is_answer}
use Rattle.word_row.specs.Rows.{HasPages}
use Rattle.word_row.proofs.Counts.{found-HasPages, accesses-HasPages}
use Rattle.word_row.proofs.Access.{few_pages, answered_try, Shows, shows, try-after}
use Rattle.word_row.proofs.row.WordRow.note.Goals as goal

-- what the page count answers, by the row's own maximum
told : (most max : ℕ) (event : Event) (count : ℕ) (by answer : Option Reply) → max ≡ most → by ≡ size_answer max event count → by ≡ answer
    → size_answer most event count ≡ answer
told most max event count by answer sized e is = ap (λ k. size_answer k event count) (sym sized) ∙ sym e ∙ is

-- where it answers nothing, the note showed the history
shown : (opening : Memory) (max : ℕ) (event : Event) (count : ℕ) (by : Option Reply) (c w : Caller) → max ≡ opening.max
    → by ≡ size_answer max event count → by ≡ None → Steps opening false event (size_answer opening.max event count) 0 c count w
    → Shows opening false 0 c count w
shown opening max event count by c w sized e is s =
    shows opening false event (size_answer opening.max event count) 0 count c w s (told opening.max max event count by None sized e is)

pub by_size-requires : goal.by_size-requires
by_size-requires g c =
    let opening : Memory = g.B.Naming.opening in
    let row = c.args.self.now.row in
    few_pages opening false c.args.event (size_answer opening.max c.args.event c.note-pages.result) c.note-pages.result
    c.args.caller.now c.note-pages.new.caller row.stored c.note-pages.ensures

-- the page count that the note found
counted_by : (opening : Memory) (event : Event) (count : ℕ) (c w : Caller) → IsStored opening
    → Steps opening false event (size_answer opening.max event count) 0 c count w → HasPages opening w.seen count
counted_by opening event count c w stored s = found-HasPages opening false event (size_answer opening.max event count) count c w stored s

pub returns-in-Some-clause-few : goal.returns-in-Some-clause-few
returns-in-Some-clause-few g c =
    let opening : Memory = g.B.Naming.opening in
    let count : ℕ = c.note-pages.result in
    few_pages opening false c.args.event (size_answer opening.max c.args.event count) count
    c.args.caller.now c.note-pages.new.caller c.args.self.now.row.stored c.note-pages.ensures

pub returns-in-Some-clause-counted : goal.returns-in-Some-clause-counted
returns-in-Some-clause-counted g c =
    counted_by g.B.Naming.opening c.args.event c.note-pages.result c.args.caller.now c.note-pages.new.caller c.args.self.now.row.stored c.note-pages.ensures

pub returns-in-Grow-clause-counted : goal.returns-in-Grow-clause-counted
returns-in-Grow-clause-counted g c =
    let opening : Memory = g.B.Naming.opening in
    let count : ℕ = c.note-pages.result in
    let w : Caller = c.note-pages.new.caller in
    let stored = c.args.self.now.row.stored in
    accesses-HasPages opening w.name w.has_queue_right (Grow c.in-Grow.more) w.seen c.exchange.new.caller.seen c.exchange.result count stored
    c.exchange.ensures.tried.outcome (counted_by opening c.args.event count c.args.caller.now w stored c.note-pages.ensures)

pub returns : goal.returns
returns g c =
    let opening : Memory = g.B.Naming.opening in
    let event : Event = c.args.event in
    let count : ℕ = c.note-pages.result in
    let w : Caller = c.note-pages.new.caller in
    let sh = shown opening _ event count _ c.args.caller.now c.note-pages.new.caller c.args.self.now.sized c.by_size.ensures c.in_default.is
    c.note-pages.ensures in
    record {
      tried = try-after opening event 0 count c.args.caller.now w c.touch.new.caller c.touch.result sh c.touch.ensures.tried;
      single = c.touch.ensures.single;
      few = few_pages opening false event (size_answer opening.max event count) count c.args.caller.now w c.args.self.now.row.stored c.note-pages.ensures;
      counted = accesses-HasPages opening w.name w.has_queue_right event w.seen c.touch.new.caller.seen c.touch.result count c.args.self.now.row.stored
          c.touch.ensures.tried.outcome (counted_by opening event count c.args.caller.now w c.args.self.now.row.stored c.note-pages.ensures);
    }

pub returns-in-Grow-clause-few : goal.returns-in-Grow-clause-few
returns-in-Grow-clause-few g c =
    let opening : Memory = g.B.Naming.opening in
    let count : ℕ = c.note-pages.result in
    few_pages opening false c.args.event (size_answer opening.max c.args.event count) count
    c.args.caller.now c.note-pages.new.caller c.args.self.now.row.stored c.note-pages.ensures

pub returns-in-Some-clause-tried : goal.returns-in-Some-clause-tried
returns-in-Some-clause-tried g c =
    let opening : Memory = g.B.Naming.opening in
    let event : Event = c.args.event in
    let count : ℕ = c.note-pages.result in
    let answer = told opening.max _ event count _ _ c.args.self.now.sized c.by_size.ensures c.in-Some.is in
    answered_try opening false event (size_answer opening.max event count) 0 count c.args.caller.now c.note-pages.new.caller c.in-Some.reply
    c.note-pages.ensures answer (size_is_answer opening.max event count)

pub returns-in-Grow-clause-tried : goal.returns-in-Grow-clause-tried
returns-in-Grow-clause-tried g c =
    let opening : Memory = g.B.Naming.opening in
    let event : Event = c.args.event in
    let count : ℕ = c.note-pages.result in
    let w : Caller = c.note-pages.new.caller in
    let sh = shown opening _ event count _ c.args.caller.now w c.args.self.now.sized c.by_size.ensures c.in_default.is c.note-pages.ensures in
    let tried = subst (λ (e : Event). MakesTry true opening None e c.exchange.result w c.exchange.new.caller) (sym c.in-Grow.is) c.exchange.ensures.tried in
    try-after opening event 0 count c.args.caller.now w c.exchange.new.caller c.exchange.result sh tried
