use Rattle.std.proofs.Common.{ℕ, ◌≡◌, ◌≤◌, true, false, Some, None, length, refl, ◌∙◌, sym, ap, subst}
use Rattle.types.specs.declared.event.Event.{Event}
use Rattle.types.specs.declared.event.Event.TheVariants.{Rmw, Store}
use Rattle.types.specs.declared.event.Reply.TheVariants.{Value, Done}
use Rattle.shared_memory.specs.Events.{IsEvent, is_of_queue}
use Rattle.shared_memory.specs.History.{memory_after}
use Rattle.shared_memory.specs.Memory.{Memory}
use Rattle.shared_memory_on_table.specs.Rule.{MakesTry}
use Rattle.word_row.specs.Answers.{IsMadeBy, end_of, made_reply, place_of, word_answer}
use Rattle.word_row.proofs.Singles.{store_made}
use Rattle.word_row.proofs.Access.{answered_try, shows, try-after, still_within}
use Rattle.word_row.proofs.Settling.{word_is_answer}
use Rattle.word_row.proofs.row.WordRow.touch.Goals.{in-Store+else-width-eq8, in-Rmw+in_default-single_of, in-Size-1}
use Rattle.word_row.proofs.row.WordRow.touch.Goals as goal

pub store-requires-clause-makes : goal.store-requires-clause-makes
store-requires-clause-makes g c =
    let st = c.in-Store in
    let is = st.is ∙ ap (λ w. Store st.addr w st.reach st.value) c.if-width-eq8.true in
    let event : IsEvent (Store st.addr 8 st.reach st.value) = subst IsEvent is c.requires.event in
    subst (λ (w : ℕ). IsMadeBy (Store st.addr w st.reach st.value) (λ _. st.value)) (sym c.if-width-eq8.true)
    (store_made st.addr st.reach st.value event.0)

pub fetch-word-requires-clause-makes : goal.fetch-word-requires-clause-makes
fetch-word-requires-clause-makes g c = c.in-Some.ensures.made

pub store-requires-clause-row : goal.store-requires-clause-row
store-requires-clause-row g c = c.args.self.now.row

pub store-requires-clause-event : goal.store-requires-clause-event
store-requires-clause-event g c = subst IsEvent c.in-Store.is c.requires.event

pub store-requires-clause-right : goal.store-requires-clause-right
store-requires-clause-right g c = subst (λ (e : Event). is_of_queue e ≡ true → c.args.caller.now.has_queue_right ≡ true) c.in-Store.is c.requires.right

pub store-requires-clause-within : goal.store-requires-clause-within
store-requires-clause-within g c =
    subst (λ (e : Event). end_of e ≤ length (memory_after g.B.Naming.opening c.args.caller.now.seen).bytes) c.in-Store.is c.requires.within

pub fetch-word-requires-clause-row : goal.fetch-word-requires-clause-row
fetch-word-requires-clause-row g c = c.args.self.now.row

pub fetch-word-requires-clause-event : goal.fetch-word-requires-clause-event
fetch-word-requires-clause-event g c = subst IsEvent c.in-Rmw.is c.requires.event

pub fetch-word-requires-clause-right : goal.fetch-word-requires-clause-right
fetch-word-requires-clause-right g c = subst (λ (e : Event). is_of_queue e ≡ true → c.args.caller.now.has_queue_right ≡ true) c.in-Rmw.is c.requires.right

pub fetch-word-requires-clause-within : goal.fetch-word-requires-clause-within
fetch-word-requires-clause-within g c =
    subst (λ (e : Event). end_of e ≤ length (memory_after g.B.Naming.opening c.args.caller.now.seen).bytes) c.in-Rmw.is c.requires.within

pub returns-in-Store-clause-tried : goal.returns-in-Store-clause-tried
returns-in-Store-clause-tried g c =
    let e : Event = Store c.in-Store.addr c.in-Store.width c.in-Store.reach c.in-Store.value in
    subst (λ (w : Event). MakesTry true g.B.Naming.opening None w Done c.args.caller.now c.store.new.caller) (sym c.in-Store.is)
    (answered_try g.B.Naming.opening false e (Some Done) (place_of e) c.store.ensures.0 c.args.caller.now c.store.new.caller Done c.store.ensures.1 refl tt)

pub returns-in-Some-clause-tried : goal.returns-in-Some-clause-tried
returns-in-Some-clause-tried g c =
    let e : Event = Rmw c.in-Rmw.op c.in-Rmw.addr c.in-Rmw.width c.in-Rmw.value in
    let word : ℕ = c.fetch-word.result in
    subst (λ (v : ℕ). MakesTry true g.B.Naming.opening None c.args.event (Value v) c.args.caller.now c.fetch-word.new.caller) (sym c.lane.ensures)
    (subst (λ (w : Event). MakesTry true g.B.Naming.opening None w (made_reply e word) c.args.caller.now c.fetch-word.new.caller) (sym c.in-Rmw.is)
    (answered_try g.B.Naming.opening false e (Some (made_reply e word)) (place_of e) word c.args.caller.now c.fetch-word.new.caller
    (made_reply e word) c.fetch-word.ensures refl tt))

pub exchange-requires-clause-within : goal.exchange-requires-clause-within
exchange-requires-clause-within g c =
    let opening : Memory = g.B.Naming.opening in
    let event : Event = c.match-event.event in
    let word : ℕ = c.read-word.result in
    let sh = shows opening false event (word_answer event word) (place_of event) word c.args.caller.now c.read-word.new.caller c.read-word.ensures
    (c.in-Exchange.ensures 0).0 in
    let same : c.match-event.event ≡ c.args.event =
    elim c.match-event.branch [
      | in-Store+else-width-eq8 w ↦ w.event-is ∙ sym w.in-Store.is
      | in-Rmw+in_default-single_of w ↦ w.event-is ∙ sym w.in-Rmw.is
      | in-Size-1 w ↦ w.event-is
    ] in
    let within = subst (λ (e : Event). end_of e ≤ length (memory_after opening c.args.caller.now.seen).bytes) (sym same) c.requires.within in
    still_within opening event (place_of event) word c.args.caller.now c.read-word.new.caller c.args.self.now.row.stored sh within

pub exchange-requires-clause-change : goal.exchange-requires-clause-change
exchange-requires-clause-change g c = (c.in-Exchange.ensures g.B.Naming.opening.max).1

pub exchange-requires-clause-word : goal.exchange-requires-clause-word
exchange-requires-clause-word g c =
    let event : Event = c.match-event.event in
    let word : ℕ = c.read-word.result in
    (shows g.B.Naming.opening false event (word_answer event word) (place_of event) word c.args.caller.now c.read-word.new.caller c.read-word.ensures
    (c.in-Exchange.ensures 0).0).word

pub returns-in-Answer-clause-tried : goal.returns-in-Answer-clause-tried
returns-in-Answer-clause-tried g c =
    let event : Event = c.match-event.event in
    let word : ℕ = c.read-word.result in
    let same : c.match-event.event ≡ c.args.event =
    elim c.match-event.branch [
      | in-Store+else-width-eq8 w ↦ w.event-is ∙ sym w.in-Store.is
      | in-Rmw+in_default-single_of w ↦ w.event-is ∙ sym w.in-Rmw.is
      | in-Size-1 w ↦ w.event-is
    ] in
    subst (λ (e : Event). MakesTry true g.B.Naming.opening None e c.in-Answer.reply c.args.caller.now c.read-word.new.caller) same
    (answered_try g.B.Naming.opening false event (word_answer event word) (place_of event) word c.args.caller.now c.read-word.new.caller
    c.in-Answer.reply c.read-word.ensures (c.in-Answer.ensures 0) (word_is_answer event word))

pub returns-in-Exchange-clause-tried : goal.returns-in-Exchange-clause-tried
returns-in-Exchange-clause-tried g c =
    let opening : Memory = g.B.Naming.opening in
    let event : Event = c.match-event.event in
    let word : ℕ = c.read-word.result in
    let sh = shows opening false event (word_answer event word) (place_of event) word c.args.caller.now c.read-word.new.caller c.read-word.ensures
    (c.in-Exchange.ensures 0).0 in
    let same : c.match-event.event ≡ c.args.event =
    elim c.match-event.branch [
      | in-Store+else-width-eq8 w ↦ w.event-is ∙ sym w.in-Store.is
      | in-Rmw+in_default-single_of w ↦ w.event-is ∙ sym w.in-Rmw.is
      | in-Size-1 w ↦ w.event-is
    ] in
    subst (λ (e : Event). MakesTry true opening None e c.exchange.result c.args.caller.now c.exchange.new.caller) same
    (try-after opening event (place_of event) word c.args.caller.now c.read-word.new.caller c.exchange.new.caller c.exchange.result sh
    c.exchange.ensures.tried)
