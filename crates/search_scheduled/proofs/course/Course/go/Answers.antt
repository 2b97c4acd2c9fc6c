use Rattle.std.proofs.Common.{ℕ, ◌<◌, List, length, Some, None, get_or, refl, inl, inr, sym, ◌∙◌, subst, arith}
use Rattle.replay_walk.specs.Standing.{MayBeTaken}
use Rattle.std.proofs.lemmas.Result.{err_from_is_err_and}
use Rattle.search_scheduled.specs.Courses.{GoesOn, IsNamed}
use Rattle.search_scheduled.specs.Courses.IsLed.{here, on}
use Rattle.search_scheduled.specs.Nowhere.{MakesNoEntry}
use Rattle.search_scheduled.proofs.Courses.{longer}
use Rattle.search_scheduled.proofs.Ready.{none_ready}
use Rattle.search_scheduled.proofs.course.Course.go.Goals as goal

pub loop-init : goal.loop-init
loop-init g c = (λ r came. came, here, omega arith, λ first v h. h)

pub advance-requires : goal.advance-requires
advance-requires g c = (c.requires.0, c.loop.invariant.0 c.requires.0 c.requires.1)

pub loop-preserved : goal.loop-preserved
loop-preserved g c =
    let m = g.T.TakesTurns.meaning in
    let inv = c.loop.invariant in
    let place = c.in-Some.place in
    let e = c.in_ok-entry.entry in
    let goes = subst (λ (l : List ℕ). GoesOn m (get_or l place 0) e c.loop.self c.advance.new.self) c.deref-in-loop.ensures.0
    c.in_ok-entry.ensures.goes in
    let named : IsNamed m g.S.Strategy.chooses g.S.Strategy.hears c.loop.self c.loop.strategy c.advance.new.self c.hear.new.self = record {
      ready = c.ready-ready.result.items;
      each = c.ready-ready.ensures.each;
      place = place;
      asked = c.choose.new.self;
      chosen = subst (λ (l : List ℕ). g.S.Strategy.chooses c.loop.strategy l (Some place) c.choose.new.self) c.deref.ensures.0
          c.in-Some.ensures.chosen;
      entry = e;
      goes = goes;
      heard = c.hear.ensures;
    } in (
      λ r came. goes.runs r (inv.0 r came),
      on c.loop.self c.loop.strategy c.advance.new.self c.hear.new.self inv.1 named,
      omega (arith, inv.2, longer m _ e c.loop.self c.advance.new.self goes),
      λ first v h. c.in_ok-entry.ensures.ear first v (inv.3 first v h),
    )

pub returns-in_default-clause-given_up : goal.returns-in_default-clause-given_up
returns-in_default-clause-given_up g c = λ same. record {
  course = c.loop.self;
  before = c.loop.strategy;
  led = c.loop.invariant.1;
  ready = c.ready-ready.result.items;
  each = c.ready-ready.ensures.each;
  answer = None;
  chosen = subst (λ (l : List ℕ). g.S.Strategy.chooses c.loop.strategy l None c.choose.new.self) c.deref.ensures.0
      c.in_default.ensures.chosen;
  gives_up = inl refl;
}

pub returns-in_err-entry-clause-given_up : goal.returns-in_err-entry-clause-given_up
returns-in_err-entry-clause-given_up g c =
    let m = g.T.TakesTurns.meaning in
    let p = err_from_is_err_and c.from_residual.result c.from_residual.ensures.1 in
    rw (p.1, p.2) (λ same. record {
      course = c.loop.self;
      before = c.loop.strategy;
      led = c.loop.invariant.1;
      ready = c.ready-ready.result.items;
      each = c.ready-ready.ensures.each;
      answer = Some c.in-Some.place;
      chosen = subst (λ (l : List ℕ). g.S.Strategy.chooses c.loop.strategy l (Some c.in-Some.place) c.choose.new.self) c.deref.ensures.0
          c.in-Some.ensures.chosen;
      gives_up = inr (c.in_err-entry.ensures.over same);
    })

pub returns-then-is_empty-clause-ends : goal.returns-then-is_empty-clause-ends
returns-then-is_empty-clause-ends g c =
    inl (none_ready g.T.TakesTurns.meaning c.loop.self.walk.stage c.ready-ready.result.items (sym c.if-is_empty.true ∙ c.is_empty.ensures)
    c.ready-ready.ensures.each)

pub returns-in_err-entry-clause-stranded : goal.returns-in_err-entry-clause-stranded
returns-in_err-entry-clause-stranded g c =
    let m = g.T.TakesTurns.meaning in
    let place = c.in-Some.place in
    let ready = c.ready-ready.result.items in
    let within = subst (λ (l : List ℕ). place < length l) c.deref.ensures.0 c.in-Some.ensures.place in
    let p = err_from_is_err_and c.from_residual.result c.from_residual.ensures.1 in
    rw (p.1, p.2) (λ same. record {
      course = c.loop.self;
      before = c.loop.strategy;
      led = c.loop.invariant.1;
      ready = ready;
      each = c.ready-ready.ensures.each;
      place = place;
      asked = c.choose.new.self;
      chosen = subst (λ (l : List ℕ). g.S.Strategy.chooses c.loop.strategy l (Some place) c.choose.new.self) c.deref.ensures.0
          c.in-Some.ensures.chosen;
      none = subst (λ (l : List ℕ). MakesNoEntry m c.loop.self.walk (get_or l place 0)) c.deref-in-loop.ensures.0
          (c.in_err-entry.ensures.none same (subst (λ (l : List ℕ). MayBeTaken m c.loop.self.walk.stage (get_or l place 0))
          (sym c.deref-in-loop.ensures.0) (c.ready-ready.ensures.each.can place 0 within)));
    })
