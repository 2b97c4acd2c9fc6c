use Rattle.std.proofs.Common.{◌≡◌, ◌∙◌, ◌<◌, ◌+◌, ℕ, List, length, get_or, false, subst, sym, ap, arith}
use Rattle.std.specs.List.{Contains, fold}
use Rattle.types.specs.declared.event.Entry.{Entry}
use Rattle.types.specs.declared.event.Event.TheVariants.{Size}
use Rattle.types.specs.declared.event.Reply.TheVariants.{Value}
use Rattle.race_history.specs.declared.access.AccessKind.TheVariants.{Plain}
use Rattle.race_history.specs.declared.access.Site.{Site}
use Rattle.race_history.specs.declared.access.ThreadAccess.{ThreadAccess}
use Rattle.race_history.specs.Accesses.{accesses_of}
use Rattle.race_history.specs.Lasts.{AreLasts, keeping, table}
use Rattle.race_history.specs.Sources.{rows}
use Rattle.race_history.specs.Writers.{AreWriters, writers_in}
use Rattle.race_history.proofs.Clocked.{rows_push}
use Rattle.race_history.proofs.Keeping.{lasts_more, lasts_none}
use Rattle.race_history.proofs.Lists.{IsAt-get}
use Rattle.race_history.proofs.Reading.{is-writers_in, writers_in-is, writers_more, writers_none}
use Rattle.race_history.proofs.writers.find_writers.Goals as goal

abbrev first : Entry
first = record { thread = 0; event = Size; reply = Value 0 }

abbrev nowhere : Site
nowhere = record { kind = Plain; code = 0; is_allowed = false }

pub loop-place-init : goal.loop-place-init
loop-place-init c =
    let log = c.args.log.now in
    let sites = c.args.sites.now in
    let opening = c.args.opening in
    record {
      lasts = subst (AreLasts log sites opening 0) (sym c.in_ok-lasts.ensures) (lasts_none log sites opening (length log + 1) (omega arith));
      found = subst (λ l. AreWriters log sites opening 0 (rows l)) (sym c.in_ok-found.ensures.items) (writers_none log sites opening);
    }

pub loop-place-preserved : goal.loop-place-preserved
loop-place-preserved c =
    let log = c.args.log.now in
    let sites = c.args.sites.now in
    let opening = c.args.opening in
    let place = c.loop-place.place in
    let lists = table c.loop-place.lasts in
    let within : place < length log = omega arith in
    let known : place < length sites = omega (arith, c.requires.sites) in
    let e = get_or log place first in
    let site = get_or sites place nowhere in
    let at = IsAt-get log place first within in
    let of = IsAt-get sites place nowhere known in
    let old = c.loop-place.invariant in
    let here = c.in_ok-writers_in.field-0 in
    let made : c.as_slice-made.result.now ≡ accesses_of e site opening = c.as_slice-made.ensures.value ∙ c.in_ok-accesses.ensures in
    let is : here.items ≡ writers_in lists (accesses_of e site opening) =
    c.in_ok-writers_in.ensures ∙ ap (λ (l : List ThreadAccess). writers_in lists l) made in
    let kept : table c.keep_all.new.self ≡ fold (keeping place) lists (accesses_of e site opening) =
    c.in_ok-keep_all.ensures ∙ ap (λ (l : List ThreadAccess). fold (keeping place) lists l) made in
    record {
      lasts =
          subst (AreLasts log sites opening (place + 1)) (sym kept) (lasts_more log sites opening place lists e site at of old.lasts);
      found =
          subst (λ l. AreWriters log sites opening (place + 1) (rows l)) (sym c.in_ok-push.ensures.items)
          (subst (AreWriters log sites opening (place + 1)) (sym (rows_push c.loop-place.found.items here))
          (writers_more log sites opening place (rows c.loop-place.found.items) here.items old.found
          (λ k h. writers_in-is log sites opening c.requires.entries place lists old.lasts e site at of k
          (subst (λ (l : List ℕ). Contains l k) is h))
          (λ k r. subst (λ (l : List ℕ). Contains l k) (sym is)
          (is-writers_in log sites opening c.requires.entries place lists old.lasts e site at of k r))));
    }

pub returns : goal.returns
returns c =
    let all : c.loop-place.place ≡ length c.args.log.now = omega arith in
    subst (λ (n : ℕ). AreWriters c.args.log.now c.args.sites.now c.args.opening n (rows c.loop-place.found.items)) all
    c.loop-place.invariant.found
