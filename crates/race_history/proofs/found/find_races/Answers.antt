use Rattle.std.proofs.Common.{◌≡◌, ◌∙◌, ◌<◌, ◌≤◌, ◌+◌, ◌++◌, ℕ, List, [], length, get_or, false, map, subst, sym, ap, arith}
use Rattle.std.specs.Global.{Vec}
use Rattle.std.specs.List.{All, fold}
use Rattle.types.specs.declared.event.Entry.{Entry}
use Rattle.types.specs.declared.event.Event.TheVariants.{Size}
use Rattle.types.specs.declared.event.Reply.TheVariants.{Value}
use Rattle.race_history.specs.declared.access.AccessKind.TheVariants.{Plain}
use Rattle.race_history.specs.declared.access.Site.{Site}
use Rattle.race_history.specs.declared.access.ThreadAccess.{ThreadAccess}
use Rattle.race_history.specs.declared.lasts.Last.{Last}
use Rattle.race_history.specs.declared.race.Race.{Race}
use Rattle.race_history.specs.Accesses.{accesses_of}
use Rattle.race_history.specs.Found.{HaveMore, IsClashOf, race_to}
use Rattle.race_history.specs.Lasts.{AreLasts, keeping, table}
use Rattle.race_history.specs.Races.{AreInOrder, AreRaces, IsCut}
use Rattle.race_history.specs.Sources.{rows}
use Rattle.race_history.proofs.Clocked.{rows_at, rows_length}
use Rattle.race_history.proofs.Keeping.{lasts_more, lasts_none}
use Rattle.race_history.proofs.Lists.{IsAt-get}
use Rattle.race_history.proofs.Racing.{AreFound, HasEachTo, cut_in_order, cut_is, cut_races, each_all, found_more, found_none, threads_known}
use Rattle.race_history.proofs.found.find_races.Goals as goal

abbrev first : Entry
first = record { thread = 0; event = Size; reply = Value 0 }

abbrev nowhere : Site
nowhere = record { kind = Plain; code = 0; is_allowed = false }

pub loop-place-init : goal.loop-place-init
loop-place-init c =
    let log = c.args.log.now in
    let sites = c.args.sites.now in
    let opening = c.args.opening in
    record {
      lasts = subst (AreLasts log sites opening 0) (sym c.in_ok-lasts.ensures) (lasts_none log sites opening (length log + 1) (omega arith));
      found = subst (AreFound log sites opening 0) (sym c.new-pairs.ensures.items) (found_none log sites opening);
      few = subst (λ (l : List Race). length l ≤ c.args.most) (sym c.new-pairs.ensures.items) (omega arith);
    }

pub find_clashes-requires-clause-threads : goal.find_clashes-requires-clause-threads
find_clashes-requires-clause-threads c =
    let log = c.args.log.now in
    let clocks = c.args.clocks.now in
    let place = c.loop-place.place in
    let within : place < length log = omega arith in
    let count : length clocks ≡ length log = sym (rows_length clocks) ∙ c.requires.clocks.count in
    let clock : get_or (rows clocks) place [] ≡ c.as_slice.result.now =
    rows_at clocks place c.index-clocks-place.result (omega arith)
    ∙ (ap (λ (v : Vec ℕ). v.items) (sym c.index-clocks-place.is) ∙ sym c.as_slice.ensures.value) in
    let wide : length c.as_slice.result.now ≡ c.args.threads =
    ap (λ (l : List ℕ). length l) (sym clock) ∙ (c.requires.clocks.each place within).wide in
    subst (λ (n : ℕ). All (All (λ (x : Last). x.access.thread < n)) (table c.loop-place.lasts)) (sym wide)
    (threads_known log c.args.sites.now c.args.opening c.args.threads place (table c.loop-place.lasts) c.requires.threads
    c.loop-place.invariant.lasts)

-- the races where there are more than are asked for
found_here : (c : goal.After-drop-lasts-then-len-most)
    → AreFound c.args.log.now c.args.sites.now c.args.opening (c.loop-place.place + 1) c.add_races.new.pairs.items
found_here c =
    let log = c.args.log.now in
    let sites = c.args.sites.now in
    let opening = c.args.opening in
    let place = c.loop-place.place in
    let clocks = c.args.clocks.now in
    let lists = table c.loop-place.lasts in
    let within : place < length log = omega arith in
    let known : place < length sites = omega (arith, c.requires.sites) in
    let e = get_or log place first in
    let site = get_or sites place nowhere in
    let count : length clocks ≡ length log = sym (rows_length clocks) ∙ c.requires.clocks.count in
    let clock : get_or (rows clocks) place [] ≡ c.as_slice.result.now =
    rows_at clocks place c.index-clocks-place.result (omega arith)
    ∙ (ap (λ (v : Vec ℕ). v.items) (sym c.index-clocks-place.is) ∙ sym c.as_slice.ensures.value) in
    let firsts = c.in_ok-firsts.firsts.items in
    let made : c.as_slice-made.result.now ≡ accesses_of e site opening = c.as_slice-made.ensures.value ∙ c.in_ok-accesses.ensures in
    let more : HaveMore [] firsts (IsClashOf (accesses_of e site opening) (get_or (rows clocks) place []) lists) =
    subst (λ (l : List ℕ). HaveMore [] firsts (IsClashOf (accesses_of e site opening) l lists)) (sym clock)
    (subst (λ (l : List ThreadAccess). HaveMore [] firsts (IsClashOf l c.as_slice.result.now lists)) made
    c.in_ok-firsts.ensures) in
    let named : c.add_races.new.pairs.items ≡ c.loop-place.pairs.items ++ map (race_to place) firsts =
    c.in_ok-add_races.ensures ∙ ap (λ (l : List ℕ). c.loop-place.pairs.items ++ map (race_to place) l) c.as_slice-in-loop-place.ensures.value in
    subst (AreFound log sites opening (place + 1)) (sym named)
    (found_more log sites opening c.requires.entries c.args.threads place lists c.loop-place.invariant.lasts (rows clocks) c.requires.clocks
    e site (IsAt-get log place first within) (IsAt-get sites place nowhere known) firsts more c.loop-place.pairs.items
    c.loop-place.invariant.found)

over : (c : goal.After-drop-lasts-then-len-most) → c.args.most < length c.add_races.new.pairs.items
over c = omega (arith, c.len.ensures, c.if-len-most.true, c.add_races.new.pairs.ok.0)

pub returns-then-len-most-clause-races : goal.returns-then-len-most-clause-races
returns-then-len-most-clause-races c =
    subst (AreRaces c.args.log.now c.args.sites.now c.args.opening) (sym c.truncate.ensures.items)
    (cut_races c.args.log.now c.args.sites.now c.args.opening (c.loop-place.place + 1) c.args.most c.add_races.new.pairs.items (found_here c) (over c))

pub returns-then-len-most-clause-in_order : goal.returns-then-len-most-clause-in_order
returns-then-len-most-clause-in_order c =
    subst AreInOrder (sym c.truncate.ensures.items)
    (cut_in_order c.args.log.now c.args.sites.now c.args.opening (c.loop-place.place + 1) c.args.most c.add_races.new.pairs.items (found_here c) (over c))

pub returns-then-len-most-clause-cut : goal.returns-then-len-most-clause-cut
returns-then-len-most-clause-cut c whole =
    subst (λ (l : List Race). IsCut c.args.log.now c.args.sites.now c.args.opening l c.args.most) (sym c.truncate.ensures.items)
    (cut_is c.args.log.now c.args.sites.now c.args.opening (c.loop-place.place + 1) c.args.most c.add_races.new.pairs.items (found_here c) (over c))

pub loop-place-preserved : goal.loop-place-preserved
loop-place-preserved c =
    let log = c.args.log.now in
    let sites = c.args.sites.now in
    let opening = c.args.opening in
    let place = c.loop-place.place in
    let clocks = c.args.clocks.now in
    let lists = table c.loop-place.lasts in
    let within : place < length log = omega arith in
    let known : place < length sites = omega (arith, c.requires.sites) in
    let e = get_or log place first in
    let site = get_or sites place nowhere in
    let at = IsAt-get log place first within in
    let of = IsAt-get sites place nowhere known in
    let count : length clocks ≡ length log = sym (rows_length clocks) ∙ c.requires.clocks.count in
    let clock : get_or (rows clocks) place [] ≡ c.as_slice.result.now =
    rows_at clocks place c.index-clocks-place.result (omega arith)
    ∙ (ap (λ (v : Vec ℕ). v.items) (sym c.index-clocks-place.is) ∙ sym c.as_slice.ensures.value) in
    let firsts = c.in_ok-firsts.firsts.items in
    let made : c.as_slice-made.result.now ≡ accesses_of e site opening = c.as_slice-made.ensures.value ∙ c.in_ok-accesses.ensures in
    let more : HaveMore [] firsts (IsClashOf (accesses_of e site opening) (get_or (rows clocks) place []) lists) =
    subst (λ (l : List ℕ). HaveMore [] firsts (IsClashOf (accesses_of e site opening) l lists)) (sym clock)
    (subst (λ (l : List ThreadAccess). HaveMore [] firsts (IsClashOf l c.as_slice.result.now lists)) made
    c.in_ok-firsts.ensures) in
    let named : c.add_races.new.pairs.items ≡ c.loop-place.pairs.items ++ map (race_to place) firsts =
    c.in_ok-add_races.ensures ∙ ap (λ (l : List ℕ). c.loop-place.pairs.items ++ map (race_to place) l) c.as_slice-in-loop-place.ensures.value in
    let kept : table c.keep_all.new.self ≡ fold (keeping place) lists (accesses_of e site opening) =
    c.in_ok-keep_all.ensures ∙ ap (λ (l : List ThreadAccess). fold (keeping place) lists l) made in
    record {
      lasts =
          subst (AreLasts log sites opening (place + 1)) (sym kept)
          (lasts_more log sites opening place lists e site at of c.loop-place.invariant.lasts);
      found =
          subst (AreFound log sites opening (place + 1)) (sym named)
          (found_more log sites opening c.requires.entries c.args.threads place lists c.loop-place.invariant.lasts (rows clocks)
          c.requires.clocks e site at of firsts more c.loop-place.pairs.items c.loop-place.invariant.found);
      few = omega (arith, c.len.ensures, c.if-len-most.false, c.add_races.new.pairs.ok.0);
    }

pub returns-clause-each : goal.returns-clause-each
returns-clause-each c whole =
    let log = c.args.log.now in
    let pairs = c.loop-place.pairs.items in
    let all : c.loop-place.place ≡ length log = omega arith in
    each_all log c.args.sites.now c.args.opening pairs
    (subst (λ (n : ℕ). HasEachTo log c.args.sites.now c.args.opening n pairs) all c.loop-place.invariant.found.each)
