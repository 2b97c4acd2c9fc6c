use Rattle.std.proofs.Common.{rules, Bool, Some, arith, refl, inl, inr, subst}
use Rattle.report_command.specs.declared.form.Form.{Form}
use Rattle.search_finds.proofs.Noting.{plainly_noted}
use Rattle.report_jobs.specs.Prints.{KeepsRecord, change, changed}
use Rattle.report_jobs.specs.declared.undone.Done.{Done}
use Rattle.report_json.specs.declared.raced.RunRaces.TheVariants as said
use Rattle.report_telling.specs.NoneFound.{raceless_text, IsStatusOfTable}
use Rattle.report_telling.specs.Telling.{EndsNone}
use Rattle.report.specs.Told.{was_told, NoneIn, RacyIn, TellsDrawnRaces}
use Rattle.report.specs.Searched.{IsDrawn}
use Rattle.report.specs.Searches.{Finds}
use Rattle.report.proofs.Counted.{cut_within}
use Rattle.report.proofs.DrawnRaces.{none_races, race_is_kept}
use Rattle.report.proofs.AllTold.{all_made_by, races_drawn, if_both, none_told, racy_told}
use Rattle.report.proofs.searching.search_for_races.Goals as goal

pub tell-requires : goal.tell-requires
tell-requires g c =
    let q = c.args.call.request.now in
    let s = c.args.call.search.now in
    cut_within q s.sought c.in-Ok.searched.table (plainly_noted _ q s.sought _ c.in-Ok.ensures.noted)

pub conclude-requires : goal.conclude-requires
conclude-requires g c =
    let q = c.args.call.request.now in
    let s = c.args.call.search.now in
    (cut_within q s.sought c.in-Ok.searched.table (plainly_noted _ q s.sought _ c.in-Ok.ensures.noted), c.in_ok-kept-in-Found.ensures.has.race.told)

pub end_without-requires : goal.end_without-requires
end_without-requires g c =
    let q = c.args.call.request.now in
    let s = c.args.call.search.now in
    cut_within q s.sought c.in-Ok.searched.table (plainly_noted _ q s.sought _ c.in-Ok.ensures.noted)

pub kept_race-requires : goal.kept_race-requires
kept_race-requires g c = (search rules, rw c.in-Found.is at c.in-Ok.ensures.found)

pub returns-in-Found-clause-searched : goal.returns-in-Found-clause-searched
returns-in-Found-clause-searched g c =
    let contents = g.W.Write.contents in
    let q = c.args.call.request.now in
    let s = c.args.call.search.now in
    let table = c.in-Ok.searched.table in
    let found = rw c.in-Found.is at c.in-Ok.ensures.found in
    let noted = rw c.in-Found.is at c.in-Ok.ensures.noted in
    let run = c.in-Found.found.run in
    let k = c.in_ok-kept-in-Found.kept in
    let out = changed contents c.args.streams.now.out c.conclude.new.out in
    let save = changed g.S.Write.contents c.args.streams.now.save c.keep.new.save in
    let find = c.in_ok-kept-in-Found.ensures.has.find in
    let kept = subst (λ (is : Bool). KeepsRecord is save k.racy.made.record) c.is_some.ensures c.in_ok-keep-in-Found.ensures.kept in
    let finds : Finds q.parts s c.args.call.allowed save 1 = inr (inr (
      omega arith,
      race_is_kept q s c.args.call.allowed c.requires.asked k.racy.made find.0 find.1 save kept c.requires.races,
    )) in
    let tells : TellsDrawnRaces q.parts s c.args.call.allowed out save 1 = record {
      request = q;
      parts_are = refl;
      asked = c.requires.asked;
      table = table;
      noted = plainly_noted _ q s.sought _ c.in-Ok.ensures.noted;
      says = inl (
        refl,
        record {
          run = run;
          is_last = rw c.in-Found.is at c.in-Ok.ensures.number;
          found = c.in-Found.found.made;
          drawn = rw c.in-Found.is at c.in-Ok.ensures.drawn;
          races = found.1;
          first = noted;
          k = k;
          has = c.in_ok-kept-in-Found.ensures.has;
          tells = subst (λ (form : Form). RacyIn form q.parts s table run k out) c.requires.form (racy_told g.T.Teller.form q.parts s table run k
              (contents c.args.streams.now.out) (contents c.tell.new.out) (contents c.tell-in-Found.new.out) (contents c.conclude.new.out)
              (c.in_ok-tell.ensures.tells q.parts tt) (c.in_ok-tell-in-Found.ensures.tells q.parts tt)
              (c.in_ok-conclude-in-Found.ensures.tells q.parts c.in_ok-kept-in-Found.ensures.has.race));
          kept = kept;
        },
      );
    } in
    races_drawn q.parts s c.args.call.allowed out save 1 c.requires.races finds tells

pub returns-clause-searched : goal.returns-clause-searched
returns-clause-searched g c =
    let contents = g.W.Write.contents in
    let form = g.T.Teller.form in
    let q = c.args.call.request.now in
    let s = c.args.call.search.now in
    let table = c.in-Ok.searched.table in
    let halt = c.in-Ok.searched.halt in
    let is_told = was_told halt in
    let text = raceless_text is_told s.sought table in
    let races = Some said.Unknown in
    let before = contents c.args.streams.now.out in
    let headed = contents c.tell.new.out in
    let after = contents c.end_without.new.out in
    let save = changed g.S.Write.contents c.args.streams.now.save c.args.streams.now.save in
    let noted = c.in-Ok.ensures.noted in
    if_both c.end_without.result (λ (done : Done). EndsNone form s.sought table is_told races text done.status (change headed after))
    (λ (done : Done). IsStatusOfTable s.sought table done.status)
    (λ (done : Done). IsDrawn q.parts s c.args.call.allowed (change before after) save done.status)
    (λ done rest is. races_drawn q.parts s c.args.call.allowed (change before after) save done.status c.requires.races (inl (is.statuses, refl)) (record {
      request = q;
      parts_are = refl;
      asked = c.requires.asked;
      table = table;
      noted = plainly_noted _ q s.sought _ noted;
      says = inr (record {
        is_told = is_told;
        all_made = λ untold. c.in-Ok.ensures.all_made (all_made_by halt c.in_default.not-Found untold);
        none = none_races q c.args.call.allowed s.sought table halt c.in_default.not-Found noted;
        tells = subst (λ (f : Form). NoneIn f s.sought table is_told races text done.status (change before after)) c.requires.form
            (none_told form s.sought table is_told races text done.status before headed after (c.in_ok-tell.ensures.tells q.parts tt) rest);
        status_is = is;
        kept = refl;
      });
    }))
    (c.end_without.ensures.tells q.parts) c.end_without.ensures.status
