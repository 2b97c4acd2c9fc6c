use Rattle.std.proofs.Common.{rules, None, refl, inl, inr, subst}
use Rattle.report_command.specs.declared.form.Form.{Form}
use Rattle.report_jobs.specs.Prints.{change, changed}
use Rattle.report_jobs.specs.declared.undone.Done.{Done}
use Rattle.report_telling.specs.Drawn.{behind_text}
use Rattle.report_telling.specs.Telling.{EndsNone}
use Rattle.report_telling.specs.NoneFound.{IsStatusOfTable}
use Rattle.report.specs.Told.{was_told, LastIn, NoneIn, TellsDrawn}
use Rattle.report.specs.Searched.{IsDrawn}
use Rattle.report.specs.Searches.{Finds}
use Rattle.report.proofs.Counted.{cut_within}
use Rattle.report.proofs.Keeping.{run_is_kept}
use Rattle.report.proofs.AllTold.{all_made_by, endings_drawn, if_both, last_told, none_told}
use Rattle.report.proofs.searching.search_for_endings.Goals as goal

pub tell-requires : goal.tell-requires
tell-requires g c = cut_within c.args.call.request.now c.args.call.search.now.sought c.in-Ok.searched.table c.in-Ok.ensures.noted

pub conclude-requires : goal.conclude-requires
conclude-requires g c = cut_within c.args.call.request.now c.args.call.search.now.sought c.in-Ok.searched.table c.in-Ok.ensures.noted

pub end_without-requires : goal.end_without-requires
end_without-requires g c = cut_within c.args.call.request.now c.args.call.search.now.sought c.in-Ok.searched.table c.in-Ok.ensures.noted

pub kept_of-requires : goal.kept_of-requires
kept_of-requires g c = let found = rw c.in-Found.is at c.in-Ok.ensures.found in (search rules, found.0)

pub returns-in-Found-clause-searched : goal.returns-in-Found-clause-searched
returns-in-Found-clause-searched g c =
    let contents = g.W.Write.contents in
    let q = c.args.call.request.now in
    let s = c.args.call.search.now in
    let table = c.in-Ok.searched.table in
    let found = rw c.in-Found.is at c.in-Ok.ensures.found in
    let run = c.in-Found.found.run in
    let k = c.in_ok-kept-in-Found.kept in
    let out = changed contents c.args.streams.now.out c.conclude.new.out in
    let save = changed g.S.Write.contents c.args.streams.now.save c.keep_made.new.save in
    let finds : Finds q.parts s c.args.call.allowed save 1 = inr (inl (
      refl,
      inl (run_is_kept c.args.call.request.now c.args.call.search.now c.args.call.allowed c.requires.asked save c.in-Found.found.made
          c.in_ok-kept-in-Found.kept found.1 c.in_ok-kept-in-Found.ensures.kept.kept c.in_ok-keep_made-in-Found.ensures.kept),
    )) in
    let tells : TellsDrawn q.parts s out save 1 = record {
      request = q;
      parts_are = refl;
      asked = c.requires.asked;
      table = table;
      noted = c.in-Ok.ensures.noted;
      says = inl (
        refl,
        record {
          run = run;
          is_last = rw c.in-Found.is at c.in-Ok.ensures.number;
          found = c.in-Found.found.made;
          drawn = rw c.in-Found.is at c.in-Ok.ensures.drawn;
          sought = found.1;
          k = k;
          is_kept = c.in_ok-kept-in-Found.ensures.kept;
          tells = subst (λ (form : Form). LastIn form s table run k out) c.requires.form (last_told g.T.Teller.form s table run k
              (contents c.args.streams.now.out) (contents c.tell.new.out) (contents c.tell-in-Found.new.out) (contents c.conclude.new.out)
              (c.in_ok-tell.ensures.tells q.parts tt) (c.in_ok-tell-in-Found.ensures.tells q.parts tt)
              (c.in_ok-conclude-in-Found.ensures.tells q.parts tt));
          kept = c.in_ok-keep_made-in-Found.ensures.kept;
        },
      );
    } in
    endings_drawn q.parts s c.args.call.allowed out save 1 c.requires.raceless finds tells

pub returns-clause-searched : goal.returns-clause-searched
returns-clause-searched g c =
    let contents = g.W.Write.contents in
    let form = g.T.Teller.form in
    let q = c.args.call.request.now in
    let s = c.args.call.search.now in
    let table = c.in-Ok.searched.table in
    let halt = c.in-Ok.searched.halt in
    let is_told = was_told halt in
    let text = behind_text is_told s.sought table in
    let before = contents c.args.streams.now.out in
    let headed = contents c.tell.new.out in
    let after = contents c.end_without.new.out in
    let save = changed g.S.Write.contents c.args.streams.now.save c.args.streams.now.save in
    if_both c.end_without.result (λ (done : Done). EndsNone form s.sought table is_told None text done.status (change headed after))
    (λ (done : Done). IsStatusOfTable s.sought table done.status)
    (λ (done : Done). IsDrawn q.parts s c.args.call.allowed (change before after) save done.status)
    (λ done rest is. endings_drawn q.parts s c.args.call.allowed (change before after) save done.status c.requires.raceless (inl (is.statuses, refl)) (record {
      request = q;
      parts_are = refl;
      asked = c.requires.asked;
      table = table;
      noted = c.in-Ok.ensures.noted;
      says = inr (record {
        is_told = is_told;
        all_made = λ untold. c.in-Ok.ensures.all_made (all_made_by halt c.in_default.not-Found untold);
        none = λ untold stops. c.in-Ok.ensures.none (all_made_by halt c.in_default.not-Found untold) stops;
        tells = subst (λ (f : Form). NoneIn f s.sought table is_told None text done.status (change before after)) c.requires.form
            (none_told form s.sought table is_told None text done.status before headed after (c.in_ok-tell.ensures.tells q.parts tt) rest);
        status_is = is;
        kept = refl;
      });
    }))
    (c.end_without.ensures.tells q.parts) c.end_without.ensures.status
