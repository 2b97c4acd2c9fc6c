use Rattle.std.proofs.Common.{List, sym, subst}
use Rattle.std.proofs.lemmas.List.Elements.{All-append}
use Rattle.interp.specs.Threads.{meaning_in}
use Rattle.interp.specs.declared.thread.Thread.{Thread}
use Rattle.replay.specs.Threads.{IsSpare, AreSpares}
use Rattle.search_scheduled.proofs.threads.Spares.take_back.Goals as goal

pub returns : goal.returns
returns c =
    let m = c.args.module.now.parts in λ budget kept more. record {
      threads = subst (λ (l : List Thread). AreSpares meaning_in m budget l) (sym {A = List Thread} c.in_ok-append.ensures.items)
          (All-append (IsSpare meaning_in m budget) _ _ kept.threads (more (c.starts_threads.ensures.0 c.if-not-starts_threads.false)));
      image = kept.image;
    }
