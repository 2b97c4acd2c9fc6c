use Rattle.std.proofs.Common.{◌≡◌, ◌∙◌, ◌/◌, ◌%◌, length, ap, arith}
use Rattle.std.proofs.lemmas.Result.{on_ok_weaker}
use Rattle.race_history.proofs.Keeping.{table_set}
use Rattle.race_history.proofs.lasts.Lasts.keep.Goals as goal

pub returns : goal.returns
returns c =
    let lists = c.args.self.now.lists.items in
    let k = c.list_of-k.result in
    let long : c.len.result ≡ length lists = omega (arith, c.len.ensures, c.args.self.now.lists.ok.0) in
    let at : k ≡ c.args.last.access.addr / 8 % length lists =
    c.list_of-k.ensures.at ∙ ap (λ n. c.args.last.access.addr / 8 % n) long in
    on_ok_weaker c.put.result (table_set lists k c.index_mut.result.now c.put.new.list c.args.last at (omega (arith, c.list_of-k.ensures.within))
    c.index_mut.ensures.value) c.put.ensures
