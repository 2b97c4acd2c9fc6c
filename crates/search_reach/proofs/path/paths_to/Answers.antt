use Rattle.std.proofs.Common.{ℕ, ◌+◌, ◌<◌, ◌++◌, [], ◌∷◌, length, get_or, take, arith, rules, subst, sym}
use Rattle.std.specs.Global.{Vec}
use Rattle.std.proofs.lemmas.List.{take_more}
use Rattle.std.proofs.lemmas.Slice.Zip.{all_zipped_more}
use Rattle.search_reach.specs.Moved.{IsPathTo, ArePathsTo}
use Rattle.search_reach.proofs.path.paths_to.Goals as goal

pub loop-state-preserved : goal.loop-state-preserved
loop-state-preserved c =
    let moves = c.args.moves.now in
    let states = c.args.states.now in
    let known = length c.args.ways.now in
    let at = c.loop-state.state-index in
    let low : at < length states = omega arith in
    let paths = c.loop-state.paths.items in
    record {
      paths = subst (λ l. ArePathsTo moves known l (take (at + 1) states)) (sym c.in_ok-push.ensures.items)
          (subst (λ l. ArePathsTo moves known (paths ++ c.in_ok-path.path ∷ []) l) (sym (take_more states at 0 low))
          (all_zipped_more (λ (path : Vec ℕ) to. IsPathTo moves known path.items to) paths (take at states) c.in_ok-path.path (get_or states at 0)
          c.loop-state.invariant.paths c.in_ok-path.ensures));
      len = search rules;
    }
