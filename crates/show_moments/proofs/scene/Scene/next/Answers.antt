use Rattle.std.proofs.Common.{Some, None}
use Rattle.show_moments.specs.Scenes.{seen}
use Rattle.show_moments.proofs.Nexts.{next_within}
use Rattle.show_moments.proofs.scene.Scene.next.Goals as goal

pub next_at-requires : goal.next_at-requires
next_at-requires c = next_within (seen c.args.self.now) c.args.thread c.in-Some.at c.in-Some.ensures

pub returns-in_ok-next_at-in-Some : goal.returns-in_ok-next_at-in-Some
returns-in_ok-next_at-in-Some c = (Some c.in-Some.at, c.in-Some.ensures, c.in_ok-next_at-in-Some.ensures)

pub returns-in-None : goal.returns-in-None
returns-in-None c = (None, c.in-None.ensures, tt)
