use Rattle.show_moments.specs.Scenes.{seen}
use Rattle.show_moments.proofs.Scenes.{no_threads, threads_next}
use Rattle.show_moments.proofs.scene.Scene.threads.Goals as goal

pub loop-thread-init : goal.loop-thread-init
loop-thread-init c = no_threads (seen c.args.self.now) _ c.new-threads.ensures.items

pub loop-thread-preserved : goal.loop-thread-preserved
loop-thread-preserved c = threads_next (seen c.args.self.now) c.loop-thread.thread _ _ _ c.in_ok-put_if_any.ensures
    c.loop-thread.invariant c.in_ok-told.ensures
