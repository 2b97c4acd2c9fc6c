use Rattle.interp_laws.proofs.Threads.{never_stuck}
use Rattle.interp_laws.proofs.no_thread_is_ever_stuck.Goals as goal

pub returns : goal.returns
returns c = never_stuck
