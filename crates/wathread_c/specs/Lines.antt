-- The lines of JSON that calls answer, with the status of each.
use Rattle.std.specs.Prelude.{ℕ, ◌≡◌, ◌↔◌, ◌≤◌, List, [], None}
use Rattle.show_json.specs.Json.{json_line}
use Rattle.report_json.specs.Complete.{complete_json}
use Rattle.report_json.specs.Ends.{run_json}
use Rattle.report_json.specs.Refusals.{accepted_json, refusal_json, status_of_refused}
use Rattle.report_json.specs.declared.complete.CompleteObject.{CompleteObject}
use Rattle.report_json.specs.declared.ends.RunEndObject.{RunEndObject}
use Rattle.report_json.specs.declared.refusals.RefusalObject.{RefusalObject}
use Rattle.search_endings.specs.Ends.{status_of}
use Rattle.search_endings.specs.Endings.{Ending}
use Rattle.search_reach.specs.declared.ending.Ended.{Ended}
use Rattle.spawn_host.specs.declared.end.EndState.{EndState}
use Rattle.host_calls.specs.Well.{IsWell}
use Rattle.host_calls.specs.declared.fault.HostFault.{HostFault}
use Rattle.wathread_c.specs.Refused.{IsRefusedAs}

-- Of a module that is accepted, with so many functions.
pub record IsAcceptedText (count status : ℕ) (line : List ℕ) : Type 0 where
  pub status_is : status ≡ 0
  pub line_is : line ≡ json_line (accepted_json count)

-- Of a fault: what is refused, without hints.
pub record IsRefusalText (fault : HostFault) (status : ℕ) (line : List ℕ) : Type 0 where
  pub refusal : RefusalObject
  pub is : IsRefusedAs fault refusal.refused
  pub hints : refusal.hints.now ≡ []
  pub status_is : status ≡ status_of_refused refusal.refused
  pub line_is : line ≡ json_line (refusal_json refusal)

-- Of what a run left: without places, bytes, what threads say, and hints.
pub record IsRunText (end : EndState) (status : ℕ) (line : List ℕ) : Type 0 where
  pub run : RunEndObject
  pub threads : run.threads.now ≡ end.threads.items
  pub places : run.places.now ≡ []
  pub pages : run.pages ≡ end.pages
  pub dump : run.dump ≡ 0
  pub said : run.said.now ≡ []
  pub hints : run.hints.now ≡ []
  pub status_is : status ≡ status_of end.threads.items
  pub line_is : line ≡ json_line (run_json run)

-- Of all endings, of at most so many states.
pub record IsSearchText (all : Ended Ending) (most status : ℕ) (line : List ℕ) : Type 0 where
  pub complete : CompleteObject
  pub all_is : complete.all.now ≡ all
  pub most_is : complete.most ≡ most
  pub races : complete.races ≡ None
  pub found : complete.found ≡ None
  pub status_said : complete.status ≡ status
  pub few : status ≤ 1
  pub well : (status ≡ 0) ↔ IsWell all
  pub line_is : line ≡ json_line (complete_json complete)
