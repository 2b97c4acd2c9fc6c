-- A run under another record with the same header.
use Rattle.std.proofs.Common.{ℕ, ◌≡◌, List, sym, ◌∙◌, ap, subst}
use Rattle.types.specs.declared.value.Value.{Value}
use Rattle.types.specs.declared.parts.Parts.{Parts}
use Rattle.types.specs.declared.limits.TheConstants.{MOST_PAGES}
use Rattle.validate_module.specs.Pages.{HasPagesWithin}
use Rattle.shared_memory.specs.Memory.{Memory}
use Rattle.schedule_runs.specs.Runs.{Start}
use Rattle.spawn_host.specs.Requests.{Requested}
use Rattle.spawn_host.specs.Runs.{Beginning, start_by, opening_memory, opening_within}
use Rattle.replay_text.specs.declared.version.Version.{Version}
use Rattle.replay_text.specs.declared.parts.RecordParts.{RecordParts}
use Rattle.replay_rules.specs.Recorded.{IsRecordedRun}
use Rattle.spawn_host.specs.declared.end.EndState.{EndState}
use Rattle.replay.specs.Runs.{BeginsBy, start_of_record, IsLengthOf, HasLength, HasPages, IsRunOf}
use Rattle.replay.specs.Threads.{requested_by}
use Rattle.search_scheduled.specs.Headers.{HasHeaderOf, IsOfCall, IsOfRequest, Concludes}

-- a call's header is of its module
pub has_length : (m : Parts) (name : List ℕ) (values : List Value) (units most : ℕ) (r : RecordParts) → IsOfCall m name values units most r
    → HasLength m r
has_length m name values units most r h = subst (λ (v : Version). IsLengthOf v m r.module_len) (sym h.version) (sym h.module_len)

pub has_pages : (m : Parts) (name : List ℕ) (values : List Value) (units most : ℕ) (r : RecordParts) → IsOfCall m name values units most r
    → HasPagesWithin MOST_PAGES m → HasPages m r
has_pages m name values units most r h within = subst (λ (q : ℕ). HasPagesWithin q m) (sym h.max_pages) within

-- two headers of a call are the same
pub same_header : (m : Parts) (name : List ℕ) (values : List Value) (units most : ℕ) (header r : RecordParts) → IsOfCall m name values units most header
    → IsOfCall m name values units most r → HasHeaderOf header r
same_header m name values units most header r h x = record {
  version = x.version ∙ sym h.version;
  module_len = x.module_len ∙ sym h.module_len;
  threads = x.threads ∙ sym h.threads;
  max_pages = x.max_pages ∙ sym h.max_pages;
  invoke = x.invoke ∙ sym h.invoke;
  args = x.args ∙ sym h.args;
  fuel = x.fuel ∙ sym h.fuel;
  limit = x.limit ∙ sym h.limit;
}

-- what a record with its header calls
pub requested_is : (q : Requested) (most : ℕ) (r : RecordParts) → IsOfRequest q most r → requested_by q.parts r ≡ q
requested_is q most r h =
    let made : List ℕ → List Value → ℕ → Requested = λ name args fuel. record { parts = q.parts; name = name; args = args; fuel = fuel } in
    ap (λ (name : List ℕ). made name r.args r.fuel) h.invoke
    ∙ (ap (λ (args : List Value). made q.name args r.fuel) h.args ∙ ap (λ (fuel : ℕ). made q.name q.args fuel) h.fuel)

-- its memory opens as every run's
pub opens_by : (m : Parts) (name : List ℕ) (values : List Value) (units most : ℕ) (r : RecordParts) → IsOfCall m name values units most r
    → (memory : Memory) → memory ≡ opening_memory m → memory ≡ opening_within r.max_pages m
opens_by m name values units most r h memory is = is ∙ ap (λ (q : ℕ). opening_within q m) (sym h.max_pages)

module _ (m : Parts) (b : Start) where
  abbrev Begins : List ℕ → List Value → ℕ → ℕ → Type 0
  Begins name args fuel most = (x : Beginning m name args) × (b ≡ record (start_by m name args fuel x) { opening = opening_within most m })

  begins_as : (r r' : RecordParts) → HasHeaderOf r r' → Begins r.invoke r.args r.fuel r.max_pages → Begins r'.invoke r'.args r'.fuel r'.max_pages
  begins_as r r' h x =
      subst (λ (q : ℕ). Begins r'.invoke r'.args r'.fuel q) (sym h.max_pages)
      (subst (λ (k : ℕ). Begins r'.invoke r'.args k r.max_pages) (sym h.fuel)
      (subst (λ (l : List Value). Begins r'.invoke l r.fuel r.max_pages) (sym h.args)
      (subst (λ (l : List ℕ). Begins l r.args r.fuel r.max_pages) (sym h.invoke) x)))

  -- what a course came to is of a run of the module
  pub is_run : (header r : RecordParts) (begins : BeginsBy m header) → b ≡ start_of_record m header begins → HasHeaderOf header r
      → HasLength m header → HasPages m header → (end : EndState) → Concludes b r end → IsRunOf m r end
  is_run header r begins same h len within end c =
      let x = begins_as header r h (begins, same) in
      record {
        length_fits = subst (λ (v : Version). IsLengthOf v m r.module_len) (sym h.version)
            (subst (λ (n : ℕ). IsLengthOf header.version m n) (sym h.module_len) len);
        pages_fit = subst (λ (q : ℕ). HasPagesWithin q m) (sym h.max_pages) within;
        beginning = x.0;
        last = c.last;
        recorded = subst (λ (s : Start). IsRecordedRun s r c.last) x.1 c.recorded;
        threads = c.threads;
        pages = c.pages;
        bytes = c.bytes;
      }
