-- The versions of a record's text, and what each says of its run's threads and pages.
use Rattle.std.specs.Prelude.{ℕ, ◌≡◌, ◌≤◌}
use Rattle.types.specs.declared.limits.TheConstants.{MOST_PAGES, MOST_THREADS, MOST_MODULE_BYTES}
use Rattle.replay_text.specs.declared.version.Version.{Version}
use Rattle.replay_text.specs.declared.version.Version.TheVariants as versions

-- How many lines stand before the entries.
abbrev pub header_count : Version → ℕ
header_count versions.One = 5
header_count versions.Two = 8

-- Threads of a run and pages of a memory, where the record is of version 1.
abbrev pub first_threads : ℕ
first_threads = 16

abbrev pub first_pages : ℕ
first_pages = 64

-- The length of the module, and how many threads and pages there may be.
abbrev pub IsScale : Version → ℕ → ℕ → ℕ → Type 0
IsScale versions.One module_len threads max_pages = (module_len ≡ 0)
    × ((threads ≡ first_threads) × (max_pages ≡ first_pages))
IsScale versions.Two module_len threads max_pages =
    (module_len ≤ MOST_MODULE_BYTES)
    × (((1 ≤ threads) × (threads ≤ MOST_THREADS)) × ((1 ≤ max_pages) × (max_pages ≤ MOST_PAGES)))
