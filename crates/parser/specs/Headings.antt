-- The heap line and the layout lines.
use Rattle.std.specs.Prelude.{ℕ, ◌+◌, not, List, Option, Some, None, Result, Ok, Err, nat_lt, if◌then◌else◌, codes}
use Rattle.std.specs.Str.{bytes_eq}
use Rattle.layout.specs.declared.shape.Layout.{Layout}
use Rattle.model.specs.declared.config.Config.{Config}
use Rattle.model.specs.Configs.{is_page_size}
use Rattle.parser.specs.declared.fault.FaultKind.TheVariants as kinds
use Rattle.parser.specs.declared.fault.Flaw.{Flaw}
use Rattle.parser.specs.declared.heading.Sizes.{Sizes}
use Rattle.model.specs.declared.limits.TheConstants.{MOST_WORDS, MOST_PAGES}
use Rattle.parser.specs.declared.limits.TheConstants.{MOST_FRAMES, MOST_THREADS}
use Rattle.model.specs.declared.limits.TheConstants.{MOST_WORKERS}
use Rattle.parser.specs.declared.limits.TheConstants.{MOST_REGISTERS, MOST_GLOBALS, MOST_BIRTHS}
use Rattle.model.specs.declared.limits.TheConstants.{MOST_HISTORY}
use Rattle.model.specs.declared.limits.TheConstants.{MOST_FIELDS}
use Rattle.parser.specs.Words.{◌>>=◌, flaw, word_at, fixed_at, number_at, end_at}

-- the configuration of sizes, with layouts
abbrev pub config_of : Sizes → List Layout → Config
config_of s layouts = record {
  words = s.words;
  frames = s.frames;
  pages = s.pages;
  threads = s.threads;
  workers = s.workers;
  registers = s.registers;
  globals = s.globals;
  layouts = layouts;
  births = s.births;
  history = s.history;
}

-- the number after a name
unfoldable pub field_at : List ℕ → ℕ → List ℕ → ℕ → ℕ → Result (ℕ × ℕ) Flaw
field_at line at name low high = do
  after ← fixed_at line at name kinds.UnknownWord
  number_at line after low high

-- the words of a page, after their name
unfoldable pub page_size_at : List ℕ → ℕ → Result (ℕ × ℕ) Flaw
page_size_at line at = do
  after ← fixed_at line at (codes "words") kinds.UnknownWord
  n ← number_at line after 16 MOST_WORDS
  if not (is_page_size n.0) then Err (flaw after kinds.NumberOutOfRange) else Ok n

-- a limit after its name, if the word is that name, else its greatest value
abbrev pub limit_in : List ℕ → ℕ → List ℕ → ℕ → Option (List ℕ × ℕ) → Result (ℕ × ℕ) Flaw
limit_in line at name most None = Ok (most, at)
limit_in line at name most (Some w) = if bytes_eq w.0 name then number_at line w.1 1 most else Ok (most, at)

-- a limit that may be left out
unfoldable pub limit_at : List ℕ → ℕ → List ℕ → ℕ → Result (ℕ × ℕ) Flaw
limit_at line at name most = limit_in line at name most (word_at line at)

-- the words of a page, the frames and the pages
unfoldable pub memory_at : List ℕ → ℕ → Result ((ℕ × ℕ × ℕ) × ℕ) Flaw
memory_at line at = do
  words ← page_size_at line at
  frames ← field_at line words.1 (codes "frames") 1 MOST_FRAMES
  pages ← field_at line frames.1 (codes "pages") frames.0 MOST_PAGES
  Ok ((words.0, frames.0, pages.0), pages.1)

-- the threads, the workers and the registers
unfoldable pub actors_at : List ℕ → ℕ → Result ((ℕ × ℕ × ℕ) × ℕ) Flaw
actors_at line at = do
  threads ← field_at line at (codes "threads") 1 MOST_THREADS
  workers ← field_at line threads.1 (codes "workers") 1 MOST_WORKERS
  registers ← field_at line workers.1 (codes "registers") 1 MOST_REGISTERS
  Ok ((threads.0, workers.0, registers.0), registers.1)

-- the globals, the births and the history
unfoldable pub limits_at : List ℕ → ℕ → Result ((ℕ × ℕ × ℕ) × ℕ) Flaw
limits_at line at = do
  globals ← field_at line at (codes "globals") 0 MOST_GLOBALS
  births ← limit_at line globals.1 (codes "births") MOST_BIRTHS
  history ← limit_at line births.1 (codes "history") MOST_HISTORY
  Ok ((globals.0, births.0, history.0), history.1)

-- sizes made of their parts
abbrev pub sizes_of : ℕ × ℕ × ℕ → ℕ × ℕ × ℕ → ℕ × ℕ × ℕ → Sizes
sizes_of memory actors limits = record {
  words = memory.0;
  frames = memory.1;
  pages = memory.2;
  threads = actors.0;
  workers = actors.1;
  registers = actors.2;
  globals = limits.0;
  births = limits.1;
  history = limits.2;
}

-- the numbers of a heap line
unfoldable pub sizes_at : List ℕ → ℕ → Result (Sizes × ℕ) Flaw
sizes_at line at = do
  memory ← memory_at line at
  actors ← actors_at line memory.1
  limits ← limits_at line actors.1
  Ok (sizes_of memory.0 actors.0 limits.0, limits.1)

-- the numbers of a heap line from a place to the line's end
unfoldable pub heap_in : List ℕ → ℕ → Result Sizes Flaw
heap_in line at = do
  sizes ← sizes_at line at
  _ ← end_at line sizes.1
  Ok sizes.0

-- a layout, from the place after the line's first word to the line's end
unfoldable pub layout_in : Sizes → List ℕ → ℕ → Result Layout Flaw
layout_in sizes line at = do
  refs ← number_at line at 0 MOST_FIELDS
  nums ← number_at line refs.1 0 MOST_FIELDS
  if nat_lt sizes.words (1 + refs.0 + nums.0) then Err (flaw refs.1 kinds.LayoutTooLarge) else (do
    _ ← end_at line nums.1
    Ok (record { refs = refs.0; nums = nums.0 }))
