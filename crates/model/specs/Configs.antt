-- The configurations that a heap may be made with.
use Rattle.std.specs.Prelude.{◌≡◌, ◌⊎◌, ℕ, ◌*◌, ◌≤◌, min, List, ◌==◌, ◌||◌, ◌&&◌, not, Bool, true, length, Option, Some}
use Rattle.std.specs.Prelude.{None, nat_le, nat_lt, if◌then◌else◌}
use Rattle.std.specs.List.{list_all}
use Rattle.layout.specs.declared.shape.Layout.{Layout}
use Rattle.layout.specs.Objects.{size_of}
use Rattle.model.specs.declared.config.Config.{Config}
use Rattle.model.specs.declared.limits.TheConstants.{MOST_WORDS, MOST_FRAMES, MOST_PAGES, MOST_THREADS, MOST_WORKERS}
use Rattle.model.specs.declared.limits.TheConstants.{MOST_REGISTERS, MOST_FIELDS, USUAL_REGISTERS, USUAL_GLOBALS}
use Rattle.model.specs.declared.limits.TheConstants.{MOST_GLOBALS, MOST_LAYOUTS, MOST_BIRTHS, MOST_HISTORY}
use Rattle.model.specs.declared.config.ConfigFault.{ConfigFault}
use Rattle.model.specs.declared.config.ConfigFault.TheVariants as faults

-- n is a power of two from 16 to 32768
abbrev pub is_page_size : ℕ → Bool
is_page_size n =
    (n == 16) || (n == 32) || (n == 64) || (n == 128) || (n == 256)
    || (n == 512) || (n == 1024) || (n == 2048) || (n == 4096)
    || (n == 8192) || (n == 16384) || (n == 32768)

-- n isn't in the range from low to high
abbrev pub is_outside : ℕ → ℕ → ℕ → Bool
is_outside n low high = nat_lt n low || nat_lt high n

-- the layout has no more references and data than an object may have, and its objects fit in a page
abbrev pub fits_page : ℕ → Layout → Bool
fits_page words l = nat_le l.refs MOST_FIELDS && nat_le l.nums MOST_FIELDS && nat_le (size_of l) words

-- the first field that is out of its range
unfoldable pub first_fault : Config → Option ConfigFault
first_fault c =
    if not (is_page_size c.words) then Some faults.Words else
    (if is_outside c.frames 1 MOST_FRAMES then Some faults.Frames else
    (if is_outside c.pages c.frames MOST_PAGES then Some faults.Pages else
    (if is_outside c.threads 1 MOST_THREADS then Some faults.Threads else
    (if is_outside c.workers 1 MOST_WORKERS then Some faults.Workers else
    (if is_outside c.registers 1 MOST_REGISTERS then Some faults.Registers else
    (if is_outside c.globals 0 MOST_GLOBALS then Some faults.Globals else
    (if is_outside (length c.layouts) 1 MOST_LAYOUTS || not (list_all (fits_page c.words) c.layouts)
    then Some faults.Layouts else
    (if is_outside c.births 1 MOST_BIRTHS then Some faults.Births else
    (if is_outside c.history 1 MOST_HISTORY then Some faults.History else None)))))))))

-- the default configuration for these numbers of words and frames, and these layouts
unfoldable pub usual_config : ℕ → ℕ → List Layout → Config
usual_config words frames layouts = record {
  words = words;
  frames = frames;
  pages = min (2 * frames) MOST_PAGES;
  threads = 1;
  workers = 1;
  registers = USUAL_REGISTERS;
  globals = USUAL_GLOBALS;
  layouts = layouts;
  births = MOST_BIRTHS;
  history = MOST_HISTORY;
}

-- the caller of a default configuration gives this field
abbrev pub IsOfCaller : ConfigFault → Type 0
IsOfCaller fault = (fault ≡ faults.Words) ⊎ ((fault ≡ faults.Frames) ⊎ (fault ≡ faults.Layouts))

-- all fields are in their ranges
abbrev pub IsConfig : Config → Type 0
IsConfig c = first_fault c ≡ None

-- what the code needs of the ranges
pub record IsRanged (c : Config) : Type 0 where
  pub page_size : is_page_size c.words ≡ true
  pub words_low : 16 ≤ c.words
  pub words_high : c.words ≤ MOST_WORDS
  pub frames_low : 1 ≤ c.frames
  pub frames_high : c.frames ≤ MOST_FRAMES
  pub pages_low : c.frames ≤ c.pages
  pub pages_high : c.pages ≤ MOST_PAGES
  pub threads_low : 1 ≤ c.threads
  pub threads : c.threads ≤ MOST_THREADS
  pub workers : c.workers ≤ MOST_WORKERS
  pub registers : c.registers ≤ MOST_REGISTERS
  pub globals : c.globals ≤ MOST_GLOBALS
  pub layouts : length c.layouts ≤ MOST_LAYOUTS
  pub fitting : list_all (fits_page c.words) c.layouts ≡ true
  pub births : c.births ≤ MOST_BIRTHS
  pub history : c.history ≤ MOST_HISTORY
