-- The lines of a report, each without its newline.
use Rattle.std.specs.Prelude.{ℕ, ◌+◌, Bool, List, [], ◌∷◌, ◌++◌, Option, Some, None, codes}
use Rattle.std.specs.Fmt.{decimal}
use Rattle.model.specs.declared.records.Buffer.{Buffer}
use Rattle.model.specs.declared.records.Page.{Page}
use Rattle.model.specs.declared.records.Phase.{Phase}
use Rattle.model.specs.declared.records.Tally.{Tally}
use Rattle.reporting.specs.declared.wording.records.Copies.{Copies}
use Rattle.reporting.specs.declared.wording.report.Activity.{Activity}
use Rattle.reporting.specs.declared.wording.report.Activity.TheVariants as activities
use Rattle.reporting.specs.Texts.{phase_text, bit_text, page_state_text, frame_text, buffer_text, word_text}

-- the texts of a list's elements, one after another, the first being number i
unfoldable pub texts_from : {X : Type 0} → (ℕ → X → List ℕ) → ℕ → List X → List ℕ
texts_from f i [] = []
texts_from f i (x ∷ xs) = f i x ++ texts_from f (i + 1) xs

-- the first line: the phase, the clean NMT bit, the births, and how many of the frames are used
abbrev pub head_line : Phase → Bool → ℕ → ℕ → ℕ → List ℕ
head_line phase nmt births used frames =
    codes "phase " ++ phase_text phase ++ codes " nmt " ++ bit_text nmt ++ codes " births " ++ decimal births
    ++ codes " frames " ++ decimal used ++ codes "/" ++ decimal frames

-- how many of the entries of a protected page's forwarding table are copied; empty for another page
abbrev pub copies_text : Option Copies → List ℕ
copies_text None = []
copies_text (Some c) = codes " copied " ++ decimal c.copied ++ codes "/" ++ decimal c.entries

-- how many objects start in a page, how many of them are live, and the page's copies
abbrev pub counts_text : ℕ → ℕ → Option Copies → List ℕ
counts_text objects live copies =
    codes " objects " ++ decimal objects ++ codes " live " ++ decimal live ++ copies_text copies

-- the line of a page
abbrev pub page_line : ℕ → Page → ℕ → ℕ → Option Copies → List ℕ
page_line number p objects live copies =
    codes "page " ++ decimal number ++ codes " " ++ page_state_text p.state ++ codes " frame " ++ frame_text p.frame
    ++ codes " top " ++ decimal p.top ++ counts_text objects live copies

-- the number of register r and its reference
abbrev pub register_text : ℕ → ℕ → Option (ℕ × Bool) → List ℕ
register_text page_words r w = codes " r" ++ decimal r ++ codes " " ++ word_text page_words w

-- the same for all registers
abbrev pub registers_text : ℕ → List (Option (ℕ × Bool)) → List ℕ
registers_text page_words ws = texts_from (register_text page_words) 0 ws

-- the name of a thread's activity
abbrev pub activity_text : Activity → List ℕ
activity_text activities.Parked = codes "parked"
activity_text activities.Loading = codes "loading"
activity_text activities.Running = codes "running"

-- the line of thread n
abbrev pub thread_line : ℕ → Activity → Option Buffer → ℕ → List (Option (ℕ × Bool)) → List ℕ
thread_line n activity buffer page_words registers =
    codes "thread " ++ decimal n ++ codes " " ++ activity_text activity ++ codes " buffer " ++ buffer_text buffer
    ++ registers_text page_words registers

-- the line of global n
abbrev pub global_line : ℕ → ℕ → Option (ℕ × Bool) → List ℕ
global_line page_words n w = codes "global " ++ decimal n ++ codes " " ++ word_text page_words w

-- the line of mark number k, which ended
abbrev pub cycle_line : ℕ → ℕ → ℕ → List ℕ
cycle_line k live retired =
    codes "cycle " ++ decimal k ++ codes " live " ++ decimal live ++ codes " retired " ++ decimal retired

-- how many places were healed, and how many had changed
abbrev pub heals_text : ℕ → ℕ → List ℕ
heals_text healed changed = codes " healed " ++ decimal healed ++ codes " changed " ++ decimal changed

-- the line of the barrier counters of thread n
abbrev pub barrier_line : ℕ → Tally → List ℕ
barrier_line n y =
    codes "barrier " ++ decimal n ++ codes " loads " ++ decimal y.loads ++ codes " gc " ++ decimal y.gc
    ++ codes " nmt " ++ decimal y.nmt ++ heals_text y.healed y.changed
