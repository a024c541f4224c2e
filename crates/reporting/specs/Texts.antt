-- The text that a run prints.
use Rattle.std.specs.Prelude.{ℕ, ◌/◌, ◌%◌, Bool, true, false, List, [], ◌∷◌, ◌++◌, Result, Ok, Err, codes, Option, Some}
use Rattle.std.specs.Prelude.{None, ◌≡◌}
use Rattle.std.specs.Fmt.{decimal}
use Rattle.std.specs.List.{join_by}
use Rattle.refword.specs.Words.{address_in, mark_in}
use Rattle.model.specs.declared.records.Buffer.{Buffer}
use Rattle.model.specs.declared.records.PageState.{PageState}
use Rattle.model.specs.declared.records.PageState.TheVariants as states
use Rattle.model.specs.declared.records.Phase.{Phase}
use Rattle.model.specs.declared.records.Phase.TheVariants as phases
use Rattle.model.specs.declared.steps.Actor.{Actor}
use Rattle.model.specs.declared.steps.Actor.TheVariants.{Thread, Worker}
use Rattle.model.specs.declared.steps.Answer.{Answer}
use Rattle.model.specs.declared.steps.Answer.TheVariants as answers
use Rattle.model.specs.declared.steps.Refusal.{Refusal}
use Rattle.model.specs.Texts.{refusal_text}
use Rattle.reporting.specs.declared.wording.steps.AnswerParts.{AnswerParts}
use Rattle.reporting.specs.declared.wording.steps.AnswerParts.TheVariants as parts

-- the text of an actor
abbrev pub actor_text : Actor → List ℕ
actor_text (Thread t) = codes "t" ++ decimal t
actor_text (Worker w) = codes "w" ++ decimal w

-- the text of an answer
abbrev pub answer_text : Answer → List ℕ
answer_text (answers.Lent p o) = codes "lent " ++ decimal p ++ codes "." ++ decimal o
answer_text (answers.Birth b) = codes "birth " ++ decimal b
answer_text answers.Loaded = codes "loaded"
answer_text answers.Moved = codes "moved"
answer_text answers.Marked = codes "marked"
answer_text answers.Clear = codes "clear"
answer_text answers.Healed = codes "healed"
answer_text answers.Changed = codes "changed"
answer_text answers.Clean = codes "clean"
answer_text answers.Scanned = codes "scanned"
answer_text answers.Finished = codes "done"
answer_text answers.Done = codes "ok"
answer_text (answers.Datum v) = codes "datum " ++ decimal v
answer_text (answers.Truth true) = codes "true"
answer_text (answers.Truth false) = codes "false"
answer_text (answers.MovedTo p o) = codes "copied " ++ decimal p ++ codes "." ++ decimal o
answer_text (answers.CopiedPage n) = codes "copied all " ++ decimal n
answer_text (answers.Ended n m) = codes "ended live " ++ decimal n ++ codes " retired " ++ decimal m
answer_text (answers.Protected n m) = codes "protected objects " ++ decimal n ++ codes " targets " ++ decimal m
answer_text (answers.Released n) = codes "released free " ++ decimal n

-- the text of an answer's parts
abbrev pub parts_text : AnswerParts → List ℕ
parts_text (parts.Word w) = w.now
parts_text (parts.One w n) = w.now ++ decimal n
parts_text (parts.Two w n v m) = w.now ++ decimal n ++ v.now ++ decimal m

-- the text of a reply
abbrev pub reply_text : Result Answer Refusal → List ℕ
reply_text (Ok a) = answer_text a
reply_text (Err r) = codes "refused " ++ refusal_text r

-- the text of a reply after another one
abbrev pub next_text : Result Answer Refusal → List ℕ
next_text reply = codes ", " ++ reply_text reply

-- the texts of the replies to a command's steps, with a comma and a space between each two
abbrev pub replies_text : List (Result Answer Refusal) → List ℕ
replies_text replies = join_by reply_text (codes ", ") replies

-- the line of command n, with the replies to its steps
abbrev pub line_text : ℕ → Actor → List (Result Answer Refusal) → List ℕ
line_text n actor replies = decimal n ++ codes " " ++ actor_text actor ++ codes " " ++ replies_text replies ++ 10 ∷ []

-- the line of command n, a drain of `steps` steps
abbrev pub drained_line : ℕ → Actor → ℕ → List ℕ
drained_line n actor steps =
    decimal n ++ codes " " ++ actor_text actor ++ codes " drained " ++ decimal steps ++ 10 ∷ []

-- the text of a bit
abbrev pub bit_text : Bool → List ℕ
bit_text false = codes "0"
bit_text true = codes "1"

-- the text of an address with its bit, on pages of a number of words
abbrev pub address_text : ℕ → Option ℕ → Bool → List ℕ
address_text page_words None mark = codes "-"
address_text page_words (Some a) mark =
    decimal (a / page_words) ++ codes "." ++ decimal (a % page_words) ++ codes "/" ++ bit_text mark

-- the text of a reference, on pages of a number of words
abbrev pub word_text : ℕ → Option (ℕ × Bool) → List ℕ
word_text page_words w = address_text page_words (address_in w) (mark_in w)

-- the name of a phase
abbrev pub phase_text : Phase → List ℕ
phase_text phases.Idle = codes "idle"
phase_text phases.MarkCrossing = codes "mark-crossing"
phase_text phases.Scanning = codes "scanning"
phase_text phases.ProtectCrossing = codes "protect-crossing"
phase_text phases.Relocating = codes "relocating"

-- the name of a page's state
abbrev pub page_state_text : PageState → List ℕ
page_state_text states.Unused = codes "unused"
page_state_text states.Open = codes "open"
page_state_text states.Closed = codes "closed"
page_state_text states.From = codes "from"
page_state_text states.Gone = codes "gone"

-- the number of a frame, or `-` for none
abbrev pub frame_text : Option ℕ → List ℕ
frame_text None = codes "-"
frame_text (Some n) = decimal n

-- a buffer, or `-` for none
abbrev pub buffer_text : Option Buffer → List ℕ
buffer_text None = codes "-"
buffer_text (Some b) = decimal b.page ++ codes "." ++ decimal b.next ++ codes "-" ++ decimal b.end

-- c with the rest appended is old with all appended
abbrev pub Leads : Option (List ℕ) → Option (List ℕ) → List ℕ → List ℕ → Type 0
Leads None c rest all = Unit {0}
Leads (Some o) None rest all = ⊥
Leads (Some o) (Some m) rest all = m ++ rest ≡ o ++ all
