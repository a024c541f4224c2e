-- Memory of pages that open.
use Rattle.std.specs.Prelude.{◌≡◌, ℕ, ◌-◌, ◌==◌, Bool, List, false, replicate, slice_set, if◌then◌else◌}
use Rattle.model.specs.declared.records.Buffer.{Buffer}
use Rattle.page_rows.specs.declared.opening.PageRows.{PageRows}
use Rattle.page_rows.specs.declared.opening.PageMemory.{PageMemory}

-- bitmaps of `words` bits, all clear
pub record AreClear (words : ℕ) (rows : PageRows) : Type 0 where
  pub starts : rows.starts ≡ replicate words false
  pub live : rows.live ≡ replicate words false
  pub mark : rows.mark ≡ replicate words false
  pub todo : rows.todo ≡ replicate words false

-- memory of a page of `words` words: all of them 0, and clear bitmaps
pub record IsBlank (words : ℕ) (memory : PageMemory) : Type 0 where
  pub frame : memory.frame ≡ replicate words 0
  pub rows : AreClear words memory.rows

-- bitmaps of pages, of which the page of a buffer gets this one if the buffer is its first
abbrev pub opened : Buffer → List Bool → List (List Bool) → List (List Bool)
opened buffer row rows = if buffer.next == 0 then slice_set rows (buffer.page - 1) row else rows
