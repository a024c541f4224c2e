use Rattle.std.proofs.Common.{◌≡◌, length}
use Rattle.model.specs.Cycles.{is_lent}
use Rattle.model.specs.Stores.{store_after_mark}
use Rattle.page.proofs.Ended.{AreEnded}
use Rattle.page_rows.proofs.ending.end_pages.Given as goal

abbrev pub invariant-loop-index : goal.invariant-loop-index
invariant-loop-index l =
    (store_after_mark (is_lent l.fn.threads) l.store ≡ store_after_mark (is_lent l.fn.threads) l.fn.store)
    × AreEnded (is_lent l.fn.threads) l.index l.store
    × (length l.store.pages ≡ length l.fn.store.pages)
