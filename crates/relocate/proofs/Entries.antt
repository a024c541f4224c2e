-- Entries of protected pages are within their pages.
use Rattle.std.proofs.Common.{◌≡◌, ◌≢◌, ℕ, zero, suc, ◌+◌, ◌-◌, ◌/◌, ◌<◌, ◌≤◌, true, List, [], ◌∷◌}
use Rattle.std.proofs.Common.{Option, Some, None, refl, sym, subst, arith}
use Rattle.std.proofs.Math.Nat.{div-lt_iff_lt-mul}
use Rattle.std.specs.List.{slice_get}
use Rattle.std.specs.Option.{IfSome}
use Rattle.std.proofs.lemmas.Option.{slice_get_within}
use Rattle.model.specs.declared.limits.TheConstants.{MOST_PAGES}
use Rattle.model.specs.declared.records.Forwarding.{Forwarding}
use Rattle.model.specs.declared.records.Page.{Page}
use Rattle.model.specs.Stores.{StoreState, page_at, state_at, state_in, is_from}
use Rattle.model.specs.Owning.{Each, IsStore}
use Rattle.model.specs.Holding.{IsHeap, AreRising, GoesToPage}
use Rattle.model.proofs.Tables.{none_goes}
use Rattle.model.specs.States.{HeapState}
use Rattle.model.specs.Bits.{of_page}
use Rattle.model.specs.declared.records.PageState.TheVariants.{Unused}
use Rattle.model.proofs.Memory.{page_there}
use Rattle.model.proofs.Plans.{rising_within}
use Rattle.page.proofs.NextTargets.{records_within}

-- a property of all forwarding tables and of the empty one is one of a page's
page_each : (P : List Forwarding → Type 0) (sides : List (List Forwarding)) (n : ℕ) → P [] → Each sides P
    → P (of_page sides n)
page_each P sides zero none h = none
page_each P [] (suc i) none h = none
page_each P (side ∷ sides) (suc zero) none h = h 0 side refl
page_each P (side ∷ sides) (suc (suc i)) none h = page_each P sides (suc i) none (λ j. h (suc j))

-- the entries of a page's forwarding table rise by offset
page_rises : (w : ℕ) (sides : List (List Forwarding)) (n : ℕ) → Each sides (AreRising w 0)
    → AreRising w 0 (of_page sides n)
page_rises w sides n h = page_each (AreRising w 0) sides n tt h

pub entry_within : (h : HeapState) (page e : ℕ) (o : Option Forwarding) → IsHeap h
    → o ≡ slice_get (of_page h.sides page) e → IfSome o (λ f. f.offset < h.store.words)
entry_within h page e None i is = tt
entry_within h page e (Some f) i is = subst (λ w. f.offset < w) (sym i.sizes.words)
    (rising_within h.config.words 0 (of_page h.sides page) e f
    (page_rises h.config.words h.sides page i.sides.rising) (sym is)).1

-- an entry's object goes to a page that may have a number
pub entry_paged : (h : HeapState) (page e : ℕ) (o : Option Forwarding) → IsHeap h
    → o ≡ slice_get (of_page h.sides page) e → IfSome o (λ f. f.to / h.store.words ≤ MOST_PAGES)
entry_paged h page e None i is = tt
entry_paged h page e (Some f) i is =
    let goes = page_each (λ side. Each side (GoesToPage h.config)) h.sides page (none_goes h.config) i.sides.places e f
    (sym is) in
    let low : 0 < h.config.words = omega (arith, i.config.words_low) in
    let few : f.to / h.config.words < h.config.pages + 1 = (div-lt_iff_lt-mul low).1 goes in
    subst (λ w. f.to / w ≤ MOST_PAGES) (sym i.sizes.words) (omega (arith, few, i.config.pages_high))

-- a page that isn't unused has a number
pub numbered : (s : StoreState) (page : ℕ) → IsStore s → state_at s page ≢ Unused → (0 < page) × (page ≤ s.count)
unfolding state_at
numbered s page h e = by_page (page_at s page) refl e
  where
    by_page : (o : Option Page) → page_at s page ≡ o → state_in o ≢ Unused → (0 < page) × (page ≤ s.count)
    by_page None f k = absurd (k refl)
    by_page (Some p) f k =
        let (one, at) = page_there s page p f in
        let low = slice_get_within s.pages (page - 1) p at in
        (omega (arith, one), omega (arith, one, low, records_within s h))

-- a From page has a number
from_numbered : (s : StoreState) (page : ℕ) → IsStore s → is_from (state_at s page) ≡ true
    → (0 < page) × (page ≤ s.count)
from_numbered s page h e =
    numbered s page h (λ z. absurd (let k : is_from Unused ≡ true = subst (λ p. is_from p ≡ true) z e in cc))

pub page_low : (s : StoreState) (page : ℕ) (o : Option Forwarding) → IsStore s → is_from (state_at s page) ≡ true
    → IfSome o (λ f. 0 < page)
page_low s page None h e = tt
page_low s page (Some f) h e = (from_numbered s page h e).0

pub page_high : (s : StoreState) (page : ℕ) (o : Option Forwarding) → IsStore s → is_from (state_at s page) ≡ true
    → IfSome o (λ f. page ≤ s.count)
page_high s page None h e = tt
page_high s page (Some f) h e = (from_numbered s page h e).1
