-- Where objects were copied to, in a heap's image.
use Rattle.std.proofs.Common.{◌≡◌, ℕ, ◌/◌, ◌%◌, cond, Bool, true, false, eqb, List, [], ◌∷◌, Option, Some, None}
use Rattle.std.proofs.Common.{is_some, refl, sym, ap, ◌∙◌}
use Rattle.std.specs.List.{find}
use Rattle.std.specs.Option.{option_and_then, unwrap_or}
use Rattle.std.proofs.lemmas.Bool.{true≢false, false≢true}
use Rattle.model.specs.declared.records.Page.{Page}
use Rattle.model.specs.declared.records.Forwarding.{Forwarding}
use Rattle.model.specs.Stores.{page_at as store_page, state_at, state_in, is_protected}
use Rattle.model.specs.Bits.{of_page}
use Rattle.model.specs.States.{HeapState}
use Rattle.laws.specs.AddressHeap.{HeapObject, SideEntry, NoEntry, Planned, Copied, resolve_by, current, current_by}
use Rattle.laws.specs.AddressHeap.{resolve as world_resolve}
use Rattle.refinement.specs.Worlds.{world_of, entry_at, entry_of, object_at as world_object}
use Rattle.verify.specs.Images.{copy_in, copy_of, copy_on, if_protected, is_copied, page_at, resolve}
use Rattle.verify.specs.Pictures.{image_of, page_data}
use Rattle.heap_images.proofs.Pages.{page_is, pictured}

-- the address to which an entry's object was copied
abbrev copied_to : SideEntry → Option ℕ
copied_to (Copied n) = Some n
copied_to _ = None

-- a forwarding table has the same in the image
entry_copy : (fs : List Forwarding) (o : ℕ) → copied_to (entry_at fs o) ≡ copy_in fs o
entry_copy [] o = refl
entry_copy (f ∷ fs) o = by_test (entry_copy fs o) (eqb f.offset o)
  where
    by_flag : (t : Bool) → copied_to (entry_of t f.to) ≡ cond t (Some f.to) None
    by_flag true = refl
    by_flag false = refl

    by_test : copied_to (entry_at fs o) ≡ copy_in fs o → (t : Bool)
        → copied_to (cond t (entry_of f.copied f.to) (entry_at fs o))
        ≡ option_and_then copy_of (cond t (Some f) (find (λ g. eqb g.offset o) fs))
    by_test r true = by_flag f.copied
    by_test r false = r

-- an object that no forwarding table has as copied is current
pub copied_not : (h : HeapState) (a : ℕ) (p : Page) (q : HeapObject)
    → store_page h.store (a / h.store.words) ≡ Some p → is_copied (image_of h) a ≡ false
    → world_object h a ≡ Some q → current (world_of h) a ≡ Some q
unfolding is_copied image_of
copied_not h a p q e f g = by_entry ((world_of h).side_entry a) (ap is_some told ∙ f)
  where
    told : copied_to ((world_of h).side_entry a) ≡ copy_on (page_at (image_of h) a) (a % h.store.words)
    told =
        entry_copy (of_page h.sides (a / h.store.words)) (a % h.store.words)
        ∙ sym (ap (λ o. copy_on o (a % h.store.words)) (page_is h a ∙ ap (pictured h (a / h.store.words)) e))

    by_entry : (y : SideEntry) → is_some (copied_to y) ≡ false → current_by y (world_object h a) ≡ Some q
    by_entry NoEntry k = g
    by_entry (Planned n) k = g
    by_entry (Copied n) k = absurd (true≢false k)

-- in the image an address leads to where the heap's forwarding tables forward it, as only pages that are or were
-- protected have copied objects
pub resolve_is : (h : HeapState) (a : ℕ)
    → ((n : ℕ) → (world_of h).side_entry a ≡ Copied n → is_protected ((world_of h).page_state a) ≡ true)
    → resolve (image_of h) a ≡ world_resolve (world_of h) a
unfolding resolve image_of state_at
resolve_is h a from =
    ap (λ o. unwrap_or (copy_on (if_protected o) (a % h.store.words)) a) (page_is h a)
    ∙ by_page (store_page h.store (a / h.store.words)) refl
  where
    by_entry : (y : SideEntry) → unwrap_or (copied_to y) a ≡ resolve_by y a
    by_entry NoEntry = refl
    by_entry (Planned n) = refl
    by_entry (Copied n) = refl

    uncopied : (y : SideEntry) → ((n : ℕ) → y ≡ Copied n → false ≡ true) → a ≡ resolve_by y a
    uncopied NoEntry k = refl
    uncopied (Planned n) k = refl
    uncopied (Copied n) k = absurd (false≢true (k n refl))

    by_test : (t : Bool) → ((n : ℕ) → (world_of h).side_entry a ≡ Copied n → t ≡ true)
        → unwrap_or (copy_on (cond t (Some (page_data h (a / h.store.words))) None) (a % h.store.words)) a
        ≡ world_resolve (world_of h) a
    by_test true k =
        ap (λ o. unwrap_or o a) (sym (entry_copy (of_page h.sides (a / h.store.words)) (a % h.store.words)))
        ∙ by_entry ((world_of h).side_entry a)
    by_test false k = uncopied ((world_of h).side_entry a) k

    by_page : (o : Option Page) → store_page h.store (a / h.store.words) ≡ o
        → unwrap_or (copy_on (if_protected (pictured h (a / h.store.words) o)) (a % h.store.words)) a
        ≡ world_resolve (world_of h) a
    by_page None e =
        uncopied ((world_of h).side_entry a) (λ n k. sym (ap (λ o. is_protected (state_in o)) e) ∙ from n k)
    by_page (Some p) e = by_test (is_protected (state_at h.store (a / h.store.words))) from
