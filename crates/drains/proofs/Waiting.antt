-- Objects that wait to be scanned, and the heap in which they are grey.
use Rattle.std.proofs.Common.{◌≡◌, ◌≢◌, inl, inr, ℕ, zero, suc, ◌+◌, ◌-◌, ◌/◌, ◌%◌, ◌<◌, ◌&&◌, not, Bool}
use Rattle.std.proofs.Common.{true, false, List, [], ◌∷◌, ◌++◌, reverse, get_or, is_some, length, Option, Some, None}
use Rattle.std.proofs.Common.{refl, sym}
use Rattle.std.proofs.Common.{◌∙◌, ap}
use Rattle.std.proofs.Common.{arith}
use Rattle.std.proofs.lemmas.List.{reverse-append}
use Rattle.std.proofs.Common.{subst}
use Rattle.std.specs.List.{slice_get, list_any}
use Rattle.std.specs.Prelude.{if◌then◌else◌}
use Rattle.std.proofs.lemmas.Bool.{and_parts, not-true}
use Rattle.std.proofs.lemmas.Option.{slice_get-get_or, slice_get_within, same_Some}
use Rattle.refword.specs.Words.{bits_of, address_in, IsAddress}
use Rattle.heap.specs.Marking.{bit_in, noted, marked_at, MarksFirst, MarksApart}
use Rattle.heap.proofs.Marking.{marks_keep, bit_keeps}
use Rattle.model.specs.declared.records.Scan.{Scan}
use Rattle.model.specs.Bits.{of_page, bit_at, with_bit}
use Rattle.model.specs.Data.{layout_at}
use Rattle.model.specs.Holding.{IsHeap, AreRowsOf}
use Rattle.model.specs.Marks.{with_mark, marked_word, resolve, entry_at}
use Rattle.model.specs.Owning.{IsStore}
use Rattle.model.specs.References.{field_address}
use Rattle.model.specs.Scans.{is_scan_of, is_taken, is_free_todo, next_todo, with_marked_place, reference_in}
use Rattle.model.specs.States.{Reference, HeapState}
use Rattle.model.specs.Stores.{StoreState, word_at, with_word, with_words}
use Rattle.model.proofs.Lists.{get_within}
use Rattle.model.proofs.Tables.{rows_many, row_at}
use Rattle.drains.specs.Drains.{marked_field, marked_fields, without_todo, refs_at, scanned, IsReady, ObjectsDone}
use Rattle.drains.specs.Waiting.{noting, all_noted, AreWaiting, WaitBeside, Waits, IsAlone, IsNextObject, IsNext}
use Rattle.drains.proofs.Bits.{bit_again, noting_two, page_there, noting_apart, bit_here, bit_read}
use Rattle.drains.proofs.Bits.{waiting_stay, one_waits}
use Rattle.drains.proofs.Scanned.{workers_stay, field_behind}
use Rattle.drains.proofs.Drained.{next_passes}
use Rattle.drains.proofs.Ended.{objects_first, objects_next}

-- ---- a word is marked

-- marking an object is the same beside objects that wait
at_all : (h : HeapState) (a : ℕ) (xs : List ℕ) → marked_at (all_noted h xs) a ≡ all_noted (marked_at h a) xs
unfolding marked_at all_noted
at_all h a xs =
    ap (λ (t : List (List Bool)). record h { mark = with_bit h.mark h.store.words a true; todo = t })
    (by_bit (bit_at h.mark h.store.words a))
  where
    by_bit : (b : Bool)
        → (if b then noting h.todo h.store.words xs
        else with_bit (noting h.todo h.store.words xs) h.store.words a true)
        ≡ noting (if b then h.todo else with_bit h.todo h.store.words a true) h.store.words xs
    by_bit true = refl
    by_bit false = sym (noting_two h.todo h.store.words a xs)

-- so is marking a word
mark_all : (h : HeapState) (v : Reference) (xs : List ℕ) → with_mark (all_noted h xs) v ≡ all_noted (with_mark h v) xs
unfolding with_mark all_noted marked_at resolve entry_at
mark_all h None xs = refl
mark_all h (Some x) xs = at_all h (resolve h x.0) xs

-- an object that is marked first, and then waits
pub first_waits : (h g : HeapState) (t : ℕ) (xs : List ℕ) → MarksFirst h t g
    → all_noted g (t ∷ xs) ≡ marked_at (all_noted h xs) t
unfolding all_noted noted
first_waits h g t xs m =
    ap (λ (r : List (List Bool)). record g { todo = r }) (sym (noting_two g.todo g.store.words t xs))
    ∙ ap (λ k. all_noted k xs) m.rest
    ∙ sym (at_all h t xs)

word_same : (h : HeapState) (v : Reference) (xs : List ℕ) → marked_word (all_noted h xs) v ≡ marked_word h v
unfolding marked_word all_noted resolve entry_at
word_same h None xs = refl
word_same h (Some x) xs = refl

-- a field is marked, and written back
pub field_noted : (h g k : HeapState) (xs ys : List ℕ) (place bits : ℕ)
    → all_noted g ys ≡ with_mark (all_noted h xs) (reference_in (word_at h.store place))
    → bits ≡ bits_of (marked_word h (reference_in (word_at h.store place)))
    → k ≡ record g { store = with_word g.store place bits }
    → all_noted k ys ≡ marked_field (all_noted h xs) place
unfolding marked_field with_marked_place all_noted with_mark with_word with_words
field_noted h g k xs ys place bits e f d =
    ap (λ x. all_noted x ys) d
    ∙ ap (λ (x : HeapState). record x { store = with_word x.store place bits }) e
    ∙ ap (λ n. record (with_mark (all_noted h xs) v) { store = with_word h.store place n })
    (f ∙ ap bits_of (sym (word_same h v xs)))
  where
    v : Reference
    v = reference_in (word_at h.store place)

-- a word is written back, and then its object is marked
place_then : (h : HeapState) (v : Reference) (xs : List ℕ) (place bits a t : ℕ) → Some a ≡ address_in v
    → t ≡ resolve h a → bits ≡ bits_of (Some (t, h.nmt))
    → marked_at (all_noted (record h { store = with_word h.store place bits }) xs) t
    ≡ with_marked_place (all_noted h xs) place v
unfolding with_marked_place marked_at all_noted with_mark marked_word resolve entry_at with_word with_words
place_then h None xs place bits a t named to f = absurd (cc)
place_then h (Some x) xs place bits a t named to f = λ i. record h {
  mark = with_bit h.mark h.store.words (there i) true;
  todo = if bit_at h.mark h.store.words (there i) then noting h.todo h.store.words xs
      else with_bit (noting h.todo h.store.words xs) h.store.words (there i) true;
  store = with_word h.store place ((f ∙ ap (λ n. bits_of (Some (n, h.nmt))) there) i);
}
  where
    there : t ≡ resolve h x.0
    there = to ∙ ap (resolve h) (same_Some _ _ named)

-- where it names none, nothing is marked
place_null : (h : HeapState) (v : Reference) (xs : List ℕ) (place bits : ℕ) → None ≡ address_in v
    → bits ≡ bits_of None
    → all_noted (record h { store = with_word h.store place bits }) xs ≡ with_marked_place (all_noted h xs) place v
unfolding with_marked_place all_noted with_mark marked_word with_word with_words
place_null h None xs place bits named f = ap (λ n. record h {
  todo = noting h.todo h.store.words xs;
  store = with_word h.store place n;
}) f
place_null h (Some x) xs place bits named f = absurd (cc)

-- ---- an object

-- whether objects are to be scanned doesn't show in a field
one_noted : (h : HeapState) (place : ℕ) (xs : List ℕ)
    → marked_field (all_noted h xs) place ≡ all_noted (marked_field h place) xs
unfolding marked_field with_marked_place with_mark
one_noted h place xs = sym (field_noted h (with_mark h v) (marked_field h place) xs xs place
    (bits_of (marked_word h v)) (sym (mark_all h v xs)) refl refl)
  where
    v : Reference
    v = reference_in (word_at h.store place)

-- nor in all fields
fields_noted : (h : HeapState) (a i k : ℕ) (xs : List ℕ)
    → marked_fields (all_noted h xs) a i k ≡ all_noted (marked_fields h a i k) xs
fields_noted h a i zero xs = refl
fields_noted h a i (suc k) xs =
    ap (λ g. marked_fields g a (i + 1) k) (one_noted h (field_address a i) xs)
    ∙ fields_noted (marked_field h (field_address a i)) a (i + 1) k xs

-- nor in what its scan leaves
pub own_scan : (h : HeapState) (a : ℕ) (xs : List ℕ)
    → scanned (all_noted h (a ∷ xs)) a ≡ scanned (all_noted h xs) a
unfolding scanned without_todo refs_at layout_at all_noted
own_scan h a xs =
    ap (λ k. without_todo k a) (fields_noted (all_noted h xs) a 0 refs (a ∷ []))
    ∙ ap (λ (t : List (List Bool)). record done { todo = t }) (bit_again done.todo done.store.words a)
  where
    refs : ℕ
    refs = refs_at h a

    done : HeapState
    done = marked_fields (all_noted h xs) a 0 refs

-- the object is scanned, while others wait
pub scan_ends : (h g k : HeapState) (a refs : ℕ) (xs ys : List ℕ) → refs ≡ refs_at h a
    → all_noted g ys ≡ marked_fields (all_noted h xs) a 0 refs
    → k ≡ record g { todo = with_bit g.todo g.store.words a false } → WaitBeside g a ys
    → all_noted k ys ≡ scanned (all_noted h xs) a
unfolding scanned without_todo all_noted refs_at layout_at
scan_ends h g k a refs xs ys r f e wait =
    ap (λ x. all_noted x ys) e
    ∙ ap (λ (t : List (List Bool)). record g { todo = t })
    (noting_apart g.mark g.todo g.store.words a ys wait.page wait.other wait.waiting)
    ∙ ap (λ x. without_todo x a) (f ∙ ap (marked_fields (all_noted h xs) a 0) r)

-- the workers are as they were
pub scan_leaves : (g k : HeapState) (a : ℕ) (ys zs : List ℕ) → all_noted k zs ≡ scanned (all_noted g ys) a
    → k.workers ≡ g.workers
unfolding all_noted scanned without_todo
scan_leaves g k a ys zs e =
    ap (λ (x : HeapState). x.workers) e ∙ workers_stay (all_noted g ys) a 0 (refs_at (all_noted g ys) a)

-- ---- what is picked

-- rows of the same pages have the same bits
bit_there : (s : StoreState) (w a : ℕ) (mark todo : List (List Bool)) (b : Bool) → AreRowsOf s mark
    → AreRowsOf s todo → bit_in mark w a ≡ Some b → (c : Bool) × (bit_in todo w a ≡ Some c)
bit_there s w a mark todo b m t e = by_page (a / w) e
  where
    by_row : (n : ℕ) (row : List Bool) → slice_get mark n ≡ Some row → slice_get row (a % w) ≡ Some b
        → (other : List Bool) → slice_get todo n ≡ Some other → (c : Bool) × (slice_get other (a % w) ≡ Some c)
    by_row n row p f other q =
        let low : a % w < length row = slice_get_within row (a % w) b f in
        let there = slice_get_within mark n row p in
        let (page, at) = get_within s.pages n (omega (arith, there, rows_many s mark m)) in
        let here : a % w < length other =
        omega (arith, low, row_at s mark n page row m at p, row_at s todo n page other t at q) in
        (get_or other (a % w) false, slice_get-get_or other (a % w) false here)

    read : (rows : List (List Bool)) (n : ℕ) → n < length rows → slice_get rows n ≡ Some (get_or rows n [])
    read rows n low = slice_get-get_or rows n [] low

    within : (rows : List (List Bool)) (n k : ℕ) (c : Bool) → slice_get (get_or rows n []) k ≡ Some c → n < length rows
    within [] n k c f = absurd (cc)
    within (r ∷ rs) zero k c f = omega arith
    within (r ∷ rs) (suc n) k c f = let l = within rs n k c f in omega (arith, l)

    by_page : (n : ℕ) → slice_get (of_page mark n) (a % w) ≡ Some b
        → (c : Bool) × (slice_get (of_page todo n) (a % w) ≡ Some c)
    by_page zero f = absurd (cc)
    by_page (suc n) f =
        let low : n < length mark = within mark n (a % w) b f in
        let there : n < length todo = omega (arith, low, rows_many s mark m, rows_many s todo t) in
        by_row n (get_or mark n []) (read mark n low) f (get_or todo n []) (read todo n there)

noting_rows : (s : StoreState) (rows : List (List Bool)) (w : ℕ) (xs : List ℕ) → AreRowsOf s rows
    → AreRowsOf s (noting rows w xs)
noting_rows s rows w [] r = r
noting_rows s rows w (a ∷ xs) r =
    bit_keeps s (noting rows w xs) (noting rows w (a ∷ xs)) w a true (noting_rows s rows w xs r) refl

pub noted_store : (h : HeapState) (xs : List ℕ) → IsStore h.store → IsStore (all_noted h xs).store
unfolding all_noted
noted_store h xs s = s

pub noted_heap : (h : HeapState) (xs : List ℕ) → IsHeap h → IsHeap (all_noted h xs)
unfolding all_noted
noted_heap h xs i = marks_keep h h.live h.mark (noting h.todo h.store.words xs) i i.live i.mark
    (noting_rows h.store h.todo h.store.words xs i.todo)

not_false : (b : Bool) → b ≡ false → not b ≡ true
not_false false e = refl
not_false true e = absurd (cc)

both : (a b : Bool) → a ≡ true → b ≡ true → (a && b) ≡ true
both true true e f = refl
both true false e f = absurd (cc)
both false b e f = absurd (cc)

-- one that waits, and that no worker has, may be picked
pub first_free : (h : HeapState) (a : ℕ) (xs : List ℕ) → IsHeap h → AreWaiting h.mark h.store.words (a ∷ xs)
    → is_taken h a ≡ false → is_free_todo (all_noted h (a ∷ xs)) a ≡ true
unfolding is_free_todo is_taken all_noted
first_free h a xs i wait free =
    let rows = noting_rows h.store h.todo h.store.words xs i.todo in
    let (b, there) = bit_there h.store h.store.words a h.mark (noting h.todo h.store.words xs) true i.mark rows wait.1 in
    both _ _
    (bit_read (noting h.todo h.store.words (a ∷ xs)) h.store.words a true
    (bit_here (noting h.todo h.store.words xs) h.store.words a b there))
    (not_false _ free)

-- what is to be scanned lies on a page
pub free_page : (h : HeapState) (a : ℕ) → is_free_todo h a ≡ true → 0 < a / h.store.words
unfolding is_free_todo
free_page h a e = by_page (a / h.store.words) (and_parts _ _ e).0
  where
    by_page : (n : ℕ) → get_or (of_page h.todo n) (a % h.store.words) false ≡ true → 0 < n
    by_page zero f = absurd (cc)
    by_page (suc n) f = omega arith

-- ---- what the code does

pub none_wait : (h : HeapState) (a : ℕ) → is_free_todo h a ≡ true → WaitBeside h a []
none_wait h a e = record { page = free_page h a e; other = tt; waiting = tt }

pub rest_waits : (h : HeapState) (a : ℕ) (xs : List ℕ) → AreWaiting h.mark h.store.words (a ∷ xs) → WaitBeside h a xs
rest_waits h a xs k = record {
  page = page_there h.mark h.store.words a true k.1;
  other = k.2;
  waiting = k.3;
}

-- one more waits beside the object that is scanned
pub more_wait : (h g : HeapState) (a t : ℕ) (xs : List ℕ) → WaitBeside h a xs → MarksFirst h t g → t ≢ a → IsAddress t
    → WaitBeside g a (t ∷ xs)
more_wait h g a t xs k m apart i = subst (λ x. WaitBeside x a (t ∷ xs)) (sym m.marked) (record {
  page = k.page;
  other = (apart, k.other);
  waiting = one_waits h.mark h.store.words t xs i m.fresh k.waiting;
})

still_wait : (h g : HeapState) (a t : ℕ) (xs : List ℕ) → WaitBeside h a xs → g ≡ marked_at h t → WaitBeside g a xs
unfolding marked_at
still_wait h g a t xs k e = subst (λ x. WaitBeside x a xs) (sym e) (record {
  page = k.page;
  other = k.other;
  waiting = waiting_stay h.mark h.store.words t xs k.waiting;
})

-- what marking an object told
pub apart_again : (h g : HeapState) (t : ℕ) (first : Bool) → MarksApart h t first g → first ≡ false
    → g ≡ marked_at h t
apart_again h g t false m e = m
apart_again h g t true m e = absurd (cc)

pub apart_first : (h g : HeapState) (t : ℕ) (first : Bool) → MarksApart h t first g → first ≡ true
    → MarksFirst h t g
apart_first h g t true m e = m
apart_first h g t false m e = absurd (cc)

-- an object is marked that was marked before, or that the heap has noted
pub marks_again : (h g : HeapState) (a t : ℕ) (xs : List ℕ) → WaitBeside h a xs → g ≡ marked_at h t
    → (all_noted g xs ≡ marked_at (all_noted h xs) t) × WaitBeside g a xs
marks_again h g a t xs wait e = (ap (λ k. all_noted k xs) e ∙ sym (at_all h t xs), still_wait h g a t xs wait e)

-- an object is marked first, and then it waits, or is noted
pub marks_wait : (h g k : HeapState) (a t : ℕ) (xs ys : List ℕ) → WaitBeside h a xs → MarksFirst h t g
    → Waits a t g xs k ys → (all_noted k ys ≡ marked_at (all_noted h xs) t) × WaitBeside k a ys
marks_wait h g k a t xs ys wait m (inl w) = (
  (λ i. all_noted (w.1 i) (w.0 i)) ∙ first_waits h g t xs m,
  subst (WaitBeside k a) (sym w.0) (subst (λ x. WaitBeside x a (t ∷ xs)) (sym w.1)
      (more_wait h g a t xs wait m w.2 w.3)),
)
marks_wait h g k a t xs ys wait m (inr w) =
    let (same, waits) = marks_again h k a t xs wait (w.1 ∙ m.rest) in (
      (λ i. all_noted k (w.0 i)) ∙ same,
      subst (WaitBeside k a) (sym w.0) waits,
    )

-- a word in memory is written
pub written_beside : (g k : HeapState) (a place bits : ℕ) (xs : List ℕ) → WaitBeside g a xs
    → k ≡ record g { store = with_word g.store place bits } → WaitBeside k a xs
unfolding with_word with_words
written_beside g k a place bits xs w e = subst (λ x. WaitBeside x a xs) (sym e) (record {
  page = w.page;
  other = w.other;
  waiting = w.waiting;
})

-- one that waited is noted
pub one_noted_too : (h : HeapState) (a : ℕ) (xs : List ℕ) → all_noted (noted h a) xs ≡ all_noted h (a ∷ xs)
unfolding all_noted noted
one_noted_too h a xs = ap (λ (t : List (List Bool)). record h { todo = t }) (noting_two h.todo h.store.words a xs)

pub none_noted : (h : HeapState) → all_noted h [] ≡ h
unfolding all_noted
none_noted h = refl

-- the object that waited last is the next one
pub waited_is_next : (h : HeapState) (a : ℕ) (xs : List ℕ) → IsHeap h → AreWaiting h.mark h.store.words (a ∷ xs)
    → is_taken h a ≡ false → IsNextObject h (a ∷ xs) a h xs
waited_is_next h a xs i wait free = record {
  free = first_free h a xs i wait free;
  same = sym (own_scan h a xs);
  waits = rest_waits h a xs wait;
  workers = refl;
}

-- one that was noted is the next one
pub noted_is_next : (h g : HeapState) (a : ℕ) (xs : List ℕ) → g ≡ all_noted h xs → is_free_todo g a ≡ true
    → IsNextObject h xs a g []
unfolding all_noted
noted_is_next h g a xs e free = record {
  free = ap (λ x. is_free_todo x a) (sym e) ∙ free;
  same = ap (λ x. scanned x a) e;
  waits = none_wait g a free;
  workers = ap (λ (x : HeapState). x.workers) e;
}

-- the same of a heap in which one more was noted
pub next_of_noted : (h g : HeapState) (a : ℕ) (r : Option ℕ) (xs ys : List ℕ) → IsNext (noted h a) xs r g ys
    → IsNext h (a ∷ xs) r g ys
unfolding noted
next_of_noted h g a None xs ys k = (k.0 ∙ one_noted_too h a xs, k.1)
next_of_noted h g a (Some b) xs ys k = record {
  free = ap (λ x. is_free_todo x b) (sym (one_noted_too h a xs)) ∙ k.free;
  same = k.same ∙ ap (λ x. scanned x b) (one_noted_too h a xs);
  waits = k.waits;
  workers = k.workers;
}

-- one that is pushed stands first in the reversed list
pub pushed_first : (xs : List ℕ) (t : ℕ) → reverse (xs ++ (t ∷ [])) ≡ t ∷ reverse xs
pushed_first xs t = reverse-append xs (t ∷ [])

-- a field is read and written back, by its place behind the object, and then the object that it names is marked
pub field_of_word : (h j k : HeapState) (xs ys : List ℕ) (a i n b t bits : ℕ) (word marked : Reference) (nmt : Bool)
    → n ≡ i → word ≡ reference_in (word_at h.store (a + (1 + n))) → Some b ≡ address_in word → t ≡ resolve h b
    → nmt ≡ h.nmt → marked ≡ Some (t, nmt) → bits ≡ bits_of marked
    → j ≡ record h { store = with_word h.store (a + (1 + n)) bits }
    → all_noted k ys ≡ marked_at (all_noted j xs) t → all_noted k ys ≡ marked_field (all_noted h xs) (field_address a i)
unfolding marked_field all_noted
field_of_word h j k xs ys a i n b t bits word marked nmt at read named to bit of f d marks =
    marks ∙ ap (λ x. marked_at (all_noted x xs) t) d
    ∙ place_then h word xs (a + (1 + n)) bits b t named to (f ∙ ap bits_of (of ∙ ap (λ (c : Bool). Some (t, c)) bit))
    ∙ ap (with_marked_place (all_noted h xs) (a + (1 + n))) read
    ∙ ap (λ m. marked_field (all_noted h xs) (a + (1 + m))) at
    ∙ ap (marked_field (all_noted h xs)) (field_behind a i)

-- or it names none
pub field_of_null : (h j : HeapState) (xs : List ℕ) (a i n bits : ℕ) (word null : Reference)
    → n ≡ i → word ≡ reference_in (word_at h.store (a + (1 + n))) → None ≡ address_in word → null ≡ None
    → bits ≡ bits_of null → j ≡ record h { store = with_word h.store (a + (1 + n)) bits }
    → all_noted j xs ≡ marked_field (all_noted h xs) (field_address a i)
unfolding marked_field all_noted
field_of_null h j xs a i n bits word null at read named is f d =
    ap (λ x. all_noted x xs) d
    ∙ place_null h word xs (a + (1 + n)) bits named (f ∙ ap bits_of is)
    ∙ ap (with_marked_place (all_noted h xs) (a + (1 + n))) read
    ∙ ap (λ m. marked_field (all_noted h xs) (a + (1 + m))) at
    ∙ ap (marked_field (all_noted h xs)) (field_behind a i)

-- the newest of some that wait
pub popped : (old rest : List ℕ) (n : ℕ) → old ≡ rest ++ (n ∷ []) → reverse old ≡ n ∷ reverse rest
popped old rest n e = ap reverse e ∙ pushed_first rest n

pub note_more : (h g k : HeapState) (xs rest : List ℕ) (n : ℕ) → all_noted g xs ≡ h → xs ≡ n ∷ rest → k ≡ noted g n
    → all_noted k rest ≡ h
note_more h g k xs rest n e f d =
    ap (λ x. all_noted x rest) d ∙ one_noted_too g n rest ∙ ap (all_noted g) (sym f) ∙ e

pub wait_less : (h k : HeapState) (xs rest : List ℕ) (n : ℕ) → AreWaiting h.mark h.store.words xs → xs ≡ n ∷ rest
    → k ≡ noted h n → AreWaiting k.mark k.store.words rest
unfolding noted
wait_less h k xs rest n w f d =
    subst (λ (x : HeapState). AreWaiting x.mark x.store.words rest) (sym d)
    (subst (AreWaiting h.mark h.store.words) f w).3

pub first_address : (mark : List (List Bool)) (words : ℕ) (xs rest : List ℕ) (n : ℕ) → AreWaiting mark words xs
    → xs ≡ n ∷ rest → IsAddress n
first_address mark words xs rest n w f = (subst (AreWaiting mark words) f w).0

-- those that wait go on waiting when the object is scanned
pub scan_waits : (g k : HeapState) (a : ℕ) (xs : List ℕ) → WaitBeside g a xs
    → k ≡ record g { todo = with_bit g.todo g.store.words a false } → AreWaiting k.mark k.store.words xs
scan_waits g k a xs b e = subst (λ (x : HeapState). AreWaiting x.mark x.store.words xs) (sym e) b.waiting

none_there : (xs : List ℕ) → length xs ≡ 0 → xs ≡ []
none_there [] e = refl
none_there (x ∷ xs) e = absurd (omega (arith, e))

-- where none waits any more, all is noted
pub all_done : (g h : HeapState) (xs : List ℕ) → all_noted g (reverse xs) ≡ h → length xs ≡ 0 → g ≡ h
all_done g h xs e f =
    sym (none_noted g) ∙ ap (λ ys. all_noted g (reverse ys)) (sym (none_there xs f)) ∙ e

pub none_left : (xs : List ℕ) (r : Option ℕ) → r ≡ slice_get xs (length xs - 1) → r ≡ None → length xs ≡ 0
none_left [] r e f = refl
none_left (x ∷ xs) r e f =
    let there = slice_get-get_or (x ∷ xs) (length (x ∷ xs) - 1) 0 (omega arith) in
    absurd (some_none _ (sym there ∙ sym e ∙ f))
  where
    some_none : (n : ℕ) → Some n ≡ None → ⊥
    some_none n q = absurd (cc)

pub push_length : (xs : List ℕ) (n : ℕ) → length (xs ++ (n ∷ [])) ≡ length xs + 1
push_length [] n = refl
push_length (x ∷ xs) n = let e = push_length xs n in omega (arith, e)

-- what the next one is, of what the heap has noted
pub noted_next_is : (h g : HeapState) (xs ys : List ℕ) (r : Option ℕ) → g ≡ all_noted h xs → ys ≡ [] → next_todo g ≡ r
    → IsNext h xs r g ys
noted_next_is h g xs ys None e n f = (e, f)
noted_next_is h g xs ys (Some a) e n f =
    subst (λ zs. IsNextObject h xs a g zs) (sym n) (noted_is_next h g a xs e (next_passes g a f))

pub rest_wait : (h : HeapState) (a : ℕ) (xs : List ℕ) → AreWaiting h.mark h.store.words (a ∷ xs)
    → AreWaiting (noted h a).mark (noted h a).store.words xs
unfolding noted
rest_wait h a xs w = w.3

-- ---- the loop

pub objects_begin : (h : HeapState) (w : ℕ) (xs : List ℕ) → IsReady h w → xs ≡ []
    → ObjectsDone h w 0 (all_noted h (reverse xs)) × AreWaiting h.mark h.store.words (reverse xs)
objects_begin h w xs r e = (
  subst (λ g. ObjectsDone h w 0 g) (sym (ap (λ ys. all_noted h (reverse ys)) e ∙ none_noted h)) (objects_first h w r),
  subst (λ ys. AreWaiting h.mark h.store.words (reverse ys)) (sym e) tt,
)

pub object_more : (f h g k : HeapState) (w n a : ℕ) (xs ys zs : List ℕ) → ObjectsDone f w n (all_noted h xs)
    → IsStore h.store → IsHeap h → IsNextObject h xs a g ys → all_noted k zs ≡ scanned (all_noted g ys) a
    → ObjectsDone f w (n + 1) (all_noted k zs)
object_more f h g k w n a xs ys zs d s i next e =
    objects_next f (all_noted h xs) (all_noted k zs) w n a d (noted_store h xs s) (noted_heap h xs i) next.free
    (e ∙ next.same)

-- where no worker has an object, none has this one
pub none_taken : (h : HeapState) (alone : Bool) (a : ℕ) → IsAlone alone h.workers → alone ≡ true
    → true ≡ not (is_taken h a)
unfolding is_taken
none_taken h alone a k e = ap not (sym (by_workers h.workers (k e)))
  where
    by_workers : (ws : List (Option Scan)) → list_any is_some ws ≡ false → list_any (is_scan_of a) ws ≡ false
    by_workers [] f = refl
    by_workers (None ∷ ws) f = by_workers ws f
    by_workers (Some s ∷ ws) f = absurd (cc)

pub not_taken : (h : HeapState) (a n : ℕ) (b : Bool) → n ≡ a → b ≡ not (is_taken h n) → b ≡ true
    → is_taken h a ≡ false
not_taken h a n b e f g = ap (is_taken h) (sym e) ∙ not-true (is_taken h n) (sym f ∙ g)

pub alone_first : (ws : List (Option Scan)) (alone : Bool) → alone ≡ not (list_any is_some ws) → IsAlone alone ws
alone_first ws alone e f = not-true (list_any is_some ws) (sym e ∙ f)

pub alone_still : (h g k : HeapState) (alone : Bool) (a : ℕ) (xs ys zs : List ℕ) → IsAlone alone h.workers
    → IsNextObject h xs a g ys → all_noted k zs ≡ scanned (all_noted g ys) a → IsAlone alone k.workers
alone_still h g k alone a xs ys zs i next e =
    subst (IsAlone alone) (sym (scan_leaves g k a ys zs e ∙ next.workers)) i
