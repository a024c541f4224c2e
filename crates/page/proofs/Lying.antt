-- Buffers stay in open pages when a store changes.
use Rattle.std.proofs.Common.{◌≡◌, ◌≢◌, ◌⊎◌, inl, inr, ℕ, ◌+◌, ◌-◌, ◌*◌, ◌/◌, ◌<◌, ◌≤◌, true, false}
use Rattle.std.proofs.Common.{List}
use Rattle.std.proofs.Common.{length, position, Option, Some, None, set, replicate, refl, sym, ◌∙◌, ap, subst}
use Rattle.std.proofs.Common.{arith, rules, Bool, nat_le, ◌&&◌}
use Rattle.std.specs.List.{slice_get}
use Rattle.std.proofs.Math.ListN.{length-set}
use Rattle.std.specs.Prelude.{Ok, Err, Result, IfOk, MatchBool, ◌==◌}
use Rattle.std.proofs.Math.Nat.{mul-le-mul_left}
use Rattle.std.proofs.lemmas.Nat.{mul-add-lt}
use Rattle.std.proofs.lemmas.Bool.Decides.{nat_tests}
use Rattle.std.proofs.lemmas.Option.{slice_get_within}
use Rattle.std.proofs.lemmas.Bool.{cases_eq, and_parts, false≢true, leb-true, true≢false}
use Rattle.refword.specs.Words.{IsAddress}
use Rattle.model.specs.declared.limits.TheConstants.{MOST_PAGES}
use Rattle.model.specs.declared.records.Page.{Page}
use Rattle.model.specs.declared.records.Room.{Room}
use Rattle.model.specs.declared.records.Room.TheVariants.{NoFrames, NoPages}
use Rattle.model.specs.declared.records.Buffer.{Buffer}
use Rattle.model.specs.Stores.{StoreState, is_open, is_unused, is_protected, state_in, open_fresh, give_words}
use Rattle.model.specs.Stores.{buffer_of, state_at}
use Rattle.model.specs.Stores.{Takes, TakesOrLacks, with_words, with_word, fresh_page, take_buffer}
use Rattle.model.specs.Stores.{page_with_room, free_frame, unused_page, record_count, take_fresh, take_at, top_in}
use Rattle.model.specs.Protections.{take_target}
use Rattle.model.specs.Owning.{IsStore, LiesIn, AreSized, TakesWell, NoneProtected}
use Rattle.model.proofs.Memory.{frames_stay}
use Rattle.model.proofs.Lists.{get_set_same, get_set_other, get_within, each_set}
use Rattle.page.proofs.Found.{position_within, room_left, free_counts, free_within, room_within, room_passes}
use Rattle.page.proofs.Keeping.{unused_as, page_at_record, page_at_zero, opened_words, opened_at, given_at}
use Rattle.page.proofs.RowSizes.{given_rows, fresh_rows}
use Rattle.page.specs.Lending.{lies_in}
use Rattle.page.specs.Records.{begins_in, begins_page}

-- the page of a buffer has a record
pub lies_at : (s : StoreState) (b : Buffer) → LiesIn s b
    → (b.page ≢ 0) × (p : Page) × (slice_get s.pages (b.page - 1) ≡ Some p) × (is_open p.state ≡ true)
lies_at s b h = by_number (cases_eq b.page 0)
  where
    by_record : b.page ≢ 0 → (o : Option Page) → slice_get s.pages (b.page - 1) ≡ o
        → (b.page ≢ 0) × (p : Page) × (slice_get s.pages (b.page - 1) ≡ Some p) × (is_open p.state ≡ true)
    by_record z None e =
        absurd (false≢true (sym (ap (λ o. is_open (state_in o)) (page_at_record s b.page z ∙ e)) ∙ h.page))
    by_record z (Some p) e = (z, p, e, sym (ap (λ o. is_open (state_in o)) (page_at_record s b.page z ∙ e)) ∙ h.page)

    by_number : (b.page ≡ 0) ⊎ (b.page ≢ 0)
        → (b.page ≢ 0) × (p : Page) × (slice_get s.pages (b.page - 1) ≡ Some p) × (is_open p.state ≡ true)
    by_number (inl z) = absurd (false≢true (sym (ap (λ o. is_open (state_in o)) (page_at_zero s b.page z)) ∙ h.page))
    by_number (inr z) = by_record z (slice_get s.pages (b.page - 1)) refl

-- a buffer whose page is open lies in the store
pub lies_by : (s : StoreState) (b : Buffer) (p : Page) → b.page ≢ 0 → slice_get s.pages (b.page - 1) ≡ Some p
    → is_open p.state ≡ true → b.next ≤ b.end → b.end ≤ s.words → LiesIn s b
lies_by s b p z e o order end =
    record { page = ap (λ o. is_open (state_in o)) (page_at_record s b.page z ∙ e) ∙ o; order = order; end = end }

-- the records of two stores are the same
pub lies_same : (s t : StoreState) (b : Buffer) → t.pages ≡ s.pages → t.words ≡ s.words → LiesIn s b → LiesIn t b
lies_same s t b e w h =
    let (z, p, at, is_so) = lies_at s b h in
    lies_by t b p z (ap (λ ps. slice_get ps (b.page - 1)) e ∙ at) is_so h.order (rw w h.end)

-- a record is replaced by that of an open page
pub lies_set : (s t : StoreState) (i : ℕ) (p q : Page) (b : Buffer) → t.pages ≡ set s.pages i q → t.words ≡ s.words
    → slice_get s.pages i ≡ Some p → is_open q.state ≡ true → LiesIn s b → LiesIn t b
lies_set s t i p q b e w at o h =
    let (z, r, found, is_so) = lies_at s b h in
    by_place z r found is_so (cases_eq (b.page - 1) i)
  where
    by_place : b.page ≢ 0 → (r : Page) → slice_get s.pages (b.page - 1) ≡ Some r → is_open r.state ≡ true
        → (b.page - 1 ≡ i) ⊎ (b.page - 1 ≢ i) → LiesIn t b
    by_place z r found is_so (inl k) = lies_by t b q z (ap (λ ps. slice_get ps (b.page - 1)) e
        ∙ ap (slice_get (set s.pages i q)) k ∙ get_set_same s.pages i p q at) o h.order (rw w h.end)
    by_place z r found is_so (inr k) = lies_by t b r z (ap (λ ps. slice_get ps (b.page - 1)) e
        ∙ get_set_other s.pages i (b.page - 1) q k ∙ found) is_so h.order (rw w h.end)

-- words given out of an open page
given_lies : (s : StoreState) (i n : ℕ) (p : Page) → slice_get s.pages i ≡ Some p → is_open p.state ≡ true
    → p.top + n ≤ s.words → LiesIn (give_words s i n).0 (give_words s i n).1
given_lies s i n p e o room =
    let q : Page = record p { top = p.top + n } in
    let back : i + 1 - 1 ≡ i = omega arith in
    rw (given_at s i n p e) (lies_by (record s { pages = set s.pages i q }) (buffer_of i p.top n) q (omega arith)
    (ap (slice_get (set s.pages i q)) back ∙ get_set_same s.pages i p q e) o (omega arith) room)

given_stays : (s : StoreState) (i n : ℕ) (p : Page) (c : Buffer) → slice_get s.pages i ≡ Some p
    → is_open p.state ≡ true → LiesIn s c → LiesIn (give_words s i n).0 c
given_stays s i n p c e o h = rw (given_at s i n p e) (lies_set s (record s {
  pages = set s.pages i (record p { top = p.top + n });
}) i p (record p { top = p.top + n }) c refl refl e o h)

opened_stays : (s : StoreState) (i f : ℕ) (p : Page) (c : Buffer) → slice_get s.pages i ≡ Some p → LiesIn s c
    → LiesIn (open_fresh s i f) c
unfolding open_fresh
opened_stays s i f p c e h = lies_set s (open_fresh s i f) i p (fresh_page f) c refl refl e refl h

opened_unprotected : (s : StoreState) (i f : ℕ) → NoneProtected s → NoneProtected (open_fresh s i f)
unfolding open_fresh
opened_unprotected s i f k = each_set (λ q. is_protected q.state ≡ false) s.pages i (fresh_page f) k refl

-- the sizes stay
given_sized : (s : StoreState) (i n : ℕ) → AreSized s (give_words s i n).0
unfolding give_words
given_sized s i n = record { words = refl; count = refl; frames = refl }

opened_sized : (s : StoreState) (i f n : ℕ) → AreSized s (give_words (open_fresh s i f) i n).0
unfolding give_words open_fresh
opened_sized s i f n =
    record { words = refl; count = refl; frames = length-set s.frames f (replicate s.words 0) }

well_given : (s : StoreState) (i n : ℕ) (p : Page) → slice_get s.pages i ≡ Some p → is_open p.state ≡ true
    → p.top + n ≤ s.words → TakesWell s (give_words s i n).0 (give_words s i n).1
well_given s i n p e o room = record {
  sized = given_sized s i n;
  rows = given_rows s i n p e o;
  lies = given_lies s i n p e o room;
  stays = λ c h. given_stays s i n p c e o h;
  unprotected = λ k. subst NoneProtected (sym (ap (λ (x : StoreState × Buffer). x.0) (given_at s i n p e)))
      (each_set (λ q. is_protected q.state ≡ false) s.pages i (record p { top = p.top + n }) k (k i p e));
}

pub well_opened : (s : StoreState) (i f n : ℕ) (p : Page) → slice_get s.pages i ≡ Some p → n ≤ s.words
    → TakesWell s (give_words (open_fresh s i f) i n).0 (give_words (open_fresh s i f) i n).1
well_opened s i f n p e room =
    let at = opened_at s i f p e in
    let words = opened_words s i f in
    record {
      sized = opened_sized s i f n;
      rows = fresh_rows s i f n p e;
      lies = given_lies (open_fresh s i f) i n (fresh_page f) at refl (rw words (omega arith));
      stays = λ c h. given_stays (open_fresh s i f) i n (fresh_page f) c at refl (opened_stays s i f p c e h);
      unprotected = λ k. subst NoneProtected
          (sym (ap (λ (x : StoreState × Buffer). x.0) (given_at (open_fresh s i f) i n (fresh_page f) at)))
          (each_set (λ q. is_protected q.state ≡ false) (open_fresh s i f).pages i
          (record (fresh_page f) { top = 0 + n }) (opened_unprotected s i f k) refl);
    }

abbrev Taken : Type 0
Taken = Result (StoreState × Buffer) Room

same_ok : (x y : StoreState × Buffer) → ◌≡◌ {A = Taken} (Ok x) (Ok y) → x ≡ y
same_ok x y e = cc

err_ok : (r : Room) (y : StoreState × Buffer) → ◌≡◌ {A = Taken} (Err r) (Ok y) → ⊥
err_ok r y e = cc

taken_given : (s : StoreState) (n i : ℕ) → page_with_room s.words n s.pages ≡ Some i
    → take_buffer s n ≡ Ok (give_words s i n)
unfolding take_buffer
taken_given s n i a = rw a refl

-- if no open page has space, the words are those of a fresh page
taken_fresh : (s : StoreState) (n : ℕ) → page_with_room s.words n s.pages ≡ None
    → take_buffer s n ≡ take_fresh s n (free_frame s.owners) (unused_page s.count s.pages)
unfolding take_buffer
taken_fresh s n r = ap (take_at s n) r

pub fresh_well : (s t : StoreState) (n : ℕ) (b : Buffer) → IsStore s → n ≤ s.words
    → take_fresh s n (free_frame s.owners) (unused_page s.count s.pages) ≡ Ok (t, b) → TakesWell s t b
fresh_well s t n b h high e = by_frame (free_frame s.owners) refl (unused_page s.count s.pages) refl e
  where
    by_frame : (f : Option ℕ) → free_frame s.owners ≡ f → (o : Option ℕ) → unused_page s.count s.pages ≡ o
        → take_fresh s n f o ≡ Ok (t, b) → TakesWell s t b
    by_frame None a o c k = absurd (err_ok NoFrames (t, b) k)
    by_frame (Some f) a None c k = absurd (err_ok NoPages (t, b) k)
    by_frame (Some f) a (Some i) c k =
        let counts = free_counts s.owners f (free_within s.owners f a) a in
        let at = unused_as s h counts (position (λ (p : Page). is_unused p.state) s.pages) refl ∙ c in
        let p = get_within s.pages i (position_within (λ (p : Page). is_unused p.state) s.pages i at (fresh_page f)) in
        subst (λ (y : StoreState × Buffer). TakesWell s y.0 y.1)
        (same_ok (give_words (open_fresh s i f) i n) (t, b) k) (well_opened s i f n p.0 p.1 high)

pub takes_well : (s t : StoreState) (n : ℕ) (b : Buffer) → IsStore s → 0 < n → n ≤ s.words → take_buffer s n ≡ Ok (t, b)
    → TakesWell s t b
takes_well s t n b h low high e = by_room (page_with_room s.words n s.pages) refl
  where
    as_taken : (x : StoreState × Buffer) → take_buffer s n ≡ Ok x → TakesWell s x.0 x.1 → TakesWell s t b
    as_taken x k w = let same : x ≡ (t, b) = same_ok x (t, b) (sym k ∙ e) in
        subst (λ (y : StoreState × Buffer). TakesWell s y.0 y.1) same w

    by_room : (o : Option ℕ) → page_with_room s.words n s.pages ≡ o → TakesWell s t b
    by_room None a = fresh_well s t n b h high (sym (taken_fresh s n a) ∙ e)
    by_room (Some i) a =
        let within = room_within s.words n s.pages i a (fresh_page 0) in
        let p = get_within s.pages i within in
        let passes = room_passes s.words n s.pages i a p.0 p.1 in
        as_taken (give_words s i n) (taken_given s n i a) (well_given s i n p.0 p.1
        (and_parts (is_open p.0.state) _ passes).0 (room_left s.words n p.0.top (is_open p.0.state) low passes))

-- the same, of a call that took a buffer or failed
pub target_by : (s t : StoreState) (r : Result Buffer Room) → IsStore s → Takes s r t (take_target s)
    → IfOk r (TakesWell s t)
unfolding take_target
target_by s t (Ok b) h e = fresh_well s t s.words b h (omega arith) e
target_by s t (Err x) h e = search rules

pub takes_by : (s t : StoreState) (n : ℕ) (r : Result Buffer Room) → IsStore s → 0 < n → n ≤ s.words
    → TakesOrLacks s r t (take_buffer s n) → IfOk r (TakesWell s t)
takes_by s t n (Ok b) h low high e = takes_well s t n b h low high e
takes_by s t n (Err x) h low high e = search rules

given_next : (s : StoreState) (i n : ℕ) → top_in (slice_get s.pages i) ≡ (give_words s i n).1.next
unfolding give_words
given_next s i n = refl

-- a buffer at the start of its page was taken when a fresh page was to be opened
pub page_begun : (s t : StoreState) (n : ℕ) (b : Buffer) → take_buffer s n ≡ Ok (t, b) → b.next ≡ 0
    → begins_page s n ≡ true
unfolding begins_page
page_begun s t n b e z = by_room (page_with_room s.words n s.pages) refl
  where
    by_room : (o : Option ℕ) → page_with_room s.words n s.pages ≡ o → begins_in s.pages o ≡ true
    by_room None a = refl
    by_room (Some i) a = let is : give_words s i n ≡ (t, b) = same_ok _ _ (sym (taken_given s n i a) ∙ e) in
        ap (λ m. m == 0) (given_next s i n ∙ ap (λ (x : StoreState × Buffer). x.1.next) is ∙ z)

-- other words in a page's frame
pub words_sized_alike : (s : StoreState) (n : ℕ) (change : List ℕ → List ℕ) → AreSized s (with_words s n change)
unfolding with_words
words_sized_alike s n change = record { words = refl; count = refl; frames = frames_stay s n change }

pub word_sized_alike : (s : StoreState) (address v : ℕ) → AreSized s (with_word s address v)
unfolding with_word
word_sized_alike s address v = words_sized_alike s (address / s.words) _

pub words_unprotected : (s : StoreState) (n : ℕ) (change : List ℕ → List ℕ) → NoneProtected s
    → NoneProtected (with_words s n change)
unfolding with_words
words_unprotected s n change k = k

pub word_unprotected : (s : StoreState) (address v : ℕ) → NoneProtected s → NoneProtected (with_word s address v)
unfolding with_word with_words
word_unprotected s address v k = k

pub words_lie : (s : StoreState) (n : ℕ) (change : List ℕ → List ℕ) (b : Buffer) → LiesIn s b
    → LiesIn (with_words s n change) b
unfolding with_words
words_lie s n change b h = lies_same s (with_words s n change) b refl refl h

pub word_lies : (s : StoreState) (address v : ℕ) (b : Buffer) → LiesIn s b → LiesIn (with_word s address v) b
unfolding with_word
word_lies s address v b h = words_lie s (address / s.words) _ b h

-- a store has few records
pub records_few : (s : StoreState) → IsStore s → length s.pages ≤ MOST_PAGES
records_few s h = rw h.sized.pages (few (length s.frames) s.count h.sized.count)
  where
    few : (frames count : ℕ) → count ≤ MOST_PAGES → record_count frames count ≤ MOST_PAGES
    few frames count k = grind (arith, nat_tests)

-- the start of a buffer's next object is an address
pub buffer_address : (s : StoreState) (b : Buffer) → IsStore s → LiesIn s b → b.next < b.end
    → IsAddress (b.page * s.words + b.next)
buffer_address s b h l room =
    let (page, p, at, is_so) = lies_at s b l in
    let within = slice_get_within s.pages (b.page - 1) p at in
    let next : b.next < s.words = omega (arith, l.end, room) in
    let low : b.page * 1 ≤ b.page * s.words = mul-le-mul_left b.page h.sized.words_low in
    let high = mul-add-lt b.page s.words b.next 1048576 (omega (arith, within, records_few s h)) next in
    record { above = omega (arith, low, page); below = omega (arith, high, h.sized.words) }

-- a buffer that passes the test lies in an open page
yes_lies : (s : StoreState) (b : Buffer) → lies_in s b ≡ true → LiesIn s b
unfolding state_at
yes_lies s b e =
    let first = and_parts (is_open (state_at s b.page)) (nat_le b.next b.end && nat_le b.end s.words) e in
    let second = and_parts (nat_le b.next b.end) (nat_le b.end s.words) first.1 in
    record {
      page = first.0;
      order = leb-true b.next b.end second.0;
      end = leb-true b.end s.words second.1;
    }

-- a buffer that lies in an open page passes the test
lies_yes : (s : StoreState) (b : Buffer) → LiesIn s b → lies_in s b ≡ true
unfolding state_at
lies_yes s b l = both (is_open (state_at s b.page)) l.page
  where
    both : (o : Bool) → o ≡ true → (o && (nat_le b.next b.end && nat_le b.end s.words)) ≡ true
    both o e = grind (arith, nat_tests, e, l.order, l.end)

-- the test is true exactly for buffers that lie in an open page
pub buffer_told : (s : StoreState) (b : Buffer) (t : Bool) → t ≡ lies_in s b → MatchBool t (LiesIn s b) (¬ LiesIn s b)
buffer_told s b true e = yes_lies s b (sym e)
buffer_told s b false e = λ lies. true≢false (sym (lies_yes s b lies) ∙ sym e)
