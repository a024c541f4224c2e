-- Changes of a store keep its invariant.
use Rattle.std.proofs.Common.{◌≡◌, ◌≢◌, ◌⊎◌, inl, inr, ℕ, zero, ◌+◌, ◌*◌, ◌-◌, ◌<◌, ◌≤◌, true, false, ◌||◌, List, []}
use Rattle.std.proofs.Common.{take, drop, length, length-drop, Option, Some, None, is_some, is_none, replicate}
use Rattle.std.proofs.Common.{set, count_by, cond, position, ne_eqb, nat_lt, refl, sym, ◌∙◌, ap, arith, rules}
use Rattle.std.specs.List.{slice_get}
use Rattle.std.specs.Prelude.{IsSome}
use Rattle.std.proofs.Math.ListN.{length-set, length-replicate}
use Rattle.std.proofs.lemmas.Bool.Decides.{nat_tests}
use Rattle.std.proofs.lemmas.Option.{slice_get_within, same_Some, none-some}
use Rattle.std.proofs.lemmas.List.{length-take-le}
use Rattle.std.proofs.lemmas.Bool.{cases_eq, false≢true}
use Rattle.model.specs.declared.limits.TheConstants.{MOST_FRAMES, MOST_PAGES, MOST_WORDS}
use Rattle.model.specs.declared.records.Page.{Page}
use Rattle.model.specs.declared.records.PageState.{PageState}
use Rattle.model.specs.declared.records.PageState.TheVariants.{Unused, Open, Closed, From, Gone}
use Rattle.model.specs.Stores.{StoreState, has_memory, is_protected, is_open, is_unused, page_at, state_in}
use Rattle.model.specs.Stores.{frame_in, record_count, fresh_page, open_fresh, first_store, blank_page}
use Rattle.model.specs.Stores.{unused_page, unused_in, give_words, buffer_of, with_words, top_in, words_at}
use Rattle.model.specs.Owning.{IsPage, IsStore, owned_size}
use Rattle.model.proofs.Lists.{get_set, get_set_same, get_set_other, each_set}
use Rattle.model.proofs.Lists.{each_replicate, get_replicate, count_set, count_replicate}
use Rattle.model.proofs.Lists.{position_none, length_counted, get_within, as_number, no_some}
use Rattle.model.proofs.Memory.{unused_state}
use Rattle.page.specs.Records.{is_unused_in}

pub none_or_some : {X : Type 0} {x : X} → Some None ≡ Some (Some x) → ⊥
none_or_some e = cc

used_is : (p : PageState) → is_unused p ≡ false → has_memory p || is_protected p ≡ true
used_is Unused e = absurd (cc)
used_is Open e = refl
used_is Closed e = refl
used_is From e = refl
used_is Gone e = refl

none_below : (a b : ℕ) → b ≤ a → cond (nat_lt a b) (Some a) None ≡ None
none_below a b h = grind (arith, nat_tests)

-- a frame gets an owner, or is free, and has its words
pub sized_by : (s : StoreState) (f : ℕ) (o : Option ℕ) (ws : List ℕ) → IsStore s → length ws ≡ owned_size s.words o
    → (k : ℕ) (q : Option ℕ) (xs : List ℕ) → slice_get (set s.owners f o) k ≡ Some q
    → slice_get (set s.frames f ws) k ≡ Some xs → length xs ≡ owned_size s.words q
sized_by s f o ws h e k q xs a b = by_both (get_set s.owners f k o q a) (get_set s.frames f k ws xs b)
  where
    by_both : ((k ≡ f) × (o ≡ q)) ⊎ ((k ≢ f) × (slice_get s.owners k ≡ Some q))
        → ((k ≡ f) × (ws ≡ xs)) ⊎ ((k ≢ f) × (slice_get s.frames k ≡ Some xs)) → length xs ≡ owned_size s.words q
    by_both (inl x) (inl y) = ap length (sym y.1) ∙ e ∙ ap (owned_size s.words) x.1
    by_both (inl x) (inr y) = absurd (y.0 x.0)
    by_both (inr x) (inl y) = absurd (x.0 y.0)
    by_both (inr x) (inr y) = h.sized.frames k q xs x.1 y.1

-- no frame has more words than a page
pub frame_short : (s : StoreState) (f : ℕ) (ws : List ℕ) → IsStore s → slice_get s.frames f ≡ Some ws
    → length ws ≤ s.words
frame_short s f ws h e =
    let o = get_within s.owners f (rw h.sized.owners (slice_get_within s.frames f ws e)) in
    by_owner o.0 (h.sized.frames f o.0 ws o.1 e)
  where
    by_owner : (o : Option ℕ) → length ws ≡ owned_size s.words o → length ws ≤ s.words
    by_owner None k = omega (arith, k)
    by_owner (Some n) k = omega (arith, k)

-- a frame gets other words of the same number
pub frame_keeps : (s : StoreState) (f : ℕ) (old ws : List ℕ) → IsStore s → slice_get s.frames f ≡ Some old
    → length ws ≡ length old
    → IsStore (record s { frames = set s.frames f ws })
frame_keeps s f old ws h at e =
    let same : length (set s.frames f ws) ≡ length s.frames = simp length-set in
    record {
      sized = record {
        words_low = h.sized.words_low;
        words = h.sized.words;
        frame_count = rw same h.sized.frame_count;
        count = h.sized.count;
        owners = h.sized.owners ∙ sym same;
        pages = h.sized.pages ∙ ap (λ n. record_count n s.count) (sym same);
        frames = λ k o xs a b. sized k o xs a (get_set s.frames f k ws xs b);
      };
      pages = h.pages;
      owning = record { owned = h.owning.owned; owner = h.owning.owner };
      balanced = record { frames = h.balanced.frames ∙ sym same; leaving = rw same h.balanced.leaving };
    }
  where
    sized : (k : ℕ) (o : Option ℕ) (xs : List ℕ) → slice_get s.owners k ≡ Some o
        → ((k ≡ f) × (ws ≡ xs)) ⊎ ((k ≢ f) × (slice_get s.frames k ≡ Some xs)) → length xs ≡ owned_size s.words o
    sized k o xs a (inl b) = ap length (sym b.1) ∙ e ∙ h.sized.frames f o old (rw (sym b.0) a) at
    sized k o xs a (inr b) = h.sized.frames k o xs a b.1

-- a page's record becomes another one, with the same frame, and with memory if it had some
pub record_keeps : (s : StoreState) (i : ℕ) (p q : Page) → IsStore s → slice_get s.pages i ≡ Some p → q.frame ≡ p.frame
    → has_memory q.state ≡ has_memory p.state → q.top ≤ s.words
    → count_by (λ x. is_protected x.state) (set s.pages i q) ≤ length s.frames
    → IsStore (record s { pages = set s.pages i q })
record_keeps s i p q h e frame memory le leaving =
    let same : length (set s.pages i q) ≡ length s.pages = simp length-set in
    record {
      sized = record {
        words_low = h.sized.words_low;
        words = h.sized.words;
        frame_count = h.sized.frame_count;
        count = h.sized.count;
        owners = h.sized.owners;
        pages = same ∙ h.sized.pages;
        frames = h.sized.frames;
      };
      pages = each_set (IsPage s.words) s.pages i q h.pages (record {
        memory = ap is_some frame ∙ (h.pages i p e).memory ∙ sym memory;
        top = le;
      });
      owning = record {
        owned = λ j f x a b. owned j f x b (get_set s.pages i j q x a);
        owner = λ f n a. owner f n a (h.owning.owner f n a);
      };
      balanced = record {
        frames = omega (
          arith,
          h.balanced.frames,
          count_set (λ x. has_memory x.state) s.pages i p q e,
          ap as_number memory,
        );
        leaving = leaving;
      };
    }
  where
    owned : (j f : ℕ) (x : Page)
        → x.frame ≡ Some f → ((j ≡ i) × (q ≡ x)) ⊎ ((j ≢ i) × (slice_get s.pages j ≡ Some x))
        → slice_get s.owners f ≡ Some (Some (j + 1))
    owned j f x b (inl a) = rw a.0 (h.owning.owned i f p e (sym frame ∙ ap (λ (z : Page). z.frame) a.1 ∙ b))
    owned j f x b (inr a) = h.owning.owned j f x a.1 b

    owner : (f n : ℕ) → slice_get s.owners f ≡ Some (Some n)
        → (j : ℕ) × (x : Page) × (n ≡ j + 1) × (slice_get s.pages j ≡ Some x) × (x.frame ≡ Some f)
        → (j : ℕ) × (x : Page) × (n ≡ j + 1) × (slice_get (set s.pages i q) j ≡ Some x) × (x.frame ≡ Some f)
    owner f n a (j, x, b, c, d) = by_place (cases_eq j i)
      where
        by_place : (j ≡ i) ⊎ (j ≢ i) → (j : ℕ) × (x : Page) × (n ≡ j + 1)
            × (slice_get (set s.pages i q) j ≡ Some x) × (x.frame ≡ Some f)
        by_place (inl k) = let same : p ≡ x = same_Some _ _ (sym e ∙ ap (slice_get s.pages) (sym k) ∙ c) in (
          i,
          q,
          b ∙ ap (λ z. z + 1) k,
          get_set_same s.pages i p q e,
          frame ∙ ap (λ (z : Page). z.frame) same ∙ d,
        )
        by_place (inr k) = (j, x, b, get_set_other s.pages i j q k ∙ c, d)

-- the same, if it is protected exactly if it was
pub page_keeps : (s : StoreState) (i : ℕ) (p q : Page) → IsStore s → slice_get s.pages i ≡ Some p → q.frame ≡ p.frame
    → has_memory q.state ≡ has_memory p.state → is_protected q.state ≡ is_protected p.state → q.top ≤ s.words
    → IsStore (record s { pages = set s.pages i q })
page_keeps s i p q h e frame memory protected le = record_keeps s i p q h e frame memory le (omega (
  arith,
  h.balanced.leaving,
  count_set (λ x. is_protected x.state) s.pages i p q e,
  ap as_number protected,
))

-- a page gives out more of its words
pub raise_keeps : (s : StoreState) (i : ℕ) (p : Page) (top : ℕ) → IsStore s → slice_get s.pages i ≡ Some p
    → top ≤ s.words → IsStore (record s { pages = set s.pages i (record p { top = top }) })
raise_keeps s i p top h e le = page_keeps s i p (record p { top = top }) h e refl refl refl le

-- an unused page is opened on a free frame
pub open_keeps : (s : StoreState) (i f : ℕ) (p : Page) → IsStore s → slice_get s.pages i ≡ Some p
    → is_unused p.state ≡ true → slice_get s.owners f ≡ Some None → IsStore (open_fresh s i f)
unfolding open_fresh
open_keeps s i f p h e u g =
    let pages_same : length (set s.pages i (fresh_page f)) ≡ length s.pages = simp length-set in
    let owners_same : length (set s.owners f (Some (i + 1))) ≡ length s.owners = simp length-set in
    let frames_same : length (set s.frames f (replicate s.words 0)) ≡ length s.frames = simp length-set in
    let state : p.state ≡ Unused = unused_state p.state u in
    let memory : has_memory p.state ≡ false = ap has_memory state in
    let open_before : is_protected p.state ≡ false = ap is_protected state in
    record {
      sized = record {
        words_low = h.sized.words_low;
        words = h.sized.words;
        frame_count = rw frames_same h.sized.frame_count;
        count = h.sized.count;
        owners = owners_same ∙ h.sized.owners ∙ sym frames_same;
        pages = pages_same ∙ h.sized.pages ∙ ap (λ n. record_count n s.count) (sym frames_same);
        frames = sized_by s f (Some (i + 1)) (replicate s.words 0) h (simp length-replicate);
      };
      pages = each_set (IsPage s.words) s.pages i (fresh_page f) h.pages (record { memory = refl; top = omega arith });
      owning = record {
        owned = λ j k x a b. owned j k x b (get_set s.pages i j (fresh_page f) x a);
        owner = λ k n a. owner k n (get_set s.owners f k (Some (i + 1)) (Some n) a);
      };
      balanced = record {
        frames = rw frames_same (counts memory);
        leaving = rw frames_same (leaving open_before);
      };
    }
  where
    no_frame : p.frame ≡ None
    no_frame = no_some p.frame ((h.pages i p e).memory ∙ ap has_memory (unused_state p.state u))

    owned : (j k : ℕ) (x : Page)
        → x.frame ≡ Some k → ((j ≡ i) × (fresh_page f ≡ x)) ⊎ ((j ≢ i) × (slice_get s.pages j ≡ Some x))
        → slice_get (set s.owners f (Some (i + 1))) k ≡ Some (Some (j + 1))
    owned j k x b (inl a) =
        let here : f ≡ k = same_Some _ _ (ap (λ (z : Page). z.frame) a.1 ∙ b) in
        rw (← here, a.0) (get_set_same s.owners f None (Some (i + 1)) g)
    owned j k x b (inr a) =
        let before = h.owning.owned j k x a.1 b in
        let other : k ≢ f = λ z. none_or_some (sym g ∙ ap (slice_get s.owners) (sym z) ∙ before) in
        get_set_other s.owners f k (Some (i + 1)) other ∙ before

    owner : (k n : ℕ) → ((k ≡ f) × (Some (i + 1) ≡ Some n)) ⊎ ((k ≢ f) × (slice_get s.owners k ≡ Some (Some n)))
        → (j : ℕ) × (x : Page) × (n ≡ j + 1) × (slice_get (set s.pages i (fresh_page f)) j ≡ Some x)
        × (x.frame ≡ Some k)
    owner k n (inl a) =
        (i, fresh_page f, sym (same_Some _ _ a.1), get_set_same s.pages i p (fresh_page f) e, ap Some (sym a.0))
    owner k n (inr a) = moved k n (h.owning.owner k n a.1)
      where
        moved : (k n : ℕ) → (j : ℕ) × (x : Page) × (n ≡ j + 1) × (slice_get s.pages j ≡ Some x) × (x.frame ≡ Some k)
            → (j : ℕ) × (x : Page) × (n ≡ j + 1) × (slice_get (set s.pages i (fresh_page f)) j ≡ Some x)
            × (x.frame ≡ Some k)
        moved k n (j, x, b, c, d) =
            let other : j ≢ i = λ z. none-some _ (sym no_frame
            ∙ ap (λ (y : Page). y.frame) (same_Some _ _ (sym e ∙ ap (slice_get s.pages) (sym z) ∙ c)) ∙ d) in
            (j, x, b, get_set_other s.pages i j (fresh_page f) other ∙ c, d)

    counts : has_memory p.state ≡ false → count_by (λ x. has_memory x.state)
        (set s.pages i (fresh_page f)) + count_by is_none (set s.owners f (Some (i + 1))) ≡ length s.frames
    counts m =
        let more = count_set (λ x. has_memory x.state) s.pages i p (fresh_page f) e in
        let less = count_set is_none s.owners f None (Some (i + 1)) g in
        let zero_before : as_number (has_memory p.state) ≡ as_number false = ap as_number m in
        omega (arith, more, less, zero_before, h.balanced.frames)

    leaving : is_protected p.state ≡ false
        → count_by (λ x. is_protected x.state) (set s.pages i (fresh_page f)) ≤ length s.frames
    leaving m =
        let same = count_set (λ x. is_protected x.state) s.pages i p (fresh_page f) e in
        let zero_before : as_number (is_protected p.state) ≡ as_number false = ap as_number m in
        omega (arith, same, zero_before, h.balanced.leaving)

-- the first store
pub first_is_store : (words frames pages : ℕ) → 0 < words → words ≤ MOST_WORDS → frames ≤ MOST_FRAMES
    → pages ≤ MOST_PAGES
    → IsStore (first_store words frames pages)
unfolding first_store
first_is_store words frames pages low high frames_high pages_high =
    let frame_count : length (replicate {A = List ℕ} frames []) ≡ frames = simp length-replicate in
    let n = record_count frames pages in
    record {
      sized = record {
        words_low = low;
        words = high;
        frame_count = rw frame_count frames_high;
        count = pages_high;
        owners = simp length-replicate;
        pages = simp length-replicate;
        frames = λ f o ws a b. ap length (sym (get_replicate frames [] f ws b))
            ∙ ap (owned_size words) (get_replicate frames None f o a);
      };
      pages = each_replicate (IsPage words) n blank_page (record { memory = refl; top = omega arith });
      owning = record {
        owned = λ i f p a b. absurd (none-some _ (ap (λ (z : Page). z.frame) (get_replicate n blank_page i p a) ∙ b));
        owner = λ f k a. absurd (none-some _ (get_replicate frames None f (Some k) a));
      };
      balanced = record {
        frames = rw frame_count (omega (
          arith,
          count_replicate (λ (x : Page). has_memory x.state) n blank_page,
          count_replicate {X = Option ℕ} is_none frames None,
        ));
        leaving = rw frame_count (omega (arith, count_replicate (λ (x : Page). is_protected x.state) n blank_page));
      };
    }

-- if a frame is free and no page with a record is unused, all pages have records
pub all_have_records : (s : StoreState) → IsStore s → 0 < count_by is_none s.owners
    → position (λ p. is_unused p.state) s.pages ≡ None → unused_page s.count s.pages ≡ None
unfolding unused_page
all_have_records s h free none =
    let used = length_counted (λ (p : Page). has_memory p.state) (λ p. is_protected p.state) s.pages
    (λ i x e. used_is x.state (position_none (λ p. is_unused p.state) s.pages none i x e)) in
    let few : length s.pages < 2 * length s.frames = omega (arith, used, h.balanced.frames, h.balanced.leaving) in
    let all : s.count ≤ length s.pages = grind (arith, nat_tests, h.sized.pages, few) in
    ap (unused_in s.count s.pages) none ∙ none_below (length s.pages) s.count all

pub open_inside : (s : StoreState) (i f : ℕ) → IsStore s → i < length s.pages
    → is_unused_in (slice_get s.pages i) ≡ true → slice_get s.owners f ≡ Some None → IsStore (open_fresh s i f)
open_inside s i f h within u g = let p = get_within s.pages i within in open_keeps s i f p.0 h p.1 (rw p.1 at u) g

-- an open page has a frame of the store
pub record HasFrame (s : StoreState) (n : ℕ) : Type 0 where
  pub frame : ℕ
  pub is : frame_in (page_at s n) ≡ Some frame
  pub there : frame < length s.frames

pub page_at_record : (s : StoreState) (n : ℕ) → n ≢ 0 → page_at s n ≡ slice_get s.pages (n - 1)
unfolding page_at
page_at_record s n h = rw (ne_eqb n 0 h) refl

pub page_at_zero : (s : StoreState) (n : ℕ) → n ≡ 0 → page_at s n ≡ None
unfolding page_at
page_at_zero s n h = rw h refl

open_has_memory : (p : PageState) → is_open p ≡ true → has_memory p ≡ true
open_has_memory Unused e = absurd (cc)
open_has_memory Open e = refl
open_has_memory Closed e = refl
open_has_memory From e = refl
open_has_memory Gone e = absurd (cc)

pub open_has_frame : (s : StoreState) (n : ℕ) → IsStore s → is_open (state_in (page_at s n)) ≡ true → HasFrame s n
open_has_frame s n h e = by_number (cases_eq n 0)
  where
    by_frame : (p : Page) → page_at s n ≡ Some p → slice_get s.pages (n - 1) ≡ Some p → (o : Option ℕ) → p.frame ≡ o
        → is_some o ≡ true → HasFrame s n
    by_frame p a r None b c = absurd (cc)
    by_frame p a r (Some f) b c = record {
      frame = f;
      is = ap frame_in a ∙ b;
      there = let owned = h.owning.owned (n - 1) f p r b in let in_owners = slice_get_within s.owners f _ owned in
          rw (← h.sized.owners) in_owners;
    }

    by_record : n ≢ 0 → (o : Option Page) → page_at s n ≡ o → HasFrame s n
    by_record z None a = absurd (false≢true (sym (ap (λ o. is_open (state_in o)) a) ∙ e))
    by_record z (Some p) a =
        let r : slice_get s.pages (n - 1) ≡ Some p = sym (page_at_record s n z) ∙ a in
        let is_so : is_open p.state ≡ true = sym (ap (λ o. is_open (state_in o)) a) ∙ e in
        by_frame p a r p.frame refl ((h.pages (n - 1) p r).memory ∙ open_has_memory p.state is_so)

    by_number : (n ≡ 0) ⊎ (n ≢ 0) → HasFrame s n
    by_number (inl z) = absurd (false≢true (sym (ap (λ o. is_open (state_in o)) (page_at_zero s n z)) ∙ e))
    by_number (inr z) = by_record z (page_at s n) refl

-- n words given out of a page that exists
pub given_at : (s : StoreState) (i n : ℕ) (p : Page) → slice_get s.pages i ≡ Some p
    → give_words s i n ≡ (record s { pages = set s.pages i (record p { top = p.top + n }) }, buffer_of i p.top n)
unfolding give_words
given_at s i n p e = rw e refl

-- words changed in a frame that exists
pub words_changed : (s : StoreState) (n f : ℕ) (ws : List ℕ) (change : List ℕ → List ℕ)
    → frame_in (page_at s n) ≡ Some f → slice_get s.frames f ≡ Some ws
    → with_words s n change ≡ record s { frames = set s.frames f (change ws) }
unfolding with_words
words_changed s n f ws change e g = rw (e, g) refl

pub top_there : (pages : List Page) (i n words : ℕ) (p : Page) → slice_get pages i ≡ Some p
    → top_in (slice_get pages i) + n ≤ words → p.top + n ≤ words
top_there pages i n words p e h = rw e at h

-- a page opened on a frame whose words were made zero
pub opened_with : (s : StoreState) (i f : ℕ) (ws : List ℕ) → IsStore s → i < length s.pages
    → is_unused_in (slice_get s.pages i) ≡ true → slice_get s.owners f ≡ Some None → ws ≡ replicate s.words 0
    → IsStore (record s {
      pages = set s.pages i (fresh_page f);
      frames = set s.frames f ws;
      owners = set s.owners f (Some (i + 1));
    })
unfolding open_fresh
opened_with s i f ws h within u g e = rw e (open_inside s i f h within u g)

pub opened_as : (s : StoreState) (i f : ℕ) (ws : List ℕ) → ws ≡ replicate s.words 0 → record s {
  pages = set s.pages i (fresh_page f);
  frames = set s.frames f ws;
  owners = set s.owners f (Some (i + 1));
} ≡ open_fresh s i f
unfolding open_fresh
opened_as s i f ws e = rw e refl

pub opened_pages : (s : StoreState) (i f : ℕ) → length (open_fresh s i f).pages ≡ length s.pages
unfolding open_fresh
opened_pages s i f = simp length-set

pub opened_at : (s : StoreState) (i f : ℕ) (p : Page) → slice_get s.pages i ≡ Some p
    → slice_get (open_fresh s i f).pages i ≡ Some (fresh_page f)
unfolding open_fresh
opened_at s i f p e = get_set_same s.pages i p (fresh_page f) e

pub opened_top : (s : StoreState) (i f : ℕ) → i < length s.pages → top_in (slice_get (open_fresh s i f).pages i) ≡ zero
unfolding open_fresh
opened_top s i f h = let p = get_within s.pages i h in rw (get_set_same s.pages i p.0 (fresh_page f) p.1) refl

pub opened_open : (s : StoreState) (i f : ℕ) → i < length s.pages
    → is_open (state_in (slice_get (open_fresh s i f).pages i)) ≡ true
unfolding open_fresh
opened_open s i f h = let p = get_within s.pages i h in rw (get_set_same s.pages i p.0 (fresh_page f) p.1) refl

pub opened_words : (s : StoreState) (i f : ℕ) → (open_fresh s i f).words ≡ s.words
unfolding open_fresh
opened_words s i f = refl

-- if a frame is free, the lowest unused page has a record
pub unused_as : (s : StoreState) → IsStore s → 0 < count_by is_none s.owners → (r : Option ℕ)
    → r ≡ position (λ (p : Page). is_unused p.state) s.pages → r ≡ unused_page s.count s.pages
unfolding unused_page
unused_as s h free None e = sym (all_have_records s h free (sym e))
unused_as s h free (Some i) e = rw (← e) refl

-- the value of a buffer's part
pub part_there : (s : StoreState) (n f : ℕ) (ws : List ℕ) → frame_in (page_at s n) ≡ Some f
    → slice_get s.frames f ≡ Some ws → words_at s n ≡ Some ws
unfolding words_at
part_there s n f ws e g = rw e g

pub length_part : (ws : List ℕ) (a b : ℕ) → a ≤ b → b ≤ length ws → length (take (b - a) (drop a ws)) ≡ b - a
length_part ws a b h k = length-take-le (b - a) (drop a ws) (omega (arith, length-drop a ws))

pub some_is : (o : Option ℕ) (f : ℕ) → o ≡ Some f → IsSome o
some_is None f e = absurd (cc)
some_is (Some x) f e = search rules

-- the parts of the first store
pub first_inside : (words frames pages : ℕ) (ps : List Page) (fs : List (List ℕ)) (os : List (Option ℕ)) → 0 < words
    → words ≤ MOST_WORDS → frames ≤ MOST_FRAMES → pages ≤ MOST_PAGES
    → ps ≡ replicate (record_count frames pages) blank_page
    → fs ≡ replicate frames [] → os ≡ replicate frames None
    → IsStore (record { words = words; count = pages; pages = ps; frames = fs; owners = os })
unfolding first_store
first_inside words frames pages ps fs os low high frames_high pages_high p f o =
    rw (p, f, o) (first_is_store words frames pages low high frames_high pages_high)

pub first_free : (frames : ℕ) (os : List (Option ℕ)) → os ≡ replicate frames None → frames ≡ count_by is_none os
first_free frames os e = rw e (omega (arith, count_replicate {X = Option ℕ} is_none frames None))

-- each frame has an entry in the list of owners
pub frame_of_owner : (s : StoreState) (f : ℕ) → IsStore s → f < length s.owners → f < length s.frames
frame_of_owner s f h k = rw (← h.sized.owners) k
