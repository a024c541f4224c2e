-- The two ways in which the store gives out a buffer.
use Rattle.std.proofs.Common.{◌≡◌, ◌⊎◌, inl, inr, ℕ, ◌+◌, ◌-◌, ◌<◌, ◌≤◌, true, Option}
use Rattle.std.proofs.Common.{Some, None, position, nat_le, refl, sym, ◌∙◌, ap, subst}
use Rattle.std.specs.List.{slice_get}
use Rattle.std.specs.Prelude.{Result, Ok}
use Rattle.std.proofs.lemmas.Bool.{and_parts}
use Rattle.model.specs.declared.records.Page.{Page}
use Rattle.model.specs.declared.records.Buffer.{Buffer}
use Rattle.model.specs.declared.records.Room.{Room}
use Rattle.model.specs.Stores.{StoreState, take_buffer, take_at, take_fresh, give_words, open_fresh, page_with_room}
use Rattle.model.specs.Stores.{free_frame, unused_page, unused_in, is_open, is_unused, top_in, blank_page}
use Rattle.model.specs.Owning.{IsStore}
use Rattle.model.proofs.Lists.{get_within}
use Rattle.page.specs.Records.{is_unused_in}
use Rattle.page.proofs.Found.{room_found, room_passes, position_within, free_found}
use Rattle.page.proofs.Found.{free_within, free_counts, unused_found, room_within}
use Rattle.page.proofs.Keeping.{all_have_records}

-- n words of an open page with space
pub record InOpenPage (s : StoreState) (n : ℕ) (x : StoreState × Buffer) : Type 0 where
  pub index : ℕ
  pub page : Page
  pub at : slice_get s.pages index ≡ Some page
  pub is_so : is_open page.state ≡ true
  pub room : page.top + n ≤ s.words
  pub is : give_words s index n ≡ x

-- n words of an unused page, opened on a free frame
pub record InFreshPage (s : StoreState) (n : ℕ) (x : StoreState × Buffer) : Type 0 where
  pub index : ℕ
  pub frame : ℕ
  pub page : Page
  pub at : slice_get s.pages index ≡ Some page
  pub unused : is_unused page.state ≡ true
  pub free : slice_get s.owners frame ≡ Some None
  pub is : give_words (open_fresh s index frame) index n ≡ x

abbrev lent : StoreState × Buffer → Result (StoreState × Buffer) Room
lent x = Ok x

same_answer : {x y : StoreState × Buffer} → lent x ≡ lent y → x ≡ y
same_answer e = cc

pub ways : (s : StoreState) (n : ℕ) (x : StoreState × Buffer) → IsStore s → 0 < n → take_buffer s n ≡ Ok x
    → InOpenPage s n x ⊎ InFreshPage s n x
unfolding take_buffer unused_page
ways s n x h low e = by_room (page_with_room s.words n s.pages) refl e
  where
    fresh : (i f : ℕ) → free_frame s.owners ≡ Some f → position (λ (p : Page). is_unused p.state) s.pages ≡ Some i
        → take_fresh s n (Some f) (Some i) ≡ Ok x → InFreshPage s n x
    fresh i f b c k =
        let within = position_within (λ (p : Page). is_unused p.state) s.pages i c blank_page in
        let (p, at) = get_within s.pages i within in
        record {
          index = i;
          frame = f;
          page = p;
          at = at;
          unused = sym (ap is_unused_in at) ∙ unused_found s.pages i within c;
          free = free_found s.owners f (free_within s.owners f b) b;
          is = same_answer k;
        }

    by_unused : (f : ℕ)
        → free_frame s.owners ≡ Some f → (o : Option ℕ) → position (λ (p : Page). is_unused p.state) s.pages ≡ o
        → take_fresh s n (Some f) (unused_page s.count s.pages) ≡ Ok x → InFreshPage s n x
    by_unused f b None c k =
        let none = all_have_records s h (free_counts s.owners f (free_within s.owners f b) b) c in
        absurd (no (ap (take_fresh s n (Some f)) (sym none) ∙ k))
      where
        no : take_fresh s n (Some f) None ≡ Ok x → ⊥
        no k = cc
    by_unused f b (Some i) c k =
        fresh i f b c (ap (λ o. take_fresh s n (Some f) (unused_in s.count s.pages o)) (sym c) ∙ k)

    by_frame : (o : Option ℕ) → free_frame s.owners ≡ o → take_fresh s n o (unused_page s.count s.pages) ≡ Ok x
        → InFreshPage s n x
    by_frame None b k = absurd (cc)
    by_frame (Some f) b k = by_unused f b (position (λ (p : Page). is_unused p.state) s.pages) refl k

    by_room : (o : Option ℕ) → page_with_room s.words n s.pages ≡ o → take_at s n o ≡ Ok x
        → InOpenPage s n x ⊎ InFreshPage s n x
    by_room None b k = inr (by_frame (free_frame s.owners) refl k)
    by_room (Some i) b k = inl (
        let within = room_within s.words n s.pages i b blank_page in
        let (p, at) = get_within s.pages i within in
        record {
          index = i;
          page = p;
          at = at;
          is_so = (and_parts (is_open p.state) (nat_le n (s.words - p.top)) (room_passes s.words n s.pages i b p at)).0;
          room = subst (λ o. top_in o + n ≤ s.words) at (room_found s.words n s.pages i low within b);
          is = same_answer k;
        }
        )
