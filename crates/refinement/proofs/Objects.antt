-- Other words in one page: the object at one address is made or changed, and all others stay.
use Rattle.std.proofs.Common.{◌≡◌, ◌≢◌, ◌⊎◌, inl, inr, ℕ, ◌+◌, ◌/◌, ◌%◌, Bool, true, false}
use Rattle.std.proofs.Common.{List, length, Option, Some, None, refl, sym, ◌∙◌, ap, ap₂, subst}
use Rattle.std.proofs.lemmas.Bool.{cases_eq}
use Rattle.std.proofs.lemmas.Option.{same_Some}
use Rattle.model.specs.Stores.{words_at, with_words}
use Rattle.model.specs.Owning.{IsStore}
use Rattle.model.specs.States.{HeapState}
use Rattle.model.proofs.Memory.{words_changed, words_kept}
use Rattle.laws.specs.AddressHeap.{HeapObject, put}
use Rattle.laws.proofs.Basics.{put_all}
use Rattle.model.specs.Bits.{bit_at}
use Rattle.refinement.specs.Worlds.{object_at, object_in}
use Rattle.refinement.specs.Claims.{object_size}
use Rattle.refinement.proofs.Slices.{Agree}
use Rattle.refinement.proofs.ObjectWords.{IsRead, read_is, is_read, read_same}

-- an object that exists

pub record IsThere (h : HeapState) (a : ℕ) (q : HeapObject) : Type 0 where
  pub bit : bit_at h.starts h.store.words a ≡ true
  pub words : List ℕ
  pub page : words_at h.store (a / h.store.words) ≡ Some words
  pub read : IsRead h.config.layouts words (a % h.store.words) q

pub there : (h : HeapState) (a : ℕ) (q : HeapObject) → object_at h a ≡ Some q → IsThere h a q
there h a q e = go (bit_at h.starts h.store.words a) (words_at h.store (a / h.store.words)) refl refl e
  where
    go : (b : Bool) (o : Option (List ℕ)) → bit_at h.starts h.store.words a ≡ b
        → words_at h.store (a / h.store.words) ≡ o → object_in h.config.layouts b o (a % h.store.words) ≡ Some q
        → IsThere h a q
    go true (Some ws) f g k =
        record { bit = f; words = ws; page = g; read = read_is h.config.layouts ws (a % h.store.words) q k }
    go true None f g k = absurd (cc)
    go false (Some ws) f g k = absurd (cc)
    go false None f g k = absurd (cc)

-- page n gets other words, from which the object q at an address of it is read, and the words of no other object
-- change
pub record Rewrites (h : HeapState) (starts : List (List Bool)) (n a : ℕ) (f : List ℕ → List ℕ) (q : HeapObject) :
    Type 0 where
  pub words : List ℕ
  pub before : words_at h.store n ≡ Some words
  pub sized : length (f words) ≡ length words
  pub on_page : a / h.store.words ≡ n
  pub bit : bit_at starts h.store.words a ≡ true
  pub read : IsRead h.config.layouts (f words) (a % h.store.words) q
  pub bits : (x : ℕ) → x ≢ a → bit_at starts h.store.words x ≡ bit_at h.starts h.store.words x
  pub known : (x : ℕ) → x / h.store.words ≡ n → bit_at h.starts h.store.words x ≡ true
      → (o : HeapObject) × (object_at h x ≡ Some o)
  pub apart : (x : ℕ) (o : HeapObject) → x ≢ a → x / h.store.words ≡ n → object_at h x ≡ Some o
      → Agree (f words) words (x % h.store.words) (x % h.store.words + object_size o)

-- then the objects are those of before, except for that one
pub rewritten : (h : HeapState) (starts : List (List Bool)) (n a : ℕ) (f : List ℕ → List ℕ) (q : HeapObject)
    → IsStore h.store → Rewrites h starts n a f q
    → (x : ℕ) → object_in h.config.layouts (bit_at starts h.store.words x)
    (words_at (with_words h.store n f) (x / h.store.words)) (x % h.store.words) ≡ put (object_at h) a (Some q) x
rewritten h starts n a f q s r =
    put_all (λ x y. after x ≡ y) (object_at h) a (Some q) here (λ x d. elsewhere x d (cases_eq (x / h.store.words) n))
  where
    after : ℕ → Option HeapObject
    after x = object_in h.config.layouts (bit_at starts h.store.words x)
        (words_at (with_words h.store n f) (x / h.store.words)) (x % h.store.words)

    changed : (x : ℕ) → x / h.store.words ≡ n → words_at (with_words h.store n f) (x / h.store.words) ≡ Some (f r.words)
    changed x e = ap (words_at (with_words h.store n f)) e ∙ words_changed h.store n f r.words r.before

    here : after a ≡ Some q
    here = ap₂ (λ b o. object_in h.config.layouts b o (a % h.store.words)) r.bit (changed a r.on_page)
        ∙ is_read h.config.layouts (f r.words) (a % h.store.words) q r.read

    by_bit : (x : ℕ) → x ≢ a → x / h.store.words ≡ n → (b : Bool) → bit_at h.starts h.store.words x ≡ b
        → after x ≡ object_at h x
    by_bit x d e true k =
        let (o, is) = r.known x e k in
        let t = there h x o is in
        let same : t.words ≡ r.words = same_Some _ _ (sym t.page ∙ ap (words_at h.store) e ∙ r.before) in
        let read = subst (λ ws. IsRead h.config.layouts ws (x % h.store.words) o) same t.read in
        ap₂ (λ b o. object_in h.config.layouts b o (x % h.store.words)) (r.bits x d ∙ k) (changed x e)
        ∙ is_read h.config.layouts (f r.words) (x % h.store.words) o
        (read_same h.config.layouts r.words (f r.words) (x % h.store.words) o read r.sized (r.apart x o d e is))
        ∙ sym is
    by_bit x d e false k =
        ap (λ b. object_in h.config.layouts b
        (words_at (with_words h.store n f) (x / h.store.words)) (x % h.store.words)) (r.bits x d ∙ k)
        ∙ none (words_at (with_words h.store n f) (x / h.store.words)) (words_at h.store (x / h.store.words))
        ∙ sym (ap (λ b. object_in h.config.layouts b (words_at h.store (x / h.store.words)) (x % h.store.words)) k)
      where
        none : (o p : Option (List ℕ)) → object_in h.config.layouts false o (x % h.store.words)
            ≡ object_in h.config.layouts false p (x % h.store.words)
        none None None = refl
        none None (Some y) = refl
        none (Some y) None = refl
        none (Some y) (Some z) = refl

    elsewhere : (x : ℕ) → x ≢ a → (x / h.store.words ≡ n) ⊎ (x / h.store.words ≢ n) → after x ≡ object_at h x
    elsewhere x d (inl e) = by_bit x d e (bit_at h.starts h.store.words x) refl
    elsewhere x d (inr e) = ap₂ (λ b o. object_in h.config.layouts b o (x % h.store.words)) (r.bits x d)
        (words_kept h.store (x / h.store.words) n f s e)
