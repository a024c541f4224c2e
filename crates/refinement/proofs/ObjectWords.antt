-- Objects as read from words: the effects of a write elsewhere, and of one into an object.
use Rattle.std.proofs.Common.{◌≡◌, ℕ, zero, suc, ◌+◌, ◌^◌, ◌<◌, ◌≤◌, Bool, true, false}
use Rattle.std.proofs.Common.{List, [], ◌∷◌, length, take, drop, map, set, cond, nat_le, Option, Some}
use Rattle.std.proofs.Common.{None, replicate, refl, sym, ◌∙◌, ap, ap₂, arith, leb-true}
use Rattle.std.specs.List.{slice_get}
use Rattle.std.specs.Option.{option_map}
use Rattle.std.proofs.Math.ListN.{length-set, length-replicate}
use Rattle.std.proofs.lemmas.List.{length-map, drop-set-add}
use Rattle.std.proofs.Math.Seq.{take-set-lt}
use Rattle.std.proofs.lemmas.Option.{same_Some}
use Rattle.std.proofs.lemmas.Bool.{le-leb}
use Rattle.layout.specs.declared.shape.Layout.{Layout}
use Rattle.layout.specs.Objects.{size_of, birth_of, layout_of, header_bits}
use Rattle.model.specs.Stores.{overlay}
use Rattle.model.specs.Births.{fresh_object}
use Rattle.model.proofs.Lists.{get_set_other}
use Rattle.model.proofs.Memory.{length_overlaid}
use Rattle.laws.specs.AddressHeap.{HeapObject, Word, Null}
use Rattle.laws.specs.Effects.{with_datum, with_field}
use Rattle.refinement.specs.Worlds.{run, object_of, object_laid, object_headed, word_in_memory}
use Rattle.refinement.specs.Claims.{object_size}
use Rattle.refinement.proofs.Slices.{Agree, run_same, run_all, get_run, length_run, overlaid_in}

-- the relation between an object and the words from which it was read
pub record IsRead (ls : List Layout) (ws : List ℕ) (o : ℕ) (q : HeapObject) : Type 0 where
  pub header : ℕ
  pub shape : Layout
  pub at : slice_get ws o ≡ Some header
  pub known : slice_get ls (layout_of header) ≡ Some shape
  pub fits : o + size_of shape ≤ length ws
  pub is : q ≡ object_of ws o header shape

abbrev object : ℕ → ℕ → List Word → List ℕ → HeapObject
object b n xs ds = record { birth = b; layout = n; refs = xs; data_words = ds }

abbrev parted : ℕ → List Word → List ℕ → HeapObject
parted header xs ds = record { birth = birth_of header; layout = layout_of header; refs = xs; data_words = ds }

abbrev pub built : ℕ → List ℕ → List ℕ → HeapObject
built header xs ds =
    record { birth = birth_of header; layout = layout_of header; refs = map word_in_memory xs; data_words = ds }

pub read_is : (ls : List Layout) (ws : List ℕ) (o : ℕ) (q : HeapObject)
    → object_headed ls ws o (slice_get ws o) ≡ Some q → IsRead ls ws o q
read_is ls ws o q e = by_header (slice_get ws o) refl e
  where
    by_fit : (header : ℕ) (l : Layout) (b : Bool) → nat_le (o + size_of l) (length ws) ≡ b
        → slice_get ws o ≡ Some header → slice_get ls (layout_of header) ≡ Some l
        → cond b (Some (object_of ws o header l)) None ≡ Some q → IsRead ls ws o q
    by_fit header l true f a k r = record {
      header = header;
      shape = l;
      at = a;
      known = k;
      fits = leb-true (o + size_of l) (length ws) f;
      is = sym (same_Some _ _ r);
    }
    by_fit header l false f a k r = absurd (cc)

    by_layout : (header : ℕ) (y : Option Layout) → slice_get ws o ≡ Some header → slice_get ls (layout_of header) ≡ y
        → object_laid ws o header y ≡ Some q → IsRead ls ws o q
    by_layout header None a k r = absurd (cc)
    by_layout header (Some l) a k r = by_fit header l (nat_le (o + size_of l) (length ws)) refl a k r

    by_header : (y : Option ℕ) → slice_get ws o ≡ y → object_headed ls ws o y ≡ Some q → IsRead ls ws o q
    by_header None a r = absurd (cc)
    by_header (Some header) a r = by_layout header (slice_get ls (layout_of header)) a refl r

pub is_read : (ls : List Layout) (ws : List ℕ) (o : ℕ) (q : HeapObject) → IsRead ls ws o q
    → object_headed ls ws o (slice_get ws o) ≡ Some q
is_read ls ws o q r =
    ap (object_headed ls ws o) r.at ∙ ap (object_laid ws o r.header) r.known ∙ ap
    (λ b. cond b (Some (object_of ws o r.header r.shape)) None) (le-leb (o + size_of r.shape) (length ws) r.fits)
    ∙ ap Some (sym r.is)

-- the sizes of an object that was read
pub read_refs : (ls : List Layout) (ws : List ℕ) (o : ℕ) (q : HeapObject) (r : IsRead ls ws o q)
    → length q.refs ≡ r.shape.refs
read_refs ls ws o q r =
    ap (λ (z : HeapObject). length z.refs) r.is ∙ length-map (run ws (o + 1) r.shape.refs) word_in_memory
    ∙ length_run ws (o + 1) r.shape.refs (omega (arith, r.fits))

pub read_data : (ls : List Layout) (ws : List ℕ) (o : ℕ) (q : HeapObject) (r : IsRead ls ws o q)
    → length q.data_words ≡ r.shape.nums
read_data ls ws o q r = ap (λ (z : HeapObject). length z.data_words) r.is
    ∙ length_run ws (o + 1 + r.shape.refs) r.shape.nums (omega (arith, r.fits))

pub read_size : (ls : List Layout) (ws : List ℕ) (o : ℕ) (q : HeapObject) (r : IsRead ls ws o q)
    → object_size q ≡ size_of r.shape
read_size ls ws o q r = omega (arith, read_refs ls ws o q r, read_data ls ws o q r)

-- an object ends within the words
pub read_fits : (ls : List Layout) (ws : List ℕ) (o : ℕ) (q : HeapObject) → IsRead ls ws o q
    → o + object_size q ≤ length ws
read_fits ls ws o q r = omega (arith, read_size ls ws o q r, r.fits)

-- if the words of an object stay, it does
pub read_same : (ls : List Layout) (ws vs : List ℕ) (o : ℕ) (q : HeapObject) → IsRead ls ws o q → length vs ≡ length ws
    → Agree vs ws o (o + object_size q) → IsRead ls vs o q
read_same ls ws vs o q r e agree =
    let size = read_size ls ws o q r in
    let refs = run_same ws vs (o + 1) r.shape.refs e (omega (arith, r.fits))
    (λ i l m. agree i (omega (arith, l)) (omega (arith, m, size))) in
    let nums = run_same ws vs (o + 1 + r.shape.refs) r.shape.nums e (omega (arith, r.fits))
    (λ i l m. agree i (omega (arith, l)) (omega (arith, m, size))) in
    record {
      header = r.header;
      shape = r.shape;
      at = agree o (omega arith) (omega (arith, size)) ∙ r.at;
      known = r.known;
      fits = omega (arith, e, r.fits);
      is = r.is ∙ ap₂ (built r.header) (sym refs) (sym nums);
    }

-- a datum is written
pub read_datum : (ls : List Layout) (ws : List ℕ) (o : ℕ) (q : HeapObject) (r : IsRead ls ws o q) (j v : ℕ)
    → j < r.shape.nums → IsRead ls (set ws (o + 1 + r.shape.refs + j) v) o (with_datum q j v)
read_datum ls ws o q r j v h =
    let m : ℕ = o + 1 + r.shape.refs + j in
    let size : length (set ws m v) ≡ length ws = length-set ws m v in
    let refs = run_same ws (set ws m v) (o + 1) r.shape.refs size (omega (arith, r.fits))
    (λ i l k. get_set_other ws m i v (λ e. absurd (omega (arith, e, k)))) in
    let nums :
    run (set ws m v) (o + 1 + r.shape.refs) r.shape.nums ≡ set (run ws (o + 1 + r.shape.refs) r.shape.nums) j v =
    ap (take r.shape.nums) (drop-set-add (o + 1 + r.shape.refs) ws j v)
    ∙ take-set-lt r.shape.nums (drop (o + 1 + r.shape.refs) ws) j v h in
    record {
      header = r.header;
      shape = r.shape;
      at = get_set_other ws m o v (λ e. absurd (omega (arith, e))) ∙ r.at;
      known = r.known;
      fits = omega (arith, size, r.fits);
      is = ap (λ z. with_datum z j v) r.is ∙ ap₂ (built r.header) (sym refs) (sym nums);
    }

map_set : (xs : List ℕ) (i v : ℕ) → map word_in_memory (set xs i v) ≡ set (map word_in_memory xs) i (word_in_memory v)
map_set [] i v = refl
map_set (x ∷ xs) zero v = refl
map_set (x ∷ xs) (suc i) v = ap (λ ys. word_in_memory x ∷ ys) (map_set xs i v)

-- a reference is written
pub read_field : (ls : List Layout) (ws : List ℕ) (o : ℕ) (q : HeapObject) (r : IsRead ls ws o q) (i v : ℕ)
    → i < r.shape.refs → IsRead ls (set ws (o + 1 + i) v) o (with_field q i (word_in_memory v))
read_field ls ws o q r i v h =
    let m : ℕ = o + 1 + i in
    let size : length (set ws m v) ≡ length ws = length-set ws m v in
    let refs : run (set ws m v) (o + 1) r.shape.refs ≡ set (run ws (o + 1) r.shape.refs) i v =
    ap (take r.shape.refs) (drop-set-add (o + 1) ws i v) ∙ take-set-lt r.shape.refs (drop (o + 1) ws) i v h in
    let nums = run_same ws (set ws m v) (o + 1 + r.shape.refs) r.shape.nums size (omega (arith, r.fits))
    (λ n l k. get_set_other ws m n v (λ e. absurd (omega (arith, e, l, h)))) in
    record {
      header = r.header;
      shape = r.shape;
      at = get_set_other ws m o v (λ e. absurd (omega (arith, e))) ∙ r.at;
      known = r.known;
      fits = omega (arith, size, r.fits);
      is = ap (λ z. with_field z i (word_in_memory v)) r.is ∙ ap₂ (parted r.header)
          (sym (ap (map word_in_memory) refs ∙ map_set (run ws (o + 1) r.shape.refs) i v)) (sym nums);
    }

-- a reference is read
pub field_of_read : (ls : List Layout) (ws : List ℕ) (o : ℕ) (q : HeapObject) (r : IsRead ls ws o q) (i bits : ℕ)
    → i < r.shape.refs → slice_get ws (o + 1 + i) ≡ Some bits → slice_get q.refs i ≡ Some (word_in_memory bits)
field_of_read ls ws o q r i bits h e =
    ap (λ (z : HeapObject). slice_get z.refs i) r.is ∙ get_map (run ws (o + 1) r.shape.refs) i
    ∙ ap (option_map word_in_memory) (get_run ws (o + 1) r.shape.refs i h ∙ e)
  where
    get_map : (xs : List ℕ) (i : ℕ) → slice_get (map word_in_memory xs) i ≡ option_map word_in_memory (slice_get xs i)
    get_map [] i = refl
    get_map (x ∷ xs) zero = refl
    get_map (x ∷ xs) (suc i) = get_map xs i

-- a new object
abbrev pub new_object : ℕ → ℕ → Layout → HeapObject
new_object birth number l =
    record { birth = birth; layout = number; refs = replicate l.refs Null; data_words = replicate l.nums 0 }

nulls : (n : ℕ) → map word_in_memory (replicate n 0) ≡ replicate n Null
nulls zero = refl
nulls (suc n) = ap (λ xs. Null ∷ xs) (nulls n)

zeros_at : (n i : ℕ) → i < n → slice_get (replicate {A = ℕ} n 0) i ≡ Some 0
zeros_at zero i h = absurd (omega arith)
zeros_at (suc n) zero h = refl
zeros_at (suc n) (suc i) h = zeros_at n i (omega (arith, h))

-- its words are written
pub read_fresh : (ls : List Layout) (ws : List ℕ) (o birth number : ℕ) (l : Layout)
    → slice_get ls number ≡ Some l → birth < 2 ^ 56 → number < 2 ^ 8 → o + size_of l ≤ length ws
    → IsRead ls (overlay ws o (fresh_object birth number l)) o (new_object birth number l)
read_fresh ls ws o birth number l known low few room =
    made (header_bits (record { birth = birth; layout = number })) refl
  where
    made : (header : ℕ) → header_bits (record { birth = birth; layout = number }) ≡ header
        → IsRead ls (overlay ws o (fresh_object birth number l)) o (new_object birth number l)
    made header e =
        let xs : List ℕ = fresh_object birth number l in
        let zeros : length (replicate {A = ℕ} (l.refs + l.nums) 0) ≡ l.refs + l.nums =
        length-replicate (l.refs + l.nums) 0 in
        let long : length xs ≡ size_of l = ap suc zeros ∙ one (l.refs + l.nums) ∙ omega arith in
        let inside : o + length xs ≤ length ws = omega (arith, long, room) in
        let size : length (overlay ws o xs) ≡ length ws = length_overlaid ws o xs in
        let birth_is : birth_of header ≡ birth = omega (arith, e, low, few) in
        let number_is : layout_of header ≡ number = omega (arith, e, low, few) in
        let body : (i : ℕ) → i < l.refs + l.nums → slice_get (overlay ws o xs) (o + 1 + i) ≡ Some 0 =
        λ i h. ap (slice_get (overlay ws o xs)) (omega arith)
        ∙ overlaid_in ws xs o (suc i) inside (omega (arith, long, h)) ∙ zeros_at (l.refs + l.nums) i h in
        let refs : run (overlay ws o xs) (o + 1) l.refs ≡ replicate l.refs 0 = run_all (overlay ws o xs)
        (o + 1) l.refs 0 (omega (arith, size, room)) (λ i h. body i (omega (arith, h))) in
        let nums : run (overlay ws o xs) (o + 1 + l.refs) l.nums ≡ replicate l.nums 0 =
        run_all (overlay ws o xs) (o + 1 + l.refs) l.nums 0 (omega (arith, size, room))
        (λ i h. ap (slice_get (overlay ws o xs)) (omega arith) ∙ body (l.refs + i) (omega (arith, h))) in
        record {
          header = header;
          shape = l;
          at = ap (slice_get (overlay ws o xs)) (omega arith) ∙ overlaid_in ws xs o 0 inside (omega (arith, long))
              ∙ ap Some e;
          known = ap (slice_get ls) number_is ∙ known;
          fits = omega (arith, size, room);
          is = parts birth number (birth_of header) (layout_of header) _ _ _ _ (sym birth_is) (sym number_is)
              (sym (ap (map word_in_memory) refs ∙ nulls l.refs)) (sym nums);
        }
      where
        one : (n : ℕ) → suc n ≡ 1 + n
        one n = omega arith

        parts : (b n c m : ℕ) (xs ys : List Word) (ds es : List ℕ) → b ≡ c → n ≡ m → xs ≡ ys → ds ≡ es
            → object b n xs ds ≡ object c m ys es
        parts b n c m xs ys ds es e f g h = cc
