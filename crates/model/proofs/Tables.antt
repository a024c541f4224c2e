-- Bitmaps and forwarding tables of pages: changes that keep their number and their lengths.
use Rattle.std.proofs.Common.{◌≡◌, ◌≤◌, ℕ, zero, suc, Bool, true, false, cond, List, [], ◌∷◌, map, length}
use Rattle.std.proofs.Common.{replicate, set, refl, sym, ap, ◌∙◌, arith}
use Rattle.std.specs.List.{slice_get}
use Rattle.std.proofs.Math.ListN.{length-set}
use Rattle.std.proofs.lemmas.List.{length-replicate, length-map}
use Rattle.std.proofs.lemmas.Option.{same_Some, slice_get_within}
use Rattle.std.specs.Prelude.{Option, Some, None}
use Rattle.model.specs.declared.config.Config.{Config}
use Rattle.model.specs.declared.records.Page.{Page}
use Rattle.model.specs.Stores.{StoreState, record_count, is_unused, first_store, blank_page}
use Rattle.model.specs.States.{change_at, change_found}
use Rattle.model.specs.Bits.{blank_all, put_bit}
use Rattle.model.specs.First.{blank_rows, no_sides}
use Rattle.model.specs.Holding.{AreRowsOf, AreRising, AreSidesFor, GoesToPage}
use Rattle.model.specs.Owning.{Each, row_size}
use Rattle.model.proofs.Lists.{each_replicate, get_within}

pub length_changed : {X : Type 0} (xs : List X) (i : ℕ) (f : X → X) → length (change_at xs i f) ≡ length xs
length_changed {X} xs i f = go (slice_get xs i)
  where
    go : (o : Option X) → length (change_found xs i o f) ≡ length xs
    go None = refl
    go (Some x) = length-set xs i (f x)

-- a bitmap is replaced by another of its length
pub lengths_changed : (rows : List (List Bool)) (i : ℕ) (f : List Bool → List Bool)
    → ((row : List Bool) → length (f row) ≡ length row) → map length (change_at rows i f) ≡ map length rows
lengths_changed rows i f h = go rows i (slice_get rows i) refl
  where
    go : (rows : List (List Bool)) (i : ℕ) (o : Option (List Bool)) → slice_get rows i ≡ o
        → map length (change_found rows i o f) ≡ map length rows
    go rows i None e = refl
    go [] i (Some row) e = absurd (cc)
    go (r ∷ rows) zero (Some row) e =
        let here : r ≡ row = same_Some _ _ e in ap (λ n. n ∷ map length rows) (h row ∙ ap length (sym here))
    go (r ∷ rows) (suc i) (Some row) e = ap (λ ns. length r ∷ ns) (go rows i (Some row) e)

pub rows_changed : (s : StoreState) (rows : List (List Bool)) (i : ℕ) (f : List Bool → List Bool)
    → AreRowsOf s rows → ((row : List Bool) → length (f row) ≡ length row) → AreRowsOf s (change_at rows i f)
rows_changed s rows i f r h = lengths_changed rows i f h ∙ r

-- a bit is written
pub rows_put : (s : StoreState) (rows : List (List Bool)) (i o : ℕ) (bit : Bool) → AreRowsOf s rows
    → AreRowsOf s (change_at rows i (put_bit o bit))
rows_put s rows i o bit r = rows_changed s rows i (put_bit o bit) r (λ row. length-set row o bit)

-- a bitmap is replaced by another
pub lengths_set : (rows : List (List Bool)) (i : ℕ) (row : List Bool)
    → map length (set rows i row) ≡ set (map length rows) i (length row)
lengths_set [] i row = refl
lengths_set (r ∷ rows) zero row = refl
lengths_set (r ∷ rows) (suc i) row = ap (λ ns. length r ∷ ns) (lengths_set rows i row)

-- all bitmaps are cleared
pub lengths_blank : (rows : List (List Bool)) → map length (blank_all rows) ≡ map length rows
lengths_blank [] = refl
lengths_blank (r ∷ rows) =
    ap (λ n. n ∷ map length (blank_all rows)) (length-replicate (length r) false)
    ∙ ap (λ ns. length r ∷ ns) (lengths_blank rows)

-- there are as many bitmaps as records
pub rows_many : (s : StoreState) (rows : List (List Bool)) → AreRowsOf s rows → length rows ≡ length s.pages
rows_many s rows r =
    sym (length-map rows (λ (row : List Bool). length row)) ∙ ap length r ∙ length-map s.pages (row_size s.words)

pub get_map : {X Y : Type 0} (f : X → Y) (xs : List X) (i : ℕ) (x : X) → slice_get xs i ≡ Some x
    → slice_get (map f xs) i ≡ Some (f x)
get_map f [] i x e = absurd (cc)
get_map f (y ∷ ys) zero x e = ap (λ z. Some (f z)) (same_Some _ _ e)
get_map f (y ∷ ys) (suc i) x e = get_map f ys i x e

-- the size of a page's bitmap
pub row_at : (s : StoreState) (rows : List (List Bool)) (i : ℕ) (p : Page) (row : List Bool) → AreRowsOf s rows
    → slice_get s.pages i ≡ Some p → slice_get rows i ≡ Some row → length row ≡ row_size s.words p
row_at s rows i p row r a b = same_Some _ _ (sym (get_map (λ (x : List Bool). length x) rows i row b)
    ∙ ap (λ ns. slice_get ns i) r ∙ get_map (row_size s.words) s.pages i p a)

-- the bitmap of a page that isn't unused
pub row_used : (s : StoreState) (rows : List (List Bool)) (i : ℕ) (p : Page) (row : List Bool) → AreRowsOf s rows
    → slice_get s.pages i ≡ Some p → is_unused p.state ≡ false → slice_get rows i ≡ Some row
    → length row ≡ s.words
row_used s rows i p row r a used b = row_at s rows i p row r a b ∙ ap (λ b. cond b 0 s.words) used

-- no bitmap has more bits than a page has words
pub row_short : (s : StoreState) (rows : List (List Bool)) (i : ℕ) (row : List Bool) → AreRowsOf s rows
    → slice_get rows i ≡ Some row → length row ≤ s.words
row_short s rows i row r b =
    let there = slice_get_within rows i row b in
    let (p, a) = get_within s.pages i (omega (arith, there, rows_many s rows r)) in
    by_use (is_unused p.state) (row_at s rows i p row r a b)
  where
    by_use : (b : Bool) → length row ≡ cond b 0 s.words → length row ≤ s.words
    by_use true e = omega (arith, e)
    by_use false e = omega (arith, e)

pub first_rows : (c : Config) → AreRowsOf (first_store c.words c.frames c.pages) (blank_rows c)
unfolding first_store
first_rows c = go (record_count c.frames c.pages)
  where
    go : (n : ℕ) → map length (replicate {A = List Bool} n []) ≡ map (row_size c.words) (replicate n blank_page)
    go zero = refl
    go (suc n) = ap (λ ns. 0 ∷ ns) (go n)

-- an empty forwarding table has only entries that go to pages
pub none_goes : (c : Config) → Each [] (GoesToPage c)
none_goes c i f e = absurd (cc)

pub first_sides : (c : Config) → AreSidesFor c (no_sides c)
first_sides c = record {
  pages = length-replicate (record_count c.frames c.pages) [];
  rising = each_replicate (AreRising c.words 0) (record_count c.frames c.pages) [] tt;
  places = each_replicate (λ side. Each side (GoesToPage c)) (record_count c.frames c.pages) [] (none_goes c);
}
