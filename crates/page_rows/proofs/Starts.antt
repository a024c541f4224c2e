-- Starts of the copies of many runs, noted page by page.
use Rattle.std.proofs.Common.{◌≡◌, ℕ, zero, suc, ◌+◌, ◌-◌, ◌/◌, ◌%◌, ◌<◌, ◌≤◌, Bool, true, false, cond}
use Rattle.std.proofs.Common.{List, [], ◌∷◌, ◌++◌, length, map, drop, get_or, set, Option, Some, None}
use Rattle.std.proofs.Common.{refl, sym, ◌∙◌, ap, subst, arith}
use Rattle.std.specs.List.{slice_get}
use Rattle.std.proofs.lemmas.Bool.{true≢false}
use Rattle.std.proofs.lemmas.List.{drop_more, drop_all, set-set, set_comm, get_or-set_other}
use Rattle.std.proofs.lemmas.Option.{same_Some}
use Rattle.layout.specs.declared.shape.Layout.{Layout}
use Rattle.model.specs.Bits.{of_page, put_bit, with_bit}
use Rattle.model.specs.Owning.{Each}
use Rattle.model.specs.States.{change_at}
use Rattle.model.specs.Stores.{StoreState}
use Rattle.model.specs.declared.records.Forwarding.{Forwarding}
use Rattle.forward.specs.Noting.{place_to_copy}
use Rattle.model.proofs.Lists.{alter, changed_again, changed_is}
use Rattle.page.specs.declared.targets.PageRun.{PageRun}
use Rattle.page.specs.declared.targets.Target.{Target}
use Rattle.page.specs.Filling.{AllHaveEntries, all_filled, runs_of}
use Rattle.page.specs.Filling.{with_runs as stored_runs}
use Rattle.page_rows.specs.Starting.{AreSmall}
use Rattle.page_rows.specs.Runs.{GoTo, noted_starts, started_from}
use Rattle.page_rows.specs.Starting.{AllGoTo, AreRisingFrom, NotesStarts, PlacesState, SwapsStarts, by_runs}
use Rattle.page_rows.specs.Starting.{entries_in_row, entry_in_row, run_in_row, run_started, with_starts, without_starts}

-- ---- one entry

pub entry_noted : (words : ℕ) (row : List Bool) (o : Option Forwarding) (to : ℕ) → Some to ≡ place_to_copy o
    → put_bit (to % words) true row ≡ entry_in_row words o row
entry_noted words row None to e = absurd (cc)
entry_noted words row (Some f) to e = by_copied f.copied e
  where
    by_copied : (b : Bool) → Some to ≡ cond b None (Some f.to)
        → put_bit (to % words) true row ≡ cond b row (put_bit (f.to % words) true row)
    by_copied true z = absurd (cc)
    by_copied false z = ap (λ a. put_bit (a % words) true row) (same_Some _ _ z)

pub none_noted : (words : ℕ) (row : List Bool) (o : Option Forwarding) → None ≡ place_to_copy o
    → row ≡ entry_in_row words o row
none_noted words row None e = refl
none_noted words row (Some f) e = by_copied f.copied e
  where
    by_copied : (b : Bool) → None ≡ cond b None (Some f.to) → row ≡ cond b row (put_bit (f.to % words) true row)
    by_copied true z = refl
    by_copied false z = absurd (cc)

pub entries_more : (words e d k m : ℕ) (side : List Forwarding) (row : List Bool) → k ≡ suc m → d ≡ e + 1
    → entries_in_row words side e k row ≡ entries_in_row words side d m (entry_in_row words (slice_get side e) row)
entries_more words e d k m side row a b = ap (λ j. entries_in_row words side e j row) a
    ∙ ap (λ j. entries_in_row words side j m (entry_in_row words (slice_get side e) row)) (sym b)

-- a page without entries
pub no_entries : (words e k : ℕ) (row : List Bool) → row ≡ entries_in_row words [] e k row
no_entries words e zero row = refl
no_entries words e (suc k) row = no_entries words (e + 1) k row

-- ---- loops over runs

module _ {X : Type 0} (f : PageRun → X → X) where
  pub run_next : (x y all : X) (rs : List PageRun) (i : ℕ) (d : PageRun) → by_runs f (drop i rs) x ≡ all
      → i < length rs → y ≡ f (get_or rs i d) x → by_runs f (drop (i + 1) rs) y ≡ all
  run_next x y all rs i d k l e =
      ap (by_runs f (drop (i + 1) rs)) e ∙ ap (λ qs. by_runs f qs x) (sym (drop_more rs i d l)) ∙ k

  pub run_last : (x all : X) (rs : List PageRun) (i : ℕ) → by_runs f (drop i rs) x ≡ all → length rs ≤ i → x ≡ all
  run_last x all rs i k l = ap (λ qs. by_runs f qs x) (sym (drop_all i rs l)) ∙ k

  pub runs_both : (rs qs : List PageRun) (x : X) → by_runs f qs (by_runs f rs x) ≡ by_runs f (rs ++ qs) x
  runs_both [] qs x = refl
  runs_both (r ∷ rs) qs x = runs_both rs qs (f r x)

  pub target_next : (x y all : X) (ts : List Target) (i : ℕ) (d : Target) → by_runs f (runs_of (drop i ts)) x ≡ all
      → i < length ts → y ≡ by_runs f (get_or ts i d).runs.items x → by_runs f (runs_of (drop (i + 1) ts)) y ≡ all
  target_next x y all ts i d k l e =
      ap (by_runs f (runs_of (drop (i + 1) ts))) e
      ∙ runs_both (get_or ts i d).runs.items (runs_of (drop (i + 1) ts)) x
      ∙ ap (λ us. by_runs f (runs_of us) x) (sym (drop_more ts i d l)) ∙ k

  pub target_last : (x all : X) (ts : List Target) (i : ℕ) → by_runs f (runs_of (drop i ts)) x ≡ all → length ts ≤ i
      → x ≡ all
  target_last x all ts i k l = ap (λ us. by_runs f (runs_of us) x) (sym (drop_all i ts l)) ∙ k

-- ---- the bits of one page

same_change : {X : Type 0} (xs : List X) (i : ℕ) → change_at xs i (λ x. x) ≡ xs
same_change xs i = changed_is xs i (λ x. x) ∙ alter_none xs i
  where
    alter_none : {X : Type 0} (ys : List X) (n : ℕ) → alter ys n (λ x. x) ≡ ys
    alter_none [] n = refl
    alter_none (y ∷ ys) zero = refl
    alter_none (y ∷ ys) (suc n) = ap (λ zs. y ∷ zs) (alter_none ys n)

entry_on : (words n : ℕ) (o : Option Forwarding) (rows : List (List Bool))
    → ((f : Forwarding) → o ≡ Some f → f.to / words ≡ n)
    → noted_starts words o rows ≡ change_at rows (n - 1) (entry_in_row words o)
entry_on words n None rows to = sym (same_change rows (n - 1))
entry_on words n (Some f) rows to = by_copied f.copied
  where
    by_copied : (b : Bool) → cond b rows (with_bit rows words f.to true)
        ≡ change_at rows (n - 1) (λ row. cond b row (put_bit (f.to % words) true row))
    by_copied true = sym (same_change rows (n - 1))
    by_copied false = ap (λ m. change_at rows (m - 1) (put_bit (f.to % words) true)) (to f refl)

entries_on : (words n : ℕ) (side : List Forwarding) (e k : ℕ) (rows : List (List Bool)) → GoTo words n side e k
    → started_from words side e k rows ≡ change_at rows (n - 1) (entries_in_row words side e k)
entries_on words n side e zero rows to = sym (same_change rows (n - 1))
entries_on words n side e (suc k) rows to =
    entries_on words n side (e + 1) k (noted_starts words (slice_get side e) rows)
    (λ i f l z. to (i + 1) f (omega (arith, l)) (ap (slice_get side) (place i) ∙ z))
    ∙ ap (λ us. change_at us (n - 1) (entries_in_row words side (e + 1) k))
    (entry_on words n (slice_get side e) rows (λ f z. to 0 f (omega arith) (ap (slice_get side) begins ∙ z)))
    ∙ changed_again rows (n - 1) (entry_in_row words (slice_get side e)) (entries_in_row words side (e + 1) k)
    (entries_in_row words side e (suc k)) (λ row. refl)
  where
    place : (i : ℕ) → e + (i + 1) ≡ (e + 1) + i
    place i = omega arith

    begins : e + 0 ≡ e
    begins = omega arith

runs_on : (words n : ℕ) (sides : List (List Forwarding)) (rs : List PageRun) (rows : List (List Bool))
    → Each rs (λ (r : PageRun). GoTo words n (of_page sides r.page) r.first r.count)
    → by_runs (run_started words sides) rs rows ≡ change_at rows (n - 1) (by_runs (run_in_row words sides) rs)
runs_on words n sides [] rows to = sym (same_change rows (n - 1))
runs_on words n sides (r ∷ rs) rows to =
    runs_on words n sides rs (run_started words sides r rows) (λ i q at. to (suc i) q at)
    ∙ ap (λ us. change_at us (n - 1) (by_runs (run_in_row words sides) rs))
    (entries_on words n (of_page sides r.page) r.first r.count rows (to 0 r refl))
    ∙ changed_again rows (n - 1) (run_in_row words sides r) (by_runs (run_in_row words sides) rs)
    (by_runs (run_in_row words sides) (r ∷ rs)) (λ row. refl)

-- ---- bitmaps that are swapped

-- the bitmaps of targets put in their places
abbrev all_put : List (List Bool) → List Target → List (List Bool)
all_put rows [] = rows
all_put rows (t ∷ ts) = all_put (set rows (t.page - 1) t.starts) ts

swap_puts : (rows : List (List Bool)) (ts : List Target) (after : List (List Bool)) (us : List Target)
    → SwapsStarts rows ts after us → after ≡ all_put rows ts
swap_puts rows [] after [] s = s
swap_puts rows [] after (u ∷ us) s = absurd (true≢false s)
swap_puts rows (t ∷ ts) after [] s = absurd (true≢false s)
swap_puts rows (t ∷ ts) after (u ∷ us) s = swap_puts (set rows (t.page - 1) t.starts) ts after us s.1

-- one that is put before them
put_first : (rows : List (List Bool)) (n : ℕ) (ts : List Target) (i : ℕ) (row : List Bool) → i < n
    → AreRisingFrom n ts → set (all_put rows ts) i row ≡ all_put (set rows i row) ts
put_first rows n [] i row l up = refl
put_first rows n (t ∷ ts) i row l up =
    put_first (set rows (t.page - 1) t.starts) t.page ts i row (omega (arith, l, up.0)) up.1
    ∙ ap (λ us. all_put us ts) (set_comm rows (t.page - 1) i t.starts row (λ e. absurd (omega (arith, l, up.0, e))))

-- an element that is changed, or isn't there
put_changed : (rows : List (List Bool)) (i : ℕ) (d : List Bool) (f : List Bool → List Bool)
    → set rows i (f (get_or rows i d)) ≡ change_at rows i f
put_changed rows i d f = by_row rows i ∙ sym (changed_is rows i f)
  where
    by_row : (xs : List (List Bool)) (n : ℕ) → set xs n (f (get_or xs n d)) ≡ alter xs n f
    by_row [] n = refl
    by_row (x ∷ xs) zero = refl
    by_row (x ∷ xs) (suc n) = ap (λ ys. x ∷ ys) (by_row xs n)

module _ (s : PlacesState) where
  abbrev run_of : PageRun → List (List Bool) → List (List Bool)
  run_of = run_started s.size s.sides

  abbrev in_row : Target → List Bool → List Bool
  in_row t = by_runs (run_in_row s.size s.sides) t.runs.items

  -- what is noted in lent bitmaps is noted in the pages' bitmaps, one target after another
  lent_noted : (rows now : List (List Bool)) (n : ℕ) (ts : List Target) (between : List (List Bool))
      (lent : List Target) → AreRisingFrom n ts → AllGoTo s.size s.sides ts
      → ((m : ℕ) (d : List Bool) → n ≤ m → get_or now m d ≡ get_or rows m d)
      → SwapsStarts now ts between lent
      → all_put (all_put rows ts) (map (with_starts s) lent) ≡ by_runs run_of (runs_of ts) rows
  lent_noted rows now n [] between [] up to same e = refl
  lent_noted rows now n [] between (u ∷ us) up to same e = absurd (true≢false e)
  lent_noted rows now n (t ∷ ts) between [] up to same e = absurd (true≢false e)
  lent_noted rows now n (t ∷ ts) between (u ∷ us) up to same e =
      ap (λ (v : Target). all_put (set (all_put (set rows i t.starts) ts) (v.page - 1) v.starts)
      (map (with_starts s) us)) (ap (with_starts s) e.0)
      ∙ ap (λ xs. all_put xs (map (with_starts s) us))
      (put_first (set rows i t.starts) t.page ts i row (omega (arith, up.0)) up.1
      ∙ ap (λ xs. all_put xs ts) (set-set rows i t.starts row))
      ∙ lent_noted (set rows i row) (set now i t.starts) t.page ts between us up.1
      (λ j v at. to (suc j) v at)
      (λ m d l. get_or-set_other now i m t.starts d (λ z. absurd (omega (arith, l, up.0, z)))
      ∙ same m d (omega (arith, l, up.0))
      ∙ sym (get_or-set_other rows i m row d (λ z. absurd (omega (arith, l, up.0, z))))) e.1
      ∙ ap (by_runs run_of (runs_of ts))
      (ap (λ x. set rows i (in_row t x)) (same i t.starts (omega (arith, up.0)))
      ∙ put_changed rows i t.starts (in_row t)
      ∙ sym (runs_on s.size t.page s.sides t.runs.items rows (to 0 t refl)))
      ∙ runs_both run_of t.runs.items (runs_of ts) rows
    where
      i : ℕ
      i = t.page - 1

      row : List Bool
      row = in_row t (get_or now i t.starts)

  pub all_noted : (rows : List (List Bool)) (ts : List Target) (after : List (List Bool)) (back : List Target)
      → AreRisingFrom 0 ts → AllGoTo s.size s.sides ts → NotesStarts s rows ts after back
      → after ≡ by_runs run_of (runs_of ts) rows
  all_noted rows ts after back up to k =
      swap_puts k.between k.left after back k.give
      ∙ ap (λ us. all_put k.between us) k.note
      ∙ ap (λ us. all_put us (map (with_starts s) k.lent)) (swap_puts rows ts k.between k.lent k.take)
      ∙ lent_noted rows rows 0 ts k.between k.lent up to (λ m d l. refl) k.take

-- ---- what else targets tell

swap_else : (rows : List (List Bool)) (ts : List Target) (after : List (List Bool)) (us : List Target)
    → SwapsStarts rows ts after us → map without_starts us ≡ map without_starts ts
swap_else rows [] after [] e = refl
swap_else rows [] after (u ∷ us) e = absurd (true≢false e)
swap_else rows (t ∷ ts) after [] e = absurd (true≢false e)
swap_else rows (t ∷ ts) after (u ∷ us) e =
    (λ i. without_starts (e.0 i) ∷ swap_else (set rows (t.page - 1) t.starts) ts after us e.1 i)

noted_else : (s : PlacesState) (ts : List Target) → map without_starts (map (with_starts s) ts) ≡ map without_starts ts
noted_else s [] = refl
noted_else s (t ∷ ts) = ap (λ us. without_starts t ∷ us) (noted_else s ts)

pub back_else : (s : PlacesState) (rows : List (List Bool)) (ts : List Target) (after : List (List Bool))
    (back : List Target) → NotesStarts s rows ts after back → map without_starts back ≡ map without_starts ts
back_else s rows ts after back k =
    swap_else k.between k.left after back k.give ∙ ap (map without_starts) k.note ∙ noted_else s k.lent
    ∙ swap_else rows ts k.between k.lent k.take

-- their runs, and what is copied by them
runs_else : (ts : List Target) → runs_of (map without_starts ts) ≡ runs_of ts
runs_else [] = refl
runs_else (t ∷ ts) = ap (λ rs. t.runs.items ++ rs) (runs_else ts)

pub same_runs : (ts us : List Target) → map without_starts us ≡ map without_starts ts → runs_of us ≡ runs_of ts
same_runs ts us e = sym (runs_else us) ∙ ap runs_of e ∙ runs_else ts

filled_else : (s : StoreState) (sides : List (List Forwarding)) (ls : List Layout) (ts : List Target)
    → all_filled s sides ls (map without_starts ts) ≡ all_filled s sides ls ts
filled_else s sides ls [] = refl
filled_else s sides ls (t ∷ ts) = filled_else (stored_runs s sides ls t.page t.runs.items) sides ls ts

pub same_filled : (s : StoreState) (sides : List (List Forwarding)) (ls : List Layout) (ts us : List Target)
    → map without_starts us ≡ map without_starts ts → all_filled s sides ls us ≡ all_filled s sides ls ts
same_filled s sides ls ts us e =
    sym (filled_else s sides ls us) ∙ ap (all_filled s sides ls) e ∙ filled_else s sides ls ts

entries_else : (sides : List (List Forwarding)) (ts : List Target) → Each ts (AllHaveEntries sides)
    → Each (map without_starts ts) (AllHaveEntries sides)
entries_else sides [] h i t at = absurd (cc)
entries_else sides (t ∷ ts) h zero u at = subst (AllHaveEntries sides) (same_Some _ _ at) (h 0 t refl)
entries_else sides (t ∷ ts) h (suc i) u at = entries_else sides ts (λ j v there. h (suc j) v there) i u at

else_entries : (sides : List (List Forwarding)) (ts : List Target)
    → Each (map without_starts ts) (AllHaveEntries sides) → Each ts (AllHaveEntries sides)
else_entries sides [] h i t at = absurd (cc)
else_entries sides (t ∷ ts) h zero u at =
    subst (AllHaveEntries sides) (same_Some _ _ at) (h 0 (without_starts t) refl)
else_entries sides (t ∷ ts) h (suc i) u at = else_entries sides ts (λ j v there. h (suc j) v there) i u at

pub same_entries : (sides : List (List Forwarding)) (ts us : List Target)
    → map without_starts us ≡ map without_starts ts → Each ts (AllHaveEntries sides) → Each us (AllHaveEntries sides)
same_entries sides ts us e h =
    else_entries sides us (subst (λ vs. Each vs (AllHaveEntries sides)) (sym e) (entries_else sides ts h))

-- ---- targets on threads

front_small : (rs qs : List PageRun) → AreSmall (rs ++ qs) → AreSmall rs
front_small [] qs k j r at = absurd (cc)
front_small (x ∷ rs) qs k zero r at = k 0 r at
front_small (x ∷ rs) qs k (suc j) r at = front_small rs qs (λ m y there. k (suc m) y there) j r at

back_small : (rs qs : List PageRun) → AreSmall (rs ++ qs) → AreSmall qs
back_small [] qs k = k
back_small (x ∷ rs) qs k = back_small rs qs (λ m y there. k (suc m) y there)

-- the runs of a target are small, if those of all are
pub target_small : (ts : List Target) (i : ℕ) (d : Target) → AreSmall (runs_of ts) → i < length ts
    → AreSmall (get_or ts i d).runs.items
target_small [] i d h l = absurd (omega (arith, l))
target_small (t ∷ ts) zero d h l = front_small t.runs.items (runs_of ts) h
target_small (t ∷ ts) (suc i) d h l =
    target_small ts i d (back_small t.runs.items (runs_of ts) h) (omega (arith, l))

-- so are those of one that a thread gets
pub lent_small : (rows : List (List Bool)) (ts : List Target) (after : List (List Bool)) (us : List Target) (i : ℕ)
    (u : Target) → AreSmall (runs_of ts) → SwapsStarts rows ts after us → i < length us → u ≡ get_or us i u
    → AreSmall u.runs.items
lent_small rows ts after us i u h s l e =
    subst (λ (v : Target). AreSmall v.runs.items) (sym e)
    (target_small us i u (subst AreSmall (sym (same_runs ts us (swap_else rows ts after us s))) h) l)

-- each target was noted by a thread
pub all_with : (s : PlacesState) (us vs : List Target) → length vs ≡ length us
    → ((i : ℕ) (d : Target) → i < length us → get_or vs i d ≡ with_starts s (get_or us i d))
    → vs ≡ map (with_starts s) us
all_with s [] [] long h = refl
all_with s [] (v ∷ vs) long h = absurd (omega (arith, long))
all_with s (u ∷ us) [] long h = absurd (omega (arith, long))
all_with s (u ∷ us) (v ∷ vs) long h =
    (λ j. h 0 v (omega arith) j ∷ all_with s us vs shorter (λ i d l. h (suc i) d (omega (arith, l))) j)
  where
    shorter : length vs ≡ length us
    shorter = omega (arith, long)
