-- The births to which registers refer are those in the reference model's registers.
use Rattle.std.proofs.Common.{◌≡◌, ◌∙◌, ◌+◌, ℕ, zero, suc, List, [], ◌∷◌, map, length, refl, sym, ap, subst, arith}
use Rattle.std.proofs.Common.{Option, Some, get_or}
use Rattle.std.specs.List.{slice_get, range_with_len}
use Rattle.model.specs.Plain.{PlainHeap, PlainThread, name_of, name_in}
use Rattle.model.specs.States.{HeapState, flat}
use Rattle.refinement.specs.Standing.{Holds}
use Rattle.managed.specs.Collecting.{StandsUnseen}
use Rattle.managed.specs.Managing.{Promises}
use Rattle.portions.specs.Others.{KeepsOthers}
use Rattle.portions.specs.Portions.{Begins, GoesOn, HoldsInPortion, MutatorState}
use Rattle.tokens.specs.Rows.{ChangesOnly, TokenState, row_of}
use Rattle.known_registers.specs.Knowing.{FindsOwn, KnowingState}
use Rattle.known_registers.specs.Held.{HasRegisters, births_in, birth_named, births_named, births_held}

at_first : (a : ℕ) → a + 0 ≡ a
at_first a = omega arith

at_next : (a r : ℕ) → a + suc r ≡ a + 1 + r
at_next a r = omega arith

-- a list is the table of a function's values
listed : (xs : List (Option ℕ)) (f : ℕ → Option ℕ) (a n : ℕ) → length xs ≡ n
    → ((r j : ℕ) → a + r ≡ j → f j ≡ flat (slice_get xs r)) → map f (range_with_len a n) ≡ xs
listed [] f a zero e k = refl
listed [] f a (suc n) e k = absurd (omega (arith, e))
listed (x ∷ xs) f a zero e k = absurd (omega (arith, e))
listed (x ∷ xs) f a (suc n) e k = λ z. k 0 a (at_first a) z
    ∷ listed xs f (a + 1) n (omega (arith, e)) (λ r j at. k (suc r) j (at_next a r ∙ at)) z

abbrev pub registers_of : PlainThread → List (Option ℕ)
registers_of t = t.registers

rows_listed : (ts : List PlainThread) (f : ℕ → List (Option ℕ)) (a n : ℕ) → length ts ≡ n
    → ((i j : ℕ) (t : PlainThread) → a + i ≡ j → slice_get ts i ≡ Some t → f j ≡ t.registers)
    → map f (range_with_len a n) ≡ map registers_of ts
rows_listed [] f a zero e k = refl
rows_listed [] f a (suc n) e k = absurd (omega (arith, e))
rows_listed (x ∷ xs) f a zero e k = absurd (omega (arith, e))
rows_listed (x ∷ xs) f a (suc n) e k = λ z. k 0 a x (at_first a) refl z
    ∷ rows_listed xs f (a + 1) n (omega (arith, e)) (λ i j t at is. k (suc i) j t (at_next a i ∙ at) is) z

row_there : (ts : List PlainThread) (t : ℕ) → get_or (map registers_of ts) t [] ≡ births_in (slice_get ts t)
row_there [] t = refl
row_there (x ∷ xs) zero = refl
row_there (x ∷ xs) (suc t) = row_there xs t

named_is : (h : HeapState) (p p0 : PlainHeap) → Holds h p p0 → (t r : ℕ) → birth_named h t r ≡ name_of p t r
unfolding name_of
named_is h p p0 k t r = ap flat ((k.invariant.words.registers t r).names)

-- the births to which the registers of a heap refer are those of each reference model that it represents
pub held_is : (h : HeapState) (p p0 : PlainHeap) → Holds h p p0 → births_held h ≡ map registers_of p.threads
unfolding births_held name_of
held_is h p p0 k = rows_listed p.threads (births_named h) 0 (length h.threads) k.roots.threads by_thread
  where
    by_register : (i r j : ℕ) (t : PlainThread) → slice_get p.threads i ≡ Some t → 0 + r ≡ j
        → birth_named h i j ≡ flat (slice_get t.registers r)
    by_register i r j t is at =
        let same : j ≡ r = omega (arith, at) in
        ap (birth_named h i) same ∙ named_is h p p0 k i r ∙ ap (λ (o : Option PlainThread). name_in o r) is

    by_thread : (i j : ℕ) (t : PlainThread) → 0 + i ≡ j → slice_get p.threads i ≡ Some t
        → births_named h j ≡ t.registers
    by_thread i j t at is =
        let same : j ≡ i = omega (arith, at) in
        ap (births_named h) same ∙ listed t.registers (birth_named h i) 0 h.config.registers
        (k.roots.registers i t is) (λ r s e. by_register i r s t is e)

-- so are those of one thread
pub row_is : (h : HeapState) (p p0 : PlainHeap) → Holds h p p0 → (t : ℕ)
    → row_of (births_held h) t ≡ births_in (slice_get p.threads t)
row_is h p p0 k t = ap (λ (rows : List (List (Option ℕ))). get_or rows t []) (held_is h p p0 k) ∙ row_there p.threads t

-- ---- one heap after another

-- an unseen change leaves all registers
pub unseen_rows : (h g : HeapState) → Promises h → StandsUnseen h g → births_held g ≡ births_held h
unseen_rows h g k s =
    let y = s.same _ _ k.holds in
    held_is g _ y.0 y.1 ∙ sym (held_is h _ _ k.holds)

-- a portion of thread t leaves those of all others
pub others_rows : (h g : HeapState) (t : ℕ) → Promises h → KeepsOthers t h g
    → ChangesOnly t (births_held h) (births_held g)
others_rows h g t k s u n =
    let y = s.kept _ _ k.holds in
    row_is g y.0 y.1 y.2 u ∙ ap births_in (y.3 u n) ∙ sym (row_is h _ _ k.holds u)

pub has_rows : (h : HeapState) (t : ℕ) (births : List (Option ℕ)) → row_of (births_held h) t ≡ births
    → HasRegisters h t births
has_rows h t births e = record { known = λ p p0 k. sym (row_is h p p0 k t) ∙ e }

-- ---- portions

-- a portion starts with the registers in its seat
pub finds_own : (seat : ℕ) (token : TokenState) (s : KnowingState) (rows : List (List (Option ℕ))) (h : HeapState)
    (m : MutatorState) → record { thread = seat; registers = token.registers } ≡ s → token.thread ≡ seat
    → rows ≡ births_held h → Promises h → StandsUnseen h m.heap → row_of rows token.thread ≡ token.registers
    → Begins seat m → HoldsInPortion m → FindsOwn s m
finds_own seat token s rows h m is thread known k same found begins holds = subst (λ (z : KnowingState). FindsOwn z m) is
    (record {
      begins = begins;
      holds = holds;
      registers = has_rows m.heap seat token.registers (ap (λ (l : List (List (Option ℕ))). row_of l seat)
          (unseen_rows h m.heap k same ∙ sym known) ∙ ap (row_of rows) (sym thread) ∙ found);
    })

-- a portion of thread t that goes on changes no other thread's registers
pub portion_rows : (rows : List (List (Option ℕ))) (m n : MutatorState) (t : ℕ) → rows ≡ births_held m.heap
    → HoldsInPortion m → m.thread ≡ t → GoesOn m n → ChangesOnly t rows (births_held n.heap)
portion_rows rows m n t known holds thread on u apart =
    others_rows m.heap n.heap m.thread holds.promises on.others u (λ e. apart (e ∙ thread))
    ∙ ap (λ (l : List (List (Option ℕ))). row_of l u) (sym known)
