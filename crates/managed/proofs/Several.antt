-- Several steps by one call: however the rest of them ends, all of them end.
use Rattle.std.proofs.Common.{◌≡◌, ◌⊎◌, Bool, true, false, ℕ, ◌+◌, ◌<◌, ◌≤◌, List, [], ◌∷◌, ◌++◌, drop, get_or, length}
use Rattle.std.proofs.Common.{refl, sym, subst, ap, inl, inr, ◌∙◌}
use Rattle.std.proofs.lemmas.List.{drop_more, drop_all}
use Rattle.std.specs.Prelude.{Result, Ok, Err}
use Rattle.model.specs.declared.steps.Actor.TheVariants.{Thread}
use Rattle.model.specs.declared.steps.Answer.TheVariants as answers
use Rattle.model.specs.declared.steps.Refusal.{Refusal}
use Rattle.model.specs.declared.steps.Step.{Step}
use Rattle.model.specs.declared.steps.Step.TheVariants as steps
use Rattle.model.specs.Outcome.{outcome}
use Rattle.model.specs.Refusing.{◌>>=◌, Does}
use Rattle.model.specs.Saying.{done, said}
use Rattle.model.specs.States.{HeapState}
use Rattle.cycle.specs.Mutating.{DoesThread, ThreadStands}
use Rattle.managed.specs.declared.batches.FieldLoad.{FieldLoad}
use Rattle.managed.specs.declared.batches.LoadsFault.{LoadsFault}
use Rattle.managed.specs.Batches.{EndsFilling, EndsLoads, LoadsField, fill_steps, set_steps, source_test, sources_test, store_steps}
use Rattle.managed.specs.Batches.{IsRestOfData, IsRestOfLoads, IsRestOfSteps, IsRestOfStores}
use Rattle.managed.specs.Found.{MayStep}
use Rattle.managed.specs.Goings.{LoadsWhole, LoadStands, MayLoadWhole, Steps}
use Rattle.managed.proofs.Running.{runs_one}

-- ---- loads

pub loads_first : (t object first : ℕ) (h : HeapState) (ls : List FieldLoad) → IsRestOfLoads t object first h ls first h
loads_first t object first h ls = λ r g k. k

pub loads_more : (t object first : ℕ) (h m k : HeapState) (ls : List FieldLoad) (n : ℕ) (d : FieldLoad)
    (r : Result Unit Refusal) (u : Unit {0}) → n < length ls → r ≡ Ok u
    → LoadsWhole m t (steps.Load (get_or ls n d).target object (get_or ls n d).field) r k
    → LoadStands m t (steps.Load (get_or ls n d).target object (get_or ls n d).field) r k
    → IsRestOfLoads t object first h ls n m → IsRestOfLoads t object first h ls (n + 1) k
loads_more t object first h m k ls n d r u l is loads stands rest s g b =
    let one : LoadsField t object (get_or ls n d) m (Ok u) k =
    subst (λ (x : Result Unit Refusal). LoadsField t object (get_or ls n d) m x k) is (loads, stands) in
    rest s g (subst (λ (xs : List FieldLoad). EndsLoads t object n xs m s g) (sym (drop_more ls n d l))
    (inl (k, one, b)))

-- a load in one go, or nothing
pub loads_found : (t object first : ℕ) (h m k : HeapState) (ls : List FieldLoad) (n : ℕ) (d : FieldLoad) (b : Bool)
    → n < length ls → b ≡ true
    → MayLoadWhole b m t (steps.Load (get_or ls n d).target object (get_or ls n d).field) k
    → IsRestOfLoads t object first h ls n m → IsRestOfLoads t object first h ls (n + 1) k
loads_found t object first h m k ls n d true l is may rest =
    loads_more t object first h m k ls n d (Ok tt) tt l refl may.0 may.1 rest
loads_found t object first h m k ls n d false l is may rest = absurd (cc)

pub loads_kept : (t object first : ℕ) (h m k : HeapState) (ls : List FieldLoad) (n : ℕ) (begin : Step) (b : Bool)
    → b ≡ false → MayLoadWhole b m t begin k → IsRestOfLoads t object first h ls n m
    → IsRestOfLoads t object first h ls n k
loads_kept t object first h m k ls n begin true is may rest = absurd (cc)
loads_kept t object first h m k ls n begin false is may rest =
    subst (λ (x : HeapState). IsRestOfLoads t object first h ls n x) (sym may) rest

pub loads_stop : (t object first : ℕ) (h m g : HeapState) (ls : List FieldLoad) (n : ℕ) (d : FieldLoad)
    (r : Result Unit Refusal) (e : Refusal) → n < length ls → r ≡ Err e
    → LoadsWhole m t (steps.Load (get_or ls n d).target object (get_or ls n d).field) r g
    → LoadStands m t (steps.Load (get_or ls n d).target object (get_or ls n d).field) r g
    → IsRestOfLoads t object first h ls n m
    → EndsLoads t object first (drop first ls) h (Err (record { done = n; refusal = e })) g
loads_stop t object first h m g ls n d r e l is loads stands rest =
    let fault : LoadsFault = record { done = n; refusal = e } in
    let one : LoadsField t object (get_or ls n d) m (Err e) g =
    subst (λ (x : Result Unit Refusal). LoadsField t object (get_or ls n d) m x g) is (loads, stands) in
    rest (Err fault) g (subst (λ (xs : List FieldLoad). EndsLoads t object n xs m (Err fault) g)
    (sym (drop_more ls n d l)) (inr (e, one, refl)))

pub loads_end : (t object first : ℕ) (h g : HeapState) (ls : List FieldLoad) (n : ℕ) → length ls ≤ n
    → IsRestOfLoads t object first h ls n g → EndsLoads t object first (drop first ls) h (Ok tt) g
loads_end t object first h g ls n l rest = rest (Ok tt) g
    (subst (λ (xs : List FieldLoad). EndsLoads t object n xs g (Ok tt) g) (sym (drop_all n ls l)) (refl, refl))

-- ---- steps that fill an object

-- a step that is done or refused, before others
step_then : (t : ℕ) (s : Step) (m k : HeapState) (r : Result Unit Refusal) (u : Unit {0}) → r ≡ Ok u
    → Does m (said done r) k (outcome m (Thread t) s) → ThreadStands done m t s r k
    → Steps (Thread t) s answers.Done m k
step_then t s m k (Ok v) u is does stands = runs_one m k (Thread t) s answers.Done does stands
step_then t s m k (Err e) u is does stands = absurd (cc)

step_stops : (t : ℕ) (s : Step) (m g : HeapState) (r : Result Unit Refusal) (e : Refusal) → r ≡ Err e
    → Does m (said done r) g (outcome m (Thread t) s) → (outcome m (Thread t) s ≡ Err e) × (g ≡ m)
step_stops t s m g (Ok v) e is does = absurd (cc)
step_stops t s m g (Err x) e is does = let same : x ≡ e = cc in (does.0 ∙ ap Err same, does.1)

steps_more : (t : ℕ) (all : List Step) (h m k : HeapState) (s : Step) (rest : List Step) (r : Result Unit Refusal)
    (u : Unit {0}) → r ≡ Ok u → Does m (said done r) k (outcome m (Thread t) s) → ThreadStands done m t s r k
    → IsRestOfSteps t all h (s ∷ rest) m → IsRestOfSteps t all h rest k
steps_more t all h m k s rest r u is does stands all_end q g b =
    all_end q g (inl (k, step_then t s m k r u is does stands, b))

steps_stop : (t : ℕ) (all : List Step) (h m g : HeapState) (s : Step) (rest : List Step) (r : Result Unit Refusal)
    (e : Refusal) → r ≡ Err e → Does m (said done r) g (outcome m (Thread t) s) → IsRestOfSteps t all h (s ∷ rest) m
    → EndsFilling t all h (Err e) g
steps_stop t all h m g s rest r e is does all_end =
    let k = step_stops t s m g r e is does in all_end (Err e) g (inr (e, k.0, refl, k.1))

-- a step that isn't done in one go
pub steps_kept : (t : ℕ) (all : List Step) (h m k : HeapState) (s : Step) (rest : List Step) (b : Bool) → b ≡ false
    → MayStep b m t s k → IsRestOfSteps t all h rest m → IsRestOfSteps t all h rest k
steps_kept t all h m k s rest true is may all_end = absurd (cc)
steps_kept t all h m k s rest false is may all_end =
    subst (λ (x : HeapState). IsRestOfSteps t all h rest x) (sym may) all_end

-- ---- stores

pub stores_first : (t object first : ℕ) (h : HeapState) (ss : List ℕ) → IsRestOfStores t object first h ss first h
stores_first t object first h ss = λ r g k. k

next_store : (t object first : ℕ) (h m : HeapState) (ss : List ℕ) (i : ℕ) → i < length ss
    → IsRestOfStores t object first h ss i m
    → IsRestOfSteps t (store_steps object first (drop first ss)) h
    (steps.Store object i (get_or ss i 0) ∷ store_steps object (i + 1) (drop (i + 1) ss)) m
next_store t object first h m ss i l =
    subst (λ (xs : List ℕ). IsRestOfSteps t (store_steps object first (drop first ss)) h (store_steps object i xs) m)
    (drop_more ss i 0 l)

pub stores_more : (t object first : ℕ) (h m k : HeapState) (ss : List ℕ) (i : ℕ) (r : Result Unit Refusal)
    (u : Unit {0}) → i < length ss → r ≡ Ok u → DoesThread done m t (steps.Store object i (get_or ss i 0)) r k
    → ThreadStands done m t (steps.Store object i (get_or ss i 0)) r k
    → IsRestOfStores t object first h ss i m → IsRestOfStores t object first h ss (i + 1) k
stores_more t object first h m k ss i r u l is does stands rest =
    steps_more t (store_steps object first (drop first ss)) h m k (steps.Store object i (get_or ss i 0))
    (store_steps object (i + 1) (drop (i + 1) ss)) r u is does stands (next_store t object first h m ss i l rest)

pub stores_found : (t object first : ℕ) (h m k : HeapState) (ss : List ℕ) (i : ℕ) (b : Bool) → i < length ss
    → b ≡ true → MayStep b m t (steps.Store object i (get_or ss i 0)) k
    → IsRestOfStores t object first h ss i m → IsRestOfStores t object first h ss (i + 1) k
stores_found t object first h m k ss i true l is may rest =
    stores_more t object first h m k ss i (Ok tt) tt l refl may.0 may.1 rest
stores_found t object first h m k ss i false l is may rest = absurd (cc)

pub stores_stop : (t object first : ℕ) (h m g : HeapState) (ss : List ℕ) (i : ℕ) (r : Result Unit Refusal)
    (e : Refusal) → i < length ss → r ≡ Err e → DoesThread done m t (steps.Store object i (get_or ss i 0)) r g
    → IsRestOfStores t object first h ss i m
    → EndsFilling t (store_steps object first (drop first ss)) h (Err e) g
stores_stop t object first h m g ss i r e l is does rest =
    steps_stop t (store_steps object first (drop first ss)) h m g (steps.Store object i (get_or ss i 0))
    (store_steps object (i + 1) (drop (i + 1) ss)) r e is does (next_store t object first h m ss i l rest)

pub stores_end : (t object first : ℕ) (h g : HeapState) (ss : List ℕ) (i : ℕ) → length ss ≤ i
    → IsRestOfStores t object first h ss i g → EndsFilling t (store_steps object first (drop first ss)) h (Ok tt) g
stores_end t object first h g ss i l rest = rest (Ok tt) g
    (subst (λ (xs : List ℕ). EndsFilling t (store_steps object i xs) g (Ok tt) g) (sym (drop_all i ss l)) (refl, refl))

-- ---- data words

pub data_first : (t object first : ℕ) (h : HeapState) (xs : List ℕ) → IsRestOfData t object first h xs first h
data_first t object first h xs = λ r g k. k

next_datum : (t object first : ℕ) (h m : HeapState) (xs : List ℕ) (j : ℕ) → j < length xs
    → IsRestOfData t object first h xs j m
    → IsRestOfSteps t (set_steps object first (drop first xs)) h
    (steps.SetDatum object j (get_or xs j 0) ∷ set_steps object (j + 1) (drop (j + 1) xs)) m
next_datum t object first h m xs j l =
    subst (λ (ys : List ℕ). IsRestOfSteps t (set_steps object first (drop first xs)) h (set_steps object j ys) m)
    (drop_more xs j 0 l)

pub data_more : (t object first : ℕ) (h m k : HeapState) (xs : List ℕ) (j : ℕ) (r : Result Unit Refusal)
    (u : Unit {0}) → j < length xs → r ≡ Ok u → DoesThread done m t (steps.SetDatum object j (get_or xs j 0)) r k
    → ThreadStands done m t (steps.SetDatum object j (get_or xs j 0)) r k
    → IsRestOfData t object first h xs j m → IsRestOfData t object first h xs (j + 1) k
data_more t object first h m k xs j r u l is does stands rest =
    steps_more t (set_steps object first (drop first xs)) h m k (steps.SetDatum object j (get_or xs j 0))
    (set_steps object (j + 1) (drop (j + 1) xs)) r u is does stands (next_datum t object first h m xs j l rest)

pub data_found : (t object first : ℕ) (h m k : HeapState) (xs : List ℕ) (j : ℕ) (b : Bool) → j < length xs
    → b ≡ true → MayStep b m t (steps.SetDatum object j (get_or xs j 0)) k
    → IsRestOfData t object first h xs j m → IsRestOfData t object first h xs (j + 1) k
data_found t object first h m k xs j true l is may rest =
    data_more t object first h m k xs j (Ok tt) tt l refl may.0 may.1 rest
data_found t object first h m k xs j false l is may rest = absurd (cc)

pub data_stop : (t object first : ℕ) (h m g : HeapState) (xs : List ℕ) (j : ℕ) (r : Result Unit Refusal)
    (e : Refusal) → j < length xs → r ≡ Err e → DoesThread done m t (steps.SetDatum object j (get_or xs j 0)) r g
    → IsRestOfData t object first h xs j m → EndsFilling t (set_steps object first (drop first xs)) h (Err e) g
data_stop t object first h m g xs j r e l is does rest =
    steps_stop t (set_steps object first (drop first xs)) h m g (steps.SetDatum object j (get_or xs j 0))
    (set_steps object (j + 1) (drop (j + 1) xs)) r e is does (next_datum t object first h m xs j l rest)

pub data_end : (t object first : ℕ) (h g : HeapState) (xs : List ℕ) (j : ℕ) → length xs ≤ j
    → IsRestOfData t object first h xs j g → EndsFilling t (set_steps object first (drop first xs)) h (Ok tt) g
data_end t object first h g xs j l rest = rest (Ok tt) g
    (subst (λ (ys : List ℕ). EndsFilling t (set_steps object j ys) g (Ok tt) g) (sym (drop_all j xs l)) (refl, refl))

-- ---- both

-- steps that are all done, and others after them
pub filled_then : (t : ℕ) (ss qs : List Step) (h m g : HeapState) (r : Result Unit Refusal) (u : Unit {0})
    (q : Result Unit Refusal) → r ≡ Ok u → EndsFilling t ss h r m → EndsFilling t qs m q g
    → EndsFilling t (ss ++ qs) h q g
filled_then t [] qs h m g r u q is a b = subst (λ (x : HeapState). EndsFilling t qs x q g) a.1 b
filled_then t (s ∷ ss) qs h m g r u q is (inl a) b =
    inl (a.0, a.1, filled_then t ss qs a.0 m g r u q is a.2 b)
filled_then t (s ∷ ss) qs h m g r u q is (inr a) b =
    absurd (clash r u a.0 is a.2)
  where
    clash : (r : Result Unit Refusal) (u : Unit {0}) (e : Refusal) → r ≡ Ok u → r ≡ Err e → ⊥
    clash r u e is other = absurd (cc)

-- steps one of which is refused, and others that aren't tried
pub filled_stops : (t : ℕ) (ss qs : List Step) (h g : HeapState) (r : Result Unit Refusal) (e : Refusal) → r ≡ Err e
    → EndsFilling t ss h r g → EndsFilling t (ss ++ qs) h (Err e) g
filled_stops t [] qs h g r e is a = absurd (clash r e is a.0)
  where
    clash : (r : Result Unit Refusal) (e : Refusal) → r ≡ Err e → r ≡ Ok tt → ⊥
    clash r e is other = absurd (cc)
filled_stops t (s ∷ ss) qs h g r e is (inl a) = inl (a.0, a.1, filled_stops t ss qs a.0 g r e is a.2)
filled_stops t (s ∷ ss) qs h g r e is (inr a) = inr (a.0, a.1, sym is ∙ a.2, a.3)

-- steps and others after them, by how the former end
filled_parts : (t : ℕ) (ss qs : List Step) (h g : HeapState) (r : Result Unit Refusal) → EndsFilling t (ss ++ qs) h r g
    → ((m : HeapState) × EndsFilling t ss h (Ok tt) m × EndsFilling t qs m r g)
    ⊎ ((e : Refusal) × EndsFilling t ss h (Err e) g × (r ≡ Err e))
filled_parts t [] qs h g r k = inl (h, (refl, refl), k)
filled_parts t (s ∷ ss) qs h g r (inl k) = by_rest (filled_parts t ss qs k.0 g r k.2)
  where
    by_rest : ((m : HeapState) × EndsFilling t ss k.0 (Ok tt) m × EndsFilling t qs m r g)
        ⊎ ((e : Refusal) × EndsFilling t ss k.0 (Err e) g × (r ≡ Err e))
        → ((m : HeapState) × EndsFilling t (s ∷ ss) h (Ok tt) m × EndsFilling t qs m r g)
        ⊎ ((e : Refusal) × EndsFilling t (s ∷ ss) h (Err e) g × (r ≡ Err e))
    by_rest (inl a) = inl (a.0, inl (k.0, k.1, a.1), a.2)
    by_rest (inr a) = inr (a.0, inl (k.0, k.1, a.1), a.2)
filled_parts t (s ∷ ss) qs h g r (inr k) = inr (k.0, inr (k.0, k.1, refl, k.3), k.2)

-- however the rest of steps ends, with others after it all of them end, with these after them
pub rest_then : (t : ℕ) (ss rest qs : List Step) (h m g : HeapState) (r : Result Unit Refusal)
    → IsRestOfSteps t ss h rest m → EndsFilling t (rest ++ qs) m r g → EndsFilling t (ss ++ qs) h r g
rest_then t ss rest qs h m g r ends k = by_parts (filled_parts t rest qs m g r k)
  where
    by_parts : ((n : HeapState) × EndsFilling t rest m (Ok tt) n × EndsFilling t qs n r g)
        ⊎ ((e : Refusal) × EndsFilling t rest m (Err e) g × (r ≡ Err e)) → EndsFilling t (ss ++ qs) h r g
    by_parts (inl a) = filled_then t ss qs h a.0 g (Ok tt) tt r refl (ends (Ok tt) a.0 a.1) a.2
    by_parts (inr a) = subst (λ (x : Result Unit Refusal). EndsFilling t (ss ++ qs) h x g) (sym a.2)
        (filled_stops t ss qs h g (Err a.0) a.0 refl (ends (Err a.0) g a.1))

drop_zero : {X : Type 0} (xs : List X) → drop 0 xs ≡ xs
drop_zero [] = refl
drop_zero (x ∷ xs) = refl

stores_whole : (t object : ℕ) (h m : HeapState) (ss : List ℕ) (i : ℕ) → IsRestOfStores t object 0 h ss i m
    → IsRestOfSteps t (store_steps object 0 ss) h (store_steps object i (drop i ss)) m
stores_whole t object h m ss i k = subst
    (λ (xs : List ℕ). IsRestOfSteps t (store_steps object 0 xs) h (store_steps object i (drop i ss)) m) (drop_zero ss) k

pub data_whole : (t object : ℕ) (h g : HeapState) (xs : List ℕ) (r : Result Unit Refusal)
    → EndsFilling t (set_steps object 0 (drop 0 xs)) h r g → EndsFilling t (set_steps object 0 xs) h r g
data_whole t object h g xs r k =
    subst (λ (ys : List ℕ). EndsFilling t (set_steps object 0 ys) h r g) (drop_zero xs) k

-- an object of which some references are stored is filled from there
pub fill_stores : (t object : ℕ) (h m g : HeapState) (ss xs : List ℕ) (i : ℕ) (r : Result Unit Refusal)
    → IsRestOfStores t object 0 h ss i m
    → EndsFilling t (store_steps object i (drop i ss) ++ set_steps object 0 xs) m r g
    → EndsFilling t (fill_steps object ss xs) h r g
fill_stores t object h m g ss xs i r stores k =
    rest_then t (store_steps object 0 ss) (store_steps object i (drop i ss)) (set_steps object 0 xs) h m g r
    (stores_whole t object h m ss i stores) k

-- all references are stored, and some data words written
pub fill_sets : (t object : ℕ) (h m n g : HeapState) (ss xs : List ℕ) (i j : ℕ) (r : Result Unit Refusal)
    → length ss ≤ i → IsRestOfStores t object 0 h ss i m → IsRestOfData t object 0 m xs j n
    → EndsFilling t (set_steps object j (drop j xs)) n r g → EndsFilling t (fill_steps object ss xs) h r g
fill_sets t object h m n g ss xs i j r all stores sets k =
    filled_then t (store_steps object 0 ss) (set_steps object 0 xs) h m g (Ok tt) tt r refl
    (subst (λ (ys : List ℕ). EndsFilling t (store_steps object 0 ys) h (Ok tt) m) (drop_zero ss)
    (stores_end t object 0 h m ss i all stores)) (data_whole t object m g xs r (sets r g k))

-- all are
pub fill_done : (t object : ℕ) (h m g : HeapState) (ss xs : List ℕ) (i j : ℕ) → length ss ≤ i → length xs ≤ j
    → IsRestOfStores t object 0 h ss i m → IsRestOfData t object 0 m xs j g
    → EndsFilling t (fill_steps object ss xs) h (Ok tt) g
fill_done t object h m g ss xs i j all every stores sets =
    filled_then t (store_steps object 0 ss) (set_steps object 0 xs) h m g (Ok tt) tt (Ok tt) refl
    (subst (λ (ys : List ℕ). EndsFilling t (store_steps object 0 ys) h (Ok tt) m) (drop_zero ss)
    (stores_end t object 0 h m ss i all stores))
    (data_whole t object m g xs (Ok tt) (data_end t object 0 m g xs j every sets))

-- ---- tests of sources

-- however the test of the rest ends, all end
abbrev pub IsRestOfTests : HeapState → ℕ → ℕ → List ℕ → ℕ → Type 0
IsRestOfTests h t target ss i = sources_test h t target ss ≡ sources_test h t target (drop i ss)

pub tests_first : (h : HeapState) (t target : ℕ) (ss : List ℕ) → IsRestOfTests h t target ss 0
tests_first h t target [] = refl
tests_first h t target (s ∷ ss) = refl

next_test : (h : HeapState) (t target : ℕ) (ss : List ℕ) (i : ℕ) → i < length ss → IsRestOfTests h t target ss i
    → sources_test h t target ss ≡ sources_test h t target (get_or ss i 0 ∷ drop (i + 1) ss)
next_test h t target ss i l rest = rest ∙ ap (sources_test h t target) (drop_more ss i 0 l)

pub tests_more : (h : HeapState) (t target : ℕ) (ss : List ℕ) (i : ℕ) (r : Result Unit Refusal) (u : Unit {0})
    → i < length ss → r ≡ Ok u → r ≡ source_test h t target (get_or ss i 0) → IsRestOfTests h t target ss i
    → IsRestOfTests h t target ss (i + 1)
tests_more h t target ss i r u l is tests rest =
    next_test h t target ss i l rest
    ∙ ap (λ (x : Result Unit Refusal). x >>= (λ _. sources_test h t target (drop (i + 1) ss))) (sym tests ∙ is)

pub tests_stop : (h : HeapState) (t target : ℕ) (ss : List ℕ) (i : ℕ) (r : Result Unit Refusal) (e : Refusal)
    → i < length ss → r ≡ Err e → r ≡ source_test h t target (get_or ss i 0) → IsRestOfTests h t target ss i
    → Err e ≡ sources_test h t target ss
tests_stop h t target ss i r e l is tests rest =
    sym (next_test h t target ss i l rest
    ∙ ap (λ (x : Result Unit Refusal). x >>= (λ _. sources_test h t target (drop (i + 1) ss))) (sym tests ∙ is))

pub tests_end : (h : HeapState) (t target : ℕ) (ss : List ℕ) (i : ℕ) → length ss ≤ i → IsRestOfTests h t target ss i
    → Ok tt ≡ sources_test h t target ss
tests_end h t target ss i l rest = sym (rest ∙ ap (sources_test h t target) (drop_all i ss l))
