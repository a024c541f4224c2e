-- Texts written one after another.
use Rattle.std.proofs.Common.{◌≡◌, ℕ, ◌+◌, ◌<◌, ◌≤◌, List, [], ◌∷◌, ◌++◌, length, drop, get_or}
use Rattle.std.proofs.Common.{slice_get, Option, Some, None, IfSome}
use Rattle.std.specs.Prelude.{Result, Ok, Err, OnOk}
use Rattle.std.proofs.Common.{rules}
use Rattle.std.proofs.Common.{refl, ap, sym, subst, ◌∙◌, add-one, drop-cons, append_assoc, append-nil, not-suc-le-zero}
use Rattle.std.proofs.lemmas.List.{drop_all}
use Rattle.std.proofs.lemmas.Option.{slice_get-get_or}
use Rattle.model.specs.declared.steps.Answer.{Answer}
use Rattle.std.specs.Io.KnownBytes.{Appends}
use Rattle.entries.specs.declared.entry.Entry.{Entry}
use Rattle.reporting.specs.Texts.{Leads}
use Rattle.reporting.proofs.Leading.{leads_step, leads_end}
use Rattle.reporting.specs.Lines.{texts_from}
use Rattle.reporting.specs.Reports.{cycles_from, cycle_line, next_cycle}

split : {X : Type 0} (xs : List X) (i : ℕ) (d : X) → i < length xs → drop i xs ≡ get_or xs i d ∷ drop (i + 1) xs
split xs i d h = rw (add-one, drop-cons xs i d) refl

-- the first of the remaining texts
pub texts_next : {X : Type 0} (f : ℕ → X → List ℕ) (i : ℕ) (xs : List X) (d : X) → i < length xs
    → texts_from f i (drop i xs) ≡ f i (get_or xs i d) ++ texts_from f (i + 1) (drop (i + 1) xs)
unfolding texts_from
texts_next f i xs d h = rw (split xs i d h) refl

pub texts_end : {X : Type 0} (f : ℕ → X → List ℕ) (i : ℕ) (xs : List X) → length xs ≤ i
    → texts_from f i (drop i xs) ≡ []
unfolding texts_from
texts_end f i xs h = rw (drop_all i xs h) refl

pub told_next : {X : Type 0} (f : ℕ → X → List ℕ) (i : ℕ) (xs : List X) (d : X) (old c new : Option (List ℕ))
    (all : List ℕ) → Leads old c (texts_from f i (drop i xs)) all → i < length xs → Appends c new (f i (get_or xs i d))
    → Leads old new (texts_from f (i + 1) (drop (i + 1) xs)) all
told_next f i xs d old c new all h le a =
    let k : Leads old c (f i (get_or xs i d) ++ texts_from f (i + 1) (drop (i + 1) xs)) all =
    rw (← texts_next f i xs d le) h in
    leads_step old c new _ _ all k a

pub told_end : {X : Type 0} (f : ℕ → X → List ℕ) (i : ℕ) (xs : List X) (old c : Option (List ℕ)) (all : List ℕ)
    → Leads old c (texts_from f i (drop i xs)) all → length xs ≤ i → Appends old c all
told_end f i xs old c all h le = let k : Leads old c [] all = rw (← texts_end f i xs le) h in leads_end old c all k

-- the marks that ended

cycles_next : (k i : ℕ) (es : List Entry) (d : Entry) → i < length es → cycles_from k (drop i es)
    ≡ cycle_line k (get_or es i d).answer ++ cycles_from (next_cycle k (get_or es i d).answer) (drop (i + 1) es)
unfolding cycles_from
cycles_next k i es d h = rw (split es i d h) refl

cycles_end : (k i : ℕ) (es : List Entry) → length es ≤ i → cycles_from k (drop i es) ≡ []
unfolding cycles_from
cycles_end k i es h = rw (drop_all i es h) refl

pub cycle_told : (k n i : ℕ) (es : List Entry) (d : Entry) (old c new : Option (List ℕ)) (all : List ℕ)
    → Leads old c (cycles_from k (drop i es)) all → i < length es → Appends c new (cycle_line k (get_or es i d).answer)
    → n ≡ next_cycle k (get_or es i d).answer → Leads old new (cycles_from n (drop (i + 1) es)) all
cycle_told k n i es d old c new all h le a e =
    let there : Leads old c (cycle_line k (get_or es i d).answer ++ cycles_from n (drop (i + 1) es)) all =
    rw (e, ← cycles_next k i es d le) h in
    leads_step old c new _ _ all there a

pub cycles_told : (k i : ℕ) (es : List Entry) (old c : Option (List ℕ)) (all : List ℕ)
    → Leads old c (cycles_from k (drop i es)) all → length es ≤ i → Appends old c all
cycles_told k i es old c all h le =
    let there : Leads old c [] all = rw (← cycles_end k i es le) h in leads_end old c all there

-- the same for an element that was read
pub told_item :
    {X : Type 0} (f : ℕ → X → List ℕ) (i : ℕ) (xs : List X) (x : X) (old c new : Option (List ℕ)) (all : List ℕ)
    → Leads old c (texts_from f i (drop i xs)) all → i < length xs → x ≡ get_or xs i x → Appends c new (f i x)
    → Leads old new (texts_from f (i + 1) (drop (i + 1) xs)) all
told_item f i xs x old c new all h le e a =
    told_next f i xs x old c new all h le (subst (λ y. Appends c new (f i y)) e a)

-- the same for an answer that was read
pub cycle_item : (k n i : ℕ) (es : List Entry) (a : Answer) (old c new : Option (List ℕ)) (all : List ℕ)
    → Leads old c (cycles_from k (drop i es)) all
    → i < length es → IfSome (slice_get es i) (λ e. a ≡ e.answer) → Appends c new (cycle_line k a)
    → n ≡ next_cycle k a → Leads old new (cycles_from n (drop (i + 1) es)) all
cycle_item k n i [] a old c new all h le q t m = absurd (not-suc-le-zero le)
cycle_item k n i (d ∷ ds) a old c new all h le q t m =
    let read : a ≡ (get_or (d ∷ ds) i d).answer =
    subst (λ o. IfSome o (λ (e : Entry). a ≡ e.answer)) (slice_get-get_or (d ∷ ds) i d le) q in
    cycle_told k n i (d ∷ ds) d old c new all h le (subst (λ (y : Answer). Appends c new (cycle_line k y)) read t)
    (subst (λ (y : Answer). n ≡ next_cycle k y) read m)

-- nothing is appended
pub appends_nothing : (o : Option (List ℕ)) → Appends o o []
appends_nothing None = tt
appends_nothing (Some x) = sym (append-nil x)

-- what is appended after what was appended
pub appends_more : (a b c : Option (List ℕ)) (xs ys : List ℕ) → Appends a b xs → Appends b c ys → Appends a c (xs ++ ys)
appends_more None b c xs ys h k = tt
appends_more (Some x) None c xs ys h k = absurd h
appends_more (Some x) (Some y) None xs ys h k = k
appends_more (Some x) (Some y) (Some z) xs ys h k = k ∙ ap (λ zs. zs ++ ys) h ∙ append_assoc x xs ys

-- a consequence of what a result has if it isn't an error
pub on_ok : {X E : Type 0} (r : Result X E) (P Q : Type 0) → OnOk r P → (P → Q) → OnOk r Q
on_ok (Ok x) P Q h k = k h
on_ok (Err e) P Q h k = search rules
