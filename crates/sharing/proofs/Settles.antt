-- The first actor that fails a test, found one actor after the other.
use Rattle.std.proofs.Common.{◌≡◌, ◌≢◌, ◌<◌, ◌≤◌, ◌+◌, ◌==◌, ℕ, Bool, true, false, true≢false, List, [], ◌∷◌, ◌++◌, All}
use Rattle.std.proofs.Common.{get_or, length, length-append, zero, suc, take, sym, refl, ap, ◌∙◌, subst, arith, Option}
use Rattle.std.proofs.Common.{Some, None, MatchBool, IfSome, if◌then◌else◌}
use Rattle.std.proofs.Common.{slice_get}
use Rattle.std.proofs.lemmas.Option.{slice_get_within, get_or_from_slice_get}
use Rattle.std.proofs.lemmas.List.{take_more, take_all}
use Rattle.std.proofs.lemmas.List.Elements.{All-append, All-take}
use Rattle.std.proofs.lemmas.Bool.{eqb-false, eqb-true, ltb-true, lt-ltb}
use Rattle.std.proofs.Math.ListN.{get_or-append}
use Rattle.std.proofs.Math.Seq.{get_or-append_seam}
use Rattle.model.specs.declared.steps.Actor.{Actor}
use Rattle.model.specs.declared.steps.Actor.TheVariants as actors
use Rattle.entries.specs.declared.entry.Entry.{Entry}
use Rattle.entries.specs.Parts.{is_before, part_of}
use Rattle.sharing.specs.Seats.{Agrees, HasPart, SeatState, of_actor}
use Rattle.sharing.specs.Settling.{IsFirstNot, earlier, noted}

irreflexive : (a : Actor) → is_before a a ≡ true → ⊥
unfolding is_before
irreflexive (actors.Thread n) h = let x : n < n = ltb-true n n h in omega arith
irreflexive (actors.Worker n) h = let x : n < n = ltb-true n n h in omega arith

transitive : (a b c : Actor) → is_before a b ≡ true → is_before b c ≡ true → is_before a c ≡ true
unfolding is_before
transitive (actors.Thread l) (actors.Thread m) (actors.Thread n) h g = lt-ltb l n
    (let x : l < m = ltb-true l m h in let y : m < n = ltb-true m n g in omega arith)
transitive (actors.Thread l) (actors.Thread m) (actors.Worker n) h g = refl
transitive (actors.Thread l) (actors.Worker m) (actors.Thread n) h g = absurd (true≢false (sym g))
transitive (actors.Thread l) (actors.Worker m) (actors.Worker n) h g = refl
transitive (actors.Worker l) (actors.Thread m) c h g = absurd (true≢false (sym h))
transitive (actors.Worker l) (actors.Worker m) (actors.Thread n) h g = absurd (true≢false (sym g))
transitive (actors.Worker l) (actors.Worker m) (actors.Worker n) h g = lt-ltb l n
    (let x : l < m = ltb-true l m h in let y : m < n = ltb-true m n g in omega arith)

module _ (P Q : Actor → Type 0) (down : (a : Actor) → Q a → P a) where
  good : ((a : Actor) → P a → Q a) → (found : Option Actor) → IsFirstNot P found → IsFirstNot Q found
  good up None h = λ a. up a (h a)
  good up (Some x) h = ((λ q. h.0 (down x q)), λ a lt. up a (h.1 a lt))

  bad_at : (x b : Actor) → ((a : Actor) → P a → a ≢ b → Q a) → (¬ Q b) → IsFirstNot P (Some x) → (c : Bool)
      → is_before b x ≡ c → IsFirstNot Q (if c then Some b else Some x)
  bad_at x b up fails h true is = (
    fails,
    λ a lt. up a (h.1 a (transitive a b x lt is))
        (λ e. irreflexive b (subst (λ (z : Actor). is_before z b ≡ true) e lt)),
  )
  bad_at x b up fails h false is = (
    (λ q. h.0 (down x q)),
    λ a lt. up a (h.1 a lt) (λ e. true≢false (sym lt
        ∙ ap (λ (z : Actor). is_before z x) e ∙ is)),
  )

  bad : (b : Actor) → ((a : Actor) → P a → a ≢ b → Q a) → (¬ Q b) → (found : Option Actor) → IsFirstNot P found
      → IsFirstNot Q (earlier found b)
  bad b up fails None h = (
    fails,
    λ a lt. up a (h a) (λ e. irreflexive b (subst (λ (z : Actor). is_before z b
        ≡ true) e lt)),
  )
  bad b up fails (Some x) h = bad_at x b up fails h (is_before b x) refl

module _ {X : Type 0} (R : X → Type 0) (xs : List X) (i : ℕ) (d : X) (near : i < length xs) where
  all_front : All R (take (i + 1) xs) → All R (take i xs)
  all_front h = let g : All R (take i xs ++ get_or xs i d ∷ []) = subst (All R) (take_more xs i d near) h in
      λ k e at. subst R (get_or-append (take i xs) (get_or xs i d ∷ []) e k at)
      (g k e (omega (arith, at, length-append (take i xs) (get_or xs i d ∷ []))))

  all_here : All R (take (i + 1) xs) → R (get_or xs i d)
  all_here h = let g : All R (take i xs ++ get_or xs i d ∷ []) = subst (All R) (take_more xs i d near) h in
      subst R (get_or-append_seam (take i xs) (get_or xs i d) [] d)
      (g (length (take i xs)) d (omega (arith, length-append (take i xs) (get_or xs i d ∷ []))))

  all_more : All R (take i xs) → R (get_or xs i d) → All R (take (i + 1) xs)
  all_more h r = subst (All R) (sym (take_more xs i d near)) (All-append R (take i xs) (get_or xs i d ∷ []) h (one r))
    where
      one : R (get_or xs i d) → All R (get_or xs i d ∷ [])
      one r zero e at = r
      one r (suc k) e at = absurd (omega (arith, at))

pub all_of : {X : Type 0} (R : X → Type 0) (xs : List X) → All R (take (length xs) xs) → All R xs
all_of R xs h = subst (All R) (take_all (length xs) xs (omega arith)) h

pub wrong_more : (es : List Entry) (ss : List SeatState) (i : ℕ) (d : SeatState) (found : Option Actor) (fine : Bool)
    → i < length ss → IsFirstNot (HasPart es (take i ss)) found
    → MatchBool fine ((get_or ss i d).list ≡ part_of (get_or ss i d).actor es)
    ((get_or ss i d).list ≢ part_of (get_or ss i d).actor es)
    → IsFirstNot (HasPart es (take (i + 1) ss)) (noted found (get_or ss i d).actor fine)
wrong_more es ss i d found true near h is =
    let R : Actor → SeatState → Type 0 = λ a s. s.actor ≡ a → s.list ≡ part_of a es in
    good (HasPart es (take i ss)) (HasPart es (take (i + 1) ss)) (λ a. all_front (R a) ss i d near)
    (λ a h. all_more (R a) ss i d near h (λ e. is ∙ ap (λ (z : Actor). part_of z es) e)) found h
wrong_more es ss i d found false near h is =
    let R : Actor → SeatState → Type 0 = λ a s. s.actor ≡ a → s.list ≡ part_of a es in
    bad (HasPart es (take i ss)) (HasPart es (take (i + 1) ss)) (λ a. all_front (R a) ss i d near) (get_or ss i d).actor
    (λ a h apart. all_more (R a) ss i d near h (λ e. absurd (apart (sym e))))
    (λ q. is (all_here (R (get_or ss i d).actor) ss i d near q refl)) found h

abbrev One : List SeatState → Actor → Entry → Type 0
One ss a e = e.actor ≡ a → length (of_actor a ss) ≡ 1

pub lacking_more : (es : List Entry) (ss : List SeatState) (i : ℕ) (d : Entry) (found : Option Actor) (fine : Bool)
    → i < length es
    → IsFirstNot (λ a. HasPart es ss a × All (λ (e : Entry). e.actor ≡ a → length (of_actor a ss) ≡ 1) (take i es))
    found → fine ≡ (length (of_actor (get_or es i d).actor ss) == 1)
    → IsFirstNot (λ a. HasPart es ss a × All (λ (e : Entry). e.actor ≡ a → length (of_actor a ss)
    ≡ 1) (take (i + 1) es)) (noted found (get_or es i d).actor fine)
lacking_more es ss i d found true near h is =
    let one : length (of_actor (get_or es i d).actor ss) ≡ 1 = eqb-true (length (of_actor (get_or es i d).actor ss)) 1
    (sym is) in
    good (λ a. HasPart es ss a × All (One ss a) (take i es)) (λ a. HasPart es ss a
    × All (One ss a) (take (i + 1) es)) (λ a q. (q.0, all_front (One ss a) es i d near q.1))
    (λ a p. (p.0, all_more (One ss a) es i d near p.1 (λ e. ap (λ (z : Actor). length (of_actor z ss)) (sym e) ∙ one)))
    found h
lacking_more es ss i d found false near h is =
    let b : Actor = (get_or es i d).actor in
    bad (λ a. HasPart es ss a × All (One ss a) (take i es)) (λ a. HasPart es ss a
    × All (One ss a) (take (i + 1) es)) (λ a q. (q.0, all_front (One ss a) es i d near q.1))
    b (λ a p apart. (p.0, all_more (One ss a) es i d near p.1 (λ e. absurd (apart (sym e)))))
    (λ q. let one : length (of_actor b ss) ≡ 1 = all_here (One ss b) es i d near q.1 refl in eqb-false
    (length (of_actor b ss)) 1 (sym is) one) found h

-- all entries were tested
pub looked_at_all : (es : List Entry) (ss : List SeatState) (found : Option Actor)
    → IsFirstNot (λ a. HasPart es ss a × All (λ (e : Entry). e.actor ≡ a → length (of_actor a ss)
    ≡ 1) (take (length es) es)) found → IsFirstNot (Agrees es ss) found
looked_at_all es ss found h = good (λ a. HasPart es ss a × All (One ss a) (take (length es) es)) (Agrees es ss)
    (λ a q. (q.0, All-take (One ss a) (length es) es q.1)) (λ a p. (p.0, all_of (One ss a) es p.1)) found h

-- an entry that is read is that of its number
is_read : (es : List Entry) (i : ℕ) (e : Entry) → Some e ≡ slice_get es i → get_or es i e ≡ e
is_read es i e at = get_or_from_slice_get es i e e (sym at)

-- the entries up to i were tested, and all seats
abbrev pub Looked : List Entry → List SeatState → ℕ → Actor → Type 0
Looked es ss i a = HasPart es ss a × All (λ (e : Entry). e.actor ≡ a → length (of_actor a ss) ≡ 1) (take i es)

lacking_next : (es : List Entry) (ss : List SeatState) (i : ℕ) (e : Entry) (a : Actor) (found : Option Actor)
    (fine : Bool) (new : Option Actor) → Some e ≡ slice_get es i → a ≡ e.actor
    → IsFirstNot (Looked es ss i) found → fine ≡ (length (of_actor a ss) == 1) → new ≡ noted found a fine
    → IsFirstNot (Looked es ss (i + 1)) new
lacking_next es ss i e a found fine new at whose h is so =
    let near : i < length es = slice_get_within es i e (sym at) in
    let same : a ≡ (get_or es i e).actor = whose ∙ ap (λ (z : Entry). z.actor) (sym (is_read es i e at)) in
    subst (IsFirstNot (Looked es ss (i + 1))) (ap (λ (z : Actor). noted found z fine) (sym same) ∙ sym so)
    (lacking_more es ss i e found fine near h (is ∙ ap (λ (z : Actor). length (of_actor z ss) == 1) same))

past_end : (h : List Entry) (i : ℕ) → i < length h → slice_get h i ≡ None → ⊥
past_end [] i near at = omega (arith, near)
past_end (x ∷ xs) zero near at = cc
past_end (x ∷ xs) (suc i) near at = past_end xs i (omega (arith, near)) at

pub lacking_at : (es : List Entry) (ss : List SeatState) (i : ℕ) (a : Actor) (found : Option Actor) (fine : Bool)
    (new : Option Actor) → i < length es
    → IfSome (slice_get es i) (λ e. a ≡ e.actor) → IsFirstNot (Looked es ss i) found → fine
    ≡ (length (of_actor a ss) == 1) → new ≡ noted found a fine
    → IsFirstNot (Looked es ss (i + 1)) new
lacking_at es ss i a found fine new near whose h is so = by (slice_get es i) refl whose
  where
    by : (o : Option Entry) → slice_get es i ≡ o → IfSome o (λ e. a ≡ e.actor) → IsFirstNot (Looked es ss (i + 1)) new
    by None at w = absurd (past_end es i near at)
    by (Some e) at w = lacking_next es ss i e a found fine new (sym at) w h is so

pub looked_to : (es : List Entry) (ss : List SeatState) (n : ℕ) (found : Option Actor) → length es ≤ n
    → IsFirstNot (Looked es ss n) found → IsFirstNot (Agrees es ss) found
looked_to es ss n found ends h = good (Looked es ss n) (Agrees es ss)
    (λ a q. (q.0, All-take (One ss a) n es q.1)) (λ a p. (p.0, subst (All (One ss a)) (take_all n es ends) p.1)) found h

-- no entry was tested
pub looked_none : (es : List Entry) (ss : List SeatState) (found : Option Actor) → IsFirstNot (HasPart es ss) found
    → IsFirstNot (Looked es ss 0) found
looked_none es ss found h = good (HasPart es ss) (Looked es ss 0) (λ a q. q.0) (λ a p. (p, none a)) found h
  where
    none : (a : Actor) → All (One ss a) []
    none a k d near = absurd (omega (arith, near))
