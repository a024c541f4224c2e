-- Lists compared with what a history has of an actor, entry by entry.
use Rattle.std.proofs.Common.{◌≡◌, ◌≢◌, ◌<◌, ◌≤◌, ◌+◌, ℕ, Bool, true, false, true≢false, List, [], ◌∷◌, ◌++◌, get_or}
use Rattle.std.proofs.Common.{length, append-nil, take, drop, sym, refl, ap, ◌∙◌, subst, arith}
use Rattle.std.proofs.Common.{if◌then◌else◌}
use Rattle.std.proofs.Common.{Option, Some, None, slice_get, zero, suc, ⊎_elim, IfSome, MatchOption}
use Rattle.std.proofs.lemmas.List.{drop_more, take_more, take_all, take-append-drop, length-take-le}
use Rattle.std.proofs.lemmas.List.Elements.{filter-append}
use Rattle.std.proofs.lemmas.Option.{slice_get_within, get_or_from_slice_get}
use Rattle.model.specs.declared.steps.Actor.{Actor}
use Rattle.entries.specs.declared.entry.Entry.{Entry}
use Rattle.entries.specs.Parts.{is_same, part_of}
use Rattle.entries.specs.Passing.{HasPartTo, Passes}

seam : (xs : List Entry) (e : Entry) (ys : List Entry) → slice_get (xs ++ e ∷ ys) (length xs) ≡ Some e
seam [] e ys = refl
seam (x ∷ xs) e ys = seam xs e ys

abbrev is_there : Option Entry → Bool
is_there None = false
is_there (Some e) = true

past_end : (h : List Entry) (i : ℕ) → i < length h → slice_get h i ≢ None
past_end [] i near at = omega (arith, near)
past_end (x ∷ xs) zero near at = true≢false (ap is_there at)
past_end (x ∷ xs) (suc i) near at = past_end xs i (omega (arith, near)) at

-- the entry of a number, which exists
abbrev pub IsAt : List Entry → ℕ → Entry → Type 0
IsAt h i e = Some e ≡ slice_get h i

module _ (a : Actor) (h : List Entry) (i : ℕ) (e : Entry) (at : IsAt h i e) where
  near : i < length h
  near = slice_get_within h i e (sym at)

  is_read : get_or h i e ≡ e
  is_read = get_or_from_slice_get h i e e (sym at)

  -- the history up to an entry and with it
  one_more : take (i + 1) h ≡ take i h ++ e ∷ []
  one_more = take_more h i e near ∙ ap (λ (z : Entry). take i h ++ z ∷ []) is_read

  pub chosen : (b : Bool) → is_same e.actor a ≡ b → part_of a (take (i + 1) h)
      ≡ part_of a (take i h) ++ (if b then e ∷ [] else [])
  chosen b is =
      ap (part_of a) one_more ∙ filter-append (λ (d : Entry). is_same d.actor a) (take i h) (e ∷ [])
      ∙ ap (λ (c : Bool). part_of a (take i h) ++ (if c then e ∷ [] else [])) is

  -- the rest of the history, if the next entry is the actor's
  rest_of : is_same e.actor a ≡ true → part_of a h ≡ part_of a (take i h) ++ e ∷ part_of a (drop (i + 1) h)
  rest_of is =
      ap (part_of a) (sym (take-append-drop i h)) ∙ filter-append (λ (d : Entry). is_same d.actor a) (take i h)
      (drop i h)
      ∙ ap (λ l. part_of a (take i h) ++ part_of a l) (drop_more h i e near)
      ∙ ap (λ (z : Entry). part_of a (take i h) ++ part_of a (z ∷ drop (i + 1) h)) is_read
      ∙ ap (λ (b : Bool). part_of a (take i h) ++ (if b then e
      ∷ part_of a (drop (i + 1) h) else part_of a (drop (i + 1) h))) is

-- the next entry is another actor's
kept : (a : Actor) (h list : List Entry) (i n : ℕ) (e : Entry) → IsAt h i e → is_same e.actor a ≡ false
    → part_of a (take i h) ≡ take n list
    → part_of a (take (i + 1) h) ≡ take n list
kept a h list i n e at is so = chosen a h i e at false is ∙ append-nil (part_of a (take i h)) ∙ so

-- the next entry is the actor's, and the list has it there
next_kept : (a : Actor) (h list : List Entry) (i n : ℕ) (e : Entry) → IsAt h i e → is_same e.actor a ≡ true
    → part_of a (take i h) ≡ take n list → slice_get list n ≡ Some e
    → part_of a (take (i + 1) h) ≡ take (n + 1) list
next_kept a h list i n e at is so there =
    chosen a h i e at true is ∙ ap (λ l. l ++ e ∷ []) so ∙ sym (one_more a list n e (sym there))

next_fits : (list : List Entry) (n : ℕ) (e : Entry) → slice_get list n ≡ Some e → n + 1 ≤ length list
next_fits list n e there = let near = slice_get_within list n e there in omega (arith, near)

-- the next entry is the actor's, and the list has another there, or none
missing : (a : Actor) (h list : List Entry) (i n : ℕ) (e : Entry) → IsAt h i e → is_same e.actor a ≡ true
    → part_of a (take i h) ≡ take n list → n ≤ length list → slice_get list n ≢ Some e
    → list ≢ part_of a h
missing a h list i n e at is so fits other same =
    let len : length (part_of a (take i h)) ≡ n = ap length so ∙ length-take-le n list fits in
    other (ap (λ l. slice_get l n) same ∙ ap (λ l. slice_get l n) (rest_of a h i e at is)
    ∙ ap (λ k. slice_get (part_of a (take i h) ++ e ∷ part_of a (drop (i + 1) h)) k) (sym len)
    ∙ seam (part_of a (take i h)) e (part_of a (drop (i + 1) h)))

-- all entries were compared, and the list has no more
pub whole : (a : Actor) (h list : List Entry) (i n : ℕ) → length h ≤ i → part_of a (take i h) ≡ take n list → n
    ≡ length list → list ≡ part_of a h
whole a h list i n ends so all =
    sym (take_all n list (omega (arith, all))) ∙ sym so ∙ ap (part_of a) (take_all i h ends)

pub too_long : (a : Actor) (h list : List Entry) (i n : ℕ) → length h ≤ i → part_of a (take i h) ≡ take n list
    → n ≤ length list → n ≢ length list → list ≢ part_of a h
too_long a h list i n ends so fits less same =
    less (sym (length-take-le n list fits) ∙ ap length (sym so) ∙ ap (λ l. length (part_of a l)) (take_all i h ends)
    ∙ ap length (sym same))

-- the history's next entry was compared
pub passes_at : (list : List Entry) (n : ℕ) (a : Actor) (h : List Entry) (i : ℕ) (e : Entry) (next : Option ℕ)
    → IsAt h i e → HasPartTo list n a h i → Passes list n a e next
    → MatchOption next (list ≢ part_of a h) (λ m. HasPartTo list m a h (i + 1))
passes_at list n a h i e None at so p = missing a h list i n e at p.0 so.0 so.1 p.1
passes_at list n a h i e (Some m) at so p = ⊎_elim
    (λ t. (
      kept a h list i n e at t.0 so.0 ∙ ap (λ k. take k list) (sym t.1),
      subst (λ k. k ≤ length list) (sym t.1)
          so.1,
    ))
    (λ t. (
      next_kept a h list i n e at t.0 so.0 t.1 ∙ ap (λ k. take k list) (sym t.2),
      subst (λ k. k ≤ length list)
          (sym t.2) (next_fits list n e t.1),
    )) p

-- the entry is the actor's, so it is the actor's part
pub one_kept : (a : Actor) (e : Entry) → is_same e.actor a ≡ true → part_of a (e ∷ []) ≡ e ∷ []
one_kept a e is = ap (λ (b : Bool). if b then e ∷ [] else []) is

pub one_passed : (a : Actor) (e : Entry) (list : List Entry) → is_same e.actor a ≡ false → list
    ≡ list ++ part_of a (e ∷ [])
one_passed a e list is = sym (ap (λ (b : Bool). list ++ (if b then e ∷ [] else [])) is ∙ append-nil list)

-- the list that is made gets the actor's entries
pub part_more : (a : Actor) (h list new : List Entry) (i : ℕ) → i < length h → list ≡ part_of a (take i h)
    → IfSome (slice_get h i) (λ e. new ≡ list ++ part_of a (e ∷ [])) → new ≡ part_of a (take (i + 1) h)
part_more a h list new i near so more = by (slice_get h i) refl more
  where
    by : (o : Option Entry) → slice_get h i ≡ o → IfSome o (λ e. new ≡ list ++ part_of a (e ∷ [])) → new
        ≡ part_of a (take (i + 1) h)
    by None at is = absurd (past_end h i near at)
    by (Some e) at is = is ∙ ap (λ l. l ++ part_of a (e ∷ [])) so
        ∙ sym (filter-append (λ (d : Entry). is_same d.actor a) (take i h) (e ∷ []))
        ∙ sym (ap (part_of a) (one_more a h i e (sym at)))

pub part_whole : (a : Actor) (h list : List Entry) (i : ℕ) → length h ≤ i → list ≡ part_of a (take i h) → list
    ≡ part_of a h
part_whole a h list i ends so = so ∙ ap (part_of a) (take_all i h ends)
