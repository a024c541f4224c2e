-- A good value leads to an object's address, and these are below a bound.
use Rattle.std.proofs.Common.{◌≡◌, ◌<◌, ◌≤◌, ℕ, ◌+◌, ◌-◌, ◌*◌, ◌/◌, ◌%◌, Bool, true, false, cond, length}
use Rattle.std.proofs.Common.{Option, Some, None, eqb, ltb, refl, sym, ap, ◌∙◌, arith}
use Rattle.std.specs.List.{slice_get}
use Rattle.std.specs.Option.{option_and_then, option_flatten}
use Rattle.std.proofs.lemmas.Option.{slice_get_within, same_Some, none-some}
use Rattle.std.proofs.lemmas.Bool.{false≢true, ltb-true, eqb-false}
use Rattle.std.proofs.lemmas.Bool.Decides.{nat_tests}
use Rattle.std.proofs.Math.Nat.{lt-div-mul-add}
use Rattle.refword.specs.Words.{read_word}
use Rattle.refword.specs.declared.addr.TheConstants.Addr as addresses
use Rattle.verify.specs.Images.{ImageData, PageData, page_at, starts_on, object_at, resolve, start_found}
use Rattle.verify.specs.Images.{word_leads, leads, field}
use Rattle.verify.specs.declared.objects.Object.{Object}
use Rattle.verify.specs.Soundness.{IsReached}
use Rattle.verify.specs.Walks.{target, space}

-- a result of a conditional whose test is true
cond_through : {X : Type 0} (b : Bool) (o : Option X) (x : X) → cond b o None ≡ Some x → (b ≡ true) × (o ≡ Some x)
cond_through true o x h = (refl, h)
cond_through false o x h = absurd (none-some x h)

-- a result of a conditional whose test is false
cond_past : {X : Type 0} (b : Bool) (o : Option X) (x : X) → cond b None o ≡ Some x → (b ≡ false) × (o ≡ Some x)
cond_past true o x h = absurd (none-some x h)
cond_past false o x h = (refl, h)

-- a page with a start bit exists
page_of_start : (p : Option PageData) (o : ℕ) → starts_on p o ≡ true → (q : PageData) × (p ≡ Some q)
page_of_start None o h = absurd (false≢true h)
page_of_start (Some q) o h = (q, refl)

-- the page of an address is one of the image's
page_below : (i : ImageData) (a : ℕ) (q : PageData) → 0 < i.words → page_at i a ≡ Some q
    → a < (length i.pages + 1) * i.words
unfolding page_at
page_below i a q w h =
    let t = cond_past (eqb (a / i.words) 0) (slice_get i.pages (a / i.words - 1)) q h in
    let n = slice_get_within i.pages (a / i.words - 1) q t.1 in
    let z = eqb-false (a / i.words) 0 t.0 in
    let below : a < a / i.words * i.words + i.words = lt-div-mul-add w in
    rows_below (a / i.words) (length i.pages) i.words a (omega arith) below
  where
    rows_below : (p n w a : ℕ) → p ≤ n → a < p * w + w → a < (n + 1) * w
    rows_below p n w a h k = grind (arith)

-- the start of an object is below the bound
pub object_below : (i : ImageData) (a : ℕ) (o : Object) → 0 < i.words → object_at i a ≡ Some o → a < space i
unfolding object_at
object_below i a o w h =
    let t = cond_through (ltb a addresses.LIMIT) _ o h in
    let s = cond_through (starts_on (page_at i a) (a % i.words)) _ o t.1 in
    let p = page_of_start (page_at i a) (a % i.words) s.0 in
    let x = page_below i a p.0 w p.1 in
    let y = ltb-true a addresses.LIMIT t.0 in
    grind (arith, nat_tests)

-- an address that was found is the one that was looked up
found_start : (a c : ℕ) (o : Option Object) → start_found a o ≡ Some (Some c) → (a ≡ c) × ((x : Object) × (o ≡ Some x))
found_start a c None h = absurd (none-some (Some c) h)
found_start a c (Some x) h = (same_Some a c (same_Some (Some a) (Some c) h), (x, refl))

-- a value leads to an object's start
pub leads_object : (i : ImageData) (v c : ℕ) → leads i v ≡ Some (Some c) → (x : Object) × (object_at i c ≡ Some x)
unfolding leads
leads_object i v c h = by_word (read_word v) h
  where
    by_word : (r : Option (Option (ℕ × Bool))) → word_leads i r ≡ Some (Some c)
        → (x : Object) × (object_at i c ≡ Some x)
    by_word None h = absurd (none-some (Some c) h)
    by_word (Some None) h = absurd (none-some c (same_Some None (Some c) h))
    by_word (Some (Some w)) h =
        let f = found_start (resolve i w.0) c (object_at i (resolve i w.0)) h in
        (f.1.0, ap (object_at i) (sym f.0) ∙ f.1.1)

-- and so to an address below the bound
pub leads_below : (i : ImageData) (v c : ℕ) → 0 < i.words → leads i v ≡ Some (Some c) → c < space i
leads_below i v c w h = let x = leads_object i v c h in object_below i c x.0 w x.1

-- the address to which a field leads, by the field's value
pub target_value : (i : ImageData) (a k c : ℕ) → target i a k ≡ Some c
    → (v : ℕ) × (field i a k ≡ Some v) × (leads i v ≡ Some (Some c))
unfolding target
target_value i a k c h = by_field (field i a k) refl h
  where
    by_lead : (v : ℕ) (o : Option (Option ℕ)) → option_flatten o ≡ Some c → o ≡ Some (Some c)
    by_lead v None h = absurd (none-some c h)
    by_lead v (Some x) h = ap Some h

    by_field : (f : Option ℕ) → field i a k ≡ f → option_and_then (λ value. option_flatten (leads i value)) f ≡ Some c
        → (v : ℕ) × (field i a k ≡ Some v) × (leads i v ≡ Some (Some c))
    by_field None e h = absurd (none-some c h)
    by_field (Some v) e h = (v, e, by_lead v (leads i v) h)

-- it is below the bound
pub target_below : (i : ImageData) (a k c : ℕ) → 0 < i.words → target i a k ≡ Some c → c < space i
target_below i a k c w h = let t = target_value i a k c h in leads_below i t.0 c w t.2

-- the address to which a field of a reached object leads is reached
pub target_reached : (i : ImageData) (a k c : ℕ) → IsReached i a → target i a k ≡ Some c → IsReached i c
target_reached i a k c r h = let t = target_value i a k c h in IsReached.FromField c a k t.0 r t.1 t.2

-- a field that doesn't exist leads nowhere
pub no_target : (i : ImageData) (a k : ℕ) → field i a k ≡ None → target i a k ≡ None
unfolding target
no_target i a k h = rw h refl

-- a field leads to an object
pub target_object : (i : ImageData) (a k c : ℕ) → target i a k ≡ Some c → (x : Object) × (object_at i c ≡ Some x)
target_object i a k c h = let t = target_value i a k c h in leads_object i t.0 c t.2
