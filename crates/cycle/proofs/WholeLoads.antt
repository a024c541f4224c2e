-- The steps of a load, one after another.
use Rattle.std.proofs.Common.{◌≡◌, ℕ, suc, Bool, true, false, List, [], ◌∷◌, ◌++◌}
use Rattle.std.proofs.Common.{rules}
use Rattle.std.proofs.Common.{refl, ap, sym, subst, ◌∙◌, append_assoc, append-nil}
use Rattle.std.specs.Prelude.{Result, Ok, Err, OnOk, IfOk, if◌then◌else◌}
use Rattle.model.specs.declared.steps.Actor.{Actor}
use Rattle.model.specs.declared.steps.Step.TheVariants as steps
use Rattle.model.specs.declared.steps.Answer.{Answer}
use Rattle.model.specs.declared.steps.Refusal.{Refusal}
use Rattle.cycle.specs.Books.{BookState, BookOutcome, Reply, act_outcome}
use Rattle.cycle.specs.Loads.{Told, tell, step_then, finish_load, heal_load, is_clear, trap_load, Says}
use Rattle.cycle.specs.Loads.{behind}

pub accepted : (b c : BookState) (o : BookOutcome) (reply : Reply) (a : Answer) → reply ≡ Ok a → Says b reply c o
    → o ≡ Ok (c, a)
accepted b c o reply a e h = subst (λ (x : Reply). Says b x c o) e h

pub refused : (b c : BookState) (o : BookOutcome) (reply : Reply) (e : Refusal) → reply ≡ Err e → Says b reply c o
    → (o ≡ Err e) × (c ≡ b)
refused b c o reply e is h = subst (λ (x : Reply). Says b x c o) is h

behind_more : (rs more : List Reply) (a : Answer) (t : Told) → more ≡ rs ++ Ok a ∷ []
    → tell t.book (rs ++ (Ok a ∷ t.replies)) ≡ behind more t
behind_more rs more a t h = ap (λ (x : List Reply). tell t.book x)
    (sym (append_assoc rs (Ok a ∷ []) t.replies) ∙ ap (λ (x : List Reply). x ++ t.replies) (sym h))

-- an accepted step leads to what follows it
pub step_ok : (b c : BookState) (o : BookOutcome) (reply : Reply) (a : Answer) (next : BookState → Answer → Told)
    (rs more : List Reply) (new : Told) → reply ≡ Ok a → Says b reply c o → more ≡ rs ++ reply ∷ []
    → behind more (next c a) ≡ new → behind rs (step_then b o next) ≡ new
unfolding step_then
step_ok b c o reply a next rs more new is says put h =
    let more_is : more ≡ rs ++ Ok a ∷ [] = put ∙ ap (λ (x : Reply). rs ++ x ∷ []) is in
    rw (accepted b c o reply a is says) (behind_more rs more a (next c a) more_is ∙ h)

-- a rejected step is the end
pub step_err : (b c : BookState) (o : BookOutcome) (reply : Reply) (e : Refusal) (next : BookState → Answer → Told)
    (rs more : List Reply) → reply ≡ Err e → Says b reply c o → more ≡ rs ++ reply ∷ []
    → behind rs (step_then b o next) ≡ tell c more
unfolding step_then
step_err b c o reply e next rs more is says put =
    let h = refused b c o reply e is says in
    let more_is : more ≡ rs ++ Err e ∷ [] = put ∙ ap (λ (x : Reply). rs ++ x ∷ []) is in
    rw (h.0, h.1, more_is) refl

pub nothing_more : (c : BookState) (rs : List Reply) → behind rs (tell c []) ≡ tell c rs
nothing_more c rs = ap (tell c) (append-nil rs)

-- a step that nothing follows
pub last_step : (b c : BookState) (o : BookOutcome) (reply : Reply) (rs more : List Reply) → Says b reply c o
    → more ≡ rs ++ reply ∷ [] → behind rs (step_then b o (λ d answer. tell d [])) ≡ tell c more
last_step b c o (Ok a) rs more says put =
    step_ok b c o (Ok a) a (λ d answer. tell d []) rs more (tell c more) refl says put (nothing_more c more)
last_step b c o (Err e) rs more says put = step_err b c o (Err e) e (λ d answer. tell d []) rs more refl says put

-- a call that did the last step
pub last_done : {E : Type 0} (b c : BookState) (o : BookOutcome) (r : Result Reply E) (rs more : List Reply)
    → IfOk r (λ reply. Says b reply c o) → IfOk r (λ reply. more ≡ rs ++ reply ∷ [])
    → OnOk r (behind rs (step_then b o (λ d answer. tell d [])) ≡ tell c more)
last_done b c o (Ok reply) rs more says put = last_step b c o reply rs more says put
last_done b c o (Err e) rs more says put = search rules

pub healed_due : (due : Bool) (b : BookState) (actor : Actor) (rs : List Reply) (t : Told)
    → due ≡ true → behind rs (step_then b (act_outcome b actor steps.Heal) (λ c answer. finish_load c actor)) ≡ t
    → behind rs (heal_load due b actor) ≡ t
healed_due due b actor rs t e h = subst (λ (x : Bool). behind rs (heal_load x b actor) ≡ t) (sym e) h

-- traps

-- what follows a trap with this answer, if n more are allowed
abbrev pub after_trap : ℕ → Bool → Actor → BookState → Answer → Told
after_trap n due actor c answer = if is_clear answer then heal_load due c actor else trap_load n true c actor

pub trapped_next : (k n : ℕ) (due : Bool) (b : BookState) (actor : Actor) → k ≡ suc n →
    trap_load k due b actor ≡ step_then b (act_outcome b actor steps.Trap) (after_trap n due actor)
unfolding trap_load
trapped_next k n due b actor e = rw e refl

pub trap_err :
    (k n : ℕ) (due : Bool) (b c : BookState) (actor : Actor) (reply : Reply) (e : Refusal) (rs more : List Reply)
    → k ≡ suc n → reply ≡ Err e → Says b reply c (act_outcome b actor steps.Trap) → more ≡ rs ++ reply ∷ []
    → behind rs (trap_load k due b actor) ≡ tell c more
trap_err k n due b c actor reply e rs more left is says put =
    ap (behind rs) (trapped_next k n due b actor left)
    ∙ step_err b c (act_outcome b actor steps.Trap) reply e (after_trap n due actor) rs more is says put

pub trap_ok : (k n : ℕ) (due : Bool) (b c : BookState) (actor : Actor) (reply : Reply)
    (a : Answer) (rs more : List Reply) (rest : Told) → k ≡ suc n → reply ≡ Ok a
    → Says b reply c (act_outcome b actor steps.Trap) → more ≡ rs ++ reply ∷ [] → after_trap n due actor c a ≡ rest
    → behind rs (trap_load k due b actor) ≡ behind more rest
trap_ok k n due b c actor reply a rs more rest left is says put h =
    ap (behind rs) (trapped_next k n due b actor left)
    ∙ step_ok b c (act_outcome b actor steps.Trap) reply a (after_trap n due actor) rs more
    (behind more (after_trap n due actor c a)) is says put refl
    ∙ ap (behind more) h

pub when_clear : (n : ℕ) (due : Bool) (actor : Actor) (c : BookState) (a : Answer) (b : Bool) → b ≡ is_clear a
    → b ≡ true → after_trap n due actor c a ≡ heal_load due c actor
when_clear n due actor c a b e h = let clear : is_clear a ≡ true = sym e ∙ h in rw clear refl

pub when_due : (n : ℕ) (due : Bool) (actor : Actor) (c : BookState) (a : Answer) (b : Bool) → b ≡ is_clear a
    → b ≡ false → after_trap n due actor c a ≡ trap_load n true c actor
when_due n due actor c a b e h = let other : is_clear a ≡ false = sym e ∙ h in rw other refl

pub trapped_last : (k : ℕ) (due : Bool) (b : BookState) (actor : Actor) → k ≡ 0
    → trap_load k due b actor ≡ heal_load due b actor
unfolding trap_load
trapped_last k due b actor e = rw e refl

-- a consequence of what a result has if it isn't an error
pub on_ok : {X E : Type 0} (r : Result X E) (P Q : Type 0) → OnOk r P → (P → Q) → OnOk r Q
on_ok (Ok x) P Q h k = k h
on_ok (Err e) P Q h k = search rules
