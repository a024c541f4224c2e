use Rattle.std.proofs.Common.{◌≡◌, ℕ, true, sym, ap, ◌∙◌, subst, List}
use Rattle.model.specs.Owning.{Each}
use Rattle.verify.specs.Images.{PageData}
use Rattle.verify.specs.Soundness.{HasItsFrame, is_filled, may_be_free}
use Rattle.verify.proofs.frames.has_frames.Goals as goal

filled : (fs gs : List (List ℕ)) (v w : ℕ) (ps qs : List PageData) → fs ≡ gs → v ≡ w → ps ≡ qs
    → Each qs (λ p. is_filled gs w p.frame ≡ true) → Each ps (λ p. is_filled fs v p.frame ≡ true)
filled fs gs v w ps qs a b c k =
    subst (λ (xs : List (List ℕ)). Each ps (λ p. is_filled xs v p.frame ≡ true)) (sym a)
    (subst (λ (u : ℕ). Each ps (λ p. is_filled gs u p.frame ≡ true)) (sym b)
    (subst (λ (xs : List PageData). Each xs (λ p. is_filled gs w p.frame ≡ true)) (sym c) k))

free : (fs gs : List (List ℕ)) (v w : ℕ) (xs ys : List ℕ) → fs ≡ gs → v ≡ w → xs ≡ ys
    → Each ys (λ f. may_be_free gs w f ≡ true) → Each xs (λ f. may_be_free fs v f ≡ true)
free fs gs v w xs ys a b c k =
    subst (λ (zs : List (List ℕ)). Each xs (λ f. may_be_free zs v f ≡ true)) (sym a)
    (subst (λ (u : ℕ). Each xs (λ f. may_be_free gs u f ≡ true)) (sym b)
    (subst (λ (zs : List ℕ). Each zs (λ f. may_be_free gs w f ≡ true)) (sym c) k))

pub returns-then-not-all_filled : goal.returns-then-not-all_filled
returns-then-not-all_filled c = λ h. c.if-not-all_filled.ensures (filled _ _ _ _ _ _
    (c.deref.ensures.value ∙ ap (λ x. x.frames) c.image.view_is) (ap (λ x. x.words) c.image.view_is)
    (c.deref-2.ensures.value ∙ ap (λ x. x.pages) c.image.view_is) h.words)

pub returns-then-not-all_free : goal.returns-then-not-all_free
returns-then-not-all_free c = λ h. c.if-not-all_free.ensures (free _ _ _ _ _ _
    (c.deref-3.ensures.value ∙ ap (λ x. x.frames) c.image.view_is) (ap (λ x. x.words) c.image.view_is)
    (c.deref-4.ensures.value ∙ ap (λ x. x.free) c.image.view_is) h.free)

pub returns-then-not-all_framed : goal.returns-then-not-all_framed
returns-then-not-all_framed c = λ h.
    let e = c.deref-5.ensures.value ∙ ap (λ x. x.pages) c.image.view_is in
    c.if-not-all_framed.ensures (subst (λ (ps : List PageData). Each ps HasItsFrame) (sym e) h.states)
