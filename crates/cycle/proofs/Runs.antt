-- One more step of a run.
use Rattle.std.proofs.Common.{◌≡◌, List, [], ◌∷◌, ◌++◌, ◌+◌, length, length-append}
use Rattle.std.proofs.Common.{append_assoc, refl, sym, ap, ◌∙◌, subst}
use Rattle.model.specs.declared.steps.Actor.{Actor}
use Rattle.model.specs.declared.steps.Step.{Step}
use Rattle.cycle.specs.Books.{BookState, Reply, Acts, act_outcome}
use Rattle.cycle.specs.Replays.{StepPromises, Ran}

pub ran_more : (ss : List (Actor × Step)) (rs : List Reply) (b c d : BookState) (s : Actor × Step) (r : Reply)
    → Ran b ss rs c → Acts c r d (act_outcome c s.0 s.1) → StepPromises c s.1 r d
    → Ran b (ss ++ s ∷ []) (rs ++ r ∷ []) d
ran_more [] [] b c d s r h a m =
    (d, subst (λ e. Acts e r d (act_outcome e s.0 s.1)) h a, subst (λ e. StepPromises e s.1 r d) h m, refl)
ran_more [] (q ∷ rs) b c d s r h a m = absurd h
ran_more (t ∷ ss) [] b c d s r h a m = absurd h
ran_more (t ∷ ss) (q ∷ rs) b c d s r (e, f, n, g) a m = (e, f, n, ran_more ss rs e c d s r g a m)

pub next_part : {X : Type 0} (done rest next all : List X) (x : X) → done ++ rest ≡ all → rest ≡ x ∷ next
    → (done ++ x ∷ []) ++ next ≡ all
next_part done rest next all x e f = append_assoc done (x ∷ []) next ∙ ap (λ ys. done ++ ys) (sym f) ∙ e

pub one_longer : {X Y : Type 0} (xs zs : List X) (ys : List Y) (x : X) (y : Y) → length xs ≡ length ys
    → zs ≡ xs ++ x ∷ [] → length zs ≡ length (ys ++ y ∷ [])
one_longer xs zs ys x y e f = ap length f ∙ length-append xs (x ∷ []) ∙ ap (λ n. n + 1) e
    ∙ sym (length-append ys (y ∷ []))
