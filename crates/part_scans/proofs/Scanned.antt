-- Objects of a part are scanned, one after another.
use Rattle.std.proofs.Common.{◌≡◌, ℕ, suc, ◌+◌, List, [], ◌∷◌, ◌++◌, length, Option, None, Some, is_some, true, false}
use Rattle.std.proofs.Common.{refl, sym, ◌∙◌, ap, arith, subst}
use Rattle.model.specs.States.{Reference}
use Rattle.page.specs.declared.owned.OwnedPage.{OwnedPage}
use Rattle.part_scans.specs.Scenes.{SceneState}
use Rattle.part_scans.specs.Scans.{AreScanned, IsScannable, Scans, ScansOne, scan_own, send_words}

scans_more : (s : SceneState) (first i o k : ℕ) (xs : List (ℕ × ℕ × ℕ)) (ps : List OwnedPage) (sent : List Reference)
    (qs : List OwnedPage) (after : List Reference) (rs : List OwnedPage) (more : List Reference)
    → Scans s first xs ps sent qs after → ScansOne s first i o (Some k) qs after rs more
    → Scans s first (xs ++ (i, o, k) ∷ []) ps sent rs more
scans_more s first i o k [] ps sent qs after rs more all one = (
  subst (λ us. IsScannable s us i o k) all.0 one.0,
  (
    one.1 ∙ ap (λ us. scan_own s first us i o k) all.0,
    one.2 ∙ (λ j. all.1 j ++ send_words s first (all.0 j) i (o + 1) k),
  ),
)
scans_more s first i o k (x ∷ xs) ps sent qs after rs more all one = (
  all.0,
  scans_more s first i o k xs (scan_own s first ps x.0 x.1 x.2) (sent ++ send_words s first ps x.0 (x.1 + 1) x.2)
      qs after rs more all.1 one,
)

longer : {X : Type 0} (xs : List X) (x : X) → length (xs ++ x ∷ []) ≡ length xs + 1
longer [] x = refl
longer (y ∷ xs) x = ap suc (longer xs x) ∙ next (length xs)
  where
    next : (n : ℕ) → suc (n + 1) ≡ suc n + 1
    next n = omega arith

pub scanned_none : (s : SceneState) (first : ℕ) (ps : List OwnedPage) (sent : List Reference)
    → AreScanned s first 0 ps sent ps sent
scanned_none s first ps sent = record { places = []; count = refl; scans = (refl, refl) }

pub scanned_one : (s : SceneState) (first n i o : ℕ) (k : Option ℕ) (ps : List OwnedPage) (sent : List Reference)
    (qs : List OwnedPage) (after : List Reference) (rs : List OwnedPage) (more : List Reference)
    → AreScanned s first n ps sent qs after → ScansOne s first i o k qs after rs more → is_some k ≡ true
    → AreScanned s first (n + 1) ps sent rs more
scanned_one s first n i o None ps sent qs after rs more all one e = absurd (cc)
scanned_one s first n i o (Some k) ps sent qs after rs more all one e = record {
  places = all.places ++ (i, o, k) ∷ [];
  count = longer all.places (i, o, k) ∙ ap (λ m. m + 1) all.count;
  scans = scans_more s first i o k all.places ps sent qs after rs more all.scans one;
}

pub scanned_left : (s : SceneState) (first n i o : ℕ) (k : Option ℕ) (ps : List OwnedPage) (sent : List Reference)
    (qs : List OwnedPage) (after : List Reference) (rs : List OwnedPage) (more : List Reference)
    → AreScanned s first n ps sent qs after → ScansOne s first i o k qs after rs more → is_some k ≡ false
    → AreScanned s first n ps sent rs more
scanned_left s first n i o None ps sent qs after rs more all one e =
    subst (AreScanned s first n ps sent rs) (sym one.1)
    (subst (λ us. AreScanned s first n ps sent us after) (sym one.0) all)
scanned_left s first n i o (Some k) ps sent qs after rs more all one e = absurd (cc)
