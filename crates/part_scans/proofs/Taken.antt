-- Notes are taken in, one after another.
use Rattle.std.proofs.Common.{◌≡◌, ℕ, ◌+◌, ◌≤◌, ◌<◌, List, [], ◌∷◌, ◌++◌, length, drop, get_or, refl, sym, ◌∙◌, ap}
use Rattle.std.proofs.lemmas.List.{drop_more, drop_all}
use Rattle.model.specs.States.{Reference}
use Rattle.page.specs.declared.owned.OwnedPage.{OwnedPage}
use Rattle.page.specs.declared.owned.Part.{Part}
use Rattle.part_scans.specs.Scenes.{SceneState}
use Rattle.part_scans.specs.Scans.{all_sent, all_taken, mark_target}

taken_both : (s : SceneState) (first : ℕ) (ps : List OwnedPage) (ns ms : List Reference)
    → all_taken s first (all_taken s first ps ns) ms ≡ all_taken s first ps (ns ++ ms)
taken_both s first ps [] ms = refl
taken_both s first ps (n ∷ ns) ms = taken_both s first (mark_target s first ps n) ns ms

pub taken_next : (s : SceneState) (first : ℕ) (ps qs all : List OwnedPage) (ns : List Reference) (i : ℕ) (d : Reference)
    → all_taken s first ps (drop i ns) ≡ all → i < length ns → d ≡ get_or ns i d → qs ≡ mark_target s first ps d
    → all_taken s first qs (drop (i + 1) ns) ≡ all
taken_next s first ps qs all ns i d k l read e =
    ap (λ us. all_taken s first us (drop (i + 1) ns)) e
    ∙ ap (λ x. all_taken s first ps (x ∷ drop (i + 1) ns)) read
    ∙ ap (all_taken s first ps) (sym (drop_more ns i d l)) ∙ k

pub taken_last : (s : SceneState) (first : ℕ) (ps all : List OwnedPage) (ns : List Reference) (i : ℕ)
    → all_taken s first ps (drop i ns) ≡ all → length ns ≤ i → ps ≡ all
taken_last s first ps all ns i k l = ap (all_taken s first ps) (sym (drop_all i ns l)) ∙ k

pub parts_next : (s : SceneState) (first : ℕ) (ps qs all : List OwnedPage) (xs : List Part) (i : ℕ) (d : Part)
    → all_taken s first ps (all_sent (drop i xs)) ≡ all → i < length xs → d ≡ get_or xs i d
    → qs ≡ all_taken s first ps d.sent.items → all_taken s first qs (all_sent (drop (i + 1) xs)) ≡ all
parts_next s first ps qs all xs i d k l read e =
    ap (λ us. all_taken s first us (all_sent (drop (i + 1) xs))) e
    ∙ taken_both s first ps d.sent.items (all_sent (drop (i + 1) xs))
    ∙ ap (λ (x : Part). all_taken s first ps (all_sent (x ∷ drop (i + 1) xs))) read
    ∙ ap (λ us. all_taken s first ps (all_sent us)) (sym (drop_more xs i d l)) ∙ k

pub parts_last : (s : SceneState) (first : ℕ) (ps all : List OwnedPage) (xs : List Part) (i : ℕ)
    → all_taken s first ps (all_sent (drop i xs)) ≡ all → length xs ≤ i → ps ≡ all
parts_last s first ps all xs i k l = ap (λ us. all_taken s first ps (all_sent us)) (sym (drop_all i xs l)) ∙ k
