-- References of an object, one after another.
use Rattle.std.proofs.Common.{◌≡◌, ◌≢◌, ◌⊎◌, inl, inr, ℕ, suc, ◌+◌, true, List, [], ◌∷◌, ◌++◌, Some}
use Rattle.std.proofs.Common.{refl, sym, ◌∙◌, ap, arith}
use Rattle.std.proofs.lemmas.Bool.{cases_eq}
use Rattle.model.specs.States.{Reference}
use Rattle.page.specs.declared.owned.OwnedPage.{OwnedPage}
use Rattle.part_scans.specs.Scenes.{SceneState}
use Rattle.part_scans.specs.Scans.{AllLeadOn, bits_lead_on, mark_word, mark_words, send_word, send_words, word_of}

append_none : {X : Type 0} (xs : List X) → xs ++ [] ≡ xs
append_none [] = refl
append_none (x ∷ xs) = ap (λ us. x ∷ us) (append_none xs)

append_three : {X : Type 0} (xs ys zs : List X) → (xs ++ ys) ++ zs ≡ xs ++ (ys ++ zs)
append_three [] ys zs = refl
append_three (x ∷ xs) ys zs = ap (λ us. x ∷ us) (append_three xs ys zs)

-- k references from an offset on are left, with which these pages and notes become others
pub record WordsLeft (s : SceneState) (first i o k : ℕ) (ps : List OwnedPage) (sent : List Reference)
    (qs : List OwnedPage) (after : List Reference) : Type 0 where
  pub pages : mark_words s first ps i o k ≡ qs
  pub notes : sent ++ send_words s first ps i o k ≡ after

pub words_first : (s : SceneState) (first i o k p n : ℕ) (ps : List OwnedPage) (sent : List Reference) → p ≡ o → n ≡ k
    → WordsLeft s first i p n ps sent (mark_words s first ps i o k) (sent ++ send_words s first ps i o k)
words_first s first i o k p n ps sent e d = record {
  pages = λ j. mark_words s first ps i (e j) (d j);
  notes = λ j. sent ++ send_words s first ps i (e j) (d j);
}

pub words_next : (s : SceneState) (first i o k p m : ℕ) (ps rs : List OwnedPage) (sent more : List Reference)
    (qs : List OwnedPage) (after : List Reference) → WordsLeft s first i o k ps sent qs after → k ≡ suc m → p ≡ o + 1
    → rs ≡ mark_word s first ps i o → more ≡ sent ++ send_word s first ps i o → WordsLeft s first i p m rs more qs after
words_next s first i o k p m ps rs sent more qs after l e at marked noted = record {
  pages = (λ j. mark_words s first (marked j) i (at j) m) ∙ ap (mark_words s first ps i o) (sym e) ∙ l.pages;
  notes = (λ j. noted j ++ send_words s first (marked j) i (at j) m)
      ∙ append_three sent (send_word s first ps i o) (send_words s first (mark_word s first ps i o) i (o + 1) m)
      ∙ ap (λ n. sent ++ send_words s first ps i o n) (sym e) ∙ l.notes;
}

pub words_pages : (s : SceneState) (first i o k : ℕ) (ps : List OwnedPage) (sent : List Reference)
    (qs : List OwnedPage) (after : List Reference) → WordsLeft s first i o k ps sent qs after → k ≡ 0 → ps ≡ qs
words_pages s first i o k ps sent qs after l e = ap (mark_words s first ps i o) (sym e) ∙ l.pages

pub words_notes : (s : SceneState) (first i o k : ℕ) (ps : List OwnedPage) (sent : List Reference)
    (qs : List OwnedPage) (after : List Reference) → WordsLeft s first i o k ps sent qs after → k ≡ 0 → sent ≡ after
words_notes s first i o k ps sent qs after l e =
    sym (append_none sent) ∙ ap (λ n. sent ++ send_words s first ps i o n) (sym e) ∙ l.notes

-- ---- where they lead

pub leads_none : (s : SceneState) (ps : List OwnedPage) (i o : ℕ) → AllLeadOn s ps i o 0
leads_none s ps i o j l = absurd (omega (arith, l))

pub leads_next : (s : SceneState) (ps : List OwnedPage) (i o p k b : ℕ) → AllLeadOn s ps i o k → p ≡ o + k
    → word_of ps i p ≡ Some b → bits_lead_on s (Some b) ≡ true → AllLeadOn s ps i o (k + 1)
leads_next s ps i o p k b all at word lead j l = by_place (cases_eq j k)
  where
    here : word_of ps i (o + k) ≡ Some b
    here = ap (word_of ps i) (sym at) ∙ word

    by_place : (j ≡ k) ⊎ (j ≢ k) → ((c : ℕ) × (word_of ps i (o + j) ≡ Some c)) × (bits_lead_on s (word_of ps i (o + j)) ≡ true)
    by_place (inl e) = (
      (b, ap (λ n. word_of ps i (o + n)) e ∙ here),
      ap (λ n. bits_lead_on s (word_of ps i (o + n))) e ∙ ap (bits_lead_on s) here ∙ lead,
    )
    by_place (inr d) = all j (omega (arith, l, d))
