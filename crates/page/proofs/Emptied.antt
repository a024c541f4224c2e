-- Other words in frames of the same lengths.
use Rattle.std.proofs.Common.{◌≡◌, ℕ, zero, suc, List, [], ◌∷◌, length, map, Some}
use Rattle.std.proofs.Common.{refl, sym, ◌∙◌, ap, arith}
use Rattle.std.specs.List.{slice_get}
use Rattle.std.proofs.lemmas.Option.{same_Some}
use Rattle.model.specs.Owning.{IsStore}
use Rattle.model.specs.Stores.{StoreState, record_count}

-- ---- other words

-- a frame is as long as that of the same number
alike : (xs ys : List (List ℕ)) (f : ℕ) (ws : List ℕ) → map length xs ≡ map length ys → slice_get xs f ≡ Some ws
    → (vs : List ℕ) × (slice_get ys f ≡ Some vs) × (length ws ≡ length vs)
alike [] ys f ws e at = absurd (cc)
alike (x ∷ xs) [] f ws e at = absurd (cc)
alike (x ∷ xs) (y ∷ ys) zero ws e at = (y, refl, ap length (same_Some _ _ (sym at)) ∙ first (length x) (length y) e)
  where
    first : (m n : ℕ) → m ∷ map length xs ≡ n ∷ map length ys → m ≡ n
    first m n z = cc
alike (x ∷ xs) (y ∷ ys) (suc f) ws e at = alike xs ys f ws (rest (length x) (length y) e) at
  where
    rest : (m n : ℕ) → m ∷ map length xs ≡ n ∷ map length ys → map length xs ≡ map length ys
    rest m n z = cc

as_many : (xs ys : List (List ℕ)) → map length xs ≡ map length ys → length xs ≡ length ys
as_many [] [] e = refl
as_many [] (y ∷ ys) e = absurd (cc)
as_many (x ∷ xs) [] e = absurd (cc)
as_many (x ∷ xs) (y ∷ ys) e = ap suc (as_many xs ys (rest (length x) (length y) e))
  where
    rest : (m n : ℕ) → m ∷ map length xs ≡ n ∷ map length ys → map length xs ≡ map length ys
    rest m n z = cc

pub frames_keep : (s : StoreState) (fs : List (List ℕ)) → IsStore s → map length fs ≡ map length s.frames
    → IsStore (record s { frames = fs })
frames_keep s fs h e =
    let many = as_many fs s.frames e in
    record {
      sized = record {
        words_low = h.sized.words_low;
        words = h.sized.words;
        frame_count = omega (arith, many, h.sized.frame_count);
        count = h.sized.count;
        owners = h.sized.owners ∙ sym many;
        pages = h.sized.pages ∙ ap (λ n. record_count n s.count) (sym many);
        frames = λ f o ws owner at.
            let found = alike fs s.frames f ws e at in
            found.2 ∙ h.sized.frames f o found.0 owner found.1;
      };
      pages = h.pages;
      owning = record { owned = h.owning.owned; owner = h.owning.owner };
      balanced = record {
        frames = h.balanced.frames ∙ sym many;
        leaving = omega (arith, many, h.balanced.leaving);
      };
    }
