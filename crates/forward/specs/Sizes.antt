-- Sizes of a page's objects, by the words of those before each of them, and of all.
use Rattle.std.specs.Prelude.{◌≡◌, ℕ, ◌+◌, ◌-◌, ◌*◌, ◌≤◌, List, [], ◌∷◌, length, take}
use Rattle.std.specs.List.{sum_by}
use Rattle.model.specs.declared.limits.TheConstants.{MOST_WORDS}

-- the words of the objects before the next one, or of all if there is none
abbrev pub next_or : List ℕ → ℕ → ℕ
next_or [] total = total
next_or (b ∷ bs) total = b

-- the size of each object
abbrev pub sizes_of : List ℕ → ℕ → List ℕ
sizes_of [] total = []
sizes_of (b ∷ bs) total = (next_or bs total - b) ∷ sizes_of bs total

-- the words of the objects before each one rise, up to those of all
abbrev pub AreSums : List ℕ → ℕ → Type 0
AreSums [] total = Unit {0}
AreSums (b ∷ bs) total = (b ≤ next_or bs total) × AreSums bs total

-- they are those of at most as many objects as the largest page has words, of less than 2^17 words each
pub record AreSizes (before : List ℕ) (total : ℕ) : Type 0 where
  pub first : next_or before total ≡ 0
  pub sums : AreSums before total
  pub short : length before ≤ MOST_WORDS
  pub few : total ≤ 131071 * length before

-- how many words the objects before a number have
abbrev pub words_before : List ℕ → ℕ → ℕ
words_before sizes i = sum_by (λ n. n) (take i sizes)

-- the words before each of these objects, if those before the first have b words
abbrev pub sums_of : ℕ → List ℕ → List ℕ
sums_of b [] = []
sums_of b (n ∷ ns) = b ∷ sums_of (b + n) ns
