use Rattle.std.proofs.Common.{◌≡◌, ◌<◌, ℕ, List, length, Option, Some}
use Rattle.std.specs.List.{slice_get}
use Rattle.verify.specs.Images.{PageData}
use Rattle.verify.specs.Copies.{Tells}
use Rattle.verify.proofs.chart.Chart.new.Given as goal

abbrev pub invariant-loop-page : goal.invariant-loop-page
invariant-loop-page l = record {
  len : length l.tables.items ≡ l.page-index;
  each : (n : ℕ) (p : PageData) → n < l.page-index → slice_get l.image.pages n ≡ Some p
      → (t : Option (List (Option ℕ))) × (slice_get l.tables.items n ≡ Some t) × Tells p.side l.image.words t;
}
