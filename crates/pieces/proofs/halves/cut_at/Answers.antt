use Rattle.std.proofs.Common.{◌≡◌, ◌≤◌, ◌+◌, ◌-◌, ◌/◌, ◌++◌, ◌∙◌, sym, subst, take, drop, List, ℕ, length, arith}
use Rattle.pieces.specs.Pieces.{source_of, laid_from, AreInOrder}
use Rattle.pieces.proofs.Cuts.{cut_within, cut_low, cut_high, cut_laid}
use Rattle.pieces.proofs.halves.cut_at.Goals as goal

pub returns-clause-within : goal.returns-clause-within
returns-clause-within c = subst (λ m. m ≤ c.args.len) (sym c.place_behind.ensures)
    (cut_within (source_of c.args.source.now) c.args.first c.args.count c.args.base c.args.len c.requires.order
    (omega (arith, c.if-count-eq0.false)) c.in-Some.entry (sym c.entry.ensures ∙ c.in-Some.is))

pub returns-clause-low : goal.returns-clause-low
returns-clause-low c =
    let s = source_of c.args.source.now in
    subst (λ m. AreInOrder s c.args.base (c.args.base + m) c.args.first (c.args.count / 2))
    (sym c.place_behind.ensures)
    (cut_low s c.args.first c.args.count c.args.base c.args.len c.requires.order
    (omega (arith, c.if-count-eq0.false)) c.in-Some.entry (sym c.entry.ensures ∙ c.in-Some.is))

pub returns-clause-high : goal.returns-clause-high
returns-clause-high c =
    let s = source_of c.args.source.now in
    subst (λ m. AreInOrder s (c.args.base + m) (c.args.base + c.args.len) (c.args.first + c.args.count / 2)
    (c.args.count - c.args.count / 2)) (sym c.place_behind.ensures)
    (cut_high s c.args.first c.args.count c.args.base c.args.len c.requires.order
    (omega (arith, c.if-count-eq0.false)) c.in-Some.entry (sym c.entry.ensures ∙ c.in-Some.is))

pub returns-clause-laid : goal.returns-clause-laid
returns-clause-laid c =
    let s = source_of c.args.source.now in
    subst (λ m. (ws : List ℕ) → length ws ≡ c.args.len
    → laid_from s c.args.base c.args.first (c.args.count / 2) (take m ws)
    ++ laid_from s (c.args.base + m) (c.args.first + c.args.count / 2) (c.args.count - c.args.count / 2) (drop m ws)
    ≡ laid_from s c.args.base c.args.first c.args.count ws) (sym c.place_behind.ensures)
    (cut_laid s c.args.first c.args.count c.args.base c.args.len c.requires.order
    (omega (arith, c.if-count-eq0.false)) c.in-Some.entry (sym c.entry.ensures ∙ c.in-Some.is))
