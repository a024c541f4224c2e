use Rattle.std.proofs.Common.{refl, arith}
use Rattle.verify.proofs.Spotting.{found, found_past, passed, ended}
use Rattle.verify.proofs.spots.Spots.next_filled.Goals as goal

pub returns-then-address-self-clause-next : goal.returns-then-address-self-clause-next
returns-then-address-self-clause-next c =
    let s = c.self.inside in
    found s.words s.count c.from-words.result s.pages.items c.deref.result.now c.args.self.now c.self.invariant
    c.self.view_is c.from-words.ensures c.deref.ensures.value c.args.from c.loop-at.at c.loop-at.invariant.low
    c.loop-at.invariant.none c.in-Some.found c.in-Some.ensures (omega (arith, c.if-address-self.true))

pub returns-else-address-self-clause-next : goal.returns-else-address-self-clause-next
returns-else-address-self-clause-next c =
    let s = c.self.inside in
    found_past s.words s.count c.from-words.result s.pages.items c.deref.result.now c.args.self.now c.self.invariant
    c.self.view_is c.from-words.ensures c.deref.ensures.value c.args.from c.loop-at.at c.loop-at.invariant.low
    c.loop-at.invariant.none c.in-Some.found c.in-Some.ensures (omega (arith, c.if-address-self.false))

pub loop-at-preserved : goal.loop-at-preserved
loop-at-preserved c =
    let s = c.self.inside in
    record {
      low = omega (arith, c.loop-at.invariant.low);
      none = passed s.words s.count c.from-words.result s.pages.items c.deref.result.now c.args.self.now
          c.self.invariant c.self.view_is c.from-words.ensures c.deref.ensures.value c.args.from c.loop-at.at
          c.loop-at.invariant.low c.loop-at.invariant.none c.in_default.ensures;
    }

pub returns-clause-next : goal.returns-clause-next
returns-clause-next c =
    let s = c.self.inside in
    ended s.words s.count s.words s.pages.items s.pages.items c.args.self.now c.self.invariant c.self.view_is refl refl
    c.args.from c.loop-at.at c.loop-at.invariant.low c.loop-at.invariant.none (omega (arith, c.loop-at-test.false))
