use Rattle.std.proofs.Common.{ℕ, ◌≤◌, ◌<◌, ◌+◌, arith, ap}
use Rattle.cycle.specs.Books.{BookState}
use Rattle.sharing.specs.Many.{HasGrown}
use Rattle.sharing.specs.Seats.{SeatState}
use Rattle.sharing.proofs.Many.{none_grown, grown_more, grown_within, ended}
use Rattle.sharing.proofs.seat.Seat.act_many.Goals as goal

pub loop-init : goal.loop-init
loop-init g c = none_grown c.args.self.now c.args.book.now

pub returns-in_default : goal.returns-in_default
returns-in_default g c =
    let low : c.loop.counter ≤ c.args.most = omega (arith, c.loop-test.true) in (
      grown_within c.loop.counter c.args.most c.args.self.now c.loop.self c.args.book.now c.loop.book low
          c.loop.invariant,
      tt,
    )

pub returns-in-Ok : goal.returns-in-Ok
returns-in-Ok g c =
    let low : c.loop.counter + 1 ≤ c.args.most = omega (arith, c.loop-test.true) in (
      grown_within (c.loop.counter + 1) c.args.most c.args.self.now c.act-reply.new.self c.args.book.now
          c.act-reply.new.book low
          (grown_more c.loop.counter c.args.self.now c.loop.self c.act-reply.new.self c.args.book.now c.loop.book
          c.act-reply.new.book c.in-Some.step c.act-reply.result c.loop.invariant c.act-reply.ensures.acts
          c.act-reply.ensures.notes),
      tt,
    )

pub returns-in-Err : goal.returns-in-Err
returns-in-Err g c =
    let low : c.loop.counter + 1 ≤ c.args.most = omega (arith, c.loop-test.true) in (
      grown_within (c.loop.counter + 1) c.args.most c.args.self.now c.act-reply.new.self c.args.book.now
          c.act-reply.new.book low
          (grown_more c.loop.counter c.args.self.now c.loop.self c.act-reply.new.self c.args.book.now c.loop.book
          c.act-reply.new.book c.in-Some.step c.act-reply.result c.loop.invariant c.act-reply.ensures.acts
          c.act-reply.ensures.notes),
      ended c.args.self.now c.loop.self c.loop.book c.act-reply.new.book c.in-Some.step c.in-Err.refusal
          (ap (λ (s : SeatState). s.actor) c.loop.invariant.list) c.in-Err.ensures.acts,
    )

pub loop-preserved : goal.loop-preserved
loop-preserved g c =
    grown_more c.loop.counter c.args.self.now c.loop.self c.act-reply.new.self c.args.book.now c.loop.book
    c.act-reply.new.book c.in-Some.step c.act-reply.result c.loop.invariant c.act-reply.ensures.acts
    c.act-reply.ensures.notes

pub returns : goal.returns
returns g c =
    let low : c.loop.counter ≤ c.args.most = omega (arith, c.loop.auto.counter-end) in (
      grown_within c.loop.counter c.args.most c.args.self.now c.loop.self c.args.book.now c.loop.book low
          c.loop.invariant,
      tt,
    )
