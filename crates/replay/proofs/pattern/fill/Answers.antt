-- Each turn writes what the pattern has at its index behind what stands.
use Rattle.std.proofs.Common.{arith, ◌+◌, ◌-◌, ◌≡◌, ◌∙◌, ap, sym, length, refl}
use Rattle.replay.specs.Pattern.{pattern_to}
use Rattle.replay.proofs.Rooms.{pattern_step, pattern_back, pattern_all}
use Rattle.replay.proofs.pattern.fill.Goals as goal

pub loop-i-init : goal.loop-i-init
unfolding pattern_to
loop-i-init g c = refl

pub loop-i-preserved : goal.loop-i-preserved
loop-i-preserved g c = let l = c.loop-i in pattern_step g.T.Pattern.at l.room l.i l.invariant c.pattern.result (omega arith) c.pattern.ensures

pub loop-i-2-init : goal.loop-i-2-init
loop-i-2-init g c =
    let l = c.loop-i in
    let end : l.i ≡ c.min-first.result = omega arith in
    rw end at l.invariant

-- the one a period before is what the pattern has here
pub loop-i-2-preserved : goal.loop-i-2-preserved
loop-i-2-preserved g c =
    let l = c.loop-i-2 in
    let at = g.T.Pattern.at in
    let period = c.period-period in
    let before = l.i - period.result in
    let back = pattern_back at l.room l.i l.invariant before c.index-room-i.result (omega (arith, period.ensures.some)) in
    let here : before + period.result ≡ l.i = omega arith in
    pattern_step at l.room l.i l.invariant c.index-room-i.result (omega arith) (c.index-room-i.is ∙ back ∙ sym (period.ensures.anew before) ∙ ap at here)

pub returns : goal.returns
returns g c = let l = c.loop-i-2 in pattern_all g.T.Pattern.at l.room l.i l.invariant (length c.args.room.now) (omega arith) (omega arith)
